-- Refusals of the calls on an archive: a number, the entry at fault or none, a bit place or none (document 02, 2026-03).
use Rattle.std.specs.Prelude.{ℕ, Option, Some, None}
use Rattle.walk.specs.declared.Refusal as pdu
use Rattle.archive.specs.declared.refusal.Refusal.{Refusal}

-- a number alone
abbrev pub plain : ℕ → Refusal
plain k = record { number = k; entry = None; place = None }

-- of a PDU that is offered: the number and the place of its reading
abbrev pub of_pdu : pdu.Refusal → Refusal
of_pdu f = record { number = f.number; entry = None; place = f.place }

-- 7, where only a body is at fault: the index of its entry, and the place where the body's refusal has one
abbrev pub of_body : ℕ → Option ℕ → Refusal
of_body i p = record { number = 7; entry = Some i; place = p }
