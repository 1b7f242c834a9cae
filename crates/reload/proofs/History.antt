-- Whatever was offered, reload speaks of the last PDU accepted for the user and part, or gives 11. Assumes nothing.
use Rattle.std.specs.Prelude.{Ok, Option, None, Some}
use mathlib.Core.Path.{◌≡◌, refl, ap, ap₂, ◌∙◌}
use mathlib.Core.Bool.{true}
use mathlib.Core.List.{List, []}
use Prim.Native.Nat.{ℕ}
use lib.ListN.{length, take}
use Rattle.bits.specs.Frame.{pack}
use Rattle.std.proofs.Common.{Result, Err}
use Rattle.bits.specs.declared.BitCount.{BitCount}
use Rattle.grammar.specs.Grammar.{pdu}
use Rattle.grammar.specs.declared.record.Record.{Record}
use Rattle.reader.specs.Read.{found_in, read_is}
use Rattle.archive.specs.Model.{Held, in_range}
use Rattle.archive.specs.Refusals.{plain}
use Rattle.archive.specs.declared.refusal.Refusal.{Refusal}
use Rattle.archive.specs.Keeping.{empty_is, empty_out}
use Rattle.archive.specs.History.{Offer, after_all, last_accepted}
use Rattle.archive.specs.declared.contents.Key.{Key}
use Rattle.archive.proofs.History.{Matches, kept}
use Rattle.reload.specs.Define.{is_definition, define_of}
use Rattle.reload.specs.Reload.{redefined, reloaded, reload_is, define_bytes, reloads, reload_out}
use Rattle.reload.specs.declared.Definition.{Definition}
use Rattle.reload.specs.declared.Target.{Target}
use Rattle.reload.proofs.Reloading.{held_for, reload-held, reload-leaves}

-- the record of an offered PDU
abbrev pub record_in : Offer → Record
record_in o = found_in (read_is o.pdu o.bits)

-- what reload says of the last PDU accepted, and the bytes of the PDU that puts it back
abbrev pub said_of : Target → Definition → Option Offer → List ℕ → Result BitCount Refusal
said_of t d None out = Err (plain 11)
said_of t d (Some o) out = redefined t d (record_in o) out

abbrev pub bytes_from : Target → Definition → Option Offer → List ℕ
bytes_from t d None = []
bytes_from t d (Some o) = pack (pdu.print (define_of t d (record_in o)))

matched : (t : Target) (d : Definition) (out : List ℕ) (l : Option Held) (last : Option Offer) → Matches l last
    → (reloaded t d l out ≡ said_of t d last out) × (define_bytes t d l ≡ bytes_from t d last)
matched t d out None None m = (refl, refl)
matched t d out (Some h) (Some o) m =
    let same = ap₂ (λ (s : List ℕ) (n : BitCount). found_in (read_is s n.0)) m.0 m.1 in
    (ap (λ (r : Record). redefined t d r out) same, ap (λ (r : Record). pack (pdu.print (define_of t d r))) same)
matched t d out None (Some o) m = absurd m
matched t d out (Some h) None m = absurd m

-- from an empty archive, for any offers, every user and part in range and every definition that may be asked for
module _ (t : Target) (home : ℕ) (lent : List ℕ) (m : ℕ) (e : empty_is home (length lent) ≡ Ok m) (os : List Offer) (k : Key) (r : in_range k ≡ true)
    (d : Definition) (f : is_definition d ≡ true) (out : List ℕ) where
  abbrev b : List ℕ
  b = after_all (take m (empty_out home lent)) os

  abbrev last : Option Offer
  last = last_accepted k (take m (empty_out home lent)) None os

  pub reload-history : (reload_is t b k d out ≡ said_of t d last out)
      × (reload_out t b k d out ≡ reloads (said_of t d last out) (bytes_from t d last) out)
  reload-history =
      let h = kept home lent m e os k r in
      let s = matched t d out (held_for t b k d out) last h.held in
      let x = reload-held t b k d out r f h.archive ∙ s.0 in
      (x, reload-leaves t b k d out x ∙ ap (λ (w : List ℕ). reloads (said_of t d last out) w out) s.1)
