-- Visitors from another network (document 02, request 2026-04): the network that the missing extension of a group, a restricted or an excepted
-- identity means, in a part and in a decision; and that home users are judged as if it were the home network.
use Rattle.std.specs.Prelude.{◌≡◌, List, ℕ, eqb, Option, None, Some, Result, Ok, Err}
use Rattle.bits.specs.Bits.{guard}
use Rattle.grammar.specs.declared.record.Record.{Record}
use Rattle.reader.specs.Read.{found_in, read_is}
use Rattle.rules.specs.Request.{request_refusal}
use Rattle.rules.specs.Rule.{ruling, six_rules}
use Rattle.rules.specs.declared.request.Request.{Request}
use Rattle.archive.specs.Model.{Held}
use Rattle.archive.specs.Reading.{reading}
use Rattle.archive.specs.Refusals.{plain}
use Rattle.archive.specs.Checking.{check_is, if_archive}
use Rattle.archive.specs.declared.refusal.Refusal.{Refusal}
use Rattle.barring.specs.Decide.{part_in, decide_is}
use Rattle.barring.specs.Decision.{decision_of}
use Rattle.barring.specs.declared.Decision.{Decision}
use Rattle.barring.specs.declared.Decision.TheVariants.{NotHeld}
use Rattle.promises.specs.Archive.{affected_user}

-- the decision, where a missing extension in the part that judges means this network
abbrev pub judged_with : ℕ → Request → Option Held → Decision
judged_with missing q None = NotHeld
judged_with missing q (Some h) = decision_of (six_rules missing (found_in (read_is h.body h.entry.bits.0)) q)

abbrev pub decide_with : ℕ → List ℕ → Request → Result Decision Refusal
decide_with missing b q =
    guard (eqb (request_refusal q) 0) (Err (plain (request_refusal q))) (if_archive (check_is b) Err (Ok (judged_with missing q (part_in b q))))

-- Proved in proofs/Visitors.antt.
pub record Promise : Type 0 where
  -- A part of an affected user with an extension is read with that extension.
  pub visitor : (home : ℕ) (r : Record) (q : Request) → (affected_user r).present ≡ 1 → ruling home r q ≡ six_rules (affected_user r).extension r q
  -- One of an affected user without extension, or with the home network spelt out, is read with the home network.
  pub no-extension : (home : ℕ) (r : Record) (q : Request) → (affected_user r).present ≡ 0 → ruling home r q ≡ six_rules home r q
  pub spelt_out : (home : ℕ) (r : Record) (q : Request) → (affected_user r).present ≡ 1 → (affected_user r).extension ≡ home
      → ruling home r q ≡ six_rules home r q
  -- In every decision a missing extension means the network of the user who calls.
  pub callers-network : (b : List ℕ) (q : Request) → decide_is b q ≡ decide_with q.user.network b q
  -- So a home user's decision is the one where it means the home network.
  pub home-user : (b : List ℕ) (q : Request) → q.user.network ≡ (reading b).home → decide_is b q ≡ decide_with (reading b).home b q
