-- Demand 3, second half: whatever was offered, the decision is the barring rule applied to the last PDU accepted for the user and part,
-- or "not held". Assumes nothing.
use Rattle.std.specs.Prelude.{Result, Ok, Err, Option, None, Some}
use mathlib.Core.Path.{◌≡◌, refl, ap, ap₂, ◌∙◌}
use mathlib.Core.Bool.{Bool, true, false}
use mathlib.Core.List.{List}
use Prim.Native.Nat.{ℕ}
use lib.ListN.{length, take}
use lib.Dec.{eqb}
use Rattle.std.proofs.Common.{Result, Ok, Err}
use Rattle.bits.specs.Bits.{pick}
use Rattle.bits.specs.declared.BitCount.{BitCount}
use Rattle.bits.proofs.Tests.{never}
use Rattle.reader.specs.Read.{found_in, read_is}
use Rattle.rules.specs.Request.{request_refusal}
use Rattle.rules.specs.Rule.{ruling}
use Rattle.rules.specs.declared.request.Request.{Request}
use Rattle.archive.specs.Model.{Held}
use Rattle.archive.specs.Refusals.{plain}
use Rattle.archive.specs.Checking.{check_is, if_archive}
use Rattle.archive.specs.declared.refusal.Refusal.{Refusal}
use Rattle.archive.specs.Keeping.{empty_is, empty_out}
use Rattle.archive.specs.History.{Offer, after_all, last_accepted}
use Rattle.archive.proofs.History.{Matches, kept}
use Rattle.barring.specs.Decision.{decision_of}
use Rattle.barring.specs.Decide.{judged_by, key_for, part_in, decide_is}
use Rattle.barring.specs.declared.Decision.{Decision}
use Rattle.barring.specs.declared.Decision.TheVariants.{Allowed, NotHeld}
use Rattle.barring.proofs.Decided.{request-ranged, decide-held}

-- what the last PDU accepted says of the call
abbrev pub said_by : ℕ → Request → Option Offer → Decision
said_by home q None = NotHeld
said_by home q (Some o) = decision_of (ruling home (found_in (read_is o.pdu o.bits)) q)

matched : (home : ℕ) (q : Request) (l : Option Held) (last : Option Offer) → Matches l last → judged_by home q l ≡ said_by home q last
matched home q None None m = refl
matched home q (Some h) (Some o) m = ap₂ (λ (s : List ℕ) (n : BitCount). decision_of (ruling home (found_in (read_is s n.0)) q)) m.0 m.1
matched home q None (Some o) m = absurd m
matched home q (Some h) None m = absurd m

-- from an empty archive, for any offers and every well-formed request
module _ (home : ℕ) (lent : List ℕ) (m : ℕ) (e : empty_is home (length lent) ≡ Ok m) (os : List Offer) (q : Request)
    (f : request_refusal q ≡ 0) where
  abbrev pub start : List ℕ
  start = take m (empty_out home lent)

  abbrev done : Decision → Result Decision Refusal
  done d = Ok d

  abbrev pub last : Option Offer
  last = last_accepted (key_for q) start None os

  pub decided : decide_is (after_all start os) q ≡ Ok (said_by home q last)
  decided =
      let k = kept home lent m e os (key_for q) (request-ranged q f) in
      decide-held (after_all start os) q f k.archive
      ∙ ap done
      (ap (λ (h : ℕ). judged_by h q (part_in (after_all start os) q)) k.home-is
      ∙ matched home q (part_in (after_all start os) q) last k.held)

-- a part that is not held never allows a call
pub not-held-not-allowed : (b : List ℕ) (q : Request) → part_in b q ≡ None → decide_is b q ≡ Ok Allowed → ⊥
unfolding decide_is
not-held-not-allowed b q h e = go (eqb (request_refusal q) 0) (check_is b) (rw h at e)
  where
    go : (p : Bool) (c : Result (Unit {0}) Refusal) → pick p (if_archive c Err (Ok NotHeld)) (Err (plain (request_refusal q))) ≡ Ok Allowed → ⊥
    go true (Ok _) x = never cc
    go true (Err f) x = never cc
    go false c x = never cc
