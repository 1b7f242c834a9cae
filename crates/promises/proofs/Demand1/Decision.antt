-- The decision keeps its promise. Assumes nothing.
use Rattle.std.specs.Prelude.{Result, Ok, Err, Option, None, Some}
use mathlib.Core.Path.{◌≡◌, refl, sym, ap, ◌∙◌, subst}
use mathlib.Core.Bool.{Bool, true, false, not}
use mathlib.Core.List.{List, [], ◌∷◌}
use Prim.Native.Nat.{ℕ}
use native.Mathlib.Omega.{arith}
use lib.Dec.{eqb}
use Rattle.std.proofs.Common.{Some, None, Result, Ok, Err}
use Rattle.bits.specs.Bits.{pick}
use Rattle.bits.proofs.Tests.{differ, false-unless}
use Rattle.grammar.specs.declared.record.Record.{Record}
use Rattle.reader.specs.Read.{found_in, read_is}
use Rattle.rules.specs.Request.{request_refusal}
use Rattle.rules.specs.Rule.{missing_in, ruling, six_rules, is_excepted, is_restricted, is_outside, both_empty}
use Rattle.rules.specs.Matching.{covered}
use Rattle.rules.specs.declared.request.Request.{Request}
use Rattle.rules.specs.declared.Cause.TheVariants.{OutsideGroup, RestrictedService, RestrictedAddress}
use Rattle.archive.specs.Model.{Held}
use Rattle.archive.specs.Reading.{reading}
use Rattle.archive.specs.Refusals.{plain}
use Rattle.archive.specs.Checking.{check_is, if_archive}
use Rattle.archive.specs.declared.refusal.Refusal.{Refusal}
use Rattle.barring.specs.Decide.{judged_by, part_in, decide_is}
use Rattle.barring.specs.Decision.{decided_refusal, decision_of, verdict_of}
use Rattle.barring.specs.declared.Decision.{Decision}
use Rattle.promises.specs.Answers.{OneOf}
use Rattle.promises.specs.Demand1.Decision.{answer, Ranged, Given, success, unranged, damaged, Promise}
use Rattle.promises.specs.Demand1.Decision.{Verdict, outside-group, restricted-service, restricted-address, allowed, not-held}
use Rattle.promises.proofs.Tables.{exactly}
use Rattle.promises.proofs.Requests.{test, in-range, passes, ranged}
use Rattle.promises.specs.Broken as breaking
use Rattle.promises.proofs.Broken as broken-kept
use Rattle.promises.proofs.Broken.{seven}

abbrev broken : breaking.Promise
broken = broken-kept.promise

-- a decision, with its number
abbrev Decided : Result Decision Refusal → Type 0
Decided d = Verdict (verdict_of d) d

verdict-number : {n : ℕ} {d : Result Decision Refusal} → Verdict n d → decided_refusal d ≡ plain 0
verdict-number outside-group = refl
verdict-number restricted-service = refl
verdict-number restricted-address = refl
verdict-number allowed = refl
verdict-number not-held = refl

module _ (q : Request) where
  -- ---- the verdict

  by_rule : (home : ℕ) (r : Record) → Decided (Ok (decision_of (ruling home r q)))
  unfolding ruling six_rules
  by_rule home r =
      let missing = missing_in home r in
      go (not (covered r.services q.service)) (is_excepted missing r.lists q.destination q.digits)
      (is_restricted missing r.lists q.destination q.digits)
      (is_outside missing r.lists.groups q.group) (both_empty r.lists q.destination)
    where
      go : (v w x y z : Bool)
          → Decided (Ok (decision_of (pick v None (pick w None (pick x (Some RestrictedAddress) (pick y (Some OutsideGroup) (pick z (Some RestrictedService) None)))))))
      go true w x y z = allowed
      go false true x y z = allowed
      go false false true y z = restricted-address
      go false false false true z = outside-group
      go false false false false true = restricted-service
      go false false false false false = allowed

  judged : (home : ℕ) (l : Option Held) → Decided (Ok (judged_by home q l))
  judged home None = not-held
  judged home (Some h) = by_rule home (found_in (read_is h.body h.entry.bits.0))

  -- ---- the answer

  module _ (b : List ℕ) where
    abbrev answer_by : Bool → Result (Unit {0}) Refusal → Result Decision Refusal
    answer_by ranged c =
        pick (eqb (pick ranged 0 9) 0) (if_archive c Err (Ok (judged_by (reading b).home q (part_in b q)))) (Err (plain (pick ranged 0 9)))

    by : (t : Bool) (c : Result (Unit {0}) Refusal) → test q ≡ t → check_is b ≡ c → decide_is b q ≡ answer_by t c
    unfolding decide_is request_refusal
    by t c e f = rw (e, f)

    decided : Decided (answer_by true (Ok tt))
    decided = judged (reading b).home (part_in b q)

    abbrev Both : Refusal → Type 0
    Both f = Given b q f × OneOf (0 ∷ 9 ∷ 7 ∷ []) f.number

    row : Both (answer b q)
    row = go (test q) refl (check_is b) refl
      where
        to : {f : Refusal} → answer b q ≡ f → Both f → Both (answer b q)
        to e h = subst Both (sym e) h

        go : (t : Bool) → test q ≡ t → (c : Result (Unit {0}) Refusal) → check_is b ≡ c → Both (answer b q)
        go false e c f = to (ap decided_refusal (by false c e f)) (unranged (λ r. differ (sym (passes q r) ∙ e)), refl)
        go true e (Err x) f =
            let k = (broken.refuses b x).0 f in
            to (ap decided_refusal (by true (Err x) e f)) (damaged x (in-range q e) k, subst (OneOf (0 ∷ 9 ∷ 7 ∷ [])) (sym (seven k)) refl)
        go true e (Ok _) f =
            to (ap decided_refusal (by true (Ok tt) e f) ∙ verdict-number decided) (success (in-range q e) ((broken.passes b).0 f), refl)

    back : (f : Refusal) → Given b q f → answer b q ≡ f
    back f (success r a) = ap decided_refusal (by true (Ok tt) (passes q r) ((broken.passes b).1 a)) ∙ verdict-number decided
    back f (unranged r) = ap decided_refusal (by false (check_is b) (false-unless (test q) (λ e. r (in-range q e))) refl)
    back f (damaged x r k) = ap decided_refusal (by true (Err x) (passes q r) ((broken.refuses b x).1 k))

    -- what is decided is in its range, and from an archive
    pub accepted : (f : Refusal) → Given b q f → f.number ≡ 0 → Ranged q × (check_is b ≡ Ok tt)
    accepted f (success r a) z = (r, (broken.passes b).1 a)
    accepted f (unranged r) z = absurd (omega arith)
    accepted f (damaged x r k) z = absurd (omega (arith, seven k, z))

    succeeds : (answer b q).number ≡ 0 → Decided (decide_is b q)
    succeeds e = let s = accepted (answer b q) row.0 e in subst Decided (sym (by true (Ok tt) (passes q s.0) s.1)) decided

pub promise : Promise
promise = record {
  ranged = ranged;
  table = λ b q. exactly (Given b q) (row q b).0 (row q b).1 (back q b);
  success = λ b q e. succeeds q b e;
}
