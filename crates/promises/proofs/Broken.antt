-- What the check says of bytes that are no archive is what document 02 says. Assumes nothing.
use Rattle.std.specs.Prelude.{Err, Option, ℕ, Result, Ok}
use mathlib.Core.Path.{◌≡◌, refl, sym, ap, ◌∙◌, subst}
use mathlib.Core.Bool.{Bool, true, false}
use mathlib.Core.List.{List, [], ◌∷◌, ◌++◌}
use Prim.Native.Nat.{ℕ, suc, ◌+◌}
use native.Mathlib.Nat.{add-zero, zero-add}
use native.Mathlib.Omega.{arith}
use lib.ListN.{length}
use Rattle.bits.specs.Bits.{pick}
use Rattle.bits.specs.Lists.{Each}
use Rattle.bits.proofs.Tests.{differ, never, false-unless}
use Rattle.grammar.specs.declared.record.Record.{Record}
use Rattle.walk.specs.declared.Refusal as pdu
use Rattle.reader.specs.Read.{refusal_of, answer_of, found_in, read_is}
use Rattle.archive.specs.Model.{Held, Archive}
use Rattle.archive.specs.Filing.{body_agrees}
use Rattle.archive.specs.Reading.{reading}
use Rattle.archive.specs.Refusals.{plain, of_body}
use Rattle.archive.specs.Checking.{has_shape, body_place, bodies_from, check_is}
use Rattle.archive.specs.declared.refusal.Refusal.{Refusal}
use Rattle.archive.proofs.Model.Bodies as bodies
use Rattle.archive.proofs.Model.Checked.{archive_checked, checked-archive}
use Rattle.promises.specs.Archive.{Agrees}
use Rattle.promises.specs.Broken.{number_of, AtFault, refused, unfit, FirstFault, Broken, shape, body, Promise}
use Rattle.promises.proofs.Archive.Agreeing.{legal-read, read-legal, agrees-says, agrees-is}
use Rattle.promises.proofs.Archive.Laying.{archive-says, archive-is}
use Rattle.promises.proofs.Broken.Shape.{shape-says, same-archive, shape_is}
pub mod Shape

-- ---- the bodies

module _ (home : ℕ) where
  fault-says : (h : Held) → body_agrees home h ≡ false → AtFault home h (body_place h)
  fault-says h e = go (answer_of (read_is h.body h.entry.bits.0)) refl
    where
      go : (x : Result Unit pdu.Refusal) → answer_of (read_is h.body h.entry.bits.0) ≡ x → AtFault home h (body_place h)
      go (Ok tt) f =
          subst (AtFault home h) (sym (ap (λ (y : Result Unit pdu.Refusal). (refusal_of y).place) f))
          (unfit _ (read-legal h.body h.entry.bits.0 f) (λ g. differ (sym (agrees-is home h (_, g)) ∙ e)))
      go (Err r) f = subst (AtFault home h) (sym (ap (λ (y : Result Unit pdu.Refusal). (refusal_of y).place) f)) (refused r f)

  fault-is : (h : Held) (p : Option ℕ) → AtFault home h p → (body_agrees home h ≡ false) × (body_place h ≡ p)
  fault-is h p (refused f e) = (
    false-unless _ (λ t. let y = sym (bodies.agrees-says home h t).accepted ∙ e in never cc),
    ap (λ (y : Result Unit pdu.Refusal). (refusal_of y).place) e,
  )
  fault-is h p (unfit r l other) =
      let e = legal-read h.body h.entry.bits.0 r l in
      let same : body_agrees home h ≡ true → Agrees home h r = λ t.
      let x = agrees-says home h t in
      subst (Agrees home h) (ap found_in (sym (legal-read h.body h.entry.bits.0 x.0 x.1.body) ∙ e)) x.1 in (
        false-unless _ (λ t. other (same t)),
        ap (λ (x : Result Record pdu.Refusal). (refusal_of (answer_of x)).place) e,
      )

  -- a refusal found from the entry at an index on is that of a first fault
  record Found (i : ℕ) (hs : List Held) (f : Refusal) : Type 0 where
    pub index : ℕ
    pub place : Option ℕ
    pub is : f ≡ of_body (i + index) place
    pub first : FirstFault home hs index place

  first_says : (i : ℕ) (hs : List Held) (f : Refusal) → bodies_from home i hs ≡ Err f → Found i hs f
  unfolding bodies_from
  first_says i [] f e = never cc
  first_says i (h ∷ hs) f e = go (body_agrees home h) refl (λ x. first_says (suc i) hs f x) e
    where
      go : (t : Bool) → body_agrees home h ≡ t → (bodies_from home (suc i) hs ≡ Err f → Found (suc i) hs f)
          → pick t (bodies_from home (suc i) hs) (Err (of_body i (body_place h))) ≡ Err f → Found i (h ∷ hs) f
      go true y rest x =
          let k = rest x in
          let g = k.first in
          let n : suc i + k.index ≡ i + suc k.index = omega arith in
          record {
            index = suc k.index;
            place = k.place;
            is = k.is ∙ ap (λ (j : ℕ). of_body j k.place) n;
            first = record {
              before = h ∷ g.before;
              here = g.here;
              after = g.after;
              split = ap (λ (l : List Held). h ∷ l) g.split;
              standing = ap suc g.standing;
              agree = (agrees-says home h y, g.agree);
              fault = g.fault;
            };
          }
      go false y rest x =
          let n : i ≡ i + 0 = sym (add-zero i) in
          let same : of_body i (body_place h) ≡ f = cc x in
          record {
            index = 0;
            place = body_place h;
            is = sym same ∙ ap (λ (j : ℕ). of_body j (body_place h)) n;
            first = record { before = []; here = h; after = hs; split = refl; standing = refl; agree = tt; fault = fault-says h y };
          }

  first-is : (i : ℕ) (pre : List Held) (h : Held) (post : List Held) (p : Option ℕ) → Each (λ x. (r : Record) × Agrees home x r) pre → AtFault home h p
      → bodies_from home i (pre ++ (h ∷ post)) ≡ Err (of_body (i + length pre) p)
  unfolding bodies_from
  first-is i [] h post p all f =
      let k = fault-is h p f in
      rw (k.0, k.1) (ap (λ (j : ℕ). Err (of_body j p)) (sym (add-zero i)))
  first-is i (x ∷ pre) h post p all f =
      let n : suc i + length pre ≡ i + suc (length pre) = omega arith in
      rw (agrees-is home x all.0) (first-is (suc i) pre h post p all.1 f ∙ ap (λ (j : ℕ). Err (of_body j p)) n)

-- ---- the whole

module _ (b : List ℕ) where
  refuses-says : (f : Refusal) → check_is b ≡ Err f → Broken b f
  unfolding check_is
  refuses-says f = go (has_shape b) refl
    where
      go : (t : Bool) → has_shape b ≡ t
          → pick t (bodies_from (reading b).home 0 (reading b).held) (Err (plain 7)) ≡ Err f → Broken b f
      go false e x = let same : plain 7 ≡ f = cc x in subst (Broken b) same (shape (λ k. differ (sym (shape_is b k) ∙ e)))
      go true e x =
          let k = shape-says b e in
          let found = first_says (reading b).home 0 (reading b).held f x in
          subst (Broken b) (sym (found.is ∙ ap (λ (j : ℕ). of_body j found.place) (zero-add found.index)))
          (body k found.index found.place
          (subst (λ (y : Archive). FirstFault y.home y.held found.index found.place) (sym (same-archive b k)) found.first))

  refuses-is : (f : Refusal) → Broken b f → check_is b ≡ Err f
  unfolding check_is
  refuses-is f (shape no-shape) = rw (false-unless _ (λ t. no-shape (shape-says b t)))
  refuses-is f (body k i p first) =
      let g = subst (λ (y : Archive). FirstFault y.home y.held i p) (same-archive b k) first in
      rw (shape_is b k, g.split) (first-is (reading b).home 0 g.before g.here g.after p g.agree g.fault
      ∙ ap (λ (j : ℕ). Err (of_body j p)) (zero-add (length g.before) ∙ g.standing))

-- its number is 7
pub seven : {b : List ℕ} {f : Refusal} → Broken b f → number_of f ≡ 7
seven (shape no-shape) = refl
seven (body k i p first) = refl

pub promise : Promise
promise = record {
  has-shape = λ b. (shape-says b, shape_is b);
  passes = λ b. (λ e. archive-says b (checked-archive b e), λ k. archive_checked b (archive-is b k));
  refuses = λ b f. (refuses-says b f, refuses-is b f);
}
