-- The lists of a part: where those that are not empty stand, the lists of one part are those of another. Assumes nothing.
use mathlib.Core.Path.{◌≡◌, refl}
use mathlib.Core.Bool.{Bool, true, false, not, ◌&&◌, ◌||◌}
use Prim.Native.Nat.{ℕ}
use borrow.Author.Tests.{eqb-true, eq-eqb}
use lib.Dec.{eqb}
use Rattle.bits.specs.Bits.{pick}
use Rattle.bits.proofs.Tests.{differ, both, both⁻¹}
use Rattle.codec.specs.Codec.{Codec, Legal}
use Rattle.codec.specs.Parts.{seq}
use Rattle.codec.proofs.Legality.{legal-seq, legal-shaped, pair-legal, shaped-legal}
use Rattle.grammar.specs.Grammar as grammar
use Rattle.grammar.specs.Grammar.{identities, externals, no_externals, identity_part, number_part, no_part, part_of, Five, from_lists}
use Rattle.grammar.specs.declared.site.ListKind.TheVariants as of
use Rattle.grammar.specs.declared.record.Identities.{Identities}
use Rattle.grammar.specs.declared.record.Numbers.{Numbers}
use Rattle.grammar.specs.declared.record.Lists.{Lists}
use Rattle.reload.specs.Define.{no_identities, no_numbers, stands_in}
use Rattle.reload.proofs.Lists.{of-identities, of-numbers, move, unless-carried}

abbrev list_if : Bool → Codec Identities
list_if carried = pick carried (identities of.Identities) grammar.no_identities

abbrev numbers_if : Bool → Codec Numbers
numbers_if carried = pick carried externals no_externals

-- ---- five lists: groups, those of identities, those of numbers

module _ (grouped identified numbered : Bool) (l : Lists) where
  record Carrying : Type 0 where
    pub groups : Legal (list_if grouped) l.groups
    pub restricted : Legal (list_if identified) l.restricted
    pub exceptions : Legal (list_if identified) l.exceptions
    pub numbers : Legal (numbers_if numbered) l.numbers
    pub excepted : Legal (numbers_if numbered) l.excepted

  -- those that are not carried are empty
  record Standing : Type 0 where
    pub groups : grouped ≡ false → l.groups.code ≡ 0
    pub restricted : identified ≡ false → l.restricted.code ≡ 0
    pub exceptions : identified ≡ false → l.exceptions.code ≡ 0
    pub numbers : numbered ≡ false → l.numbers.code ≡ 0
    pub excepted : numbered ≡ false → l.excepted.code ≡ 0

  abbrev in_order : Codec Five
  in_order =
      seq (list_if grouped) (λ g. seq (list_if identified) (λ r. seq (list_if identified) (λ x. seq (numbers_if numbered) (λ n. numbers_if numbered))))

  five : Legal in_order (from_lists l) → Carrying
  five h =
      let p = legal-seq _ _ _ h in
      let q = legal-seq _ _ _ p.1 in
      let s = legal-seq _ _ _ q.1 in
      let t = legal-seq _ _ _ s.1 in
      record { groups = p.0; restricted = q.0; exceptions = s.0; numbers = t.0; excepted = t.1 }

  five⁻¹ : Carrying → Legal in_order (from_lists l)
  five⁻¹ f =
      pair-legal _ _ _ f.groups (pair-legal _ _ _ f.restricted (pair-legal _ _ _ f.exceptions (pair-legal _ _ _ f.numbers f.excepted)))

  others-empty : Carrying → Standing
  others-empty f = record {
    groups = unless-carried of-identities grouped _ f.groups;
    restricted = unless-carried of-identities identified _ f.restricted;
    exceptions = unless-carried of-identities identified _ f.exceptions;
    numbers = unless-carried of-numbers numbered _ f.numbers;
    excepted = unless-carried of-numbers numbered _ f.excepted;
  }

moved : {g i n : Bool} (h j m : Bool) (l : Lists) → Standing h j m l → Carrying g i n l → Carrying h j m l
moved {g} {i} {n} h j m l e f = record {
  groups = move of-identities g h _ e.groups f.groups;
  restricted = move of-identities i j _ e.restricted f.restricted;
  exceptions = move of-identities i j _ e.exceptions f.exceptions;
  numbers = move of-numbers n m _ e.numbers f.numbers;
  excepted = move of-numbers n m _ e.excepted f.excepted;
}

zeros : (a b : ℕ) → eqb a 0 && eqb b 0 ≡ true → (a ≡ 0) × (b ≡ 0)
zeros a b e = let p = both (eqb a 0) (eqb b 0) e in (eqb-true a 0 p.0, eqb-true b 0 p.1)

zeros⁻¹ : {a b : ℕ} → a ≡ 0 → b ≡ 0 → eqb a 0 && eqb b 0 ≡ true
zeros⁻¹ p q = both⁻¹ (eq-eqb _ 0 p) (eq-eqb _ 0 q)

-- ---- the lists of a part, by whether it is 1, that of identities, and whether it is 2, that of numbers

module _ (l : Lists) where
  abbrev Carried : Bool → Bool → Type 0
  Carried one two = Carrying (one || two) one (not one && two) l

  abbrev Stand : Bool → Bool → Type 0
  Stand one two = Standing (one || two) one (not one && two) l

  part-carried : (one two : Bool) → Legal (pick one identity_part (pick two number_part no_part)) l → Carried one two
  unfolding identity_part number_part no_part
  part-carried true two h = five true true false l (legal-shaped _ _ _ _ _ _ h)
  part-carried false true h = five true false true l (legal-shaped _ _ _ _ _ _ h)
  part-carried false false h = five false false false l (legal-shaped _ _ _ _ _ _ h)

  carried-part : (one two : Bool) → Carried one two → Legal (pick one identity_part (pick two number_part no_part)) l
  unfolding identity_part number_part no_part
  carried-part true two f = shaped-legal _ _ _ _ _ (five⁻¹ true true false l f)
  carried-part false true f = shaped-legal _ _ _ _ _ (five⁻¹ true false true l f)
  carried-part false false f = shaped-legal _ _ _ _ _ (five⁻¹ false false false l f)

  abbrev standing : Bool → Bool → Bool
  standing one two = pick one (no_numbers l) (pick two (no_identities l) (eqb l.groups.code 0 && (no_identities l && no_numbers l)))

  stand : (one two : Bool) → standing one two ≡ true → Stand one two
  stand true two e =
      let n = zeros _ _ e in
      record { groups = differ; restricted = differ; exceptions = differ; numbers = λ _. n.0; excepted = λ _. n.1 }
  stand false true e =
      let i = zeros _ _ e in
      record { groups = differ; restricted = λ _. i.0; exceptions = λ _. i.1; numbers = differ; excepted = differ }
  stand false false e =
      let p = both (eqb l.groups.code 0) (no_identities l && no_numbers l) e in
      let q = both (no_identities l) (no_numbers l) p.1 in
      let i = zeros _ _ q.0 in
      let n = zeros _ _ q.1 in
      record { groups = λ _. eqb-true _ _ p.0; restricted = λ _. i.0; exceptions = λ _. i.1; numbers = λ _. n.0; excepted = λ _. n.1 }

  stand⁻¹ : (one two : Bool) → Stand one two → standing one two ≡ true
  stand⁻¹ true two s = zeros⁻¹ (s.numbers refl) (s.excepted refl)
  stand⁻¹ false true s = zeros⁻¹ (s.restricted refl) (s.exceptions refl)
  stand⁻¹ false false s =
      both⁻¹ (eq-eqb _ 0 (s.groups refl)) (both⁻¹ (zeros⁻¹ (s.restricted refl) (s.exceptions refl)) (zeros⁻¹ (s.numbers refl) (s.excepted refl)))

-- the lists of the part that is held are those of the part that is put back, if they stand in it
pub part-lists : (held put : ℕ) (l : Lists) → Legal (part_of held) l → stands_in put l ≡ true → Legal (part_of put) l
unfolding stands_in
part-lists held put l h e =
    carried-part l (eqb put 1) (eqb put 2) (moved _ _ _ l (stand l (eqb put 1) (eqb put 2) e) (part-carried l (eqb held 1) (eqb held 2) h))

-- the lists that a part carries stand in it
pub all-stand : (put : ℕ) (l : Lists) → Legal (part_of put) l → stands_in put l ≡ true
unfolding stands_in
all-stand put l h = stand⁻¹ l (eqb put 1) (eqb put 2) (others-empty _ _ _ l (part-carried l (eqb put 1) (eqb put 2) h))
