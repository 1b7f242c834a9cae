-- Parts of which the PDU carries nothing: what they come to is whether their words are zero. Assumes nothing.
use mathlib.Core.Path.{◌≡◌, refl, sym, ap, ap₂, ◌∙◌, subst}
use mathlib.Core.Bool.{Bool, true, ◌&&◌, and-true, and_assoc}
use mathlib.Core.List.{List, [], ◌∷◌, ◌++◌}
use Prim.Native.Nat.{ℕ, zero, suc, ◌+◌, ◌-◌, ◌*◌, ◌≤◌}
use native.Mathlib.Nat.{add-zero}
use native.Mathlib.Omega.{arith}
use lib.ListN.{length, take, drop, length-drop}
use lib.Seq.{take-add, drop-drop, get_or-drop}
use lib.Dec.{leb}
use Rattle.bits.specs.Lists.{every}
use Rattle.bits.proofs.Tests.{both}
use Rattle.codec.specs.Codec.{Codec, first}
use Rattle.codec.specs.Parts.{absent, seq, shaped}
use Rattle.codec.specs.Places.{nil, cons, places}
use Rattle.grammar.specs.Grammar.{no_identity, no_identities, no_external, no_externals, no_services, no_part}
use Rattle.words.specs.RecordWords.{word, narrow, entries_from, identity_from}
use Rattle.words.specs.RecordWords.{identities_from, number_from, numbers_from, services_from, lists_from}
use Rattle.words.proofs.Filling.{words-taken, words-narrowed}
use Rattle.tally.specs.Tally.{Tallies}
use Rattle.tally.specs.Inner.{none_above, Skips, Absent, Uncarried}
use Rattle.tally.specs.declared.Tally.{Tally}
use Rattle.tally.proofs.Parts.{first-zero}
use Rattle.tally.proofs.Narrow.{zero-leb, narrow-leb}

pub none_append : (most : ℕ) (a b : List ℕ) → none_above most (a ++ b) ≡ none_above most a && none_above most b
unfolding none_above every
none_append most [] b = refl
none_append most (x ∷ a) b = ap (λ (t : Bool). leb x most && t) (none_append most a b) ∙ sym
    (and_assoc (leb x most) (none_above most a) (none_above most b))

-- where none of the first n is above, none of the first m of them is
pub none-front : (most m n : ℕ) (l : List ℕ) → m ≤ n → none_above most (take n l) ≡ true → none_above most (take m l) ≡ true
none-front most m n l few none =
    let all : m + (n - m) ≡ n = omega arith in
    (both (none_above most (take m l)) (none_above most (take (n - m) (drop m l)))
    (sym (ap (none_above most) (ap (λ (k : ℕ). take k l) (sym all) ∙ take-add m (n - m) l)
    ∙ none_append most (take m l) (take (n - m) (drop m l))) ∙ none)).0

-- ---- what it comes to

pub skipped : {A : Type 0} {c : Codec A} {a : A} {words : List ℕ} {t r : Tally} → Absent c a words → Skips words t r → Tallies c a t r
skipped {t = t} h s = record {
  clean = s.clean ∙ ap (λ (b : Bool). t.clean && b) (sym h.clean);
  refusal = s.refusal ∙ sym (ap (first t.refusal) h.faultless ∙ first-zero t.refusal);
  bits = s.bits ∙ sym (ap (λ (l : List Bool). t.bits + length l) h.empty ∙ add-zero t.bits);
}

-- ---- one law for each way to build such a part

absent-seq : {A B : Type 0} {c : Codec A} {d : Codec B} {a : A} {b : B} {u v : List ℕ} → Absent c a u → Absent d b v → Absent (seq c (λ x. d))
    (a, b) (u ++ v)
unfolding seq
absent-seq {u = u} {v = v} h k = record {
  clean = ap₂ (λ (x y : Bool). x && y) h.clean k.clean ∙ sym (none_append 0 u v);
  faultless = ap₂ first h.faultless k.faultless;
  empty = ap₂ (λ (x y : List Bool). x ++ y) h.empty k.empty;
}

absent-cons : {A : Type 0} {c : Codec A} {d : Codec (List A)} {a : A} {l : List A} {u v : List ℕ} → Absent c a u → Absent d l v → Absent
    (cons c d) (a ∷ l) (u ++ v)
unfolding cons seq
absent-cons h k = let s = absent-seq h k in record { clean = s.clean; faultless = s.faultless; empty = s.empty }

module _ {A : Type 0} where
  uncarried_as : {n : ℕ} {c : Codec A} {f g : List ℕ → A} → ((w : List ℕ) → n ≤ length w → f w ≡ g w) → Uncarried n c f → Uncarried n c g
  uncarried_as {n} {c} e h w l = subst (λ (a : A). Absent c a (take n w)) (e w l) (h w l)

  uncarried-seq : {B : Type 0} {m n : ℕ} {c : Codec A} {d : Codec B} {f : List ℕ → A} {g : List ℕ → B} → Uncarried m c f → Uncarried n d g
      → Uncarried (m + n) (seq c (λ x. d)) (λ w. (f w, g (drop m w)))
  uncarried-seq {B} {m} {n} {c} {d} {f} {g} h k w l =
      rw (take-add m n w) (absent-seq (h w (omega arith)) (k (drop m w) (omega (arith, length-drop m w))))

  uncarried-shape : {B : Type 0} {n : ℕ} {c : Codec A} (to : A → B) (from : B → A)
      (there : (a : A) → c.clean a ≡ true → c.fault a ≡ 0 → from (to a) ≡ a)
      (back : (b : B) → to (from b) ≡ b) {g : List ℕ → B} → Uncarried n c (λ w. from (g w)) → Uncarried n (shaped c to from there back) g
  unfolding shaped
  uncarried-shape to from there back h w l = let s = h w l in record { clean = s.clean; faultless = s.faultless; empty = s.empty }

  -- places none of which is used
  pub uncarried-places : (c : Codec A) {z : Codec A} {f : List ℕ → A} {k : ℕ} → Uncarried k z f → (m : ℕ) → Uncarried (k * m) (places c z m 0)
      (entries_from f k m)
  unfolding places nil entries_from none_above every
  uncarried-places c {z} {f} {k} h zero w l =
      let none : k * 0 ≡ 0 = omega arith in
      rw none (record { clean = refl; faultless = refl; empty = refl })
  uncarried-places c {z} {f} {k} h (suc m) w l =
      let more : k * suc m ≡ k + k * m = omega arith in
      rw (more, take-add k (k * m) w) (absent-cons (h w (omega arith)) (uncarried-places c h m (drop k w) (omega (arith, length-drop k w))))

-- a word, as it is and narrowed to a byte
pub uncarried-word : Uncarried 1 absent (λ w. word w 0)
unfolding absent none_above every
uncarried-word [] l = absurd (omega arith)
uncarried-word (x ∷ w) l = record { clean = zero-leb x ∙ sym (and-true (leb x 0)); faultless = refl; empty = refl }

uncarried_byte : Uncarried 1 absent (λ w. narrow (word w 0))
unfolding absent none_above every
uncarried_byte [] l = absurd (omega arith)
uncarried_byte (x ∷ w) l = record {
  clean = zero-leb (narrow x) ∙ narrow-leb x 0 (omega arith) ∙ sym
      (and-true (leb x 0));
  faultless = refl;
  empty = refl;
}

-- two words, and three
uncarried-two : Uncarried 2 (seq absent (λ a. absent)) (λ w. (word w 0, word w 1))
uncarried-two = uncarried_as (λ w l. λ i. (word w 0, get_or-drop 1 w 0 0 i)) (uncarried-seq uncarried-word uncarried-word)

uncarried-three : Uncarried 3 (seq absent (λ a. seq absent (λ b. absent))) (λ w. (word w 0, (word w 1, word w 2)))
uncarried-three =
    uncarried_as (λ w l. λ i. (word w 0, (get_or-drop 1 w 0 0 i, get_or-drop 1 w 1 0 i))) (uncarried-seq uncarried-word uncarried-two)

-- ---- the parts of a record

pub uncarried-identity : Uncarried 3 no_identity identity_from
unfolding no_identity identity_from
uncarried-identity = uncarried-shape _ _ _ _ uncarried-three

pub uncarried-number : Uncarried 25 no_external number_from
unfolding no_external number_from
uncarried-number =
    uncarried-shape _ _ _ _ (uncarried-seq uncarried_byte
    (uncarried_as (λ w l. words-narrowed 24 w l) (uncarried-places absent uncarried_byte 24)))

pub uncarried-identities : Uncarried 25 no_identities identities_from
unfolding no_identities identities_from
uncarried-identities = uncarried-shape _ _ _ _ (uncarried-seq uncarried-word (uncarried-places no_identity uncarried-identity 8))

uncarried-numbers : Uncarried 201 no_externals numbers_from
unfolding no_externals numbers_from
uncarried-numbers = uncarried-shape _ _ _ _ (uncarried-seq uncarried-word (uncarried-places no_external uncarried-number 8))

pub uncarried-services : Uncarried 8 no_services services_from
unfolding no_services services_from
uncarried-services =
    uncarried-shape _ _ _ _ (uncarried-seq uncarried-word (uncarried_as (λ w l. words-taken 7 w l) (uncarried-places absent uncarried-word 7)))

-- the two lists of numbers of a part of identities
pub uncarried-two-numbers : Uncarried 402 (seq no_externals (λ x. no_externals)) (λ w. (numbers_from w, numbers_from (drop 201 w)))
uncarried-two-numbers = uncarried-seq uncarried-numbers uncarried-numbers

-- all five lists
pub uncarried-part : Uncarried 477 no_part lists_from
unfolding no_part lists_from
uncarried-part =
    uncarried-shape _ _ _ _ (uncarried_as
    (λ w l. λ i. (
      identities_from w,
      (
        identities_from (drop 25 w),
        (
          identities_from (drop-drop 25 25 w i),
          (
            numbers_from ((drop-drop 25 25 (drop 25 w) ∙ drop-drop 50 25 w) i),
            numbers_from ((ap (drop 201) (drop-drop 25 25 (drop 25 w)) ∙ drop-drop 201 50 (drop 25 w) ∙ drop-drop 251 25 w) i),
          ),
        ),
      ),
    ))
    (uncarried-seq uncarried-identities (uncarried-seq uncarried-identities
    (uncarried-seq uncarried-identities (uncarried-seq uncarried-numbers uncarried-numbers)))))
