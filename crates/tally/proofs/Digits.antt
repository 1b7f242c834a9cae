-- What the digits of a number come to: none used is above 12, and none unused above 0. Assumes nothing.
use mathlib.Core.Path.{◌≡◌, refl, sym, ap, ap₂, ◌∙◌}
use mathlib.Core.Bool.{Bool, true, false, ◌&&◌}
use mathlib.Core.List.{List, [], ◌∷◌, ◌++◌}
use Prim.Native.Nat.{ℕ, zero, suc, ◌+◌, ◌-◌, ◌*◌, ◌≤◌, min}
use native.Mathlib.Omega.{arith}
use lib.ListN.{length, take, drop, length-append}
use lib.Seq.{take-nil, drop-nil, take-add, take-take, drop_at, length-take-le}
use lib.Dec.{leb, ltb}
use borrow.Author.Tests.{leb-true, lt-ltb}
use Rattle.bits.specs.Bits.{pick, bits_of}
use Rattle.bits.proofs.Tests.{by-test}
use Rattle.bits.proofs.Numbers.{length-bits_of}
use Rattle.bits.proofs.Lists.{take_min, drop_min}
use Rattle.bits.specs.Lists.{every}
use Rattle.codec.specs.Codec.{first}
use Rattle.codec.specs.Parts.{number_fault, number, absent, element, tested}
use Rattle.codec.specs.Places.{nil, cons, places}
use Rattle.grammar.specs.SiteSheet.{digit_refusal}
use Rattle.grammar.proofs.Codes.{digit-refusal}
use Rattle.words.specs.RecordWords.{narrow, narrowed}
use Rattle.tally.specs.Tally.{Tallies}
use Rattle.tally.specs.Inner.{Fits, none_above}
use Rattle.tally.specs.declared.Tally.{Tally}
use Rattle.tally.proofs.Narrow.{zero-leb, narrow-leb}

-- ---- one digit

digit-fault : (d : ℕ) → first (number_fault 4 d) (digit_refusal d) ≡ pick (leb d 12) 0 3
digit-fault d = ap (first (number_fault 4 d)) (digit-refusal d) ∙ go (leb d 12) refl
  where
    go : (b : Bool) → leb d 12 ≡ b → first (number_fault 4 d) (pick b 0 3) ≡ pick b 0 3
    go true e = let h = leb-true d 12 e in rw (lt-ltb d 16 (omega arith))
    go false e = by-test (λ (n : ℕ). first n 3 ≡ 3) (ltb d 16) refl refl

narrow-fault : (d : ℕ) → first (number_fault 4 (narrow d)) (digit_refusal (narrow d)) ≡ pick (leb d 12) 0 3
narrow-fault d = digit-fault (narrow d) ∙ ap (λ (b : Bool). pick b 0 3) (narrow-leb d 12 (omega arith))

-- ---- all of them

first-both : (a b : Bool) → first (pick {A = ℕ} a 0 3) (pick b 0 3) ≡ pick (a && b) 0 3
first-both true b = refl
first-both false b = refl

-- a list of m digits, of which the PDU carries the first n
module _ where
  digits-fault : (m n : ℕ) (l : List ℕ) → length l ≡ m → (places (element 4 digit_refusal) absent m n).fault (narrowed l) ≡ pick
      (none_above 12 (take n l)) 0 3
  unfolding places cons nil element tested number absent narrowed none_above every
  digits-fault zero n [] e = ap (λ (l : List ℕ). pick {A = ℕ} (none_above 12 l) 0 3) (sym (take-nil n))
  digits-fault zero n (d ∷ l) e = absurd (omega arith)
  digits-fault (suc m) n [] e = absurd (omega arith)
  digits-fault (suc m) zero (d ∷ l) e = digits-fault m zero l (omega arith)
  digits-fault (suc m) (suc n) (d ∷ l) e = ap₂ first (narrow-fault d) (digits-fault m n l (omega arith)) ∙ first-both (leb d 12)
      (none_above 12 (take n l))

  digits-clean : (m n : ℕ) (l : List ℕ) → length l ≡ m → (places (element 4 digit_refusal) absent m n).clean (narrowed l) ≡ none_above 0 (drop n l)
  unfolding places cons nil element tested number absent narrowed none_above every
  digits-clean zero n [] e = ap (none_above 0) (sym (drop-nil n))
  digits-clean zero n (d ∷ l) e = absurd (omega arith)
  digits-clean (suc m) n [] e = absurd (omega arith)
  digits-clean (suc m) zero (d ∷ l) e = ap₂ (λ (a b : Bool). a && b) (zero-leb (narrow d) ∙ narrow-leb d 0 (omega arith))
      (digits-clean m zero l (omega arith))
  digits-clean (suc m) (suc n) (d ∷ l) e = digits-clean m n l (omega arith)

  digits-size : (m n : ℕ) (l : List ℕ) → length l ≡ m → length ((places (element 4 digit_refusal) absent m n).print (narrowed l)) ≡ 4 * min n m
  unfolding places cons nil element tested number absent narrowed
  digits-size zero n [] e = omega arith
  digits-size zero n (d ∷ l) e = absurd (omega arith)
  digits-size (suc m) n [] e = absurd (omega arith)
  digits-size (suc m) zero (d ∷ l) e = omega (arith, digits-size m zero l (omega arith))
  digits-size (suc m) (suc n) (d ∷ l) e =
      omega (
        arith,
        digits-size m n l (omega arith),
        length-append (bits_of 4 (narrow d)) ((places (element 4 digit_refusal) absent m n).print (narrowed l)),
        length-bits_of 4 (narrow d),
      )

-- ---- 24 of them among words

module _ (w : List ℕ) (n used : ℕ) (room : 24 ≤ length w) (few : used ≡ min n 24) where
  full : length (take 24 w) ≡ 24
  full = length-take-le 24 w room

  early : take n (take 24 w) ≡ take used w
  early = sym (take_min n (take 24 w)) ∙ ap (λ (k : ℕ). take k (take 24 w)) (ap (min n) full ∙ sym few) ∙ take-take used 24 w (omega arith)

  late : drop n (take 24 w) ≡ take (24 - used) (drop used w)
  late =
      let all : 24 ≡ used + (24 - used) = omega arith in
      let two : take 24 w ≡ take used w ++ take (24 - used) (drop used w) = ap (λ (k : ℕ). take k w) all ∙ take-add used (24 - used) w in
      sym (drop_min n (take 24 w)) ∙ ap (λ (k : ℕ). drop k (take 24 w)) (ap (min n) full ∙ sym few)
      ∙ ap (drop used) two
      ∙ drop_at (take used w) (take (24 - used) (drop used w)) used (length-take-le used w (omega arith))

  pub digits-fit : {t : Tally} → Fits (places (element 4 digit_refusal) absent 24 n) (narrowed (take 24 w)) t → t.bits + 4 * used ≤ 4096
  digits-fit h = omega (arith, h.short, digits-size 24 n (take 24 w) full)

  pub digits_tallied : {clean legal : Bool} {t r : Tally} → legal ≡ none_above 12 (take used w) → clean ≡ none_above 0
      (take (24 - used) (drop used w))
      → r.clean ≡ t.clean && clean → r.refusal ≡ first t.refusal (pick legal 0 3) → r.bits ≡ t.bits + 4 * used
      → Tallies (places (element 4 digit_refusal) absent 24 n) (narrowed (take 24 w)) t r
  digits_tallied {clean} {legal} {t} hl hc rc rr rb =
      let l : List ℕ = take 24 w in
      let fault : pick legal 0 3 ≡ (places (element 4 digit_refusal) absent 24 n).fault (narrowed l) =
      ap (λ (b : Bool). pick b 0 3) (hl ∙ ap (none_above 12) (sym early)) ∙ sym (digits-fault 24 n l full)
      in
      let zero : clean ≡ (places (element 4 digit_refusal) absent 24 n).clean (narrowed l) = hc ∙ ap (none_above 0) (sym late) ∙ sym
      (digits-clean 24 n l full) in
      record {
        clean = rc ∙ ap (λ (b : Bool). t.clean && b) zero;
        refusal = rr ∙ ap (first t.refusal) fault;
        bits = omega (arith, rb, few, digits-size 24 n l full);
      }
