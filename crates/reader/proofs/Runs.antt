-- Several numbers from one window of a PDU: those that it carries, and zeros after them. Assumes nothing.
use mathlib.Core.Path.{◌≡◌, refl, sym, ap, ◌∙◌, subst}
use mathlib.Core.Bool.{Bool, true, false}
use mathlib.Core.List.{List, ◌∷◌, ◌++◌}
use Prim.Native.Nat.{ℕ, zero, suc, ◌+◌, ◌-◌, ◌*◌, ◌/◌, ◌%◌, ◌^◌, ◌≤◌, ◌<◌, min}
use native.Mathlib.Nat.{mul_assoc, mul-mod_left}
use native.Mathlib.Omega.{arith}
use borrow.Author.Tests.{ltb-true, ltb-false}
use lib.Dec.{ltb}
use lib.ListN.{length, get_or, length-append, get_or-append}
use lib.Seq.{get_or-append-add}
use lib.Pow.{pow-add, shl-shr, shr-shr}
use Rattle.bits.specs.Bits.{bits}
use Rattle.bits.specs.Element.{window_at}
use Rattle.bits.proofs.Table as table
use Rattle.codec.specs.Codec.{Codec}
use Rattle.codec.specs.Parts.{number, absent, element}
use Rattle.codec.specs.Places.{places}
use Rattle.codec.specs.Reading.{Found, got, and_next, read_at}
use Rattle.codec.proofs.Reading.{read_at-absent, read_at-cons}
use Rattle.codec.proofs.Filling.{places-each}
use Rattle.grammar.specs.SiteSheet.{digit_refusal, service_refusal}
use Rattle.walk.proofs.Numbers.{element-says}
use Rattle.reader.specs.Inner.{Read, Reads, held_in, codes_in}
use Rattle.reader.proofs.Elements.{steps, number-there, number-end, number-inside}
use Rattle.reader.proofs.Parts.{element-read}

-- ---- a part of the bits that are held

-- a shift to the right, and back over fewer bits
back : (x a d e : ℕ) → x / 2 ^ a * 2 ^ d / 2 ^ (d + e) ≡ x / 2 ^ (a + e)
back x a d e = sym (shr-shr (x / 2 ^ a * 2 ^ d) d e) ∙ ap (λ (y : ℕ). y / 2 ^ e) (shl-shr (x / 2 ^ a) d) ∙ shr-shr x a e

-- below the lowest number there are zeros
zeros : (x d e w : ℕ) → x * 2 ^ (d + w + e) / 2 ^ e % 2 ^ w ≡ 0
zeros x d e w =
    ap (λ (y : ℕ). x * y / 2 ^ e % 2 ^ w) (pow-add 2 (d + w) e)
    ∙ ap (λ (y : ℕ). y / 2 ^ e % 2 ^ w) (sym (mul_assoc x (2 ^ (d + w)) (2 ^ e)))
    ∙ ap (λ (y : ℕ). y % 2 ^ w) (shl-shr (x * 2 ^ (d + w)) e ∙ ap (λ (y : ℕ). x * y) (pow-add 2 d w) ∙ sym (mul_assoc x (2 ^ d) (2 ^ w)))
    ∙ mul-mod_left (x * 2 ^ d) (2 ^ w)

valued : {c : Codec ℕ} {p v v' end : ℕ} {s : List Bool} → v ≡ v' → Read c s p v end → Read c s p v' end
valued {c} {p} {v} {v'} {end} {s} e r = subst (λ (x : ℕ). Read c s p x end) e r

-- w bits, o bits into those that are held, and k bits before their end
module _ (s : List ℕ) (base skip whole used : ℕ) {v run : ℕ} (ev : v ≡ window_at s base) (er : run ≡ held_in v skip whole used)
    (inside : skip + whole ≤ 57) (few : used ≤ whole) (w o k : ℕ) (after : k + (o + w) ≡ whole) where
  part-read : {p : ℕ} → p ≡ base + (skip + o) → 1 ≤ w → o + w ≤ used → p + w ≤ length (bits s)
      → Read (number w) (bits s) p (run / 2 ^ k % 2 ^ w) (p + w)
  unfolding held_in
  part-read {p} ep wide h there =
      let d : ℕ = whole - used in
      let a : ℕ = 57 - skip - used in
      let f : ℕ = k - d in
      let low : k ≡ d + f = omega arith in
      let up : a + f ≡ 57 - (skip + o) - w = omega arith in
      let same : run / 2 ^ k ≡ v / 2 ^ (57 - (skip + o) - w) =
      ap (λ (x : ℕ). x / 2 ^ k) er ∙ ap (λ (x : ℕ). v / 2 ^ a * 2 ^ d / 2 ^ x) low ∙ back v a d f ∙ ap (λ (x : ℕ). v / 2 ^ x) up in
      valued (ap (λ (x : ℕ). x % 2 ^ w) (sym same)) (record { same = number-inside s base w (skip + o) ep wide (omega arith) there ev })

  part_none : used ≤ o → run / 2 ^ k % 2 ^ w ≡ 0
  unfolding held_in
  part_none h =
      let d : ℕ = whole - used in
      let a : ℕ = 57 - skip - used in
      let f : ℕ = d - w - k in
      let over : d ≡ f + w + k = omega arith in
      ap (λ (x : ℕ). x / 2 ^ k % 2 ^ w) er ∙ ap (λ (x : ℕ). v / 2 ^ a * 2 ^ x / 2 ^ k % 2 ^ w) over ∙ zeros (v / 2 ^ a) f k w

-- ---- numbers in places

-- each number that is carried is read
module _ (s : List Bool) (w : ℕ) (refuse : ℕ → ℕ) where
  abbrev listing : ℕ → ℕ → Codec (List ℕ)
  listing m n = places (element w refuse) absent m n

  each-reads : (m n at : ℕ) {end : ℕ} {l : List ℕ} → n ≤ m → read_at (listing m n) s at ≡ got l end → (i : ℕ) → i < n
      → Reads (element w refuse) s (at + w * i)
  unfolding places
  each-reads m zero at h e i k = absurd (omega arith)
  each-reads zero (suc n) at h e i k = absurd (omega arith)
  each-reads (suc m) (suc n) at h e i k =
      let a = steps (read_at (element w refuse) s at) (λ x p. and_next (read_at (listing m n) s p) (λ t q. got (x ∷ t) q))
      (sym (read_at-cons (element w refuse) (listing m n) s at) ∙ e) in
      let b = steps (read_at (listing m n) s a.next) (λ t q. got (a.value ∷ t) q) a.then in
      go i k (record { value = a.value; end = a.next; read = record { same = a.first } })
      (number-end s at w (element-says w refuse s at a.first).0) (λ j. each-reads m n a.next (omega arith) b.first j)
    where
      go : (i : ℕ) → i < suc n → Reads (element w refuse) s at → {next : ℕ} → next ≡ at + w
          → ((j : ℕ) → j < n → Reads (element w refuse) s (next + w * j)) → Reads (element w refuse) s (at + w * i)
      go zero k r e t = let z : at ≡ at + w * 0 = omega arith in subst (λ (p : ℕ). Reads (element w refuse) s p) z r
      go (suc j) k r {next} e t =
          let z : next + w * j ≡ at + w * suc j = omega arith in
          subst (λ (p : ℕ). Reads (element w refuse) s p) z (t j (omega arith))

-- numbers that stand one after the other are read as they stand
module _ (s : List ℕ) (at w : ℕ) (refuse : ℕ → ℕ) (m n : ℕ) (wide : 1 ≤ w) (few : n ≤ m)
    (r : Reads (places (element w refuse) absent m n) (bits s) at) (l : List ℕ) (long : length l ≡ m)
    (used : (i : ℕ) → i < n → at + w * i + w ≤ length (bits s) → Read (number w) (bits s) (at + w * i) (get_or l i 0) (at + w * i + w))
    (unused : (i : ℕ) → n ≤ i → i < m → get_or l i 0 ≡ 0) where
  one-read : (i : ℕ) → i < n → read_at (element w refuse) (bits s) (at + w * i) ≡ got (get_or l i 0) (at + w * suc i)
  one-read i h =
      let e = each-reads (bits s) w refuse m n at few r.read.same i h in
      let there = number-there (bits s) (at + w * i) w wide (element-says w refuse (bits s) (at + w * i) e.read.same).0 in
      let next : at + w * i + w ≡ at + w * suc i = omega arith in
      (element-read w refuse e (used i h there)).same ∙ ap {B = Found ℕ} (λ (x : ℕ). got (get_or l i 0) x) next

  listed : Read (places (element w refuse) absent m n) (bits s) at l (at + w * n)
  listed = record {
    same =
        let start : at ≡ at + w * 0 = omega arith in
        ap (read_at (places (element w refuse) absent m n) (bits s)) start
        ∙ places-each (element w refuse) absent (bits s) 0 m n (λ i. at + w * i) l long few one-read
        (λ i p h k. read_at-absent (bits s) p ∙ ap {B = Found ℕ} (λ (x : ℕ). got x p) (sym (unused i h k)));
  }

-- ---- seven services, and 24 digits

length-values : (f : ℕ → ℕ) (i n : ℕ) → length (table.values f i n) ≡ n
length-values f i zero = refl
length-values f i (suc n) = ap suc (length-values f (suc i) n)

pub code-at : (count width run i : ℕ) → i < count → get_or (codes_in count width run) i 0 ≡ run / 2 ^ (width * (count - 1 - i)) % 2 ^ width
unfolding codes_in
code-at count width run i h = table.at (λ i. run / 2 ^ (width * (count - 1 - i)) % 2 ^ width) 0 count i h

pub codes-long : (count width run : ℕ) → length (codes_in count width run) ≡ count
unfolding codes_in
codes-long count width run = length-values (λ i. run / 2 ^ (width * (count - 1 - i)) % 2 ^ width) 0 count

four_as : {a b c d a' b' c' d' : ℕ} {l l' : List ℕ} → a ≡ a' → b ≡ b' → c ≡ c' → d ≡ d' → l ≡ l' → a ∷ b ∷ c ∷ d ∷ l ≡ a' ∷ b' ∷ c' ∷ d' ∷ l'
four_as p q r s t = cc

-- twelve are four, four and four
pub twelve-is : (run : ℕ) → codes_in 4 4 (run / 2 ^ 32) ++ (codes_in 4 4 (run / 2 ^ 16 % 65536) ++ codes_in 4 4 (run % 65536)) ≡ codes_in 12 4 run
unfolding codes_in
twelve-is run =
    four_as (omega arith) (omega arith) (omega arith) (omega arith)
    (four_as (omega arith) (omega arith) (omega arith) (omega arith) (four_as (omega arith) (omega arith) (omega arith) (omega arith) refl))

-- the services of a window that begins with their number
pub services-read : (s : List ℕ) (at count : ℕ) → count ≤ 7 → Reads (places (element 3 service_refusal) absent 7 count) (bits s) (at + 3)
    → {v run used : ℕ} → v ≡ window_at s at → used ≡ 3 * count → run ≡ held_in v 3 21 used
    → Read (places (element 3 service_refusal) absent 7 count) (bits s) (at + 3) (codes_in 7 3 run) (at + 3 + 3 * count)
services-read s at count few r {v} {run} {used} ev eu er =
    listed s (at + 3) 3 service_refusal 7 count (omega arith) few r (codes_in 7 3 run) (codes-long 7 3 run)
    (λ i h there. valued (sym (code-at 7 3 run i (omega arith)))
    (part-read s at 3 21 used ev er (omega arith) (omega arith) 3 (3 * i) (3 * (7 - 1 - i)) (omega arith) (omega arith) (omega arith) (omega arith) there))
    (λ i h k. code-at 7 3 run i k ∙ part_none s at 3 21 used ev er (omega arith) (omega arith) 3 (3 * i) (3 * (7 - 1 - i)) (omega arith) (omega arith))

-- the digits of a number, the first twelve from the window that begins with its length
module _ (s : List ℕ) (at count first : ℕ) (half : first ≡ min count 12) (few : count ≤ 24)
    (r : Reads (places (element 4 digit_refusal) absent 24 count) (bits s) (at + 5)) {v v' high low : ℕ}
    (ev : v ≡ window_at s at) (ev' : v' ≡ window_at s (at + 53))
    (eh : high ≡ held_in v 5 48 (4 * first)) (el : low ≡ held_in v' 0 48 (4 * (count - first))) where
  early : (i : ℕ) → i < 12 → get_or (codes_in 12 4 high ++ codes_in 12 4 low) i 0 ≡ high / 2 ^ (4 * (12 - 1 - i)) % 2 ^ 4
  early i h = get_or-append (codes_in 12 4 high) (codes_in 12 4 low) 0 i (omega (arith, codes-long 12 4 high)) ∙ code-at 12 4 high i h

  late : (i j : ℕ) → i ≡ 12 + j → j < 12 → get_or (codes_in 12 4 high ++ codes_in 12 4 low) i 0 ≡ low / 2 ^ (4 * (12 - 1 - j)) % 2 ^ 4
  late i j e h =
      ap (λ (x : ℕ). get_or (codes_in 12 4 high ++ codes_in 12 4 low) x 0) (e ∙ ap (λ (x : ℕ). x + j) (sym (codes-long 12 4 high)))
      ∙ get_or-append-add (codes_in 12 4 high) (codes_in 12 4 low) j 0
      ∙ code-at 12 4 low j h

  digit-read : (i : ℕ) → i < count → at + 5 + 4 * i + 4 ≤ length (bits s)
      → Read (number 4) (bits s) (at + 5 + 4 * i) (get_or (codes_in 12 4 high ++ codes_in 12 4 low) i 0) (at + 5 + 4 * i + 4)
  digit-read i h there = go (ltb i 12) refl
    where
      go : (t : Bool) → ltb i 12 ≡ t
          → Read (number 4) (bits s) (at + 5 + 4 * i) (get_or (codes_in 12 4 high ++ codes_in 12 4 low) i 0) (at + 5 + 4 * i + 4)
      go true t =
          let k : i < 12 = ltb-true i 12 t in
          valued (sym (early i k))
          (part-read s at 5 48 (4 * first) ev eh (omega arith) (omega arith) 4 (4 * i) (4 * (12 - 1 - i)) (omega arith) (omega arith) (omega arith)
          (omega arith) there)
      go false t =
          let k : 12 ≤ i = ltb-false i 12 t in
          let j : ℕ = i - 12 in
          let e : i ≡ 12 + j = omega arith in
          valued (sym (late i j e (omega arith)))
          (part-read s (at + 53) 0 48 (4 * (count - first)) ev' el (omega arith) (omega arith) 4 (4 * j) (4 * (12 - 1 - j)) (omega arith) (omega arith)
          (omega arith) (omega arith) there)

  no_digit : (i : ℕ) → count ≤ i → i < 24 → get_or (codes_in 12 4 high ++ codes_in 12 4 low) i 0 ≡ 0
  no_digit i h k = go (ltb i 12) refl
    where
      go : (t : Bool) → ltb i 12 ≡ t → get_or (codes_in 12 4 high ++ codes_in 12 4 low) i 0 ≡ 0
      go true t =
          let m : i < 12 = ltb-true i 12 t in
          early i m ∙ part_none s at 5 48 (4 * first) ev eh (omega arith) (omega arith) 4 (4 * i) (4 * (12 - 1 - i)) (omega arith) (omega arith)
      go false t =
          let m : 12 ≤ i = ltb-false i 12 t in
          let j : ℕ = i - 12 in
          let e : i ≡ 12 + j = omega arith in
          late i j e (omega arith)
          ∙ part_none s (at + 53) 0 48 (4 * (count - first)) ev' el (omega arith) (omega arith) 4 (4 * j) (4 * (12 - 1 - j)) (omega arith) (omega arith)

  pub digits-read : Read (places (element 4 digit_refusal) absent 24 count) (bits s) (at + 5) (codes_in 12 4 high ++ codes_in 12 4 low) (at + 5 + 4 * count)
  digits-read =
      listed s (at + 5) 4 digit_refusal 24 count (omega arith) few r (codes_in 12 4 high ++ codes_in 12 4 low)
      (length-append (codes_in 12 4 high) (codes_in 12 4 low) ∙ omega (arith, codes-long 12 4 high, codes-long 12 4 low)) digit-read no_digit
