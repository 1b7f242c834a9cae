-- What framed says, and that a PDU's bits and its bytes decide each other. Assumes nothing.
use mathlib.Core.Path.{◌≡◌, refl, sym, ap, ap₂, ◌∙◌}
use mathlib.Core.List.{List, [], ◌∷◌, ◌++◌}
use mathlib.Core.Bool.{Bool, true, ◌&&◌}
use Prim.Native.Nat.{ℕ, zero, suc, ◌+◌, ◌-◌, ◌*◌, ◌/◌, ◌%◌, ◌^◌, ◌≤◌, ◌<◌}
use native.Mathlib.Nat.{div-one}
use native.Mathlib.Omega.{arith}
use lib.ListN.{length, get_or, take, drop, length-append, length-drop, drop_of_length-le, take-append-drop}
use lib.Seq.{take_all, take_at, drop_at, length-take-le}
use lib.Pow.{pow_pos}
use lib.Dec.{eqb, leb}
use borrow.Author.Tests.{eqb-true, eq-eqb, leb-true, le-leb}
use Rattle.bits.specs.Bits.{value, bits_of, Bytes, bits}
use Rattle.bits.specs.Frame.{bytes_for, bits_in, framed, Framed, bytes_of, pack}
use Rattle.bits.proofs.Tests.{both}
use Rattle.bits.proofs.Numbers.{length-bits_of, value-bits_of, value-of-bits, bits_of_value, value-take-fits}
use Rattle.bits.proofs.Bytes.{length-bits, bits_inj}
use Rattle.bits.proofs.Shares.{read-within}

-- no bits are unused, where n is a whole number of bytes
pub none-unused : (s : List ℕ) (n : ℕ) → length s ≡ bytes_for n → n % 8 ≡ 0 → value (drop n (bits s)) ≡ 0
unfolding value
none-unused s n e h = ap value (drop_of_length-le (bits s) {i = n} (omega (arith, length-bits s)))

-- otherwise the unused bits are the low bits of the last byte
pub last-unused : (s : List ℕ) (n : ℕ) → length s ≡ bytes_for n → 0 < n % 8
    → value (drop n (bits s)) ≡ get_or s (n / 8) 0 % 2 ^ (8 - n % 8)
last-unused s n e h =
    let m : ℕ = 8 - n % 8 in
    let place : 8 * (n / 8) + n % 8 ≡ n = omega arith in
    ap value
    (sym (take_all m (drop n (bits s)) (omega (arith, length-drop n (bits s), length-bits s)))
    ∙ ap (λ (x : ℕ). take m (drop x (bits s))) (sym place)
    ∙ read-within s (n / 8) (n % 8) m 0 (omega arith) (omega arith))
    ∙ value-bits_of m (get_or s (n / 8) 0 / 2 ^ 0)
    ∙ ap (λ (x : ℕ). x % 2 ^ m) (div-one (get_or s (n / 8) 0))

-- ---- the three parts of framed

pub framed-says : (s : List ℕ) (n : ℕ) → framed s n ≡ true → Framed s n
unfolding framed
framed-says s n e =
    let p = both (leb n 4096 && eqb (length s) (bytes_for n)) (eqb (value (drop n (bits s))) 0) e in
    let q = both (leb n 4096) (eqb (length s) (bytes_for n)) p.0 in
    record { short = leb-true _ _ q.0; count = eqb-true _ _ q.1; unused = eqb-true _ _ p.1 }

pub length-pdu : (s : List ℕ) (n : ℕ) → n ≤ 8 * length s → length (bits_in n s) ≡ n
length-pdu s n h = length-take-le n (bits s) (omega (arith, length-bits s))

pub length-bits_in : (s : List ℕ) (n : ℕ) → Framed s n → length (bits_in n s) ≡ n
length-bits_in s n f = length-pdu s n (omega (arith, f.count))

rest : (s : List ℕ) (n : ℕ) → Framed s n → drop n (bits s) ≡ bits_of (8 * bytes_for n - n) 0
rest s n f =
    sym (bits_of_value (drop n (bits s))) ∙ ap₂ bits_of (omega (arith, length-drop n (bits s), length-bits s, f.count)) f.unused

-- two framings of the same bits are the same bytes
pub framed_inj : (s t : List ℕ) (n : ℕ) → Bytes s → Bytes t → Framed s n → Framed t n → bits_in n s ≡ bits_in n t → s ≡ t
framed_inj s t n hs ht fs ft e =
    bits_inj s t hs ht
    (sym (take-append-drop n (bits s))
    ∙ ap₂ (λ (x y : List Bool). x ++ y) e (rest s n fs ∙ sym (rest t n ft))
    ∙ take-append-drop n (bits t))

-- ---- packed: the bytes that hold a run

length-bytes_of : (k : ℕ) (l : List Bool) → length (bytes_of k l) ≡ k
unfolding bytes_of
length-bytes_of zero l = refl
length-bytes_of (suc k) l = ap suc (length-bytes_of k (drop 8 l))

bits-bytes_of : (k : ℕ) (l : List Bool) → length l ≡ 8 * k → bits (bytes_of k l) ≡ l
unfolding bytes_of bits
bits-bytes_of zero [] e = refl
bits-bytes_of zero (b ∷ l) e = absurd (omega arith)
bits-bytes_of (suc k) l e =
    let t : length (take 8 l) ≡ 8 = length-take-le 8 l (omega arith) in
    let f : bits_of 8 (value (take 8 l)) ≡ take 8 l = ap (λ (w : ℕ). bits_of w (value (take 8 l))) (sym t) ∙ bits_of_value (take 8 l) in
    ap₂ (λ (x y : List Bool). x ++ y) f (bits-bytes_of k (drop 8 l) (omega (arith, length-drop 8 l))) ∙ take-append-drop 8 l

byte-bytes_of : (k : ℕ) (l : List Bool) → Bytes (bytes_of k l)
unfolding bytes_of
byte-bytes_of zero l i = omega arith
byte-bytes_of (suc k) l zero = value-take-fits 8 8 l (omega arith)
byte-bytes_of (suc k) l (suc i) = byte-bytes_of k (drop 8 l) i

module _ (l : List Bool) where
  -- the zeros behind it
  abbrev pub padding : List Bool
  padding = bits_of (8 * bytes_for (length l) - length l) 0

  pub length-pack : length (pack l) ≡ bytes_for (length l)
  unfolding pack
  length-pack = length-bytes_of (bytes_for (length l)) (l ++ padding)

  pub bits-pack : bits (pack l) ≡ l ++ padding
  unfolding pack
  bits-pack =
      bits-bytes_of (bytes_for (length l)) (l ++ padding)
      (omega (arith, length-append l padding, length-bits_of (8 * bytes_for (length l) - length l) 0))

  pub bytes-pack : Bytes (pack l)
  unfolding pack
  bytes-pack = byte-bytes_of (bytes_for (length l)) (l ++ padding)

  -- the bits that were packed
  pub bits_in-pack : bits_in (length l) (pack l) ≡ l
  bits_in-pack = ap (take (length l)) bits-pack ∙ take_at l padding (length l) refl

  pub framed-pack : length l ≤ 4096 → Framed (pack l) (length l)
  framed-pack h = record {
    short = h;
    count = length-pack;
    unused =
        ap (λ (x : List Bool). value (drop (length l) x)) bits-pack
        ∙ ap value (drop_at l padding (length l) refl)
        ∙ value-of-bits (8 * bytes_for (length l) - length l) 0 (pow_pos (8 * bytes_for (length l) - length l));
  }

-- the bytes of framed bits are those that pack them
pub pack-bits_in : (s : List ℕ) (n : ℕ) → Bytes s → Framed s n → pack (bits_in n s) ≡ s
pack-bits_in s n b f =
    let l : length (bits_in n s) ≡ n = length-bits_in s n f in
    let g : Framed (pack (bits_in n s)) n = rw l at (framed-pack (bits_in n s) (omega (arith, f.short, l))) in
    framed_inj (pack (bits_in n s)) s n (bytes-pack (bits_in n s)) b g f
    (ap (λ (m : ℕ). bits_in m (pack (bits_in n s))) (sym l) ∙ bits_in-pack (bits_in n s))

-- framed is exactly that
pub framed_is : (s : List ℕ) (n : ℕ) → Framed s n → framed s n ≡ true
unfolding framed
framed_is s n f = rw (le-leb n 4096 f.short, eq-eqb (length s) (bytes_for n) f.count, eq-eqb (value (drop n (bits s))) 0 f.unused)
