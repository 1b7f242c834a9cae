-- A part put as one run of bits, or as two of which the second puts the last bits of the first again. Assumes nothing.
use mathlib.Core.Path.{◌≡◌, refl, sym, ap, ◌∙◌}
use mathlib.Core.Bool.{Bool}
use mathlib.Core.Logic.{◌≢◌}
use mathlib.Core.List.{List, ◌++◌, append-nil, append_assoc}
use Prim.Native.Nat.{ℕ, ◌+◌, ◌-◌, ◌*◌, ◌/◌, ◌%◌, ◌^◌, ◌≤◌}
use native.Mathlib.Nat.{zero-add}
use native.Mathlib.Omega.{arith}
use lib.ListN.{length, take, drop, length-append}
use lib.Seq.{take_at, take-take, drop_at, length-take-le}
use borrow.Author.Tests.{eq-eqb, ne_eqb}
use Rattle.bits.specs.Bits.{bits, bits_of}
use Rattle.bits.proofs.Bytes.{length-bits}
use Rattle.bits.proofs.Numbers.{length-bits_of, bits_of_add, bits_of_mod, bits_of-join}
use Rattle.codec.specs.Codec.{Codec}
use Rattle.codec.specs.Parts.{number, absent, seq, shaped}
use Rattle.grammar.specs.Grammar.{identity, extension}
use Rattle.grammar.specs.declared.record.Identity.{Identity}
use Rattle.writer.specs.Inner.{Room, Puts, RunAfter, Ended}

-- a part whose bits are those of a number
module _ {A : Type 0} {c : Codec A} {a : A} (w v : ℕ) (same : c.print a ≡ bits_of w v) {s : List ℕ} {at : ℕ} where
  pub room-run : Room c a s at → Room (number w) v s at
  unfolding number
  room-run h = record { short = omega (arith, h.short, ap length same); fits = omega (arith, h.fits, ap length same) }

  pub put_as-run : {t : List ℕ} {m : ℕ} → Puts (number w) v s t at m → Puts c a s t at m
  unfolding number
  put_as-run p = record {
    there = p.there ∙ ap (λ (l : List Bool). take at (bits s) ++ l) (sym same);
    next = p.next ∙ ap (λ (l : List Bool). at + length l) (sym same);
    kept = p.kept;
  }

-- ---- a part whose bits are those of a number and some more

-- the low bits of a number are those of its remainder
pub low_bits : (k n x : ℕ) → k ≤ n → bits_of k (x % 2 ^ n) ≡ bits_of k x
low_bits k n x few = last (x % 2 ^ n) ∙ ap (drop (n - k)) (bits_of_mod n x) ∙ sym (last x)
  where
    last : (v : ℕ) → bits_of k v ≡ drop (n - k) (bits_of n v)
    last v =
        let j : ℕ = n - k in
        let all : j + k ≡ n = omega arith in
        sym (drop_at (bits_of j (v / 2 ^ k)) (bits_of k v) j (length-bits_of j (v / 2 ^ k)))
        ∙ ap (drop j) (sym (bits_of_add j k v) ∙ ap (λ (i : ℕ). bits_of i v) all)

-- a part whose bits are those of a number is put: they stand before the next place
pub ended : {A : Type 0} {c : Codec A} {a : A} (w x : ℕ) {s t : List ℕ} {at m : ℕ} → c.print a ≡ bits_of w x → 8 ≤ w → Room c a s at
    → Puts c a s t at m → Ended t m x
ended w x {s} {t} {at} {m} same wide h p k few =
    let j : ℕ = w - k in
    let all : w ≡ j + k = omega arith in
    let front : List Bool = take at (bits s) ++ bits_of j (x / 2 ^ k) in
    let whole : take m (bits t) ≡ front ++ bits_of k x =
    p.there ∙ ap (λ (l : List Bool). take at (bits s) ++ l) (same ∙ ap (λ (i : ℕ). bits_of i x) all ∙ bits_of_add j k x)
    ∙ sym (append_assoc (take at (bits s)) (bits_of j (x / 2 ^ k)) (bits_of k x))
    in
    let long : length front ≡ m - k =
    omega (
      arith,
      ap length whole,
      length-append front (bits_of k x),
      length-bits_of k x,
      length-take-le m (bits t) (omega (arith, h.fits, p.next, p.kept, length-bits t)),
    )
    in
    whole ∙ ap (λ (l : List Bool). l ++ bits_of k x)
    (sym (take_at front (bits_of k x) (m - k) long) ∙ ap (take (m - k)) (sym whole) ∙ take-take (m - k) m (bits t) (omega arith))

-- a part as a run, by itself and after the bits that stand before it
pub alone : {A : Type 0} (c : Codec A) (a : A) (lead w run : ℕ) → RunAfter c a lead w run → c.print a ≡ bits_of w run
unfolding bits_of
alone c a lead w run h = sym (h 0) ∙ ap (λ (n : ℕ). bits_of n run) (zero-add w)

pub after-bits : {A : Type 0} (c : Codec A) (a : A) (k x w run : ℕ) → k ≤ 8 → RunAfter c a (x % 256) w run
    → bits_of (k + w) run ≡ bits_of k x ++ c.print a
after-bits c a k x w run few h = h k ∙ ap (λ (l : List Bool). l ++ c.print a) (low_bits k 8 x few)

-- the k bits before a place and what follows them are one run, from k bits before it on
module _ (t : List ℕ) (m x k n y : ℕ) (rest : List Bool) (over : bits_of (k + n) y ≡ bits_of k x ++ rest) where
  left-size : n ≡ length rest
  left-size = omega (arith, ap length over, length-append (bits_of k x) rest, length-bits_of k x, length-bits_of (k + n) y)

  again-there : {u : List ℕ} {end : ℕ} → Ended t m x → k ≤ 8 → Puts (number (k + n)) y t u (m - k) end → take end (bits u) ≡ take m (bits t) ++ rest
  unfolding number
  again-there e few q = q.there ∙ ap (λ (l : List Bool). take (m - k) (bits t) ++ l) over
      ∙ sym (append_assoc (take (m - k) (bits t)) (bits_of k x) rest)
      ∙ ap (λ (l : List Bool). l ++ rest) (sym (e k few))

  again-next : {u : List ℕ} {end : ℕ} → k ≤ m → Puts (number (k + n)) y t u (m - k) end → end ≡ m + length rest
  unfolding number
  again-next before q = omega (arith, q.next, left-size, length-bits_of (k + n) y)

  again-room : k ≤ m → m + length rest ≤ 4096 → m + length rest ≤ 8 * length t → Room (number (k + n)) y t (m - k)
  unfolding number
  again-room before short fits = record {
    short = omega (arith, left-size, length-bits_of (k + n) y);
    fits = omega (arith, left-size, length-bits_of (k + n) y);
  }

-- a part after another one
module _ {A : Type 0} {c : Codec A} {a : A} (t : List ℕ) (m x k n y : ℕ) (before : k ≤ m) (over : bits_of (k + n) y ≡ bits_of k x ++ c.print a) where
  pub room_again : Room c a t m → Room (number (k + n)) y t (m - k)
  room_again h = again-room t m x k n y (c.print a) over before h.short h.fits

  pub put_again : {u : List ℕ} {end : ℕ} → Ended t m x → k ≤ 8 → Puts (number (k + n)) y t u (m - k) end → Puts c a t u m end
  put_again e few q = record {
    there = again-there t m x k n y (c.print a) over e few q;
    next = again-next t m x k n y (c.print a) over before q;
    kept = q.kept;
  }

-- a part whose first bits are those of a number
module _ {A : Type 0} {c : Codec A} {a : A} (w x : ℕ) (rest : List Bool) (same : c.print a ≡ bits_of w x ++ rest) {s : List ℕ} {at : ℕ}
    (h : Room c a s at) where
  size : length (c.print a) ≡ w + length rest
  size = omega (arith, ap length same, length-append (bits_of w x) rest, length-bits_of w x)

  pub room-front : Room (number w) x s at
  unfolding number
  room-front = record { short = omega (arith, h.short, size, length-bits_of w x); fits = omega (arith, h.fits, size, length-bits_of w x) }

  module _ {t : List ℕ} {m : ℕ} (p : Puts (number w) x s t at m) (k n y : ℕ) (wide : 8 ≤ w) (few : k ≤ 8)
      (over : bits_of (k + n) y ≡ bits_of k x ++ rest) where
    next_place : m ≡ at + w
    unfolding number
    next_place = omega (arith, p.next, length-bits_of w x)

    pub room-over : Room (number (k + n)) y t (m - k)
    room-over = again-room t m x k n y rest over (omega (arith, next_place)) (omega (arith, h.short, size, next_place))
        (omega (arith, h.fits, size, next_place, p.kept))

    pub put-over : {u : List ℕ} {end : ℕ} → Puts (number (k + n)) y t u (m - k) end → Puts c a s u at end
    unfolding number
    put-over q = record {
      there = again-there t m x k n y rest over (ended w x refl wide room-front p) few q
          ∙ ap (λ (l : List Bool). l ++ rest) p.there
          ∙ append_assoc (take at (bits s)) (bits_of w x) rest
          ∙ ap (λ (l : List Bool). take at (bits s) ++ l) (sym same);
      next = omega (arith, again-next t m x k n y rest over (omega (arith, next_place)) q, next_place, size);
      kept = q.kept ∙ p.kept;
    }

-- ---- an identity, after a lead

module _ (e : Identity) (lead : ℕ) where
  abbrev headed : ℕ
  headed = (lead * 16777216 + e.ssi % 16777216) * 2 + e.present % 2

  head-run : (k : ℕ) → bits_of (k + 25) headed ≡ bits_of k lead ++ (bits_of 24 e.ssi ++ bits_of 1 e.present)
  head-run k =
      let size : k + 25 ≡ k + 24 + 1 = omega arith in
      ap (λ (n : ℕ). bits_of n headed) size
      ∙ bits_of-join (k + 24) 1 (lead * 16777216 + e.ssi % 16777216) e.present
      ∙ ap (λ (l : List Bool). l ++ bits_of 1 e.present) (bits_of-join k 24 lead e.ssi)
      ∙ append_assoc (bits_of k lead) (bits_of 24 e.ssi) (bits_of 1 e.present)

  pub plain-run : e.present ≢ 1 → RunAfter identity e lead 25 headed
  unfolding identity extension shaped seq number absent
  plain-run h k =
      rw (ne_eqb e.present 1 h)
      (head-run k ∙ ap (λ (l : List Bool). bits_of k lead ++ (bits_of 24 e.ssi ++ l)) (sym (append-nil (bits_of 1 e.present))))

  pub extended_run : e.present ≡ 1 → RunAfter identity e lead 49 (headed * 16777216 + e.extension % 16777216)
  unfolding identity extension shaped seq number absent
  extended_run h k =
      let size : k + 49 ≡ k + 25 + 24 = omega arith in
      let both : List Bool = bits_of 24 e.ssi ++ bits_of 1 e.present in
      rw (eq-eqb e.present 1 h)
      (ap (λ (n : ℕ). bits_of n (headed * 16777216 + e.extension % 16777216)) size
      ∙ bits_of-join (k + 25) 24 headed e.extension
      ∙ ap (λ (l : List Bool). l ++ bits_of 24 e.extension) (head-run k)
      ∙ append_assoc (bits_of k lead) both (bits_of 24 e.extension)
      ∙ ap (λ (l : List Bool). bits_of k lead ++ l) (append_assoc (bits_of 24 e.ssi) (bits_of 1 e.present) (bits_of 24 e.extension)))
