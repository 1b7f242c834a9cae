-- Each public function of `bits` has one possible outcome.
use mathlib.Core.Path.{refl, sym, ◌∙◌}
use Rattle.bits.proofs as bits
use Rattle.bits.specs.Bits.{Bytes}
use Rattle.bits.proofs.Bytes.{bits_inj}
use Rattle.promises.specs.Determined.{Determined, by_equations}

pub bits_determined : Determined bits.DigitCount.bits.Kinds.ps bits.DigitCount.bits.Kinds.r bits.DigitCount.bits.Reads.Learnt
bits_determined = by_equations (λ κs a x v p. (λ i. record { 0 = p i }, refl))

pub bytes_determined : Determined bits.BitCount.bytes.Kinds.ps bits.BitCount.bytes.Kinds.r bits.BitCount.bytes.Reads.Learnt
bytes_determined = by_equations (λ κs a x v p. (p, refl))

pub take_determined : Determined bits.Cursor.take.Kinds.ps bits.Cursor.take.Kinds.r bits.Cursor.take.Reads.Learnt
take_determined = by_equations (λ κs a x v p. (p, refl))

pub is_framed_determined : Determined bits.is_framed.Kinds.ps bits.is_framed.Kinds.r bits.is_framed.Reads.Learnt
is_framed_determined = by_equations (λ κs a x v p. (p, refl))

pub window_determined : Determined bits.window.Kinds.ps bits.window.Kinds.r bits.window.Reads.Learnt
window_determined = by_equations (λ κs a x v p. (p, refl))

pub bit_at_determined : Determined bits.bit_at.Kinds.ps bits.bit_at.Kinds.r bits.bit_at.Reads.Learnt
bit_at_determined = by_equations (λ κs a x v p. (p, refl))

pub least_determined : Determined bits.least.Kinds.ps bits.least.Kinds.r bits.least.Reads.Learnt
least_determined = by_equations (λ κs a x v p. (p, refl))

-- `put` and `lay` speak of bits; a buffer has bytes below 256, and such bytes with the same bits are the same
pub put_determined : Determined bits.put.Kinds.ps bits.put.Kinds.r (λ κs a x s. bits.put.Reads.Learnt κs a x s × Bytes s.0.now)
put_determined = record {
  same = λ κs a x y v w p q. (p.0.0 ∙ sym q.0.0, λ i. (bits_inj v.0 w.0 p.1 q.1 (p.0.1 ∙ sym q.0.1) i, v.1));
}

pub lay_determined : Determined bits.lay.Kinds.ps bits.lay.Kinds.r (λ κs a x s. bits.lay.Reads.Learnt κs a x s × Bytes s.0.now)
lay_determined = record {
  same = λ κs a x y v w p q. (p.0.0 ∙ sym q.0.0, λ i. (bits_inj v.0 w.0 p.1 q.1 (p.0.1 ∙ sym q.0.1) i, v.1));
}
