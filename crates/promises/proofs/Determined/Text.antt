-- Each public function of `text` has one possible outcome.
use mathlib.Core.Path.{refl}
use Rattle.text.proofs as text
use Rattle.promises.specs.Determined.{Determined, by_equations}

pub append_determined : Determined text.append.Kinds.ps text.append.Kinds.r text.append.Reads.Learnt
append_determined = by_equations (λ κs a x v p. (p.0, λ i. (p.1.0 i, (tt, (tt, tt)))))

pub digits_of_determined : Determined text.digits_of.Kinds.ps text.digits_of.Kinds.r text.digits_of.Reads.Learnt
digits_of_determined = by_equations (λ κs a x v p. (p.0, refl))

pub write_item_determined : Determined text.write_item.Kinds.ps text.write_item.Kinds.r text.write_item.Reads.Learnt
write_item_determined = by_equations (λ κs a x v p. (p.0, λ i. (p.1.0 i, (tt, (tt, (tt, tt))))))

pub write_number_determined : Determined text.write_number.Kinds.ps text.write_number.Kinds.r text.write_number.Reads.Learnt
write_number_determined = by_equations (λ κs a x v p. (p.0, λ i. (p.1 i, (tt, (tt, tt)))))

pub field_at_determined : Determined text.field_at.Kinds.ps text.field_at.Kinds.r text.field_at.Reads.Learnt
field_at_determined = by_equations (λ κs a x v p. (p, refl))
