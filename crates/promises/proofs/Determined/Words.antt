-- Each public function of `words` has one possible outcome.
use mathlib.Core.Path.{refl}
use Rattle.words.proofs as words
use Rattle.promises.specs.Determined.{Determined, by_equations}

pub put_record_determined : Determined words.record.put_record.Kinds.ps words.record.put_record.Kinds.r words.record.put_record.Reads.Learnt
put_record_determined = by_equations (λ κs a x v p. (refl, λ i. (p i, (tt, tt))))

pub record_from_determined : Determined words.record.record_from.Kinds.ps words.record.record_from.Kinds.r words.record.record_from.Reads.Learnt
record_from_determined = by_equations (λ κs a x v p. (p, refl))

pub figures_from_determined : Determined words.record.figures_from.Kinds.ps words.record.figures_from.Kinds.r words.record.figures_from.Reads.Learnt
figures_from_determined = by_equations (λ κs a x v p. (p, refl))

pub request_from_determined : Determined words.request.request_from.Kinds.ps words.request.request_from.Kinds.r words.request.request_from.Reads.Learnt
request_from_determined = by_equations (λ κs a x v p. (p, refl))
