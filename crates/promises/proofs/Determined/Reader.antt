-- Each public function of `reader` has one possible outcome.
use mathlib.Core.Path.{refl}
use Rattle.reader.proofs as reader
use Rattle.promises.specs.Determined.{Determined, by_equations}

pub read_determined : Determined reader.read.Kinds.ps reader.read.Kinds.r reader.read.Reads.Learnt
read_determined = by_equations (λ κs a x v p. (p, refl))

pub read_words_determined : Determined reader.read_words.Kinds.ps reader.read_words.Kinds.r reader.read_words.Reads.Learnt
read_words_determined = by_equations (λ κs a x v p. (p.0, λ i. (tt, (tt, (p.1 i, tt)))))
