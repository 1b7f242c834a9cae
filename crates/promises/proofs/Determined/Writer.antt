-- Each public function of `writer` has one possible outcome.
use Rattle.writer.proofs as writer
use Rattle.promises.specs.Determined.{Determined, by_equations}

pub write_determined : Determined writer.write.Kinds.ps writer.write.Kinds.r writer.write.Reads.Learnt
write_determined = by_equations (λ κs a x v p. (p.0, λ i. (tt, (p.1 i, tt))))

pub write_words_determined : Determined writer.write_words.Kinds.ps writer.write_words.Kinds.r writer.write_words.Reads.Learnt
write_words_determined = by_equations (λ κs a x v p. (p.0, λ i. (tt, (p.1 i, tt))))
