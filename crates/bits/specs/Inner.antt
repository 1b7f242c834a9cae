-- Elements laid in a buffer, one part after the other.
use Rattle.std.specs.Prelude.{◌≡◌, List, ℕ, ◌+◌, length}
use Rattle.bits.specs.Bits.{splice}

-- from `at` to `end` the buffer has s, and before and after that what it had
pub record Laid {A : Type 0} (out : List A) (at : ℕ) (s out' : List A) (end : ℕ) : Type 0 where
  pub ends : end ≡ at + length s
  pub same : out' ≡ splice out at s
