-- Words put into a slice of words, one part after the other.
use Rattle.std.specs.Prelude.{◌≡◌, List, ℕ, ◌+◌}
use Rattle.bits.specs.Inner.{Laid}

-- n words s, from `at` to `end`; before and after them all stays
pub record Put (words : List ℕ) (at : ℕ) (s : List ℕ) (n : ℕ) (words' : List ℕ) (end : ℕ) : Type 0 where
  pub laid : Laid words at s words' end
  pub ends : end ≡ at + n
