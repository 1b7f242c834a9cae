-- What a table holds. Assumes nothing.
use mathlib.Core.Path.{◌≡◌}
use mathlib.Core.Bool.{true}
use mathlib.Core.List.{List}
use Prim.Native.Nat.{ℕ}
use borrow.Author.Tests.{eqb-true}
use lib.ListN.{length}
use lib.Dec.{eqb}
use Rattle.bits.proofs.Tests.{both}
use Rattle.terminals.specs.Profiles.{are_profiles, is_table}

-- a table has 269 places
pub table_length : (t : List ℕ) → is_table t ≡ true → length t ≡ 269
unfolding is_table
table_length t e = eqb-true (length t) 269 (both (eqb (length t) 269) (are_profiles t) e).0
