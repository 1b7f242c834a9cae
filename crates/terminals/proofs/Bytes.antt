-- A byte at a place. Assumes nothing.
use mathlib.Core.Path.{◌≡◌}
use mathlib.Core.Bool.{false}
use mathlib.Core.List.{List, [], ◌∷◌}
use Prim.Native.Nat.{ℕ, ◌≤◌, ◌<◌}
use lib.ListN.{length, get_or, drop, drop_of_length-le}
use lib.Seq.{drop-cons}
use lib.Dec.{eqb}
use Rattle.std.specs.Str.{bytes_eq}
use Rattle.terminals.specs.Lines.{starts_comma}

module _ (s : List ℕ) (at : ℕ) where
  pub comma_at : at < length s → starts_comma (drop at s) ≡ eqb (get_or s at 0) 44
  comma_at h = rw (drop-cons s at 0 h)

  pub comma_over : length s ≤ at → starts_comma (drop at s) ≡ false
  comma_over h = rw (drop_of_length-le s h)

  pub end_over : length s ≤ at → bytes_eq (drop at s) (13 ∷ []) ≡ false
  end_over h = rw (drop_of_length-le s h)
