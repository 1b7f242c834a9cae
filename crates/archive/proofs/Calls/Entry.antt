-- The entry at an index stands behind the header and the entries before it. Assumes nothing.
use Rattle.std.specs.Prelude.{Err, Ok, None}
use mathlib.Core.Path.{◌≡◌, refl, ap, ◌∙◌}
use mathlib.Core.Bool.{true}
use mathlib.Core.List.{List}
use Prim.Native.Nat.{ℕ, zero, suc, ◌+◌, ◌*◌, ◌≤◌, ◌<◌}
use native.Mathlib.Nat.{not-suc-le-zero}
use native.Mathlib.Omega.{arith}
use Rattle.archive.specs.Model.{header_width, entry_width}
use Rattle.archive.specs.Reading.{count_of, entry_at, size_at, held_from, bodies_at, reading, is_archive}
use Rattle.archive.specs.Refusals.{plain}
use Rattle.archive.specs.Checking.{check_is}
use Rattle.archive.specs.Restoring.{held_nth, listed_as, entry_is}
use Rattle.archive.specs.declared.refusal.Refusal.{Refusal}
use Rattle.archive.proofs.Model.Checked.{archive_checked}

at-index : (b : List ℕ) (n at off i : ℕ) → i < n → listed_as (held_nth (held_from b n at off) i) ≡ Ok (entry_at b (at + entry_width * i))
unfolding held_from held_nth
at-index b zero at off i h = absurd (not-suc-le-zero h)
at-index b (suc n) at off zero h = let here : at ≡ at + entry_width * 0 = omega arith in ap (λ (p : ℕ). Ok (entry_at b p)) here
at-index b (suc n) at off (suc i) h =
    let next : at + entry_width + entry_width * i ≡ at + entry_width * suc i = omega arith in
    at-index b n (at + entry_width) (off + size_at b at) i (omega arith) ∙ ap (λ (p : ℕ). Ok (entry_at b p)) next

beyond : (b : List ℕ) (n at off i : ℕ) → n ≤ i → held_nth (held_from b n at off) i ≡ None
unfolding held_from held_nth
beyond b zero at off i h = refl
beyond b (suc n) at off zero h = absurd (not-suc-le-zero h)
beyond b (suc n) at off (suc i) h = beyond b n (at + entry_width) (off + size_at b at) i (omega arith)

module _ (b : List ℕ) (i : ℕ) where
  pub no-archive : {f : Refusal} → check_is b ≡ Err f → entry_is b i ≡ Err f
  unfolding entry_is
  no-archive e = rw e

  pub entry_read : is_archive b ≡ true → i < count_of b → entry_is b i ≡ Ok (entry_at b (header_width + entry_width * i))
  unfolding entry_is reading
  entry_read ok h = rw (archive_checked b ok) (at-index b (count_of b) header_width (bodies_at b) i h)

  pub no-entry : is_archive b ≡ true → count_of b ≤ i → entry_is b i ≡ Err (plain 11)
  unfolding entry_is reading
  no-entry ok h = rw (archive_checked b ok) (ap listed_as (beyond b (count_of b) header_width (bodies_at b) i h))
