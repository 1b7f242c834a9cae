-- A line read, field after field: each step of the definition by what stands there. Assumes nothing.
use mathlib.Core.Path.{◌≡◌}
use mathlib.Core.Bool.{Bool, true, false}
use mathlib.Core.List.{List}
use Prim.Native.Nat.{ℕ}
use lib.ListN.{take}
use Rattle.std.specs.Prelude.{Some, None, option_map}
use Rattle.std.specs.Str.{bytes_eq}
use Rattle.bits.specs.Bits.{guard}
use Rattle.text.specs.Field.{field_at}
use Rattle.terminals.specs.Lines.{set_word, read_line, fields_of, ends_at, next_field, last_from, third_from, set_from, line_of}
use Rattle.terminals.specs.declared.lines.Line.TheVariants.{Read, Set}

module _ (s : List ℕ) (profile layer at : ℕ) where
  pub third-none : next_field s at ≡ None → third_from s profile layer at ≡ None
  unfolding third_from
  third-none e = rw e

  pub third-ends : {p : ℕ × ℕ} → next_field s at ≡ Some p → ends_at s p.1 ≡ true
      → third_from s profile layer at ≡ Some (fields_of profile layer (Some p.0) false)
  unfolding third_from
  third-ends e k = rw (e, k)

  pub fourth-none : {p : ℕ × ℕ} → next_field s at ≡ Some p → ends_at s p.1 ≡ false → next_field s p.1 ≡ None
      → third_from s profile layer at ≡ None
  unfolding third_from
  fourth-none e k f = rw (e, k, f)

  pub fourth-is : {p q : ℕ × ℕ} {b : Bool} → next_field s at ≡ Some p → ends_at s p.1 ≡ false → next_field s p.1 ≡ Some q → ends_at s q.1 ≡ b
      → third_from s profile layer at ≡ guard b None (Some (fields_of profile layer (Some p.0) true))
  unfolding third_from last_from
  fourth-is e k f h = rw (e, k, f, h)

module _ (s : List ℕ) where
  pub first-none : field_at s 8 3 ≡ None → set_from s ≡ None
  unfolding set_from
  first-none e = rw e

  pub second_none : {p : ℕ × ℕ} → field_at s 8 3 ≡ Some p → next_field s p.1 ≡ None → set_from s ≡ None
  unfolding set_from
  second_none e f = rw (e, f)

  pub second-ends : {p q : ℕ × ℕ} → field_at s 8 3 ≡ Some p → next_field s p.1 ≡ Some q → ends_at s q.1 ≡ true
      → set_from s ≡ Some (fields_of p.0 q.0 None false)
  unfolding set_from
  second-ends e f k = rw (e, f, k)

  pub goes_on : {p q : ℕ × ℕ} → field_at s 8 3 ≡ Some p → next_field s p.1 ≡ Some q → ends_at s q.1 ≡ false
      → set_from s ≡ third_from s p.0 q.0 q.1
  unfolding set_from
  goes_on e f k = rw (e, f, k)

  pub reads-read : bytes_eq s read_line ≡ true → line_of s ≡ Some Read
  unfolding line_of
  reads-read e = rw e

  pub reads_none : bytes_eq s read_line ≡ false → bytes_eq (take 8 s) set_word ≡ false → line_of s ≡ None
  unfolding line_of
  reads_none e f = rw (e, f)

  pub reads-set : bytes_eq s read_line ≡ false → bytes_eq (take 8 s) set_word ≡ true → line_of s ≡ option_map Set (set_from s)
  unfolding line_of
  reads-set e f = rw (e, f)
