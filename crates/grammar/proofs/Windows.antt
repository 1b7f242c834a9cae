-- An identity that stands in one window of a PDU. Assumes nothing.
use mathlib.Core.Path.{◌≡◌, sym, ap, ◌∙◌}
use mathlib.Core.List.{List}
use Prim.Native.Nat.{ℕ, ◌+◌, ◌/◌, ◌%◌, ◌^◌, ◌≤◌}
use native.Mathlib.Omega.{arith}
use lib.ListN.{length}
use lib.Pow.{shr_mod}
use Rattle.bits.specs.Frame.{bits_in}
use Rattle.bits.specs.Element.{window_at}
use Rattle.bits.proofs.Windows.{window_lt}
use Rattle.codec.specs.Parts.{number}
use Rattle.codec.specs.Reading.{Found, got, and_next, read_at}
use Rattle.codec.proofs.Reading.{read_at-absent}
use Rattle.codec.proofs.Windows.{number_in_window}
use Rattle.grammar.specs.Grammar.{extension, identity}
use Rattle.grammar.specs.declared.record.Identity.{Identity}
use Rattle.grammar.proofs.Steps.{identity-at}

-- an identity without an extension and one with it, in the window at their place
abbrev pub plain_in : ℕ → Identity
plain_in v = record { ssi = v / 2 ^ 33; present = 0; extension = 0 }

abbrev pub wide_in : ℕ → Identity
wide_in v = record { ssi = v / 2 ^ 33; present = 1; extension = v / 2 ^ 8 % 2 ^ 24 }

module _ (s : List ℕ) (n at : ℕ) {v : ℕ} (e : v ≡ window_at s at) (there : at + 25 ≤ length (bits_in n s)) where
  ssi-there : read_at (number 24) (bits_in n s) at ≡ got (v / 2 ^ 33) (at + 24)
  ssi-there =
      number_in_window s n at 0 24 at (at + 24) (omega arith) (omega arith) (omega arith) (omega arith) (omega arith)
      ∙ ap {B = Found ℕ} (λ (x : ℕ). got x (at + 24)) (shr_mod 24 33 (window_lt s at) ∙ ap (λ (x : ℕ). x / 2 ^ 33) (sym e))

  present-there : read_at (number 1) (bits_in n s) (at + 24) ≡ got (v / 2 ^ 32 % 2) (at + 25)
  present-there = rw e (number_in_window s n at 24 1 (at + 24) (at + 25) (omega arith) (omega arith) (omega arith) (omega arith) (omega arith))

  pub up-to-extension : read_at identity (bits_in n s) at ≡ and_next (read_at (extension (v / 2 ^ 32 % 2)) (bits_in n s) (at + 25)) (λ ext p.
      got (record { ssi = v / 2 ^ 33; present = v / 2 ^ 32 % 2; extension = ext }) p)
  up-to-extension = identity-at (bits_in n s) at ∙ rw (ssi-there, present-there)

  pub identity-plain : v / 2 ^ 32 % 2 ≡ 0 → read_at identity (bits_in n s) at ≡ got (plain_in v) (at + 25)
  unfolding extension
  identity-plain h = up-to-extension ∙ rw (h, read_at-absent)

  pub identity-wide : v / 2 ^ 32 % 2 ≡ 1 → at + 49 ≤ length (bits_in n s) → read_at identity (bits_in n s) at ≡ got (wide_in v) (at + 49)
  unfolding extension
  identity-wide h wide =
      let ext : read_at (number 24) (bits_in n s) (at + 25) ≡ got (v / 2 ^ 8 % 2 ^ 24) (at + 49) =
      rw e (number_in_window s n at 25 24 (at + 25) (at + 49) (omega arith) (omega arith) (omega arith) (omega arith) wide) in
      up-to-extension ∙ rw (h, ext)
