-- Where an identity ends, by its present bit alone. Assumes nothing.
use mathlib.Core.Path.{◌≡◌, refl, sym, ◌∙◌}
use mathlib.Core.Bool.{false}
use mathlib.Core.List.{List}
use Prim.Native.Nat.{ℕ, zero, suc, ◌+◌, ◌*◌, ◌/◌, ◌%◌, ◌^◌, ◌≤◌}
use native.Mathlib.Omega.{arith}
use lib.ListN.{length, take, drop}
use Rattle.bits.specs.Bits.{bits, value}
use Rattle.bits.specs.Element.{window_at}
use Rattle.bits.proofs.Bytes.{length-bits}
use Rattle.bits.proofs.Numbers.{value-take-fits}
use Rattle.bits.proofs.Windows.{window-part}
use Rattle.grammar.specs.Grammar.{identity}
use Rattle.grammar.specs.declared.record.Identity as entry
use Rattle.reader.specs.Inner.{Read, Reads}
use Rattle.reader.proofs.Elements.{identity-short, plain-read, wide_read}
use Rattle.in_place.specs.Inner.{Says}
use Rattle.in_place.proofs.Splits.{read-once}

module _ (s : List ℕ) (at : ℕ) {e : entry.Identity} {end : ℕ} (r : Read identity (bits s) at e end) where
  here : Reads identity (bits s) at
  here = record { value = e; end = end; read = r }

  by_present : (b : ℕ) → window_at s at / 2 ^ 32 % 2 ≡ b → b ≤ 1 → end ≡ at + 25 + 24 * b
  by_present zero p h = (read-once r (record { same = plain-read s at here refl p })).1 ∙ omega arith
  by_present (suc zero) p h = (read-once r (record { same = wide_read s at here refl p })).1 ∙ omega arith
  by_present (suc (suc b)) p h = absurd (omega arith)

  -- by the bit behind its SSI
  pub identity-end : {b : ℕ} → b ≡ value (take 1 (drop (at + 24) (bits s))) → end ≡ at + 25 + 24 * b
  identity-end {b} is =
      let small = value-take-fits 1 1 (drop (at + 24) (bits s)) (omega arith) in
      by_present b (window-part s at 24 1 (omega arith) (omega (arith, length-bits s, identity-short s at here)) ∙ sym is) (omega (arith, is))

-- one in which nothing is looked for
pub passes : (s : List ℕ) (at : ℕ) → Reads identity (bits s) at → {b : ℕ} → b ≡ value (take 1 (drop (at + 24) (bits s)))
    → Says identity (λ e. false) (bits s) at false (at + 25 + 24 * b)
passes s at r is = record { value = r.value; read = rw (identity-end s at r.read is) at r.read; says = refl }
