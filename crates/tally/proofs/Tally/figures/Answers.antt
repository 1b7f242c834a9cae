-- Clean and refused by their type, and as many bits as it has of them. Assumes nothing.
use mathlib.Core.Path.{◌≡◌, sym, ap, ◌∙◌}
use Prim.Native.Nat.{ℕ, ◌+◌}
use Rattle.std.specs.Prelude.{Option}
use native.Mathlib.Omega.{arith}
use Rattle.std.proofs.Common.{rules}
use lib.ListN.{length}
use Rattle.bits.proofs.Numbers.{length-bits_of}
use Rattle.codec.specs.Codec.{first}
use Rattle.grammar.specs.Rows.{width_of, figures_of, run_of}
use Rattle.grammar.specs.declared.site.PduType.{PduType}
use Rattle.grammar.specs.declared.record.Figures.{Figures}
use Rattle.grammar.proofs.Rows.{figures-print}
use Rattle.tally.proofs.Tally.figures.Goals as goal

-- as many bits as the type says
wide : (t : Option PduType) (f : Figures) → length ((figures_of t).print f) ≡ width_of t
wide t f = ap length (figures-print t f) ∙ length-bits_of (width_of t) (run_of t f)

pub overflow_add-result : goal.overflow_add-result
overflow_add-result c =
    omega (arith, c.requires.0, c.requires.1.short, wide c.args.kind c.args.figures)

pub returns : goal.returns
returns c =
    let a = c.args in
    record {
      clean = search rules;
      refusal = c.first_refusal.ensures ∙ ap (first a.self.refusal) c.figures_refusal.ensures;
      bits = ap (λ (n : ℕ). a.self.bits + n) (c.requires.0 ∙ sym (wide a.kind a.figures));
    }
