-- The range type, then its entries. Assumes nothing.
use Rattle.std.proofs.Common.{rules}
use mathlib.Core.Path.{sym, ◌∙◌}
use Rattle.codec.proofs.Onward.{exit, found}
use Rattle.grammar.specs.SiteSheet.{range_refusal}
use Rattle.walk.specs.Inner.{pass, listed}
use Rattle.walk.proofs.Passes.{pass-then, ends-before}
use Rattle.walk.proofs.exact.Pdu.pass_list.Goals as goal

pub returns-in_err-code : goal.returns-in_err-code
unfolding listed
returns-in_err-code g c =
    exit c.from_residual.ensures.1
    ∙ ends-before _ g.E.Listed.entries _ _ (c.in_err-code.ensures (range_refusal c.args.list) (λ v k p. search rules))

pub returns : goal.returns
unfolding pass listed
returns g c =
    c.pass_entries.ensures
    ∙ sym (pass-then _ g.E.Listed.entries _ _ (found _ (c.in_ok-code.ensures (range_refusal c.args.list) (λ v k p. search rules))))
