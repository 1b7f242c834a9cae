-- The count, then as many. Assumes nothing.
use Rattle.std.proofs.Common.{rules}
use mathlib.Core.Path.{sym, ◌∙◌}
use Rattle.codec.specs.Parts.{absent}
use Rattle.codec.specs.Places.{places}
use Rattle.codec.proofs.Reading.{read_at-absent}
use Rattle.codec.proofs.Onward.{exit, found}
use Rattle.grammar.specs.SiteSheet.{between}
use Rattle.grammar.proofs.Codes.{between_le}
use Rattle.walk.specs.Inner.{pass, counted, bits_of}
use Rattle.walk.proofs.Numbers.{element-says}
use Rattle.walk.proofs.Passes.{pass-stays, pass-then, pass-places, ends-before}
use Rattle.walk.proofs.exact.Pdu.pass_counted.Goals as goal

pub returns-in_err-count : goal.returns-in_err-count
unfolding counted
returns-in_err-count g c part says =
    exit c.from_residual.ensures.1
    ∙ ends-before _ (places part absent c.args.most) _ _ (c.in_err-count.ensures (between 1 c.args.most) (λ v k p. search rules))

pub returns : goal.returns
unfolding pass counted
returns g c part says =
    let l = bits_of c.args.self in
    let most = c.args.most in
    let read = found _ (c.in_ok-count.ensures (between 1 most) (λ v k p. search rules)) in
    c.repeated.ensures (pass part l) says (pass-stays part l)
    ∙ sym (pass-places part absent 0 l (read_at-absent l) most _ _ (between_le 1 most _ (element-says _ _ _ _ read).1))
    ∙ sym (pass-then _ (places part absent most) l _ read)
