-- Each type has its figures. Assumes nothing.
use mathlib.Core.Path.{sym, ap, ◌∙◌}
use Rattle.codec.specs.Reading.{said}
use Rattle.codec.proofs.Onward.{exit, goes-past, ends-there}
use Rattle.grammar.specs.Rows.{part_in}
use Rattle.walk.specs.Inner.{steered_from, defined_from}
use Rattle.walk.proofs.Results.{asked_steers, defined_steers, distributed_steers, cause_steers, nothing_steers}
use Rattle.walk.proofs.exact.Pdu.pass_figures.Goals as goal

pub returns-in-Define : goal.returns-in-Define
unfolding steered_from defined_from part_in
returns-in-Define c = rw (c.in-Some.is, c.in-Define.is) c.pass_definition.ensures

pub returns-in_err-pass_outcome-in-DefineAck : goal.returns-in_err-pass_outcome-in-DefineAck
returns-in_err-pass_outcome-in-DefineAck c =
    exit c.from_residual.ensures.1
    ∙ rw (c.in-Some.is, c.in-DefineAck.is) (ap said (sym (defined_steers _ _ ∙ ends-there _ _ c.in_err-pass_outcome-in-DefineAck.ensures)))

pub returns-in_ok-pass_outcome-in-DefineAck : goal.returns-in_ok-pass_outcome-in-DefineAck
returns-in_ok-pass_outcome-in-DefineAck c =
    rw (c.in-Some.is, c.in-DefineAck.is) (ap said (sym (defined_steers _ _ ∙ goes-past _ _ c.in_ok-pass_outcome-in-DefineAck.ensures)))

pub returns-in-DefineExternal : goal.returns-in-DefineExternal
unfolding steered_from defined_from part_in
returns-in-DefineExternal c = rw (c.in-Some.is, c.in-DefineExternal.is) c.pass_definition-in-DefineExternal.ensures

pub returns-in-DefineUser : goal.returns-in-DefineUser
unfolding steered_from defined_from part_in
returns-in-DefineUser c = rw (c.in-Some.is, c.in-DefineUser.is) c.pass_user_definition.ensures

pub returns-in_err-pass_outcome-in-DefineUserAck : goal.returns-in_err-pass_outcome-in-DefineUserAck
returns-in_err-pass_outcome-in-DefineUserAck c =
    exit c.from_residual-in_err-pass_outcome-in-DefineUserAck.ensures.1
    ∙ rw (c.in-Some.is, c.in-DefineUserAck.is) (ap said (sym (distributed_steers _ _ ∙ ends-there _ _ c.in_err-pass_outcome-in-DefineUserAck.ensures)))

pub returns-in_ok-pass_outcome-in-DefineUserAck : goal.returns-in_ok-pass_outcome-in-DefineUserAck
returns-in_ok-pass_outcome-in-DefineUserAck c =
    rw (c.in-Some.is, c.in-DefineUserAck.is) (ap said (sym (distributed_steers _ _ ∙ goes-past _ _ c.in_ok-pass_outcome-in-DefineUserAck.ensures)))

pub returns-in-DefineExternalUser : goal.returns-in-DefineExternalUser
unfolding steered_from defined_from part_in
returns-in-DefineExternalUser c = rw (c.in-Some.is, c.in-DefineExternalUser.is) c.pass_user_definition-in-DefineExternalUser.ensures

pub returns-in_err-pass_choice-in-Interrogate : goal.returns-in_err-pass_choice-in-Interrogate
returns-in_err-pass_choice-in-Interrogate c =
    exit c.from_residual-in_err-pass_choice-in-Interrogate.ensures.1
    ∙ rw (c.in-Some.is, c.in-Interrogate.is) (ap said (sym (asked_steers _ _ ∙ ends-there _ _ c.in_err-pass_choice-in-Interrogate.ensures)))

pub returns-in_ok-pass_choice-in-Interrogate : goal.returns-in_ok-pass_choice-in-Interrogate
returns-in_ok-pass_choice-in-Interrogate c =
    rw (c.in-Some.is, c.in-Interrogate.is) (ap said (sym (asked_steers _ _ ∙ goes-past _ _ c.in_ok-pass_choice-in-Interrogate.ensures)))

pub returns-in-InterrogateAck : goal.returns-in-InterrogateAck
returns-in-InterrogateAck c = rw (c.in-Some.is, c.in-InterrogateAck.is) c.pass_answer.ensures

pub returns-in_err-pass_choice-in-CallBarred : goal.returns-in_err-pass_choice-in-CallBarred
returns-in_err-pass_choice-in-CallBarred c =
    exit c.from_residual-in_err-pass_choice-in-CallBarred.ensures.1
    ∙ rw (c.in-Some.is, c.in-CallBarred.is) (ap said (sym (cause_steers _ _ ∙ ends-there _ _ c.in_err-pass_choice-in-CallBarred.ensures)))

pub returns-in_ok-pass_choice-in-CallBarred : goal.returns-in_ok-pass_choice-in-CallBarred
returns-in_ok-pass_choice-in-CallBarred c =
    rw (c.in-Some.is, c.in-CallBarred.is) (ap said (sym (cause_steers _ _ ∙ goes-past _ _ c.in_ok-pass_choice-in-CallBarred.ensures)))

pub returns-in_default : goal.returns-in_default
returns-in_default c = rw c.in_default.is (ap said (sym (nothing_steers _ _)))
