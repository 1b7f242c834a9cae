-- SS type, PDU type, and what the type says. Assumes nothing.
use Rattle.std.specs.Prelude.{Option, Ok}
use Rattle.std.proofs.Common.{rules}
use mathlib.Core.Path.{◌≡◌, sym, ap, ◌∙◌}
use Rattle.codec.specs.Parts.{only}
use Rattle.codec.specs.Reading.{Found, got, and_next, read_at, said, reached}
use Rattle.codec.proofs.Onward.{exit, goes-on, ends, goes-past, ends-there}
use Rattle.grammar.specs.SiteSheet.{ss_type, kind_refusal}
use Rattle.grammar.specs.Grammar.{identities, services, part_of}
use Rattle.grammar.specs.Rows.{users_of, services_of}
use Rattle.grammar.specs.declared.figures.Form.{Form}
use Rattle.grammar.specs.declared.site.PduType.{PduType}
use Rattle.grammar.specs.declared.site.ListKind.TheVariants as of
use Rattle.walk.specs.Inner.{bits_of, result_from, result_in}
use Rattle.walk.proofs.Lists.{users-passed, services-passed}
use Rattle.walk.proofs.Results.{steered-on, pdu-result}
use Rattle.walk.proofs.exact.Pdu.pass_pdu.Goals.{After-form_of-form, In_ok-at_figures, In_ok-steering, In_ok-at_lists}
use Rattle.walk.proofs.exact.Pdu.pass_pdu.Goals as goal

pub returns-in_err-at_kind : goal.returns-in_err-at_kind
returns-in_err-at_kind c =
    exit c.from_residual.ensures.1
    ∙ ap said (sym (pdu-result _ ∙ ends _ _ (c.in_err-at_kind.ensures (only ss_type) (λ v k p. search rules))))

pub returns-in_err-code : goal.returns-in_err-code
returns-in_err-code c =
    exit c.from_residual-in_err-code.ensures.1
    ∙ ap said (sym (pdu-result _ ∙ goes-on _ _ (c.in_ok-at_kind.ensures (only ss_type) (λ v k p. search rules))
    ∙ ends _ _ (c.in_err-code.ensures kind_refusal (λ v k p. search rules))))

-- what is left to read after the PDU type
after-kind : (c : After-form_of-form) →
    let l = bits_of c.args.self in
    let t = c.pdu_type-kind.result in
    result_in l ≡ and_next (read_at (users_of t) l c.in_ok-code.at_users.at) (λ affected p. result_from t l p)
after-kind c =
    let l = bits_of c.args.self in
    pdu-result l ∙ goes-on _ _ (c.in_ok-at_kind.ensures (only ss_type) (λ v k p. search rules))
    ∙ goes-on _ _ (c.in_ok-code.ensures kind_refusal (λ v k p. search rules))
    ∙ ap {B = Found _} (λ (t : Option PduType). and_next (read_at (users_of t) l c.in_ok-code.at_users.at) (λ affected p. result_from t l p)) (sym c.pdu_type-kind.ensures)

pub returns-in_err-at_figures : goal.returns-in_err-at_figures
returns-in_err-at_figures c =
    exit c.from_residual-in_err-at_figures.ensures.1
    ∙ ap said (sym (after-kind (goal.at.returns-in_err-at_figures c).After-form_of-form
    ∙ ends-there _ _ (c.in_err-at_figures.ensures (reached (read_at (identities of.Users) (bits_of c.args.self) c.in_ok-code.at_users.at)) (λ r p. search rules)
    ∙ users-passed c.pdu_type-kind.result (bits_of c.args.self) c.in_ok-code.at_users (ap (λ (f : Form). f.users) c.form_of-form.ensures))))

-- after the affected users
after-users : (c : In_ok-at_figures) → result_in (bits_of c.args.self) ≡ result_from c.pdu_type-kind.result (bits_of c.args.self) c.in_ok-at_figures.at_figures.at
after-users c =
    after-kind (goal.at.In_ok-at_figures c).After-form_of-form
    ∙ goes-past _ _ (c.in_ok-at_figures.ensures (reached (read_at (identities of.Users) (bits_of c.args.self) c.in_ok-code.at_users.at)) (λ r p. search rules)
    ∙ users-passed c.pdu_type-kind.result (bits_of c.args.self) c.in_ok-code.at_users (ap (λ (f : Form). f.users) c.form_of-form.ensures))

pub returns-in_err-steering : goal.returns-in_err-steering
returns-in_err-steering c =
    exit c.from_residual-in_err-steering.ensures.1
    ∙ ap said (sym (after-users (goal.at.returns-in_err-steering c).In_ok-at_figures ∙ steered-on _ _ c.pdu_type-kind.result ∙ ends _ _ c.in_err-steering.ensures))

-- after the figures
after-figures : (c : In_ok-steering) →
    let l = bits_of c.args.self in
    result_in l ≡ and_next (read_at (services_of c.pdu_type-kind.result) l c.in_ok-steering.at_services.at) (λ s q.
    and_next (read_at (part_of c.in_ok-steering.steering.part) l q) (λ lists end. got c.in_ok-steering.steering.result end))
after-figures c =
    after-users (goal.at.In_ok-steering c).In_ok-at_figures ∙ steered-on _ _ c.pdu_type-kind.result ∙ goes-on _ _ c.in_ok-steering.ensures

pub returns-in_err-at_lists : goal.returns-in_err-at_lists
returns-in_err-at_lists c =
    exit c.from_residual-in_err-at_lists.ensures.1
    ∙ ap said (sym (after-figures (goal.at.returns-in_err-at_lists c).In_ok-steering
    ∙ ends-there _ _ (c.in_err-at_lists.ensures (reached (read_at services (bits_of c.args.self) c.in_ok-steering.at_services.at)) (λ r p. search rules)
    ∙ services-passed c.pdu_type-kind.result (bits_of c.args.self) c.in_ok-steering.at_services (ap (λ (f : Form). f.services) c.form_of-form.ensures))))

-- after the services
after-services : (c : In_ok-at_lists) →
    result_in (bits_of c.args.self) ≡ and_next (read_at (part_of c.in_ok-steering.steering.part) (bits_of c.args.self) c.in_ok-at_lists.at_lists.at)
    (λ lists end. got c.in_ok-steering.steering.result end)
after-services c =
    after-figures (goal.at.In_ok-at_lists c).In_ok-steering
    ∙ goes-past _ _ (c.in_ok-at_lists.ensures (reached (read_at services (bits_of c.args.self) c.in_ok-steering.at_services.at)) (λ r p. search rules)
    ∙ services-passed c.pdu_type-kind.result (bits_of c.args.self) c.in_ok-steering.at_services (ap (λ (f : Form). f.services) c.form_of-form.ensures))

pub returns-in_err-end : goal.returns-in_err-end
returns-in_err-end c =
    exit c.from_residual-in_err-end.ensures.1
    ∙ ap said (sym (after-services (goal.at.returns-in_err-end c).In_ok-at_lists ∙ ends-there _ _ c.in_err-end.ensures))

pub returns : goal.returns
returns c = ap said (sym (after-services (goal.at.returns c).In_ok-at_lists ∙ goes-past _ _ c.in_ok-end.ensures))
