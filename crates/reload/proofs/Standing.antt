-- The PDU of a held part is legal if the lists of the part stand in it, and those of every legal DEFINE and DEFINE EXTERNAL do. Assumes nothing.
use mathlib.Core.Path.{◌≡◌, refl, subst, ◌∙◌}
use mathlib.Core.Bool.{true, ◌&&◌}
use Prim.Native.Nat.{ℕ}
use native.Mathlib.Omega.{arith}
use lib.Dec.{leb}
use Rattle.bits.proofs.Tests.{both}
use Rattle.codec.specs.Codec.{Codec, Legal}
use Rattle.codec.specs.Parts.{element, number, absent, tested, shaped, seq}
use Rattle.codec.proofs.Legality.{legal-seq, pair-legal, shaped-legal, element-legal, mark-legal}
use Rattle.grammar.specs.SiteSheet.{ss_type, pdu_type, kind_refusal, defined_part}
use Rattle.grammar.specs.Grammar.{identities, services, part_of, none, figures, definition, Rest, from_record, pdu}
use Rattle.grammar.specs.Figures.{of_definition}
use Rattle.grammar.specs.Rows.{form_of, part_in, rowed}
use Rattle.grammar.specs.declared.site.ListKind.TheVariants as of
use Rattle.grammar.specs.declared.record.Record.{Record}
use Rattle.grammar.proofs.Rows.{in_rows, definition-fault}
use Rattle.pdu.proofs.Accepted.{row-legal}
use Rattle.reload.specs.Define.{is_definition, kind_of, part_for, define_of, stands}
use Rattle.reload.specs.declared.Definition.{Definition}
use Rattle.reload.specs.declared.Target.{Target}
use Rattle.reload.specs.declared.Target.TheVariants.{Define, DefineExternal}
use Rattle.reload.proofs.Parts.{part-lists, all-stand}

-- tables 10 and 12, which differ in the part whose lists they have
abbrev table_of : Target → Codec Rest
table_of t = seq (identities of.Users) (λ u. seq definition (λ f. seq services (λ s. part_of (defined_part (part_for t) f.definition))))

table_is : (t : Target) → rowed (pdu_type (kind_of t)) ≡ table_of t
unfolding pdu_type form_of part_in
table_is Define = refl
table_is DefineExternal = refl

of-kind : (r : Record) → Legal pdu r → {k : ℕ} → r.kind ≡ k → Legal (rowed (pdu_type k)) (from_record r).1
of-kind r h e = subst (λ (k : ℕ). Legal (rowed (pdu_type k)) (from_record r).1) e (row-legal r h)

-- ---- the lists of a legal PDU stand

pub define-stands : (t : Target) (x : Record) → Legal pdu x → x.kind ≡ kind_of t → stands t x.figures.definition x.lists ≡ true
define-stands t x h e =
    let p = subst (λ (c : Codec Rest). Legal c (from_record x).1) (table_is t) (of-kind x h e) in
    let s = legal-seq _ _ _ (legal-seq _ _ _ (legal-seq _ _ _ p).1).1 in
    all-stand _ x.lists s.1

-- ---- the PDU of a held part is legal

definition-legal : (d : Definition) → is_definition d ≡ true → Legal definition (of_definition d.delivery d.acknowledgement d.definition)
unfolding is_definition figures none shaped seq absent element tested number
definition-legal d e =
    let p = both (leb d.definition 2) (leb d.delivery 1 && leb d.acknowledgement d.delivery) e in
    let q = both (leb d.delivery 1) (leb d.acknowledgement d.delivery) p.1 in
    record { clean = refl; faultless = definition-fault (of_definition d.delivery d.acknowledgement d.definition) ∙ rw (q.0, q.1, p.0) }

kind-legal : (t : Target) → Legal (element 5 kind_refusal) (kind_of t)
kind-legal Define = element-legal 5 kind_refusal (omega arith) refl
kind-legal DefineExternal = element-legal 5 kind_refusal (omega arith) refl

pub define-legal : (t : Target) (d : Definition) (r : Record) → Legal pdu r → r.kind ≡ 12 → is_definition d ≡ true
    → stands t d.definition r.lists ≡ true → Legal pdu (define_of t d r)
unfolding pdu define_of pdu_type form_of part_in
define-legal t d r h k asked e =
    let u = legal-seq _ _ _ (of-kind r h k) in
    let s = legal-seq _ _ _ (legal-seq _ _ _ u.1).1 in
    mark-legal 6 ss_type _ refl (shaped-legal _ _ _ _ _ (pair-legal _ _ _ (kind-legal t)
    (rw (in_rows (pdu_type (kind_of t)), table_is t) (pair-legal _ _ _ u.0 (pair-legal _ _ _ (definition-legal d asked)
    (pair-legal _ _ _ s.0 (part-lists r.figures.result _ r.lists s.1 e)))))))
