-- SS type, PDU type, and what follows them by its table. Assumes nothing.
use mathlib.Core.Path.{refl, ap}
use native.Mathlib.Omega.{arith}
use Rattle.codec.specs.Parts.{seq, element, mark, only}
use Rattle.grammar.specs.SiteSheet.{ss_type, kind_refusal, pdu_type}
use Rattle.grammar.specs.Grammar.{rest_of, from_record, pdu}
use Rattle.grammar.specs.declared.record.Record.{Record}
use Rattle.grammar.proofs.Sizes.{pdu-size}
use Rattle.words.specs.RecordWords.{record_from}
use Rattle.tally.specs.Tally.{nothing}
use Rattle.tally.specs.Inner.{Fits}
use Rattle.tally.proofs.Parts.{refusing, then, shape, fits-element, fits-first, fits_next, fits-shape, tallies_as, fits_as}
use Rattle.tally.proofs.tally_record.Goals.{After-element-after_ss}
use Rattle.tally.proofs.tally_record.Goals as goal

-- no PDU is too long
fits : (r : Record) → Fits pdu r nothing
fits r = record { short = omega (arith, pdu-size r) }

-- what follows the SS type
after-ss : (c : After-element-after_ss) → let r = record_from c.args.words.now in
    Fits (seq (element 5 kind_refusal) (λ kind. rest_of (pdu_type kind))) (from_record r) c.element-after_ss.result
unfolding pdu mark
after-ss c =
    fits-shape _ _ _ _ (fits_next _ (fits-shape _ _ _ _ (fits (record_from c.args.words.now)))
    (refusing 6 (only ss_type) c.element-after_ss.ensures refl))

pub element-after_kind-requires : goal.element-after_kind-requires
element-after_kind-requires c =
    (omega arith, fits-element 5 kind_refusal (fits-first _ (after-ss (goal.at.element-after_kind-requires c).After-element-after_ss)))

pub rest-requires : goal.rest-requires
unfolding record_from
rest-requires c =
    let e = refusing 5 kind_refusal c.element-after_kind.ensures c.kind_refusal.ensures in
    (c.requires, fits_as (ap rest_of c.pdu_type.ensures) (fits_next _ (after-ss (goal.at.rest-requires c).After-element-after_ss) e))

pub returns : goal.returns
unfolding pdu mark record_from
returns c =
    let e = refusing 5 kind_refusal c.element-after_kind.ensures c.kind_refusal.ensures in
    shape _ _ _ _ (then _ (refusing 6 (only ss_type) c.element-after_ss.ensures refl)
    (shape _ _ _ _ (then _ e (tallies_as (ap rest_of c.pdu_type.ensures) c.rest.ensures))))
