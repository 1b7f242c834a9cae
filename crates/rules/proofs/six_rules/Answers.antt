-- The tests are made in the order of the rules. Assumes nothing.
use mathlib.Core.Path.{◌≡◌, sym, ◌∙◌}
use mathlib.Core.Bool.{true}
use Rattle.bits.proofs.Tests.{said-no, said-yes}
use Rattle.rules.specs.Rule.{six_rules, is_outside}
use Rattle.rules.proofs.Destinations.{excepted, restricted}
use Rattle.rules.proofs.six_rules.Goals as goal

pub returns-then-not-covers : goal.returns-then-not-covers
unfolding six_rules
returns-then-not-covers c = rw (said-no c.covers.ensures c.if-not-covers.true)

pub returns-then-destination_among : goal.returns-then-destination_among
unfolding six_rules
returns-then-destination_among c =
    rw (
      said-yes c.covers.ensures c.if-not-covers.false,
      excepted _ c.args.part.lists _ _ (sym c.destination_among.ensures ∙ c.if-destination_among.true),
    )

pub returns-then-destination_among-2 : goal.returns-then-destination_among-2
unfolding six_rules
returns-then-destination_among-2 c =
    rw (
      said-yes c.covers.ensures c.if-not-covers.false,
      excepted _ c.args.part.lists _ _ (sym c.destination_among.ensures ∙ c.if-destination_among.false),
      restricted _ c.args.part.lists _ _ (sym c.destination_among-2.ensures ∙ c.if-destination_among-2.true),
    )

pub returns-then-is_outside : goal.returns-then-is_outside
unfolding six_rules
returns-then-is_outside c =
    let a = c.args in
    let outside : is_outside a.missing a.part.lists.groups a.request.group ≡ true = sym c.is_outside.ensures ∙ c.if-is_outside.true in
    rw (
      said-yes c.covers.ensures c.if-not-covers.false,
      excepted _ c.args.part.lists _ _ (sym c.destination_among.ensures ∙ c.if-destination_among.false),
      restricted _ c.args.part.lists _ _ (sym c.destination_among-2.ensures ∙ c.if-destination_among-2.false),
      outside,
    )

pub returns-then-both_empty : goal.returns-then-both_empty
unfolding six_rules
returns-then-both_empty c =
    rw (
      said-yes c.covers.ensures c.if-not-covers.false,
      excepted _ c.args.part.lists _ _ (sym c.destination_among.ensures ∙ c.if-destination_among.false),
      restricted _ c.args.part.lists _ _ (sym c.destination_among-2.ensures ∙ c.if-destination_among-2.false),
      sym c.is_outside.ensures ∙ c.if-is_outside.false,
      sym c.both_empty.ensures ∙ c.if-both_empty.true,
    )

pub returns : goal.returns
unfolding six_rules
returns c =
    rw (
      said-yes c.covers.ensures c.if-not-covers.false,
      excepted _ c.args.part.lists _ _ (sym c.destination_among.ensures ∙ c.if-destination_among.false),
      restricted _ c.args.part.lists _ _ (sym c.destination_among-2.ensures ∙ c.if-destination_among-2.false),
      sym c.is_outside.ensures ∙ c.if-is_outside.false,
      sym c.both_empty.ensures ∙ c.if-both_empty.false,
    )
