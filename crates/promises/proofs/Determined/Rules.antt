-- Each public function of `rules` has one possible outcome.
use mathlib.Core.Path.{refl}
use Rattle.rules.proofs as rules
use Rattle.promises.specs.Determined.{Determined, by_equations}

pub request_refusal_determined : Determined rules.request.request_refusal.Kinds.ps
    rules.request.request_refusal.Kinds.r rules.request.request_refusal.Reads.Learnt
request_refusal_determined = by_equations (λ κs a x v p. (p, refl))

pub rule_determined : Determined rules.rule.Kinds.ps rules.rule.Kinds.r rules.rule.Reads.Learnt
rule_determined = by_equations (λ κs a x v p. (p, refl))

pub is_entry_determined : Determined rules.is_entry.Kinds.ps rules.is_entry.Kinds.r rules.is_entry.Reads.Learnt
is_entry_determined = by_equations (λ κs a x v p. (p, refl))

pub in_range_determined : Determined rules.in_range.Kinds.ps rules.in_range.Kinds.r rules.in_range.Reads.Learnt
in_range_determined = by_equations (λ κs a x v p. (p, refl))

pub is_covering_determined : Determined rules.is_covering.Kinds.ps rules.is_covering.Kinds.r rules.is_covering.Reads.Learnt
is_covering_determined = by_equations (λ κs a x v p. (p, refl))
