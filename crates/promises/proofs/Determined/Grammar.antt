-- Each public function of `grammar` has one possible outcome.
use mathlib.Core.Path.{refl}
use Rattle.grammar.proofs as grammar
use Rattle.promises.specs.Determined.{Determined, by_equations}

pub ss_refusal_determined : Determined grammar.site.ss_refusal.Kinds.ps grammar.site.ss_refusal.Kinds.r grammar.site.ss_refusal.Reads.Learnt
ss_refusal_determined = by_equations (λ κs a x v p. (p, refl))

pub row_of_determined : Determined grammar.site.row_of.Kinds.ps grammar.site.row_of.Kinds.r grammar.site.row_of.Reads.Learnt
row_of_determined = by_equations (λ κs a x v p. (p, refl))

pub range_type_determined : Determined grammar.site.range_type.Kinds.ps grammar.site.range_type.Kinds.r grammar.site.range_type.Reads.Learnt
range_type_determined = by_equations (λ κs a x v p. (p, refl))

pub entries_of_determined : Determined grammar.site.entries_of.Kinds.ps grammar.site.entries_of.Kinds.r grammar.site.entries_of.Reads.Learnt
entries_of_determined = by_equations (λ κs a x v p. (p, refl))

pub range_refusal_determined : Determined grammar.site.range_refusal.Kinds.ps grammar.site.range_refusal.Kinds.r grammar.site.range_refusal.Reads.Learnt
range_refusal_determined = by_equations (λ κs a x v p. (p, refl))

pub digit_of_determined : Determined grammar.site.digit_of.Kinds.ps grammar.site.digit_of.Kinds.r grammar.site.digit_of.Reads.Learnt
digit_of_determined = by_equations (λ κs a x v p. (p, refl))

pub digit_refusal_determined : Determined grammar.site.digit_refusal.Kinds.ps grammar.site.digit_refusal.Kinds.r grammar.site.digit_refusal.Reads.Learnt
digit_refusal_determined = by_equations (λ κs a x v p. (p, refl))

pub service_of_determined : Determined grammar.site.service_of.Kinds.ps grammar.site.service_of.Kinds.r grammar.site.service_of.Reads.Learnt
service_of_determined = by_equations (λ κs a x v p. (p, refl))

pub service_refusal_determined : Determined grammar.site.service_refusal.Kinds.ps grammar.site.service_refusal.Kinds.r grammar.site.service_refusal.Reads.Learnt
service_refusal_determined = by_equations (λ κs a x v p. (p, refl))

pub pdu_type_determined : Determined grammar.site.pdu_type.Kinds.ps grammar.site.pdu_type.Kinds.r grammar.site.pdu_type.Reads.Learnt
pdu_type_determined = by_equations (λ κs a x v p. (p, refl))

pub kind_refusal_determined : Determined grammar.site.kind_refusal.Kinds.ps grammar.site.kind_refusal.Kinds.r grammar.site.kind_refusal.Reads.Learnt
kind_refusal_determined = by_equations (λ κs a x v p. (p, refl))

pub reserved_refusal_determined : Determined grammar.site.reserved_refusal.Kinds.ps grammar.site.reserved_refusal.Kinds.r grammar.site.reserved_refusal.Reads.Learnt
reserved_refusal_determined = by_equations (λ κs a x v p. (p, refl))

pub defined_part_determined : Determined grammar.site.defined_part.Kinds.ps grammar.site.defined_part.Kinds.r grammar.site.defined_part.Reads.Learnt
defined_part_determined = by_equations (λ κs a x v p. (p, refl))

pub between_refusal_determined : Determined grammar.site.between_refusal.Kinds.ps grammar.site.between_refusal.Kinds.r grammar.site.between_refusal.Reads.Learnt
between_refusal_determined = by_equations (λ κs a x v p. (p, refl))

pub ends_refusal_determined : Determined grammar.site.ends_refusal.Kinds.ps grammar.site.ends_refusal.Kinds.r grammar.site.ends_refusal.Reads.Learnt
ends_refusal_determined = by_equations (λ κs a x v p. (p, refl))

pub network_of_determined : Determined grammar.site.network_of.Kinds.ps grammar.site.network_of.Kinds.r grammar.site.network_of.Reads.Learnt
network_of_determined = by_equations (λ κs a x v p. (p, refl))

pub are_digits_determined : Determined grammar.site.are_digits.Kinds.ps grammar.site.are_digits.Kinds.r grammar.site.are_digits.Reads.Learnt
are_digits_determined = by_equations (λ κs a x v p. (p, refl))

pub form_of_determined : Determined grammar.figures.form_of.Kinds.ps grammar.figures.form_of.Kinds.r grammar.figures.form_of.Reads.Learnt
form_of_determined = by_equations (λ κs a x v p. (p, refl))

pub part_in_determined : Determined grammar.figures.part_in.Kinds.ps grammar.figures.part_in.Kinds.r grammar.figures.part_in.Reads.Learnt
part_in_determined = by_equations (λ κs a x v p. (p, refl))

pub figures_in_determined : Determined grammar.figures.figures_in.Kinds.ps grammar.figures.figures_in.Kinds.r grammar.figures.figures_in.Reads.Learnt
figures_in_determined = by_equations (λ κs a x v p. (p, refl))

pub figures_refusal_determined : Determined grammar.figures.figures_refusal.Kinds.ps grammar.figures.figures_refusal.Kinds.r grammar.figures.figures_refusal.Reads.Learnt
figures_refusal_determined = by_equations (λ κs a x v p. (p, refl))

pub figures_clean_determined : Determined grammar.figures.figures_clean.Kinds.ps grammar.figures.figures_clean.Kinds.r grammar.figures.figures_clean.Reads.Learnt
figures_clean_determined = by_equations (λ κs a x v p. (p, refl))

pub figures_run_determined : Determined grammar.figures.figures_run.Kinds.ps grammar.figures.figures_run.Kinds.r grammar.figures.figures_run.Reads.Learnt
figures_run_determined = by_equations (λ κs a x v p. (p, refl))

pub zero_identities_determined : Determined grammar.zero.zero_identities.Kinds.ps grammar.zero.zero_identities.Kinds.r grammar.zero.zero_identities.Reads.Learnt
zero_identities_determined = by_equations (λ κs a x v p. (p, refl))

pub zero_numbers_determined : Determined grammar.zero.zero_numbers.Kinds.ps grammar.zero.zero_numbers.Kinds.r grammar.zero.zero_numbers.Reads.Learnt
zero_numbers_determined = by_equations (λ κs a x v p. (p, refl))

pub zero_figures_determined : Determined grammar.zero.zero_figures.Kinds.ps grammar.zero.zero_figures.Kinds.r grammar.zero.zero_figures.Reads.Learnt
zero_figures_determined = by_equations (λ κs a x v p. (p, refl))

pub zero_services_determined : Determined grammar.zero.zero_services.Kinds.ps grammar.zero.zero_services.Kinds.r grammar.zero.zero_services.Reads.Learnt
zero_services_determined = by_equations (λ κs a x v p. (p, refl))

pub zero_lists_determined : Determined grammar.zero.zero_lists.Kinds.ps grammar.zero.zero_lists.Kinds.r grammar.zero.zero_lists.Reads.Learnt
zero_lists_determined = by_equations (λ κs a x v p. (p, refl))

pub zero_record_determined : Determined grammar.zero.zero_record.Kinds.ps grammar.zero.zero_record.Kinds.r grammar.zero.zero_record.Reads.Learnt
zero_record_determined = by_equations (λ κs a x v p. (p, refl))
