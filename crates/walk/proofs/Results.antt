-- The figures element by element, and the interrogation result, step by step as a PDU is read. Assumes nothing.
use mathlib.Core.Path.{◌≡◌, sym}
use mathlib.Core.Bool.{Bool}
use mathlib.Core.List.{List}
use Prim.Native.Nat.{ℕ}
use Rattle.std.specs.Prelude.{Option, Some, None}
use Rattle.codec.specs.Codec.{Codec}
use Rattle.codec.specs.Parts.{number, element, only}
use Rattle.codec.specs.Reading.{got, and_next, read_at}
use Rattle.codec.proofs.Reading.{and_next_assoc, read_at-seq, read_at-shaped, read_at-absent, mark-at}
use Rattle.grammar.specs.SiteSheet.{ss_type, pdu_type, kind_refusal, result_refusal, acknowledgement_refusal, between, reserved}
use Rattle.grammar.specs.Grammar.{part_of, Three, none, to_figures, figures, definition, user_definition, interrogation_result, no_figures, rest_of, to_record, pdu}
use Rattle.grammar.specs.Zero.{zero_figures}
use Rattle.grammar.specs.Rows.{users_of, figures_of, services_of, part_in}
use Rattle.grammar.specs.declared.site.PduType.{PduType}
use Rattle.grammar.specs.declared.site.PduType.TheVariants as type
use Rattle.grammar.proofs.Rows.{in_rows}
use Rattle.walk.specs.declared.exact.Steering.{Steering}
use Rattle.walk.specs.Inner.{defined_by, defined_from, steered_from, result_from, result_in}

-- ---- figures

module _ (l : List Bool) (at : ℕ) where
  pub definition-at : (part : ℕ) → defined_from definition part l at
      ≡ and_next (read_at (number 1) l at) (λ delivery at₁. and_next (read_at (element 1 (acknowledgement_refusal delivery)) l at₁) (λ asked at₂.
      defined_by part l at₂))
  unfolding defined_from defined_by figures none
  definition-at part = simp (read_at-shaped, read_at-seq, and_next_assoc, read_at-absent)

  pub user_definition-at : (part : ℕ) → defined_from user_definition part l at ≡ and_next (read_at (number 1) l at) (λ asked at₁. defined_by part l at₁)
  unfolding defined_from defined_by figures none
  user_definition-at part = simp (read_at-shaped, read_at-seq, and_next_assoc, read_at-absent)

  pub answer_at : and_next {B = Steering} (read_at interrogation_result l at) (λ f p. got (record { result = f.result; part = f.result }) p)
      ≡ and_next (read_at (element 3 result_refusal) l at) (λ result at₁. and_next (read_at (number 2) l at₁) (λ status at₂. got (record { result = result; part = result }) at₂))
  unfolding figures none
  answer_at = simp (read_at-shaped, read_at-seq, and_next_assoc, read_at-absent)

  none-at : read_at none l at ≡ got (0, (0, 0)) at
  unfolding none
  none-at = rw (read_at-seq, read_at-absent, read_at-seq, read_at-absent, read_at-absent)

  outcome-at : (o : Codec Three) → read_at (figures none none o) l at
      ≡ and_next (read_at o l at) (λ x p. got (to_figures ((0, (0, 0)), ((0, (0, 0)), x))) p)
  unfolding figures
  outcome-at o = rw (read_at-shaped, read_at-seq, none-at, read_at-seq, none-at) (simp and_next_assoc)

  no_figures-at : read_at no_figures l at ≡ got zero_figures at
  no_figures-at = rw (outcome-at none, none-at)

-- figures of one element steer nothing
abbrev pub nothing : Steering
nothing = record { result = 0; part = 0 }

module _ (l : List Bool) (at : ℕ) where
  pub asked_steers : steered_from (Some type.Interrogate) l at ≡ and_next (read_at (element 2 (between 1 3)) l at) (λ v p. got nothing p)
  unfolding steered_from figures none part_in
  asked_steers = simp (read_at-shaped, read_at-seq, and_next_assoc, read_at-absent)

  pub defined_steers : steered_from (Some type.DefineAck) l at ≡ and_next (read_at (element 3 (reserved 5 5)) l at) (λ v p. got nothing p)
  unfolding steered_from part_in
  defined_steers = rw (outcome-at l at) (simp (read_at-seq, and_next_assoc, read_at-absent))

  pub distributed_steers : steered_from (Some type.DefineUserAck) l at ≡ and_next (read_at (element 3 (reserved 2 5)) l at) (λ v p. got nothing p)
  unfolding steered_from part_in
  distributed_steers = rw (outcome-at l at) (simp (read_at-seq, and_next_assoc, read_at-absent))

  pub cause_steers : steered_from (Some type.CallBarred) l at ≡ and_next (read_at (element 2 (between 0 2)) l at) (λ v p. got nothing p)
  unfolding steered_from part_in
  cause_steers = rw (outcome-at l at) (simp (read_at-seq, and_next_assoc, read_at-absent))

  pub nothing_steers : steered_from None l at ≡ got nothing at
  unfolding steered_from part_in
  nothing_steers = rw (no_figures-at l at)

  -- what follows the figures goes on with what they steer
  pub steered-on : (t : Option PduType) → result_from t l at ≡ and_next (steered_from t l at)
      (λ x p. and_next (read_at (services_of t) l p) (λ s q. and_next (read_at (part_of x.part) l q) (λ lists end. got x.result end)))
  unfolding steered_from result_from
  steered-on t = sym (and_next_assoc (read_at (figures_of t) l at) _ _)

-- ---- the PDU

module _ (l : List Bool) (at : ℕ) where
  pub rest_at : (t : Option PduType) → read_at (rest_of t) l at ≡ and_next (read_at (users_of t) l at) (λ affected at₁.
      and_next (read_at (figures_of t) l at₁) (λ figures at₂. and_next (read_at (services_of t) l at₂) (λ services at₃.
      and_next (read_at (part_of (part_in t figures)) l at₃) (λ lists at₄. got (affected, (figures, (services, lists))) at₄))))
  rest_at t = rw (in_rows t) (simp (read_at-seq, and_next_assoc))

  pub pdu_at : read_at pdu l at ≡ and_next (read_at (element 6 (only ss_type)) l at)
      (λ ss at₁. and_next (read_at (element 5 kind_refusal) l at₁) (λ kind at₂.
      and_next (read_at (rest_of (pdu_type kind)) l at₂) (λ rest at₃. got (to_record (kind, rest)) at₃)))
  unfolding pdu
  pdu_at = simp (mark-at, read_at-shaped, read_at-seq, and_next_assoc)

-- reading a PDU begins at its first bit
pub pdu-result : (l : List Bool) → result_in l ≡ and_next (read_at (element 6 (only ss_type)) l 0)
    (λ ss at₁. and_next (read_at (element 5 kind_refusal) l at₁) (λ kind at₂.
    and_next (read_at (users_of (pdu_type kind)) l at₂) (λ affected at₃. result_from (pdu_type kind) l at₃)))
unfolding result_in result_from
pdu-result l = simp (pdu_at, rest_at, and_next_assoc)
