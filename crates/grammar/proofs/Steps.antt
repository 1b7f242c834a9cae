-- Each part of a PDU as its elements, in the order in which a reader takes them. Assumes nothing.
use mathlib.Core.Path.{◌≡◌}
use mathlib.Core.Bool.{Bool}
use mathlib.Core.List.{List}
use Prim.Native.Nat.{ℕ}
use Rattle.codec.specs.Parts.{number, absent, element, tested}
use Rattle.codec.specs.Places.{places}
use Rattle.codec.specs.Reading.{got, and_next, read_at}
use Rattle.codec.proofs.Reading.{and_next_assoc, read_at-seq, read_at-absent, read_at-shaped}
use Rattle.codec.proofs.Filling.{places-rest}
use Rattle.grammar.specs.SiteSheet.{entries_of, range_refusal, digit_refusal, service_refusal, count_refusal, length_refusal}
use Rattle.grammar.specs.Grammar.{extension, identity, no_identity, zero_identity, range_ends, second_end, identities, no_identities, external}
use Rattle.grammar.specs.Grammar.{no_external, externals, no_externals, services, no_services, identity_part, number_part, no_part}
use Rattle.grammar.specs.Zero.{zero_identities, zero_number, zero_numbers, zero_services, zero_lists}
use Rattle.grammar.specs.declared.record.Identities.{Identities}
use Rattle.grammar.specs.declared.record.Numbers.{Numbers}
use Rattle.grammar.specs.declared.record.Lists.{Lists}
use Rattle.grammar.specs.declared.site.ListKind.{ListKind}
use Rattle.grammar.specs.declared.site.ListKind.TheVariants as of

module _ (s : List Bool) (at : ℕ) where
  pub identity-at : read_at identity s at ≡ and_next (read_at (number 24) s at) (λ ssi at₁. and_next (read_at (number 1) s at₁) (λ present at₂.
      and_next (read_at (extension present) s at₂) (λ ext at₃. got (record { ssi = ssi; present = present; extension = ext }) at₃)))
  unfolding identity
  identity-at = simp (read_at-shaped, read_at-seq, and_next_assoc)

  pub no_identity-at : read_at no_identity s at ≡ got zero_identity at
  unfolding no_identity
  no_identity-at = simp (read_at-shaped, read_at-seq, read_at-absent)

  pub identities-at : (list : ListKind) → read_at (identities list) s at ≡ and_next (read_at (element 4 (range_refusal list)) s at) (λ code at₁.
      and_next (read_at (tested (places identity no_identity 8 (entries_of code)) (range_ends code) second_end) s at₁) (λ entries at₂.
      got (record { code = code; entries = entries }) at₂))
  unfolding identities
  identities-at list = simp (read_at-shaped, read_at-seq, and_next_assoc)

  pub external-at : read_at external s at ≡ and_next (read_at (element 5 length_refusal) s at) (λ length at₁.
      and_next (read_at (places (element 4 digit_refusal) absent 24 length) s at₁) (λ digits at₂.
      got (record { length = record { 0 = length }; digits = digits }) at₂))
  unfolding external
  external-at = simp (read_at-shaped, read_at-seq, and_next_assoc)

  pub no_external-at : read_at no_external s at ≡ got zero_number at
  unfolding no_external
  no_external-at = simp (read_at-shaped, read_at-seq, read_at-absent, places-rest absent absent s 0 (read_at-absent s) 24)

  pub externals-at : read_at externals s at ≡ and_next (read_at (element 4 (range_refusal of.Numbers)) s at) (λ code at₁.
      and_next (read_at (places external no_external 8 (entries_of code)) s at₁) (λ entries at₂.
      got (record { code = code; entries = entries }) at₂))
  unfolding externals
  externals-at = simp (read_at-shaped, read_at-seq, and_next_assoc)

  pub services-at : read_at services s at ≡ and_next (read_at (element 3 count_refusal) s at) (λ count at₁.
      and_next (read_at (places (element 3 service_refusal) absent 7 count) s at₁) (λ list at₂.
      got (record { count = count; list = list }) at₂))
  unfolding services
  services-at = simp (read_at-shaped, read_at-seq, and_next_assoc)

-- ---- lists and services that the PDU does not carry

module _ (s : List Bool) (at : ℕ) where
  pub no_identities-at : read_at no_identities s at ≡ got zero_identities at
  unfolding no_identities
  no_identities-at = simp (read_at-shaped, read_at-seq, read_at-absent, places-rest no_identity no_identity s zero_identity (no_identity-at s) 8)

  pub no_externals-at : read_at no_externals s at ≡ got zero_numbers at
  unfolding no_externals
  no_externals-at = simp (read_at-shaped, read_at-seq, read_at-absent, places-rest no_external no_external s zero_number (no_external-at s) 8)

  pub no_services-at : read_at no_services s at ≡ got zero_services at
  unfolding no_services
  no_services-at = simp (read_at-shaped, read_at-seq, read_at-absent, places-rest absent absent s 0 (read_at-absent s) 7)

-- ---- the lists, by the result

abbrev pub identity_lists : Identities → Identities → Identities → Lists
identity_lists g r e = record { groups = g; restricted = r; exceptions = e; numbers = zero_numbers; excepted = zero_numbers }

abbrev pub number_lists : Identities → Numbers → Numbers → Lists
number_lists g n e = record { groups = g; restricted = zero_identities; exceptions = zero_identities; numbers = n; excepted = e }

module _ (s : List Bool) (at : ℕ) where
  pub identity_part-at : read_at identity_part s at ≡ and_next (read_at (identities of.Identities) s at) (λ g at₁.
      and_next (read_at (identities of.Identities) s at₁) (λ r at₂. and_next (read_at (identities of.Identities) s at₂) (λ e at₃. got (identity_lists g r e) at₃)))
  unfolding identity_part
  identity_part-at = simp (read_at-shaped, read_at-seq, and_next_assoc, no_externals-at)

  pub number_part-at : read_at number_part s at ≡ and_next (read_at (identities of.Identities) s at) (λ g at₁.
      and_next (read_at externals s at₁) (λ n at₂. and_next (read_at externals s at₂) (λ e at₃. got (number_lists g n e) at₃)))
  unfolding number_part
  number_part-at = simp (read_at-shaped, read_at-seq, and_next_assoc, no_identities-at)

  pub no_part-at : read_at no_part s at ≡ got zero_lists at
  unfolding no_part
  no_part-at =
      rw (read_at-shaped, read_at-seq, no_identities-at, read_at-seq, no_identities-at, read_at-seq, no_identities-at, read_at-seq, no_externals-at, no_externals-at)
