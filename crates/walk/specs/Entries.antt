-- Range type 0 says no entries. Assumes nothing.
use Rattle.std.specs.Prelude.{refl, replicate}
use Rattle.std.proofs.Common.{◌∙◌}
use Rattle.codec.proofs.Reading.{read_at-tested}
use Rattle.codec.proofs.Filling.{places-rest}
use Rattle.codec.specs.Places.{places}
use Rattle.grammar.specs.SiteSheet.{entries_of, range_refusal, row_of, range_type}
use Rattle.grammar.specs.Grammar.{identity, no_identity, zero_identity, range_ends, second_end, external, no_external}
use Rattle.grammar.specs.Zero.{zero_number}
use Rattle.grammar.specs.declared.site.ListKind.TheVariants as of
use Rattle.grammar.proofs.Steps.{no_identity-at, no_external-at}
use Rattle.walk.specs.Inner.{coded, numbers, Empty}

pub no_identities_empty : Empty of.Identities coded
unfolding coded range_refusal row_of range_type range_ends
no_identities_empty = record {
  legal = refl;
  value = replicate 8 zero_identity;
  read = λ l at.
      read_at-tested (places identity no_identity 8 0) (range_ends 0) second_end l at
      ∙ rw (places-rest identity no_identity l zero_identity (no_identity-at l) 8);
}

pub no_numbers_empty : Empty of.Numbers numbers
unfolding numbers range_refusal row_of range_type
no_numbers_empty = record {
  legal = refl;
  value = replicate 8 zero_number;
  read = λ l at. places-rest external no_external l zero_number (no_external-at l) 8 at;
}
