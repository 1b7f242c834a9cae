-- Where a PDU carries no such part, its words are zeros. Assumes nothing.
use mathlib.Core.Path.{refl}
use Rattle.grammar.specs.Grammar.{no_identity, no_identities, no_external, no_externals, no_services}
use Rattle.grammar.specs.Zero.{zero_identities, zero_number, zero_numbers, zero_services}
use Rattle.grammar.proofs.Steps.{no_identity-at, no_identities-at, no_external-at, no_externals-at, no_services-at}
use Rattle.words.specs.RecordWords.{records, identity_words, identities_words, number_words, numbers_words, services_words}
use Rattle.reader.specs.Inner.{Zeros}

pub no_identity_zeros : Zeros no_identity identity_words 3
unfolding identity_words
no_identity_zeros = record { value = record { ssi = 0; present = 0; extension = 0 }; read = no_identity-at; words = refl }

pub no_number_zeros : Zeros no_external number_words 25
unfolding number_words
no_number_zeros = record { value = zero_number; read = no_external-at; words = refl }

pub no_identities_zeros : Zeros no_identities identities_words 25
unfolding records
no_identities_zeros = record { value = zero_identities; read = no_identities-at; words = refl }

pub no_numbers_zeros : Zeros no_externals numbers_words 201
unfolding records
no_numbers_zeros = record { value = zero_numbers; read = no_externals-at; words = refl }

pub no_services_zeros : Zeros no_services services_words 8
unfolding records
no_services_zeros = record { value = zero_services; read = no_services-at; words = refl }
