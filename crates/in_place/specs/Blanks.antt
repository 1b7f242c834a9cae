-- Where a list has no entry, nothing is read. Assumes nothing.
use Rattle.grammar.specs.Grammar.{no_identity, no_external}
use Rattle.grammar.specs.Zero.{zero_number}
use Rattle.grammar.proofs.Steps.{no_identity-at, no_external-at}
use Rattle.in_place.specs.Inner.{Blank}

pub no_identity_blank : Blank no_identity
no_identity_blank = record { value = record { ssi = 0; present = 0; extension = 0 }; read = no_identity-at }

pub no_external_blank : Blank no_external
no_external_blank = record { value = zero_number; read = no_external-at }
