-- The record in which everything is zero, part by part: what a PDU does not carry.
use Rattle.std.specs.Prelude.{replicate}
use Rattle.grammar.specs.Grammar.{zero_identity}
use Rattle.grammar.specs.declared.record.Identities.{Identities}
use Rattle.grammar.specs.declared.record.Number.{Number}
use Rattle.grammar.specs.declared.record.Numbers.{Numbers}
use Rattle.grammar.specs.declared.record.Figures.{Figures}
use Rattle.grammar.specs.declared.record.Services.{Services}
use Rattle.grammar.specs.declared.record.Lists.{Lists}
use Rattle.grammar.specs.declared.record.Record.{Record}

abbrev pub zero_identities : Identities
zero_identities = record { code = 0; entries = replicate 8 zero_identity }

abbrev pub zero_number : Number
zero_number = record { length = record { 0 = 0 }; digits = replicate 24 0 }

abbrev pub zero_numbers : Numbers
zero_numbers = record { code = 0; entries = replicate 8 zero_number }

abbrev pub zero_figures : Figures
zero_figures = record {
  asked = 0;
  result = 0;
  status = 0;
  delivery = 0;
  acknowledgement = 0;
  definition = 0;
  defined = 0;
  distributed = 0;
  cause = 0;
}

abbrev pub zero_services : Services
zero_services = record { count = 0; list = replicate 7 0 }

abbrev pub zero_lists : Lists
zero_lists =
    record { groups = zero_identities; restricted = zero_identities; exceptions = zero_identities; numbers = zero_numbers; excepted = zero_numbers }

abbrev pub zero_record : Record
zero_record = record { kind = 0; affected = zero_identities; figures = zero_figures; services = zero_services; lists = zero_lists }
