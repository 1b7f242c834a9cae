-- Values for the computed examples: identities, numbers, lists, services, and a record of each PDU. No statement rests on them.
use Rattle.std.specs.Prelude.{List, ◌++◌, ℕ, ◌-◌, length, replicate}
use Rattle.grammar.specs.Grammar.{zero_identity}
use Rattle.grammar.specs.Figures.{of_interrogation, of_definition, of_outcome}
use Rattle.grammar.specs.Zero.{zero_identities, zero_number, zero_numbers, zero_services, zero_lists}
use Rattle.grammar.specs.declared.record.Identity.{Identity}
use Rattle.grammar.specs.declared.record.Identities.{Identities}
use Rattle.grammar.specs.declared.record.Number.{Number}
use Rattle.grammar.specs.declared.record.Numbers.{Numbers}
use Rattle.grammar.specs.declared.record.Figures.{Figures}
use Rattle.grammar.specs.declared.record.Services.{Services}
use Rattle.grammar.specs.declared.record.Lists.{Lists}
use Rattle.grammar.specs.declared.record.Record.{Record}

-- an identity without an extension, and network/SSI
abbrev pub near : ℕ → Identity
near ssi = record { ssi = ssi; present = 0; extension = 0 }

abbrev pub far : ℕ → ℕ → Identity
far network ssi = record { ssi = ssi; present = 1; extension = network }

-- a range type and the entries that are not zero
abbrev pub list : ℕ → List Identity → Identities
list code l = record { code = code; entries = l ++ replicate (8 - length l) zero_identity }

abbrev pub digits : List ℕ → Number
digits l = record { length = record { 0 = length l }; digits = l ++ replicate (24 - length l) 0 }

abbrev pub numbers : ℕ → List Number → Numbers
numbers code l = record { code = code; entries = l ++ replicate (8 - length l) zero_number }

abbrev pub services : List ℕ → Services
services l = record { count = length l; list = l ++ replicate (7 - length l) 0 }

-- the lists of an identity part: groups, restricted, exceptions
abbrev pub identity_lists : Identities → Identities → Identities → Lists
identity_lists groups restricted exceptions =
    record { groups = groups; restricted = restricted; exceptions = exceptions; numbers = zero_numbers; excepted = zero_numbers }

-- those of a number part: groups, restricted, excepted
abbrev pub number_lists : Identities → Numbers → Numbers → Lists
number_lists groups restricted excepted =
    record { groups = groups; restricted = zero_identities; exceptions = zero_identities; numbers = restricted; excepted = excepted }

-- ---- the record of a PDU: PDU type, affected users, figures, services, lists

abbrev pub pdu_of : ℕ → Identities → Figures → Services → Lists → Record
pdu_of kind affected figures services lists =
    record { kind = kind; affected = affected; figures = figures; services = services; lists = lists }

-- with delivery, acknowledgement and definition type
abbrev pub define : Identities → ℕ → ℕ → ℕ → Services → Lists → Record
define users delivery acknowledgement definition = pdu_of 5 users (of_definition delivery acknowledgement definition)

abbrev pub define_ack : Identities → ℕ → Record
define_ack users result = pdu_of 6 users (of_outcome result 0 0) zero_services zero_lists

abbrev pub define_external : Identities → ℕ → ℕ → ℕ → Services → Lists → Record
define_external users delivery acknowledgement definition = pdu_of 7 users (of_definition delivery acknowledgement definition)

-- with acknowledgement and definition type
abbrev pub define_user : ℕ → ℕ → Services → Lists → Record
define_user acknowledgement definition = pdu_of 8 zero_identities (of_definition 0 acknowledgement definition)

abbrev pub define_user_ack : ℕ → Record
define_user_ack result = pdu_of 9 zero_identities (of_outcome 0 result 0) zero_services zero_lists

abbrev pub define_external_user : ℕ → ℕ → Services → Lists → Record
define_external_user acknowledgement definition = pdu_of 10 zero_identities (of_definition 0 acknowledgement definition)

abbrev pub interrogate : Identities → ℕ → Record
interrogate users asked = pdu_of 11 users (of_interrogation asked 0 0) zero_services zero_lists

-- with interrogation result and delivery status
abbrev pub interrogate_ack : Identities → ℕ → ℕ → Services → Lists → Record
interrogate_ack users result status = pdu_of 12 users (of_interrogation 0 result status)

abbrev pub call_barred : ℕ → Record
call_barred cause = pdu_of 13 zero_identities (of_outcome 0 0 cause) zero_services zero_lists
