-- Worked cases of the six rules, as lists that antt computes beside the profiles: services, single entries and ranges with and without
-- extension, groups, external numbers, visitors; and decisions from the bytes of an archive. Home network 1, user 1/5, visitor 2/5.
use Rattle.std.specs.Prelude.{◌≡◌, refl, List, [], ◌∷◌, ◌++◌, map, ℕ, ◌-◌, length, replicate, Option, Some, None, Ok}
use Rattle.grammar.specs.Grammar.{zero_identity}
use Rattle.grammar.specs.Figures.{of_interrogation}
use Rattle.grammar.specs.Zero.{zero_identities, zero_number, zero_numbers}
use Rattle.grammar.specs.ProfileRecords.{A, C}
use Rattle.grammar.specs.declared.record.Identity.{Identity}
use Rattle.grammar.specs.declared.record.Identities.{Identities}
use Rattle.grammar.specs.declared.record.Number.{Number}
use Rattle.grammar.specs.declared.record.Numbers.{Numbers}
use Rattle.grammar.specs.declared.record.Lists.{Lists}
use Rattle.grammar.specs.declared.record.Record.{Record}
use Rattle.rules.specs.Request.{requests}
use Rattle.rules.specs.Rule.{allowed, barred, rules}
use Rattle.rules.specs.ProfileCalls.{speech, circuit_data, short_data, visitor_speech}
use Rattle.rules.specs.declared.request.Destination.TheVariants as to
use Rattle.rules.specs.declared.request.User.{User}
use Rattle.rules.specs.declared.request.Request.{Request}
use Rattle.rules.specs.declared.Cause.TheVariants.{OutsideGroup, RestrictedService, RestrictedAddress}
use Rattle.archive.specs.Filing.{filing_of, body_agrees}
use Rattle.archive.specs.Examples.{calls, bytes_a}
use Rattle.barring.specs.Decide.{part_for, decide_is}
use Rattle.barring.specs.declared.Decision.TheVariants as decision
use Rattle.promises.specs.Profiles.{Case, decides, All}

-- ---- parts

-- an entry without extension, and one with
abbrev at : ℕ → Identity
at ssi = record { ssi = ssi; present = 0; extension = 0 }

abbrev of : ℕ → ℕ → Identity
of network ssi = record { ssi = ssi; present = 1; extension = network }

-- single entries, and a range
abbrev identities : List Identity → Identities
identities l = record { code = length l; entries = l ++ replicate (8 - length l) zero_identity }

abbrev range : Identity → Identity → Identities
range first last = record { code = 9; entries = first ∷ last ∷ replicate 6 zero_identity }

abbrev number : List ℕ → Number
number digits = record { length = record { 0 = length digits }; digits = digits ++ replicate (24 - length digits) 0 }

abbrev numbers : List (List ℕ) → Numbers
numbers l = record { code = length l; entries = map number l ++ replicate (8 - length l) zero_number }

-- the part of an affected user and a result, with services and lists
abbrev part_of : Identity → ℕ → List ℕ → Lists → Record
part_of affected result services lists = record {
  kind = 12;
  affected = identities (affected ∷ []);
  figures = of_interrogation 0 result 0;
  services = record { count = length services; list = services ++ replicate (7 - length services) 0 };
  lists = lists;
}

-- an identity part with groups, restricted identities and exceptions
abbrev identity_part_of : Identity → List ℕ → Identities → Identities → Identities → Record
identity_part_of affected services groups restricted exceptions =
    part_of affected 1 services
    (record { groups = groups; restricted = restricted; exceptions = exceptions; numbers = zero_numbers; excepted = zero_numbers })

abbrev identity_part : List ℕ → Identities → Identities → Identities → Record
identity_part = identity_part_of (at 5)

-- a number part for speech with groups, restricted numbers and exceptions
abbrev number_part_of : Identity → List Identity → List (List ℕ) → List (List ℕ) → Record
number_part_of affected groups restricted excepted =
    part_of affected 2 (1 ∷ [])
    (record {
      groups = identities groups;
      restricted = zero_identities;
      exceptions = zero_identities;
      numbers = numbers restricted;
      excepted = numbers excepted;
    })

abbrev number_part : List Identity → List (List ℕ) → List (List ℕ) → Record
number_part = number_part_of (at 5)

-- services alone
abbrev bare : List ℕ → Record
bare services = identity_part services zero_identities zero_identities zero_identities

-- restricted 7 and 8 of the home network, the second spelt out, 9 of network 2 and 10 of network 0
abbrev singles : Record
singles = identity_part (1 ∷ []) zero_identities (identities (at 7 ∷ of 1 8 ∷ of 2 9 ∷ of 0 10 ∷ [])) zero_identities

-- restricted 11 to 18 one by one, but for the range 12 to 13
abbrev eight : Record
eight =
    identity_part (1 ∷ []) zero_identities
    (identities (at 11 ∷ at 12 ∷ at 13 ∷ at 14 ∷ at 15 ∷ at 16 ∷ at 17 ∷ at 18 ∷ [])) (range (at 12) (at 13))

-- restricted 100 to 199 of network 2, but for its 150; 160 of the home network is excepted too
abbrev abroad : Record
abroad = identity_part (1 ∷ []) zero_identities (range (of 2 100) (of 2 199)) (identities (of 2 150 ∷ of 1 160 ∷ []))

-- groups 500 and 700 of the home network, the second spelt out, and 600 of network 2; exception 7
abbrev grouped : Record
grouped = identity_part (1 ∷ []) (identities (at 500 ∷ of 2 600 ∷ of 1 700 ∷ [])) zero_identities (identities (at 7 ∷ []))

-- groups 500 to 509 of the home network
abbrev ranged : Record
ranged = identity_part (1 ∷ []) (range (at 500) (at 509)) zero_identities zero_identities

-- for any affected user: restricted 7, and 8 and 9 of networks 1 and 2 spelt out; exception 12; groups 500, and 600 and 700 of these networks
abbrev singles_of : Identity → Record
singles_of affected =
    identity_part_of affected (1 ∷ []) (identities (at 500 ∷ of 1 600 ∷ of 2 700 ∷ [])) (identities (at 7 ∷ of 1 8 ∷ of 2 9 ∷ []))
    (identities (at 12 ∷ []))

-- for any affected user: groups 500 to 509, restricted 100 to 199, exceptions 150 to 159
abbrev ranges_of : Identity → Record
ranges_of affected = identity_part_of affected (1 ∷ []) (range (at 500) (at 509)) (range (at 100) (at 199)) (range (at 150) (at 159))

abbrev n112 : List ℕ
n112 = 1 ∷ 1 ∷ 2 ∷ []

abbrev n113 : List ℕ
n113 = 1 ∷ 1 ∷ 3 ∷ []

abbrev n114 : List ℕ
n114 = 1 ∷ 1 ∷ 4 ∷ []

abbrev eight_numbers : List (List ℕ)
eight_numbers = map (λ d. d ∷ []) (1 ∷ 2 ∷ 3 ∷ 4 ∷ 5 ∷ 6 ∷ 7 ∷ 8 ∷ [])

-- ---- calls of user 1/5

abbrev group : ℕ → ℕ → Option User
group network ssi = Some (record { network = network; ssi = ssi })

-- to an external number, by a service and by speech
abbrev dial_by : ℕ → List ℕ → Option User → Request
dial_by service digits g = record {
  user = record { network = 1; ssi = 5 };
  service = service;
  destination = to.Number (number digits).length;
  digits = (number digits).digits;
  group = g;
}

abbrev dial : List ℕ → Option User → Request
dial = dial_by 1

-- ---- the cases

-- rule 1: which services a part lists; a part without entries bars what it lists with cause 1
abbrev listed_services : List Case
listed_services =
    decides (bare (0 ∷ [])) (speech 1 9 None) (barred RestrictedService)  -- 0 is every service
    ∷ decides (bare (0 ∷ [])) (circuit_data 1 9 None) (barred RestrictedService)
    ∷ decides (bare (0 ∷ [])) (short_data 1 9 None) (barred RestrictedService)
    ∷ decides (bare (1 ∷ [])) (speech 1 9 None) (barred RestrictedService)  -- this service
    ∷ decides (bare (1 ∷ [])) (circuit_data 1 9 None) allowed  -- another
    ∷ decides (bare (1 ∷ [])) (short_data 1 9 None) allowed  -- a place that is not used lists no service 0
    ∷ decides (bare (2 ∷ 3 ∷ [])) (speech 1 9 None) allowed
    ∷ decides (bare (2 ∷ 3 ∷ [])) (circuit_data 1 9 None) (barred RestrictedService)  -- the first of two
    ∷ decides (bare (2 ∷ 3 ∷ [])) (short_data 1 9 None) (barred RestrictedService)  -- the second
    ∷ decides (bare (1 ∷ 1 ∷ 1 ∷ 1 ∷ 1 ∷ 1 ∷ 2 ∷ [])) (circuit_data 1 9 None) (barred RestrictedService)  -- the seventh
    ∷ decides (bare (1 ∷ 1 ∷ 1 ∷ 1 ∷ 1 ∷ 1 ∷ 0 ∷ [])) (short_data 1 9 None) (barred RestrictedService)  -- 0 in the seventh place
    ∷ decides (bare (1 ∷ [])) (speech 1 9 (group 1 500)) (barred RestrictedService)  -- rule 5, whatever the group
    ∷ []

-- single entries: without extension, with the home network spelt out, of other networks
abbrev single_entries : List Case
single_entries =
    decides singles (speech 1 7 None) (barred RestrictedAddress)  -- no extension: the home network
    ∷ decides singles (speech 2 7 None) allowed
    ∷ decides singles (speech 1 8 None) (barred RestrictedAddress)  -- the home network spelt out
    ∷ decides singles (speech 2 8 None) allowed
    ∷ decides singles (speech 2 9 None) (barred RestrictedAddress)  -- another network
    ∷ decides singles (speech 1 9 None) allowed
    ∷ decides singles (speech 0 10 None) (barred RestrictedAddress)  -- network 0, which is not "no extension"
    ∷ decides singles (speech 1 10 None) allowed
    ∷ decides singles (speech 1 0 None) allowed  -- a place that is not used is no entry
    ∷ decides eight (speech 1 11 None) (barred RestrictedAddress)  -- the first of eight
    ∷ decides eight (speech 1 18 None) (barred RestrictedAddress)  -- the eighth
    ∷ decides eight (speech 1 19 None) allowed
    ∷ decides eight (speech 1 12 None) allowed  -- excepted, the first of a range
    ∷ decides eight (speech 1 13 None) allowed  -- excepted, the last of a range
    ∷ decides eight (speech 1 14 None) (barred RestrictedAddress)  -- beyond the excepted range
    ∷ []

-- ranges of another network; exceptions with extension
abbrev ranges_abroad : List Case
ranges_abroad =
    decides abroad (speech 2 99 None) allowed
    ∷ decides abroad (speech 2 100 None) (barred RestrictedAddress)  -- the first
    ∷ decides abroad (speech 2 199 None) (barred RestrictedAddress)  -- the last
    ∷ decides abroad (speech 2 200 None) allowed
    ∷ decides abroad (speech 1 150 None) allowed  -- the home network is not in it
    ∷ decides abroad (speech 2 150 None) allowed  -- excepted
    ∷ decides abroad (speech 2 160 None) (barred RestrictedAddress)  -- excepted in the home network only
    ∷ []

-- groups: no extension, another network, the home network spelt out; none restricted
abbrev group_lists : List Case
group_lists =
    decides grouped (speech 1 9 (group 1 500)) allowed  -- its group is in the list
    ∷ decides grouped (speech 1 9 (group 2 500)) (barred OutsideGroup)  -- another network
    ∷ decides grouped (speech 1 9 (group 2 600)) allowed  -- with extension
    ∷ decides grouped (speech 1 9 (group 1 600)) (barred OutsideGroup)
    ∷ decides grouped (speech 1 9 (group 1 700)) allowed  -- the home network spelt out
    ∷ decides grouped (speech 1 9 (group 1 501)) (barred OutsideGroup)
    ∷ decides grouped (speech 1 9 None) (barred OutsideGroup)  -- the call has none
    ∷ decides grouped (speech 1 7 None) allowed  -- an exception needs no group
    ∷ decides grouped (circuit_data 1 9 None) allowed  -- nor does a service that is not listed
    ∷ decides C (speech 1 8 None) (barred RestrictedAddress)  -- restricted comes before the group
    ∷ decides A (speech 1 99 (group 1 500)) allowed  -- an empty group list asks for none
    ∷ []

-- a range of groups
abbrev group_ranges : List Case
group_ranges =
    decides ranged (speech 1 9 (group 1 499)) (barred OutsideGroup)
    ∷ decides ranged (speech 1 9 (group 1 500)) allowed  -- the first
    ∷ decides ranged (speech 1 9 (group 1 509)) allowed  -- the last
    ∷ decides ranged (speech 1 9 (group 1 510)) (barred OutsideGroup)
    ∷ decides ranged (speech 1 9 (group 2 505)) (barred OutsideGroup)  -- another network
    ∷ []

-- number parts: restricted, excepted, both, and neither
abbrev number_lists : List Case
number_lists =
    decides (number_part [] (n112 ∷ []) []) (dial n112 None) (barred RestrictedAddress)  -- restricted
    ∷ decides (number_part [] (n112 ∷ []) []) (dial n113 None) allowed  -- another number
    ∷ decides (number_part [] [] (n112 ∷ [])) (dial n112 None) allowed  -- excepted
    ∷ decides (number_part [] [] (n112 ∷ [])) (dial n113 None) (barred RestrictedService)  -- no groups, none restricted
    ∷ decides (number_part [] (n112 ∷ n113 ∷ []) (n112 ∷ [])) (dial n112 None) allowed  -- restricted and excepted
    ∷ decides (number_part [] (n112 ∷ n113 ∷ []) (n112 ∷ [])) (dial n113 None) (barred RestrictedAddress)  -- the second of two
    ∷ decides (number_part [] (n112 ∷ n113 ∷ []) (n112 ∷ [])) (dial n114 None) allowed
    ∷ decides (number_part [] [] []) (dial n112 None) (barred RestrictedService)  -- both lists empty
    ∷ decides (number_part [] [] []) (dial_by 2 n112 None) allowed  -- a service that is not listed
    ∷ decides (number_part (at 500 ∷ []) (n112 ∷ []) []) (dial n113 (group 1 500)) allowed  -- in the group
    ∷ decides (number_part (at 500 ∷ []) (n112 ∷ []) []) (dial n113 (group 1 501)) (barred OutsideGroup)
    ∷ decides (number_part (at 500 ∷ []) (n112 ∷ []) []) (dial n113 None) (barred OutsideGroup)  -- the call has none
    ∷ decides (number_part (at 500 ∷ []) (n112 ∷ []) []) (dial n112 (group 1 500)) (barred RestrictedAddress)  -- restricted comes first
    ∷ decides (number_part (at 500 ∷ []) [] (n112 ∷ [])) (dial n113 (group 1 500)) allowed  -- none restricted, but groups
    ∷ decides (number_part (at 500 ∷ []) [] (n112 ∷ [])) (dial n112 None) allowed  -- an exception needs no group
    ∷ []

-- numbers match if all digits and the length are equal
abbrev number_digits : List Case
number_digits =
    decides (number_part [] (n112 ∷ []) []) (dial (1 ∷ 1 ∷ []) None) allowed  -- shorter
    ∷ decides (number_part [] (n112 ∷ []) []) (dial (1 ∷ 1 ∷ 2 ∷ 0 ∷ []) None) allowed  -- longer by a zero
    ∷ decides (number_part [] (n112 ∷ []) []) (dial (2 ∷ 1 ∷ 2 ∷ []) None) allowed  -- the first digit differs
    ∷ decides (number_part [] (n112 ∷ []) []) (dial (1 ∷ 0 ∷ 2 ∷ []) None) allowed  -- the second differs
    ∷ decides (number_part [] (n112 ∷ []) []) (dial (2 ∷ 1 ∷ 1 ∷ []) None) allowed  -- the same digits in another order
    ∷ decides (number_part [] ((1 ∷ 0 ∷ []) ∷ []) []) (dial (1 ∷ []) None) allowed  -- shorter by a zero
    ∷ decides (number_part [] ((1 ∷ 0 ∷ []) ∷ []) []) (dial (1 ∷ 0 ∷ []) None) (barred RestrictedAddress)
    ∷ decides (number_part [] ((10 ∷ 11 ∷ 12 ∷ 0 ∷ []) ∷ []) []) (dial (10 ∷ 11 ∷ 12 ∷ 0 ∷ []) None) (barred RestrictedAddress)  -- * # + 0
    ∷ decides (number_part [] ((10 ∷ 11 ∷ 12 ∷ 0 ∷ []) ∷ []) []) (dial (11 ∷ 10 ∷ 12 ∷ 0 ∷ []) None) allowed  -- # * + 0
    ∷ decides (number_part [] ((12 ∷ 4 ∷ 4 ∷ []) ∷ []) []) (dial (0 ∷ 4 ∷ 4 ∷ []) None) allowed  -- +44 is not 044
    ∷ decides (number_part [] (replicate 24 9 ∷ []) []) (dial (replicate 24 9) None) (barred RestrictedAddress)  -- 24 digits
    ∷ decides (number_part [] (replicate 24 9 ∷ []) []) (dial (replicate 23 9 ++ (8 ∷ [])) None) allowed  -- the last of them differs
    ∷ decides (number_part [] (replicate 24 9 ∷ []) []) (dial (replicate 23 9) None) allowed  -- one less
    ∷ decides (number_part [] eight_numbers []) (dial (8 ∷ []) None) (barred RestrictedAddress)  -- the eighth number
    ∷ decides (number_part [] eight_numbers []) (dial (9 ∷ []) None) allowed
    ∷ []

-- visitor 2/5: single entries and groups without extension are of network 2
abbrev visitor_entries : List Case
visitor_entries =
    decides (singles_of (of 2 5)) (visitor_speech 2 7 (group 2 500)) (barred RestrictedAddress)  -- no extension: the visitor's network
    ∷ decides (singles_of (of 2 5)) (visitor_speech 1 7 (group 2 500)) allowed  -- and not the home network
    ∷ decides (singles_of (of 2 5)) (visitor_speech 1 8 (group 2 500)) (barred RestrictedAddress)  -- the home network spelt out
    ∷ decides (singles_of (of 2 5)) (visitor_speech 2 8 (group 2 500)) allowed
    ∷ decides (singles_of (of 2 5)) (visitor_speech 2 9 (group 2 500)) (barred RestrictedAddress)  -- the visitor's network spelt out
    ∷ decides (singles_of (of 2 5)) (visitor_speech 1 9 (group 2 500)) allowed
    ∷ decides (singles_of (of 2 5)) (visitor_speech 2 12 None) allowed  -- an exception of the visitor's network
    ∷ decides (singles_of (of 2 5)) (visitor_speech 1 12 None) (barred OutsideGroup)  -- not one of the home network
    ∷ decides (singles_of (of 2 5)) (visitor_speech 2 10 (group 2 500)) allowed  -- a group of the visitor's network
    ∷ decides (singles_of (of 2 5)) (visitor_speech 2 10 (group 1 500)) (barred OutsideGroup)  -- not of the home network
    ∷ decides (singles_of (of 2 5)) (visitor_speech 2 10 (group 1 600)) allowed  -- the home network spelt out
    ∷ decides (singles_of (of 2 5)) (visitor_speech 2 10 (group 2 600)) (barred OutsideGroup)
    ∷ decides (singles_of (of 2 5)) (visitor_speech 2 10 (group 2 700)) allowed  -- the visitor's network spelt out
    ∷ decides (number_part_of (of 2 5) (at 500 ∷ []) (n112 ∷ []) []) (dial n113 (group 2 500)) allowed  -- groups of a number part
    ∷ decides (number_part_of (of 2 5) (at 500 ∷ []) (n112 ∷ []) []) (dial n113 (group 1 500)) (barred OutsideGroup)
    ∷ []

-- visitor 2/5: ranges without extension are of network 2; a user of network 0 is a visitor too
abbrev visitor_ranges : List Case
visitor_ranges =
    decides (ranges_of (of 2 5)) (visitor_speech 2 100 None) (barred RestrictedAddress)  -- the first
    ∷ decides (ranges_of (of 2 5)) (visitor_speech 2 199 None) (barred RestrictedAddress)  -- the last
    ∷ decides (ranges_of (of 2 5)) (visitor_speech 2 200 (group 2 509)) allowed
    ∷ decides (ranges_of (of 2 5)) (visitor_speech 1 100 (group 2 500)) allowed  -- the home network is not in it
    ∷ decides (ranges_of (of 2 5)) (visitor_speech 2 155 None) allowed  -- excepted
    ∷ decides (ranges_of (of 2 5)) (visitor_speech 1 155 None) (barred OutsideGroup)  -- the home network is not excepted
    ∷ decides (ranges_of (of 2 5)) (visitor_speech 2 200 (group 1 509)) (barred OutsideGroup)  -- nor are its groups listed
    ∷ decides (ranges_of (of 0 5)) (speech 0 100 None) (barred RestrictedAddress)
    ∷ decides (ranges_of (of 0 5)) (speech 1 100 (group 0 500)) allowed
    ∷ []

-- user 1/5 with the home network spelt out is judged as without: no extension means the home network
abbrev home_spelt_out : List Case
home_spelt_out =
    decides (singles_of (of 1 5)) (speech 1 7 (group 1 500)) (barred RestrictedAddress)
    ∷ decides (singles_of (of 1 5)) (speech 2 7 (group 1 500)) allowed
    ∷ decides (singles_of (of 1 5)) (speech 1 10 (group 1 500)) allowed
    ∷ decides (singles_of (of 1 5)) (speech 1 10 (group 2 500)) (barred OutsideGroup)
    ∷ decides (ranges_of (of 1 5)) (speech 1 100 None) (barred RestrictedAddress)
    ∷ decides (ranges_of (of 1 5)) (speech 1 155 None) allowed
    ∷ decides (ranges_of (of 1 5)) (speech 2 100 (group 1 509)) allowed
    ∷ []

pub cases : All listed_services × All single_entries × All ranges_abroad × All group_lists × All group_ranges × All number_lists × All number_digits
    × All visitor_entries × All visitor_ranges × All home_spelt_out
unfolding rules
cases = (
  (refl, (refl, (refl, (refl, (refl, (refl, (refl, (refl, (refl, (refl, (refl, (refl, tt)))))))))))),
  (refl, (refl, (refl, (refl, (refl, (refl, (refl, (refl, (refl, (refl, (refl, (refl, (refl, (refl, (refl, tt))))))))))))))),
  (refl, (refl, (refl, (refl, (refl, (refl, (refl, tt))))))),
  (refl, (refl, (refl, (refl, (refl, (refl, (refl, (refl, (refl, (refl, (refl, tt))))))))))),
  (refl, (refl, (refl, (refl, (refl, tt))))),
  (refl, (refl, (refl, (refl, (refl, (refl, (refl, (refl, (refl, (refl, (refl, (refl, (refl, (refl, (refl, tt))))))))))))))),
  (refl, (refl, (refl, (refl, (refl, (refl, (refl, (refl, (refl, (refl, (refl, (refl, (refl, (refl, (refl, tt))))))))))))))),
  (refl, (refl, (refl, (refl, (refl, (refl, (refl, (refl, (refl, (refl, (refl, (refl, (refl, (refl, (refl, tt))))))))))))))),
  (refl, (refl, (refl, (refl, (refl, (refl, (refl, (refl, (refl, tt))))))))),
  (refl, (refl, (refl, (refl, (refl, (refl, (refl, tt))))))),
)

-- Only A held. A number is judged by the number part, which is not held; nor is any part of user 2/5. The other answers are what A says.
held : (decide_is bytes_a (dial n112 None) ≡ Ok decision.NotHeld)
    × (decide_is bytes_a (speech 1 200 None) ≡ Ok decision.Allowed)
    × (decide_is bytes_a (speech 1 100 None) ≡ Ok (decision.Barred RestrictedAddress))
    × (decide_is bytes_a (record {
      user = record { network = 2; ssi = 5 };
      service = 1;
      destination = to.Identity (record { network = 1; ssi = 200 });
      digits = replicate 24 0;
      group = None;
    }) ≡ Ok decision.NotHeld)
unfolding calls rules requests body_agrees filing_of part_for decide_is
held = (refl, refl, refl, refl)

-- Only visitor 2/5 with A's lists held: network 2 is judged by them, the home network is not, and user 1/5 has no part.
abbrev bytes_visitor : List ℕ
bytes_visitor =
    0x00 ∷ 0x00 ∷ 0x01 ∷ 0x00 ∷ 0x01 ∷ 0x00 ∷ 0x00 ∷ 0x02 ∷ 0x00 ∷ 0x00 ∷ 0x05 ∷ 0x01 ∷ 0x00 ∷ 0xa2 ∷ 0x01 ∷ 0x2c
    ∷ 0x49 ∷ 0x82 ∷ 0x00 ∷ 0x00 ∷ 0x0b ∷ 0x00 ∷ 0x00 ∷ 0x02 ∷ 0x21 ∷ 0x21 ∷ 0x20 ∷ 0x00
    ∷ 0x0c ∷ 0x80 ∷ 0x00 ∷ 0x0c ∷ 0x70 ∷ 0x80 ∷ 0x00 ∷ 0x4b ∷ 0x00 ∷ []

held-visitor : (decide_is bytes_visitor (visitor_speech 2 100 None) ≡ Ok (decision.Barred RestrictedAddress))
    × (decide_is bytes_visitor (visitor_speech 1 100 None) ≡ Ok decision.Allowed)
    × (decide_is bytes_visitor (speech 2 100 None) ≡ Ok decision.NotHeld)
unfolding calls rules requests body_agrees filing_of part_for decide_is
held-visitor = (refl, refl, refl)
