-- Worked cases that antt computes: the words of requests and records, and words that are neither.
use Rattle.std.specs.Prelude.{◌≡◌, refl, false, List, [], ◌∷◌, ◌++◌, map, ℕ, zero, suc, ◌+◌, ◌-◌, ◌*◌, min, replicate, Option, Some, None}
use Rattle.grammar.specs.declared.record.Identity.{Identity}
use Rattle.grammar.specs.declared.record.Identities.{Identities}
use Rattle.grammar.specs.declared.record.Number.{Number}
use Rattle.grammar.specs.declared.record.Numbers.{Numbers}
use Rattle.grammar.specs.declared.record.Record.{Record}
use Rattle.grammar.specs.Zero.{zero_figures}
use Rattle.grammar.specs.ProfileRecords.{A}
use Rattle.rules.specs.ProfileCalls.{speech, group500}
use Rattle.rules.specs.declared.request.Destination.{Destination}
use Rattle.rules.specs.declared.request.Destination.TheVariants as to
use Rattle.rules.specs.declared.request.User.{User}
use Rattle.rules.specs.declared.request.Request.{Request}
use Rattle.words.specs.Places.{affected_at, asked_at, result_at, status_at, services_at, lists_at, delivery_at, acknowledgement_at, definition_at}
use Rattle.words.specs.Places.{defined_at, distributed_at, cause_at, record_width, service_at, kind_at, identity_at}
use Rattle.words.specs.Places.{length_at, digits_at, given_at, group_at, request_width}
use Rattle.words.specs.RecordWords.{word, record_words, record_from, given_figures, narrowed, records}
use Rattle.words.specs.RequestWords.{are_request, request_from, request_words, requests}

-- n, n + 1, .., so many of them
unfoldable counted : ℕ → ℕ → List ℕ
counted n zero = []
counted n (suc k) = n ∷ counted (n + 1) k

-- where the parts begin that have a name, and how many words there are, as the tables of include/boc.h say
record-places : affected_at ∷ asked_at ∷ result_at ∷ status_at ∷ services_at ∷ lists_at ∷ delivery_at ∷ acknowledgement_at ∷ definition_at
    ∷ defined_at ∷ distributed_at ∷ cause_at ∷ record_width ∷ []
    ≡ 1 ∷ 26 ∷ 27 ∷ 28 ∷ 29 ∷ 37 ∷ 514 ∷ 515 ∷ 516 ∷ 517 ∷ 518 ∷ 519 ∷ 520 ∷ []
record-places = refl

request-places : service_at ∷ kind_at ∷ identity_at ∷ length_at ∷ digits_at ∷ given_at ∷ group_at ∷ request_width ∷ [] ≡ 2 ∷ 3 ∷ 4 ∷ 6 ∷ 7 ∷ 31 ∷ 32 ∷ 34 ∷ []
request-places = refl

-- ---- requests

-- P1: user 1/5, speech, to identity 1/100, no group
abbrev p1 : List ℕ
p1 = 1 ∷ 5 ∷ 1 ∷ 1 ∷ 1 ∷ 100 ∷ 0 ∷ replicate 24 0 ++ (0 ∷ 0 ∷ 0 ∷ [])

p1_words : request_words (speech 1 100 None) ≡ p1
unfolding requests
p1_words = refl

p1_request : request_from p1 ≡ speech 1 100 None
unfolding requests
p1_request = refl

-- the number 112, group 1/500
to112 : request_from (1 ∷ 5 ∷ 1 ∷ 2 ∷ 0 ∷ 0 ∷ 3 ∷ 1 ∷ 1 ∷ 2 ∷ replicate 21 0 ++ (1 ∷ 1 ∷ 500 ∷ [])) ≡ record {
  user = record { network = 1; ssi = 5 };
  service = 1;
  destination = to.Number (record { 0 = 3 });
  digits = 1 ∷ 1 ∷ 2 ∷ replicate 21 0;
  group = group500;
}
unfolding requests
to112 = refl

-- A request in which each word has a value of its own, its place and 100, but for kind, whether a group is given, and unused words
abbrev asked : Destination → Option User → Request
asked d g = record { user = record { network = 100; ssi = 101 }; service = 102; destination = d; digits = counted 107 24; group = g }

abbrev to_identity : Request
to_identity = asked (to.Identity (record { network = 104; ssi = 105 })) (Some (record { network = 132; ssi = 133 }))

abbrev identity_places : List ℕ
identity_places = 100 ∷ 101 ∷ 102 ∷ 1 ∷ 104 ∷ 105 ∷ 0 ∷ counted 107 24 ++ (1 ∷ 132 ∷ 133 ∷ [])

abbrev to_number : Request
to_number = asked (to.Number (record { 0 = 106 })) None

abbrev number_places : List ℕ
number_places = 100 ∷ 101 ∷ 102 ∷ 2 ∷ 0 ∷ 0 ∷ 106 ∷ counted 107 24 ++ (0 ∷ 0 ∷ 0 ∷ [])

asked_words : (request_words to_identity ≡ identity_places) × (request_words to_number ≡ number_places)
unfolding requests counted
asked_words = (refl, refl)

asked_request : (request_from identity_places ≡ to_identity) × (request_from number_places ≡ to_number)
unfolding requests counted
asked_request = (refl, refl)

-- a third kind of destination, an identity with a length, a network beside no group
no_kind : are_request (1 ∷ 5 ∷ 1 ∷ 3 ∷ 1 ∷ 100 ∷ 0 ∷ replicate 24 0 ++ (0 ∷ 0 ∷ 0 ∷ [])) ≡ false
unfolding requests
no_kind = refl

no_length : are_request (1 ∷ 5 ∷ 1 ∷ 1 ∷ 1 ∷ 100 ∷ 3 ∷ replicate 24 0 ++ (0 ∷ 0 ∷ 0 ∷ [])) ≡ false
unfolding requests
no_length = refl

-- a number with a network, or with an SSI
no-identity : (are_request (1 ∷ 5 ∷ 1 ∷ 2 ∷ 1 ∷ 0 ∷ 1 ∷ replicate 24 0 ++ (0 ∷ 0 ∷ 0 ∷ [])) ≡ false)
    × (are_request (1 ∷ 5 ∷ 1 ∷ 2 ∷ 0 ∷ 100 ∷ 1 ∷ replicate 24 0 ++ (0 ∷ 0 ∷ 0 ∷ [])) ≡ false)
unfolding requests
no-identity = (refl, refl)

-- no group, with a network or with an SSI
no-group : (are_request (1 ∷ 5 ∷ 1 ∷ 1 ∷ 1 ∷ 100 ∷ 0 ∷ replicate 24 0 ++ (0 ∷ 1 ∷ 0 ∷ [])) ≡ false)
    × (are_request (1 ∷ 5 ∷ 1 ∷ 1 ∷ 1 ∷ 100 ∷ 0 ∷ replicate 24 0 ++ (0 ∷ 0 ∷ 1 ∷ [])) ≡ false)
unfolding requests
no-group = (refl, refl)

-- ---- records

-- A record in which each word has a value of its own, `word` of its place in the tables of include/boc.h. What stands at n:
module _ (word byte : ℕ → ℕ) where
  abbrev identity : ℕ → Identity
  identity n = record { ssi = word n; present = word (n + 1); extension = word (n + 2) }

  abbrev identities : ℕ → Identities
  identities n = record { code = word n; entries = map (λ i. identity (n + 1 + 3 * i)) (0 ∷ 1 ∷ 2 ∷ 3 ∷ 4 ∷ 5 ∷ 6 ∷ 7 ∷ []) }

  abbrev number : ℕ → Number
  number n = record { length = record { 0 = byte n }; digits = map byte (counted (n + 1) 24) }

  abbrev numbers : ℕ → Numbers
  numbers n = record { code = word n; entries = map (λ i. number (n + 1 + 25 * i)) (0 ∷ 1 ∷ 2 ∷ 3 ∷ 4 ∷ 5 ∷ 6 ∷ 7 ∷ []) }

  abbrev placed : Record
  placed = record {
    kind = word 0;
    affected = identities 1;
    figures = record {
      asked = word 26;
      result = word 27;
      status = word 28;
      delivery = word 514;
      acknowledgement = word 515;
      definition = word 516;
      defined = word 517;
      distributed = word 518;
      cause = word 519;
    };
    services = record { count = word 29; list = map word (30 ∷ 31 ∷ 32 ∷ 33 ∷ 34 ∷ 35 ∷ 36 ∷ []) };
    lists = record {
      groups = identities 37;
      restricted = identities 62;
      exceptions = identities 87;
      numbers = numbers 112;
      excepted = numbers 313;
    };
  }

-- its words are the values in their places, 520 of them
placed_words : record_words (placed (λ n. n) (λ n. n)) ≡ counted 0 520
unfolding records counted
placed_words = refl

-- and read back; lengths and digits are bytes there, so words from 255 on show their places by counting down
placed-record : record_from (counted 0 520) ≡ placed (λ n. n) (λ n. min n 255)
unfolding records counted
placed-record = refl

placed_down : record_from (map (λ n. 519 - n) (counted 0 520)) ≡ placed (λ n. 519 - n) (λ n. min (519 - n) 255)
unfolding records counted
placed_down = refl

-- the figures alone; of a word less or more there are none
placed-figures : given_figures (counted 0 520) ≡ (placed (λ n. n) (λ n. n)).figures
unfolding records counted given_figures
placed-figures = refl

no-figures : (given_figures (counted 0 519) ≡ zero_figures) × (given_figures (counted 0 521) ≡ zero_figures)
unfolding counted given_figures
no-figures = (refl, refl)

-- profile A: the PDU type; the user's list and SSI; result; services; the range 100 to 199; the exception 150
places_of-A : map (word (record_words A)) (0 ∷ 1 ∷ 2 ∷ 27 ∷ 29 ∷ 30 ∷ 62 ∷ 63 ∷ 66 ∷ 87 ∷ 88 ∷ [])
    ≡ 12 ∷ 1 ∷ 5 ∷ 1 ∷ 1 ∷ 1 ∷ 9 ∷ 100 ∷ 199 ∷ 1 ∷ 150 ∷ []
unfolding records
places_of-A = refl

-- a byte is a byte, and what is wider becomes 255
too_wide : narrowed (0 ∷ 255 ∷ 256 ∷ 4294967295 ∷ []) ≡ 0 ∷ 255 ∷ 255 ∷ 255 ∷ []
unfolding records
too_wide = refl
