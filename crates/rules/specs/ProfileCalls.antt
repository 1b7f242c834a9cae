-- The calls of document 01's "Profiles to try", of user 1/5, and those of visitor 2/5 (document 02, request 2026-04): to identities.
use Rattle.std.specs.Prelude.{ℕ, replicate, Option, Some}
use Rattle.rules.specs.declared.request.Destination.TheVariants.{Identity}
use Rattle.rules.specs.declared.request.User.{User}
use Rattle.rules.specs.declared.request.Request.{Request}

-- of user 5 of a network by a service, to a network and SSI, in a group
abbrev pub call_from : ℕ → ℕ → ℕ → ℕ → Option User → Request
call_from from service network ssi group = record {
  user = record { network = from; ssi = 5 };
  service = service;
  destination = Identity (record { network = network; ssi = ssi });
  digits = replicate 24 0;
  group = group;
}

abbrev pub speech : ℕ → ℕ → Option User → Request
speech = call_from 1 1

abbrev pub circuit_data : ℕ → ℕ → Option User → Request
circuit_data = call_from 1 2

abbrev pub short_data : ℕ → ℕ → Option User → Request
short_data = call_from 1 3

-- of visitor 2/5
abbrev pub visitor_speech : ℕ → ℕ → Option User → Request
visitor_speech = call_from 2 1

abbrev pub group500 : Option User
group500 = Some (record { network = 1; ssi = 500 })
