-- The records of document 01's "Profiles to try": A, B, C and the INTERROGATE of P14, for user 5 without extensions; and A's lists for
-- visitor 2/5 (document 02, request 2026-04).
use Rattle.std.specs.Prelude.{◌∷◌, ℕ, replicate}
use Rattle.grammar.specs.Grammar.{zero_identity}
use Rattle.grammar.specs.Figures.{of_interrogation}
use Rattle.grammar.specs.Zero.{zero_identities, zero_numbers, zero_services, zero_lists}
use Rattle.grammar.specs.declared.record.Identity.{Identity}
use Rattle.grammar.specs.declared.record.Identities.{Identities}
use Rattle.grammar.specs.declared.record.Record.{Record}

abbrev pub user : ℕ → Identity
user ssi = record { ssi = ssi; present = 0; extension = 0 }

abbrev one : Identity → Identities
one e = record { code = 1; entries = e ∷ replicate 7 zero_identity }

-- an identity part that lists one service
abbrev part : Identity → ℕ → Identities → Identities → Identities → Record
part affected service groups restricted exceptions = record {
  kind = 12;
  affected = one affected;
  figures = of_interrogation 0 1 0;
  services = record { count = 1; list = service ∷ replicate 6 0 };
  lists = record { groups = groups; restricted = restricted; exceptions = exceptions; numbers = zero_numbers; excepted = zero_numbers };
}

abbrev range : ℕ → ℕ → Identities
range first last = record { code = 9; entries = user first ∷ user last ∷ replicate 6 zero_identity }

-- services [1], no groups, restricted range 100 to 199, exception 150
abbrev lists_a : Identity → Record
lists_a affected = part affected 1 zero_identities (range 100 199) (one (user 150))

abbrev pub A : Record
A = lists_a (user 5)

-- for visitor 2/5
abbrev pub visitor_a : Record
visitor_a = lists_a (record { ssi = 5; present = 1; extension = 2 })

-- services [0], no groups, none restricted, exception 7
abbrev pub B : Record
B = part (user 5) 0 zero_identities zero_identities (one (user 7))

-- services [1], group 500, restricted 8
abbrev pub C : Record
C = part (user 5) 1 (one (user 500)) (one (user 8)) zero_identities

-- an INTERROGATE for one user
abbrev pub asking : Record
asking = record {
  kind = 11;
  affected = one (user 5);
  figures = of_interrogation 1 0 0;
  services = zero_services;
  lists = zero_lists;
}
