-- What must be zero in a record: what its PDU does not carry, by its type; unused places; an absent extension.
use Rattle.std.specs.Prelude.{◌≡◌, refl, Bool, true, false, List, [], ◌∷◌, map, ℕ, replicate}
use Rattle.bits.proofs.Table.{values}
use Rattle.grammar.specs.Grammar.{pdu, grammar}
use Rattle.grammar.specs.Figures.{of_interrogation, of_definition, of_outcome}
use Rattle.grammar.specs.Zero.{zero_identities, zero_numbers, zero_figures, zero_services, zero_lists, zero_record}
use Rattle.grammar.specs.Samples.{near, list, digits, numbers, services, identity_lists, number_lists, pdu_of}
use Rattle.grammar.specs.Samples as a
use Rattle.grammar.specs.declared.record.Identities.{Identities}
use Rattle.grammar.specs.declared.record.Number.{Number}
use Rattle.grammar.specs.declared.record.Numbers.{Numbers}
use Rattle.grammar.specs.declared.record.Figures.{Figures}
use Rattle.grammar.specs.declared.record.Services.{Services}
use Rattle.grammar.specs.declared.record.Lists.{Lists}

-- ---- what each PDU carries: that alone may be other than zero

abbrev yes : Bool
yes = true

abbrev no : Bool
no = false

-- the nine figures in their fields' order
abbrev nine : Figures → List ℕ
nine f =
    f.asked ∷ f.result ∷ f.status
    ∷ f.delivery ∷ f.acknowledgement ∷ f.definition
    ∷ f.defined ∷ f.distributed ∷ f.cause ∷ []

figures-named : (nine (of_interrogation 1 2 3) ≡ 1 ∷ 2 ∷ 3 ∷ 0 ∷ 0 ∷ 0 ∷ 0 ∷ 0 ∷ 0 ∷ [])
    × (nine (of_definition 1 2 3) ≡ 0 ∷ 0 ∷ 0 ∷ 1 ∷ 2 ∷ 3 ∷ 0 ∷ 0 ∷ 0 ∷ [])
    × (nine (of_outcome 1 2 3) ≡ 0 ∷ 0 ∷ 0 ∷ 0 ∷ 0 ∷ 0 ∷ 1 ∷ 2 ∷ 3 ∷ [])
    × (nine zero_figures ≡ replicate 9 0)
figures-named = (refl, refl, refl, refl)

-- one of the nine that is 1, in turn
abbrev ones : List Figures
ones =
    of_interrogation 1 0 0 ∷ of_interrogation 0 1 0 ∷ of_interrogation 0 0 1
    ∷ of_definition 1 0 0 ∷ of_definition 0 1 0 ∷ of_definition 0 0 1
    ∷ of_outcome 1 0 0 ∷ of_outcome 0 1 0 ∷ of_outcome 0 0 1 ∷ []

abbrev figures_in : ℕ → List Bool
figures_in kind = map (λ f. pdu.clean (pdu_of kind zero_identities f zero_services zero_lists)) ones

-- interrogation type, result, delivery status; delivery, acknowledgement, definition type; definition result, distribution result, cause
figures-carried : (figures_in 5 ≡ no ∷ no ∷ no ∷ yes ∷ yes ∷ yes ∷ no ∷ no ∷ no ∷ [])
    × (figures_in 6 ≡ no ∷ no ∷ no ∷ no ∷ no ∷ no ∷ yes ∷ no ∷ no ∷ [])
    × (figures_in 7 ≡ no ∷ no ∷ no ∷ yes ∷ yes ∷ yes ∷ no ∷ no ∷ no ∷ [])
    × (figures_in 8 ≡ no ∷ no ∷ no ∷ no ∷ yes ∷ yes ∷ no ∷ no ∷ no ∷ [])
    × (figures_in 9 ≡ no ∷ no ∷ no ∷ no ∷ no ∷ no ∷ no ∷ yes ∷ no ∷ [])
    × (figures_in 10 ≡ no ∷ no ∷ no ∷ no ∷ yes ∷ yes ∷ no ∷ no ∷ no ∷ [])
    × (figures_in 11 ≡ yes ∷ no ∷ no ∷ no ∷ no ∷ no ∷ no ∷ no ∷ no ∷ [])
    × (figures_in 12 ≡ no ∷ yes ∷ yes ∷ no ∷ no ∷ no ∷ no ∷ no ∷ no ∷ [])
    × (figures_in 13 ≡ no ∷ no ∷ no ∷ no ∷ no ∷ no ∷ no ∷ no ∷ yes ∷ [])
unfolding grammar
figures-carried = (refl, refl, refl, refl, refl, refl, refl, refl, refl)

-- affected users, and services, in the PDUs from 5 to 13
abbrev users_in : Identities → List Bool
users_in users = values (λ kind. pdu.clean (pdu_of kind users zero_figures zero_services zero_lists)) 5 9

abbrev services_in : Services → List Bool
services_in l = values (λ kind. pdu.clean (pdu_of kind zero_identities zero_figures l zero_lists)) 5 9

users-carried : (users_in (list 1 (near 5 ∷ [])) ≡ yes ∷ yes ∷ yes ∷ no ∷ no ∷ no ∷ yes ∷ yes ∷ no ∷ [])
    × (users_in (list 1 []) ≡ yes ∷ yes ∷ yes ∷ no ∷ no ∷ no ∷ yes ∷ yes ∷ no ∷ [])
    × (users_in (list 0 (near 5 ∷ [])) ≡ replicate 9 no)
unfolding grammar
users-carried = (refl, refl, refl)

services-carried : (services_in (services (1 ∷ [])) ≡ yes ∷ no ∷ yes ∷ yes ∷ no ∷ yes ∷ no ∷ yes ∷ no ∷ [])
    × (services_in (services (0 ∷ [])) ≡ yes ∷ no ∷ yes ∷ yes ∷ no ∷ yes ∷ no ∷ yes ∷ no ∷ [])
    × (services_in (record { count = 0; list = 1 ∷ replicate 6 0 }) ≡ replicate 9 no)
unfolding grammar
services-carried = (refl, refl, refl)

-- one of the five lists that is not empty, in turn
abbrev one : Identities
one = list 1 (near 1 ∷ [])

abbrev one_number : Numbers
one_number = numbers 1 (digits (1 ∷ []) ∷ [])

abbrev singles : List Lists
singles =
    identity_lists one zero_identities zero_identities
    ∷ identity_lists zero_identities one zero_identities ∷ identity_lists zero_identities zero_identities one
    ∷ number_lists zero_identities one_number zero_numbers ∷ number_lists zero_identities zero_numbers one_number ∷ []

abbrev lists_in : ℕ → Figures → List Bool
lists_in kind f = map (λ l. pdu.clean (pdu_of kind zero_identities f zero_services l)) singles

-- groups, restricted identities, exceptions to them, restricted numbers, exceptions to those
abbrev identity_part : List Bool
identity_part = yes ∷ yes ∷ yes ∷ no ∷ no ∷ []

abbrev number_part : List Bool
number_part = yes ∷ no ∷ no ∷ yes ∷ yes ∷ []

abbrev no_part : List Bool
no_part = no ∷ no ∷ no ∷ no ∷ no ∷ []

-- by definition type: addition, replacement, removal, and two that there are not
abbrev defined : ℕ → List (List Bool)
defined kind = values (λ type. lists_in kind (of_definition 0 0 type)) 0 5

-- by interrogation result
abbrev answered : List (List Bool)
answered = values (λ result. lists_in 12 (of_interrogation 0 result 0)) 0 8

lists-carried : (defined 5 ≡ identity_part ∷ identity_part ∷ no_part ∷ no_part ∷ no_part ∷ [])
    × (defined 7 ≡ number_part ∷ number_part ∷ no_part ∷ no_part ∷ no_part ∷ [])
    × (defined 8 ≡ identity_part ∷ identity_part ∷ no_part ∷ no_part ∷ no_part ∷ [])
    × (defined 10 ≡ identity_part ∷ identity_part ∷ no_part ∷ no_part ∷ no_part ∷ [])
    × (answered ≡ no_part ∷ identity_part ∷ number_part ∷ no_part ∷ no_part ∷ no_part ∷ no_part ∷ no_part ∷ [])
    × (map (λ kind. lists_in kind zero_figures) (6 ∷ 9 ∷ 11 ∷ 13 ∷ []) ≡ no_part ∷ no_part ∷ no_part ∷ no_part ∷ [])
unfolding grammar
lists-carried = (refl, refl, refl, refl, refl, refl)

-- ---- unused places and absent extensions

-- an identity part whose groups have this code and so many places that are not zero
abbrev grouped : ℕ → ℕ → Bool
grouped code used =
    pdu.clean (a.interrogate_ack one 1 0 (services (0 ∷ [])) (identity_lists (list code (replicate used (near 1))) zero_identities zero_identities))

-- as many as the code says may be used: none, one to eight, two for code 9
used-places : (grouped 0 0 ≡ yes) × (grouped 1 1 ≡ yes) × (grouped 2 2 ≡ yes) × (grouped 7 7 ≡ yes) × (grouped 8 8 ≡ yes) × (grouped 9 2 ≡ yes)
unfolding grammar
used-places = (refl, refl, refl, refl, refl, refl)

-- and not one more
unused-places : (grouped 0 1 ≡ no) × (grouped 1 2 ≡ no) × (grouped 2 3 ≡ no) × (grouped 7 8 ≡ no) × (grouped 9 3 ≡ no)
unfolding grammar
unused-places = (refl, refl, refl, refl, refl)

-- a number of one digit, with another behind it
abbrev overlong : Number
overlong = record { length = record { 0 = 1 }; digits = 1 ∷ 1 ∷ replicate 22 0 }

-- an ACK with this result
abbrev carrying : ℕ → Services → Lists → Bool
carrying result services lists = pdu.clean (a.interrogate_ack one result 0 services lists)

-- a second service of one; an absent extension; a digit beyond a number's length
not_carried : (carrying 1 (services (1 ∷ [])) zero_lists ≡ yes)
    × (carrying 1 (record { count = 1; list = 1 ∷ 1 ∷ replicate 5 0 }) zero_lists ≡ no)
    × (carrying 1 (services (1 ∷ []))
    (identity_lists zero_identities (list 1 (record { ssi = 1; present = 0; extension = 1 } ∷ [])) zero_identities) ≡ no)
    × (carrying 2 (services (1 ∷ [])) (number_lists zero_identities (numbers 1 (overlong ∷ [])) zero_numbers) ≡ no)
unfolding grammar
not_carried = (refl, refl, refl, refl)

-- the record of zeros: 8 places for identities and for numbers, 24 for digits, 7 for services, all zero
abbrev nothing : Identities
nothing = list 0 (replicate 8 (near 0))

abbrev no_numbers : Numbers
no_numbers = numbers 0 (replicate 8 (record { length = record { 0 = 0 }; digits = replicate 24 0 }))

zeros : zero_record ≡ pdu_of 0 nothing zero_figures (record { count = 0; list = replicate 7 0 })
    (record { groups = nothing; restricted = nothing; exceptions = nothing; numbers = no_numbers; excepted = no_numbers })
zeros = refl
