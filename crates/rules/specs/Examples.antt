-- Worked cases that antt computes: each limit of a request from both sides, and which numbers match.
use Rattle.std.specs.Prelude.{◌≡◌, refl, true, false, List, [], ◌∷◌, ◌++◌, map, ℕ, replicate, Option, Some, None}
use Rattle.rules.specs.Request.{request_refusal, requests}
use Rattle.rules.specs.Matching.{is_number}
use Rattle.rules.specs.Rule.{rules}
use Rattle.rules.specs.declared.request.User.{User}
use Rattle.rules.specs.declared.request.Destination.TheVariants.{Identity, Number}
use Rattle.rules.specs.declared.request.Request.{Request}

-- ---- requests

abbrev user : ℕ → ℕ → User
user network ssi = record { network = network; ssi = ssi }

-- a call of user 1/5 to identity 1/100, and one to an external number, but for what a case changes
abbrev to_identity : User → ℕ → User → List ℕ → Option User → Request
to_identity caller service called digits group =
    record { user = caller; service = service; destination = Identity called; digits = digits; group = group }

abbrev to_number : ℕ → List ℕ → Request
to_number length digits =
    record { user = user 1 5; service = 1; destination = Number (record { 0 = length }); digits = digits; group = None }

abbrev by : ℕ → Request
by service = to_identity (user 1 5) service (user 1 100) (replicate 24 0) None

abbrev from : User → Request
from caller = to_identity caller 1 (user 1 100) (replicate 24 0) None

abbrev to : User → Request
to called = to_identity (user 1 5) 1 called (replicate 24 0) None

abbrev within : User → Request
within group = to_identity (user 1 5) 1 (user 1 100) (replicate 24 0) (Some group)

-- the refusals at these values
abbrev refusals : (ℕ → Request) → List ℕ → List ℕ
refusals q = map (λ v. request_refusal (q v))

-- a service 1 to 3
services : refusals by (0 ∷ 1 ∷ 2 ∷ 3 ∷ 4 ∷ 4294967295 ∷ []) ≡ 9 ∷ 0 ∷ 0 ∷ 0 ∷ 9 ∷ 9 ∷ []
unfolding requests
services = refl

-- networks and SSIs are below 16,777,216: the user's, the destination's and the group's
abbrev ends : List ℕ
ends = 0 ∷ 16777215 ∷ 16777216 ∷ []

networks : (refusals (λ n. from (user n 5)) ends ≡ 0 ∷ 0 ∷ 9 ∷ [])
    × (refusals (λ n. to (user n 100)) ends ≡ 0 ∷ 0 ∷ 9 ∷ [])
    × (refusals (λ n. within (user n 500)) ends ≡ 0 ∷ 0 ∷ 9 ∷ [])
unfolding requests
networks = (refl, refl, refl)

ssis : (refusals (λ n. from (user 1 n)) ends ≡ 0 ∷ 0 ∷ 9 ∷ [])
    × (refusals (λ n. to (user 1 n)) ends ≡ 0 ∷ 0 ∷ 9 ∷ [])
    × (refusals (λ n. within (user 1 n)) ends ≡ 0 ∷ 0 ∷ 9 ∷ [])
unfolding requests
ssis = (refl, refl, refl)

-- 1 to 24 digits
lengths : refusals (λ n. to_number n (replicate 24 0)) (0 ∷ 1 ∷ 2 ∷ 23 ∷ 24 ∷ 25 ∷ 255 ∷ []) ≡ 9 ∷ 0 ∷ 0 ∷ 0 ∷ 0 ∷ 9 ∷ 9 ∷ []
unfolding requests
lengths = refl

-- a digit 0 to 12, in the first place and in the last
abbrev digits : List ℕ
digits = 0 ∷ 9 ∷ 10 ∷ 11 ∷ 12 ∷ 13 ∷ 14 ∷ 15 ∷ 16 ∷ 255 ∷ []

abbrev legal : List ℕ
legal = 0 ∷ 0 ∷ 0 ∷ 0 ∷ 0 ∷ 9 ∷ 9 ∷ 9 ∷ 9 ∷ 9 ∷ []

used-places : (refusals (λ d. to_number 1 (d ∷ replicate 23 0)) digits ≡ legal)
    × (refusals (λ d. to_number 24 (replicate 23 1 ++ (d ∷ []))) digits ≡ legal)
unfolding requests
used-places = (refl, refl)

-- a place that is not used is zero: after the digits of a number, and anywhere beside an identity
unused-places : (refusals (λ d. to_number 2 (1 ∷ 1 ∷ d ∷ replicate 21 0)) (0 ∷ 1 ∷ 2 ∷ []) ≡ 0 ∷ 9 ∷ 9 ∷ [])
    × (refusals (λ d. to_number 23 (replicate 23 1 ++ (d ∷ []))) (0 ∷ 1 ∷ 12 ∷ []) ≡ 0 ∷ 9 ∷ 9 ∷ [])
    × (refusals (λ d. to_identity (user 1 5) 1 (user 1 100) (d ∷ replicate 23 0) None) (0 ∷ 1 ∷ []) ≡ 0 ∷ 9 ∷ [])
    × (refusals (λ d. to_identity (user 1 5) 1 (user 1 100) (replicate 23 0 ++ (d ∷ [])) None) (0 ∷ 1 ∷ []) ≡ 0 ∷ 9 ∷ [])
unfolding requests
unused-places = (refl, refl, refl, refl)

-- ---- numbers

-- 1 and 10 have the same places, and other lengths
other_length : is_number 1 (1 ∷ replicate 23 0) (record { length = record { 0 = 2 }; digits = 1 ∷ replicate 23 0 }) ≡ false
unfolding rules
other_length = refl

same_number : is_number 2 (1 ∷ replicate 23 0) (record { length = record { 0 = 2 }; digits = 1 ∷ replicate 23 0 }) ≡ true
unfolding rules
same_number = refl
