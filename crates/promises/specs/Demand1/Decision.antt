-- Demand 1, the decision: "9, 7. Each is given exactly then." With 7 its entry and place. It is lent nothing to change.
use Rattle.std.specs.Prelude.{◌≡◌, refl, ◌↔◌, List, [], ◌∷◌, ℕ, ◌≤◌, ◌<◌, take, drop, replicate, Option, Some, None, Result, Ok}
use Rattle.bits.specs.Lists.{Each}
use Rattle.rules.specs.Request.{request_refusal, requests}
use Rattle.rules.specs.ProfileCalls.{speech}
use Rattle.rules.specs.declared.Cause.TheVariants.{OutsideGroup, RestrictedService, RestrictedAddress}
use Rattle.rules.specs.declared.request.User.{User}
use Rattle.rules.specs.declared.request.Destination.{Destination}
use Rattle.rules.specs.declared.request.Destination.TheVariants.{Identity, Number}
use Rattle.rules.specs.declared.request.Request.{Request}
use Rattle.archive.specs.Refusals.{plain}
use Rattle.archive.specs.Examples.{calls}
use Rattle.archive.specs.declared.refusal.Refusal.{Refusal}
use Rattle.barring.specs.Decide.{decide_is}
use Rattle.barring.specs.Decision.{decided_refusal, verdict_of}
use Rattle.barring.specs.declared.Decision.{Decision}
use Rattle.barring.specs.declared.Decision.TheVariants.{Allowed, Barred, NotHeld}
use Rattle.promises.specs.Answers.{Exactly}
use Rattle.promises.specs.Archive.{IsArchive}
use Rattle.promises.specs.Broken.{number_of, Broken}

abbrev pub answer : List ℕ → Request → Refusal
answer b q = decided_refusal (decide_is b q)

-- ---- a request in its range

-- networks and SSIs are below 16,777,216
abbrev pub Below : User → Type 0
Below u = (u.network < 16777216) × (u.ssi < 16777216)

-- an identity, or an external number of 1 to 24 digits
abbrev pub Reached : Destination → Type 0
Reached (Identity u) = Below u
Reached (Number length) = (1 ≤ length.0) × (length.0 ≤ 24)

-- a group or none
abbrev pub Grouped : Option User → Type 0
Grouped (Some u) = Below u
Grouped None = Unit {0}

-- an identity uses no digit place, a number as many as its length
abbrev pub used : Destination → ℕ
used (Identity u) = 0
used (Number length) = length.0

pub record Ranged (q : Request) : Type 0 where
  pub user : Below q.user
  pub service : (1 ≤ q.service) × (q.service ≤ 3)
  pub destination : Reached q.destination
  pub group : Grouped q.group
  -- digits are 0 to 9, *, # and +
  pub digits : Each (λ d. d ≤ 12) (take (used q.destination) q.digits)
  -- places that are not used are zero
  pub unused : Each (λ d. d ≡ 0) (drop (used q.destination) q.digits)

-- ---- the table of refusals, as far as the decision goes

pub data Given (b : List ℕ) (q : Request) : Refusal → Type 0 where
  success : Ranged q → IsArchive b → Given b q (plain 0)
  -- 9: a request out of its range
  unranged : (Ranged q → ⊥) → Given b q (plain 9)
  -- 7: the archive breaks a rule
  damaged : (f : Refusal) → Ranged q → Broken b f → Given b q f

-- each is met
met : (answer (replicate 5 0) (speech 1 100 None) ≡ plain 0) × (answer [] (speech 16777216 100 None) ≡ plain 9) × (answer [] (speech 1 100 None) ≡ plain 7)
unfolding calls requests decide_is
met = (refl, refl, refl)

-- the number of a decision: 0 to 2 barred with that cause of table 38, 3 allowed, 4 not held
pub data Verdict : ℕ → Result Decision Refusal → Type 0 where
  outside-group : Verdict 0 (Ok (Barred OutsideGroup))
  restricted-service : Verdict 1 (Ok (Barred RestrictedService))
  restricted-address : Verdict 2 (Ok (Barred RestrictedAddress))
  allowed : Verdict 3 (Ok Allowed)
  not-held : Verdict 4 (Ok NotHeld)

-- Proved in proofs/Demand1/Decision.antt.
pub record Promise : Type 0 where
  -- a request is not refused exactly if it is in its range
  pub ranged : (q : Request) → (request_refusal q ≡ 0) ↔ Ranged q
  pub table : (b : List ℕ) (q : Request) → Exactly number_of (answer b q) (0 ∷ 9 ∷ 7 ∷ []) (Given b q)
  -- "Success returns the decision."
  pub success : (b : List ℕ) (q : Request) → (answer b q).number ≡ 0 → Verdict (verdict_of (decide_is b q)) (decide_is b q)
