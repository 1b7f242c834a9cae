-- What the six rules say together, by cases on which of them applies. Assumes nothing.
use mathlib.Core.Path.{◌≡◌, ap, ◌∙◌}
use mathlib.Core.Bool.{Bool, true, false, not, ◌&&◌}
use Prim.Native.Nat.{ℕ}
use borrow.Author.Tests.{eq-eqb}
use Rattle.bits.specs.Bits.{pick}
use Rattle.bits.proofs.Tests.{never, same-pick}
use Rattle.grammar.specs.declared.record.Record.{Record}
use Rattle.rules.specs.Matching.{covered}
use Rattle.rules.specs.Rule.{is_excepted, is_restricted, is_outside, in_groups, both_empty, missing_in, ruling, six_rules}
use Rattle.rules.specs.Rule.{allowed, barred}
use Rattle.rules.specs.declared.request.Request.{Request}
use Rattle.rules.specs.declared.Cause.TheVariants.{OutsideGroup, RestrictedService, RestrictedAddress}

module _ (home : ℕ) (r : Record) (q : Request) where
  -- a call by a service that the part does not list is allowed
  pub unlisted-allowed : covered r.services q.service ≡ false → ruling home r q ≡ allowed
  unfolding ruling six_rules
  unlisted-allowed h = rw h

  -- an excepted destination is never barred
  pub excepted-allowed : is_excepted (missing_in home r) r.lists q.destination q.digits ≡ true → ruling home r q ≡ allowed
  unfolding ruling six_rules
  excepted-allowed h =
      let below = pick (is_restricted (missing_in home r) r.lists q.destination q.digits) (barred RestrictedAddress)
      (pick (is_outside (missing_in home r) r.lists.groups q.group) (barred OutsideGroup)
      (pick (both_empty r.lists q.destination) (barred RestrictedService) allowed)) in
      ap (λ (b : Bool). pick (not (covered r.services q.service)) allowed (pick b allowed below)) h ∙ same-pick (not (covered r.services q.service)) allowed

  -- an empty group list bars no call for its group
  inside : r.lists.groups.code ≡ 0 → is_outside (missing_in home r) r.lists.groups q.group ≡ false
  unfolding is_outside
  inside h = ap (λ (t : Bool). not t && not (in_groups (missing_in home r) r.lists.groups q.group)) (eq-eqb r.lists.groups.code 0 h)

  pub no-groups : r.lists.groups.code ≡ 0 → ruling home r q ≡ barred OutsideGroup → ⊥
  unfolding ruling six_rules
  no-groups h e =
      apart (covered r.services q.service) (is_excepted (missing_in home r) r.lists q.destination q.digits)
      (is_restricted (missing_in home r) r.lists q.destination q.digits) (both_empty r.lists q.destination) (rw (inside h) at e)
    where
      apart : (a b c d : Bool)
          → pick (not a) allowed (pick b allowed (pick c (barred RestrictedAddress) (pick d (barred RestrictedService) allowed)))
          ≡ barred OutsideGroup → ⊥
      apart false b c d e = never cc
      apart true true c d e = never cc
      apart true false true d e = never cc
      apart true false false true e = never cc
      apart true false false false e = never cc
