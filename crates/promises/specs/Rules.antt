-- What the six rules say together of a call, whatever else the part lists.
use Rattle.std.specs.Prelude.{◌≡◌, true, false, ℕ}
use Rattle.grammar.specs.declared.record.Record.{Record}
use Rattle.rules.specs.Matching.{covered}
use Rattle.rules.specs.Rule.{is_excepted, missing_in, ruling, allowed, barred}
use Rattle.rules.specs.declared.request.Request.{Request}
use Rattle.rules.specs.declared.Cause.TheVariants.{OutsideGroup}
use Rattle.rules.proofs.Rules as rules

module _ (home : ℕ) (part : Record) (q : Request) where
  -- A service that the part does not cover is never barred.
  pub unlisted-allowed : covered part.services q.service ≡ false → ruling home part q ≡ allowed
  unlisted-allowed = rules.unlisted-allowed home part q

  -- A destination among the exceptions is never barred, though it is restricted or the group is missing.
  pub excepted-allowed : is_excepted (missing_in home part) part.lists q.destination q.digits ≡ true → ruling home part q ≡ allowed
  excepted-allowed = rules.excepted-allowed home part q

  -- An empty group list bars no call for its group.
  pub no-groups : part.lists.groups.code ≡ 0 → ruling home part q ≡ barred OutsideGroup → ⊥
  no-groups = rules.no-groups home part q
