-- The exceptions and the restricted are one search, in two pairs of lists. Assumes nothing.
use mathlib.Core.Path.{◌≡◌}
use mathlib.Core.Bool.{Bool}
use mathlib.Core.List.{List}
use Prim.Native.Nat.{ℕ}
use Rattle.grammar.specs.declared.record.Lists.{Lists}
use Rattle.rules.specs.Inner.{destination_among}
use Rattle.rules.specs.Rule.{is_excepted, is_restricted}
use Rattle.rules.specs.declared.request.Destination.{Destination}
use Rattle.rules.specs.declared.request.Destination.TheVariants.{Identity, Number}

module _ (missing : ℕ) (l : Lists) (digits : List ℕ) {x : Bool} where
  pub excepted : (d : Destination) → destination_among missing l.exceptions l.excepted d digits ≡ x → is_excepted missing l d digits ≡ x
  unfolding destination_among is_excepted
  excepted (Identity u) e = e
  excepted (Number length) e = e

  pub restricted : (d : Destination) → destination_among missing l.restricted l.numbers d digits ≡ x → is_restricted missing l d digits ≡ x
  unfolding destination_among is_restricted
  restricted (Identity u) e = e
  restricted (Number length) e = e
