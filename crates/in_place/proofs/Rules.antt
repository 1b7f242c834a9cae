-- What the lists say settles the rules. Assumes nothing.
use mathlib.Core.Path.{◌≡◌, ◌∙◌}
use mathlib.Core.Bool.{Bool, true, false}
use mathlib.Core.List.{List}
use Prim.Native.Nat.{ℕ}
use Rattle.bits.specs.declared.DigitCount.{DigitCount}
use Rattle.codec.specs.Codec.{Codec}
use Rattle.grammar.specs.Grammar.{identities}
use Rattle.grammar.specs.declared.record.Lists.{Lists}
use Rattle.grammar.specs.declared.record.Record.{Record}
use Rattle.grammar.specs.declared.site.ListKind.TheVariants as of
use Rattle.reader.specs.Inner.{Read, Reads}
use Rattle.rules.specs.Matching.{identity_among, number_among, covered}
use Rattle.rules.specs.Rule.{allowed, is_excepted, is_restricted, is_empty, in_groups, is_outside, restricted_code, both_empty, six_rules}
use Rattle.rules.specs.declared.request.User.{User}
use Rattle.rules.specs.declared.request.Destination.{Destination}
use Rattle.rules.specs.declared.request.Destination.TheVariants.{Identity, Number}
use Rattle.rules.specs.declared.request.Request.{Request}
use Rattle.in_place.specs.Inner.{settled_by, Sees}
use Rattle.in_place.specs.declared.Seen.{Seen}
use Rattle.in_place.proofs.Splits.{SeenIs, sees-is}
use Rattle.in_place.proofs.Bodies.{PartLists}

-- rule 1
pub unlisted : (missing : ℕ) (r : Record) (q : Request) → covered r.services q.service ≡ false → allowed ≡ six_rules missing r q
unfolding six_rules
unlisted missing r q e = rw e

-- what is said of the lists of a kind is said of the destination
pub record Tells {A : Type 0} (missing : ℕ) (l : Lists) (d : Destination) (digits : List ℕ) (test : A → Bool) (code : A → ℕ)
    (restricted exceptions : A) : Type 0 where
  pub barred : test restricted ≡ is_restricted missing l d digits
  pub empty : is_empty (code restricted) ≡ is_empty (restricted_code l d)
  pub excepted : test exceptions ≡ is_excepted missing l d digits

module _ (missing : ℕ) (l : Lists) (digits : List ℕ) {d : Destination} where
  pub by-identity : {u : User} → d ≡ Identity u
      → Tells missing l d digits (λ l. identity_among missing l u) (λ l. l.code) l.restricted l.exceptions
  unfolding is_restricted is_excepted
  by-identity e = record { barred = rw e; empty = rw e; excepted = rw e }

  pub by_number : {length : DigitCount} → d ≡ Number length
      → Tells missing l d digits (λ l. number_among l length.0 digits) (λ l. l.code) l.numbers l.excepted
  unfolding is_restricted is_excepted
  by_number e = record { barred = rw e; empty = rw e; excepted = rw e }

-- the other rules: each list is seen where the one before it ends
module _ {A : Type 0} {c : Codec A} (missing : ℕ) (r : Record) (q : Request) {s : List Bool} {at : ℕ} {restricted exceptions : A} {grouped : Seen}
    (l : PartLists c s at r.lists.groups restricted exceptions)
    (g : Sees (identities of.Identities) (λ l. in_groups missing l q.group) (λ l. l.code) s at grouped) where
  groups-are : SeenIs (λ l. in_groups missing l q.group) (λ l. l.code) r.lists.groups l.restricted-at grouped
  groups-are = sees-is g l.groups

  restricted-read : Read c s grouped.end restricted l.exceptions-at
  restricted-read = rw groups-are.ends l.restricted

  pub restricted-reads : Reads c s grouped.end
  restricted-reads = record { value = restricted; end = l.exceptions-at; read = restricted-read }

  module _ {test : A → Bool} {code : A → ℕ} {barred : Seen} (t : Sees c test code s grouped.end barred) where
    restricted-are : SeenIs test code restricted l.exceptions-at barred
    restricted-are = sees-is t restricted-read

    exceptions-read : Read c s barred.end exceptions l.end
    exceptions-read = rw restricted-are.ends l.exceptions

    pub exceptions-reads : Reads c s barred.end
    exceptions-reads = record { value = exceptions; end = l.end; read = exceptions-read }

    pub settles : {excepted : Seen} → Sees c test code s barred.end excepted → covered r.services q.service ≡ true
        → Tells missing r.lists q.destination q.digits test code restricted exceptions
        → settled_by grouped.has grouped.empty barred.has barred.empty excepted.has ≡ six_rules missing r q
    unfolding six_rules settled_by is_outside both_empty
    settles x listed by =
        let exceptions-are = sees-is x exceptions-read in
        rw (
          listed,
          groups-are.has,
          groups-are.empty,
          restricted-are.has ∙ by.barred,
          restricted-are.empty ∙ by.empty,
          exceptions-are.has ∙ by.excepted,
        )
