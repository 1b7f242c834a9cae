-- A list that the PDU carries or not: an empty one is as one that is not carried. Assumes nothing.
use mathlib.Core.Path.{◌≡◌, refl}
use mathlib.Core.Bool.{Bool, true, false}
use Prim.Native.Nat.{ℕ}
use Rattle.bits.specs.Bits.{pick}
use Rattle.bits.proofs.Tests.{differ}
use Rattle.codec.specs.Codec.{Codec, Legal}
use Rattle.codec.specs.Parts.{number, element, tested}
use Rattle.codec.specs.Places.{places}
use Rattle.codec.proofs.Legality.{legal-seq, legal-shaped, legal-tested, legal-absent, pair-legal, shaped-legal, tested-legal, absent-legal}
use Rattle.grammar.specs.SiteSheet.{range_type, row_of, range_refusal}
use Rattle.grammar.specs.Grammar.{range_ends, identities, no_identities, externals, no_externals}
use Rattle.grammar.specs.declared.site.ListKind.TheVariants as of
use Rattle.grammar.specs.declared.record.Identities.{Identities}
use Rattle.grammar.specs.declared.record.Numbers.{Numbers}

-- ---- identities

-- carried and empty, it may be left out
dropped : (l : Identities) → l.code ≡ 0 → Legal (identities of.Identities) l → Legal no_identities l
unfolding identities no_identities row_of range_type places
dropped l e h =
    let t = legal-tested _ _ _ _ (legal-seq _ _ _ (legal-shaped _ _ _ _ _ _ h)).1 in
    shaped-legal _ _ _ _ _ (pair-legal _ _ _ (rw e absent-legal) (rw e at t))

-- not carried, it is empty
empty : (l : Identities) → Legal no_identities l → l.code ≡ 0
unfolding no_identities
empty l h = legal-absent _ (legal-seq _ _ _ (legal-shaped _ _ _ _ _ _ h)).0

-- and may be carried
carried : (l : Identities) → Legal no_identities l → Legal (identities of.Identities) l
unfolding identities no_identities row_of range_type range_refusal range_ends places element tested number
carried l h =
    let e = empty l h in
    let t = (legal-seq _ _ _ (legal-shaped _ _ _ _ _ _ h)).1 in
    shaped-legal _ _ _ _ _ (pair-legal _ _ _ (rw e (record { clean = refl; faultless = refl })) (rw e (tested-legal _ _ _ t refl)))

-- ---- numbers, in the same way

dropped-numbers : (l : Numbers) → l.code ≡ 0 → Legal externals l → Legal no_externals l
unfolding externals no_externals row_of range_type places
dropped-numbers l e h =
    let t = (legal-seq _ _ _ (legal-shaped _ _ _ _ _ _ h)).1 in
    shaped-legal _ _ _ _ _ (pair-legal _ _ _ (rw e absent-legal) (rw e at t))

empty-numbers : (l : Numbers) → Legal no_externals l → l.code ≡ 0
unfolding no_externals
empty-numbers l h = legal-absent _ (legal-seq _ _ _ (legal-shaped _ _ _ _ _ _ h)).0

carried-numbers : (l : Numbers) → Legal no_externals l → Legal externals l
unfolding externals no_externals row_of range_type range_refusal places element tested number
carried-numbers l h =
    let e = empty-numbers l h in
    let t = (legal-seq _ _ _ (legal-shaped _ _ _ _ _ _ h)).1 in
    shaped-legal _ _ _ _ _ (pair-legal _ _ _ (rw e (record { clean = refl; faultless = refl })) (rw e t))

-- ---- either

-- the three laws of a list that is described as carried and as not carried
pub record Optional {A : Type 0} (code : A → ℕ) (used unused : Codec A) : Type 0 where
  pub drop : (l : A) → code l ≡ 0 → Legal used l → Legal unused l
  pub none : (l : A) → Legal unused l → code l ≡ 0
  pub carry : (l : A) → Legal unused l → Legal used l

pub of-identities : Optional (λ l. l.code) (identities of.Identities) no_identities
of-identities = record { drop = dropped; none = empty; carry = carried }

pub of-numbers : Optional (λ l. l.code) externals no_externals
of-numbers = record { drop = dropped-numbers; none = empty-numbers; carry = carried-numbers }

module _ {A : Type 0} {code : A → ℕ} {used unused : Codec A} (list : Optional code used unused) where
  -- from one PDU to another, unless that does not carry it and it is not empty
  pub move : (s t : Bool) (l : A) → (t ≡ false → code l ≡ 0) → Legal (pick s used unused) l → Legal (pick t used unused) l
  move true true l e h = h
  move true false l e h = list.drop l (e refl) h
  move false true l e h = list.carry l h
  move false false l e h = h

  pub unless-carried : (t : Bool) (l : A) → Legal (pick t used unused) l → t ≡ false → code l ≡ 0
  unless-carried true l h e = differ e
  unless-carried false l h e = list.none l h
