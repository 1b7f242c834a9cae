-- A destination's four words and a group's three, to words and back. Assumes nothing.
use mathlib.Core.Path.{◌≡◌, refl, sym, ◌∙◌}
use mathlib.Core.Bool.{Bool, true, false, ◌&&◌, ◌||◌, or-false}
use mathlib.Core.List.{List, [], ◌∷◌, ◌++◌}
use Prim.Native.Nat.{ℕ, ◌+◌, ◌<◌}
use native.Mathlib.Omega.{arith}
use borrow.Author.Tests.{eqb-true}
use lib.ListN.{length}
use lib.Dec.{eqb}
use Rattle.std.proofs.Common.{Option, Some, None}
use Rattle.bits.specs.Bits.{pick}
use Rattle.bits.proofs.Tests.{both}
use Rattle.rules.specs.Request.{digits_used}
use Rattle.rules.specs.declared.request.Destination.{Destination}
use Rattle.rules.specs.declared.request.Destination.TheVariants.{Identity, Number}
use Rattle.rules.specs.declared.request.User.{User}
use Rattle.words.specs.Places.{given_at}
use Rattle.words.specs.RecordWords.{word, narrow}
use Rattle.words.specs.RequestWords.{are_destination, are_group, destination_from, group_from, destination_words, group_words}

-- ---- to words and back

pub destination-long : (d : Destination) → length (destination_words d) ≡ 4
unfolding destination_words
destination-long (Identity u) = refl
destination-long (Number n) = refl

pub group-long : (g : Option User) → length (group_words g) ≡ 3
unfolding group_words
group-long (Some u) = refl
group-long None = refl

module _ (network ssi service : ℕ) (rest : List ℕ) where
  pub destination-back : (d : Destination) → digits_used d < 256 → destination_from (network ∷ ssi ∷ service ∷ destination_words d ++ rest) ≡ d
  unfolding destination_words destination_from digits_used
  destination-back (Identity u) h = refl
  destination-back (Number n) h = let e : narrow n.0 ≡ n.0 = omega arith in λ i. Number (record { 0 = e i })

  pub are-destination : (d : Destination) → are_destination (network ∷ ssi ∷ service ∷ destination_words d ++ rest) ≡ true
  unfolding destination_words are_destination
  are-destination (Identity u) = refl
  are-destination (Number n) = refl

-- the group of three words, and whether they are one's
abbrev pub group_of : ℕ → ℕ → ℕ → Option User
group_of given network ssi = pick (eqb given 1) (Some (record { network = network; ssi = ssi })) None

abbrev pub is_group : ℕ → ℕ → ℕ → Bool
is_group given network ssi = eqb given 1 || eqb given 0 && (eqb network 0 && eqb ssi 0)

-- words whose last three are the group's
module _ (w : List ℕ) (g : Option User) (e : (k : ℕ) → word w (given_at + k) ≡ word (group_words g) k) where
  pub group-back : group_from w ≡ g
  unfolding group_words group_from
  group-back = (λ i. group_of (e 0 i) (e 1 i) (e 2 i)) ∙ go g
    where
      go : (g : Option User) → group_of (word (group_words g) 0) (word (group_words g) 1) (word (group_words g) 2) ≡ g
      go (Some u) = refl
      go None = refl

  pub are-group : are_group w ≡ true
  unfolding group_words are_group
  are-group = (λ i. is_group (e 0 i) (e 1 i) (e 2 i)) ∙ go g
    where
      go : (g : Option User) → is_group (word (group_words g) 0) (word (group_words g) 1) (word (group_words g) 2) ≡ true
      go (Some u) = refl
      go None = refl

-- ---- from words and to them again

zeros : (a b : ℕ) → eqb a 0 && eqb b 0 ≡ true → (a ≡ 0) × (b ≡ 0)
zeros a b e = let z = both (eqb a 0) (eqb b 0) e in (eqb-true a 0 z.0, eqb-true b 0 z.1)

-- an identity has no length
pub no_length : (kind used : ℕ) (rest : Bool) → kind ≡ 1 → eqb used 0 || eqb kind 2 && rest ≡ true → used ≡ 0
no_length kind used rest one e = eqb-true used 0 (sym (or-false (eqb used 0)) ∙ rw one at e)

module _ (kind network ssi used : ℕ) (h : used < 256) where
  abbrev pub choose : Bool → Destination
  choose p = pick p (Identity (record { network = network; ssi = ssi })) (Number (record { 0 = narrow used }))

  pub destination-forth : (p : Bool) → eqb kind 1 ≡ p → (p && eqb used 0 || eqb kind 2 && (eqb network 0 && eqb ssi 0)) ≡ true
      → destination_words (choose p) ≡ kind ∷ network ∷ ssi ∷ used ∷ []
  unfolding destination_words
  destination-forth true k e =
      let one : kind ≡ 1 = eqb-true kind 1 k in
      let none = no_length kind used (eqb network 0 && eqb ssi 0) one e in
      λ i. sym one i ∷ network ∷ ssi ∷ sym none i ∷ []
  destination-forth false k e =
      let two = both (eqb kind 2) (eqb network 0 && eqb ssi 0) e in
      let z = zeros network ssi two.1 in
      let byte : narrow used ≡ used = omega arith in
      λ i. sym (eqb-true kind 2 two.0) i ∷ sym z.0 i ∷ sym z.1 i ∷ byte i ∷ []

pub group-forth : (given network ssi : ℕ) → is_group given network ssi ≡ true → group_words (group_of given network ssi) ≡ given ∷ network ∷ ssi ∷ []
unfolding group_words
group-forth given network ssi = go (eqb given 1) refl
  where
    go : (p : Bool) → eqb given 1 ≡ p → (p || eqb given 0 && (eqb network 0 && eqb ssi 0)) ≡ true
        → group_words (pick p (Some (record { network = network; ssi = ssi })) None) ≡ given ∷ network ∷ ssi ∷ []
    go true k e = let one : given ≡ 1 = eqb-true given 1 k in λ i. sym one i ∷ network ∷ ssi ∷ []
    go false k e =
        let none = both (eqb given 0) (eqb network 0 && eqb ssi 0) e in
        let z = zeros network ssi none.1 in
        λ i. sym (eqb-true given 0 none.0) i ∷ sym z.0 i ∷ sym z.1 i ∷ []
