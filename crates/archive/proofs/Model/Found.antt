-- What an archive holds for a user and part is filed under them, and its body agrees with its entry. Assumes nothing.
use Rattle.std.specs.Prelude.{Some}
use mathlib.Core.Path.{◌≡◌, refl, sym, ap, ◌∙◌, subst}
use mathlib.Core.Bool.{Bool, true, false}
use mathlib.Core.List.{List, [], ◌∷◌}
use Prim.Native.Nat.{ℕ}
use lib.Dec.{eqb}
use borrow.Author.Tests.{eqb-true, eq-eqb}
use Rattle.bits.specs.Bits.{pick}
use Rattle.bits.proofs.Tests.{never}
use Rattle.archive.specs.Model.{Held, rank_of, rank, in_range}
use Rattle.archive.specs.Filing.{body_agrees, keeps_rules}
use Rattle.archive.specs.Reading.{reading, is_archive}
use Rattle.archive.specs.Restoring.{lookup}
use Rattle.archive.specs.declared.contents.Key.{Key}
use Rattle.archive.proofs.Model.Keys.{ranged, same_key_lem, rank-names}
use Rattle.archive.proofs.Model.Rules.{kept, archive-formed}
use Rattle.archive.proofs.Model.Bodies.{Agrees, agrees-says, key_fits}

looked_up : (home last : ℕ) (k : Key) (hs : List Held) {h : Held} → keeps_rules home last hs ≡ true → lookup k hs ≡ Some h
    → (body_agrees home h ≡ true) × (rank h ≡ rank_of k)
looked_up home last k [] r e = never cc
looked_up home last k (x ∷ xs) {h} r e =
    let u = kept home last x xs r in
    go (eqb (rank x) (rank_of k)) refl u.agrees (looked_up home (rank x) k xs u.others) e
  where
    go : (t : Bool) → eqb (rank x) (rank_of k) ≡ t → body_agrees home x ≡ true
        → (lookup k xs ≡ Some h → (body_agrees home h ≡ true) × (rank h ≡ rank_of k)) → pick t (Some x) (lookup k xs) ≡ Some h
        → (body_agrees home h ≡ true) × (rank h ≡ rank_of k)
    go true q a more f =
        let same : x ≡ h = cc in
        (subst (λ (y : Held). body_agrees home y ≡ true) same a, ap rank (sym same) ∙ eqb-true _ _ q)
    go false q a more f = more f

module _ (b : List ℕ) (a : is_archive b ≡ true) (k : Key) {h : Held} (e : lookup k (reading b).held ≡ Some h) where
  found : (body_agrees (reading b).home h ≡ true) × (rank h ≡ rank_of k)
  found = looked_up (reading b).home 0 k (reading b).held (archive-formed b a).rules e

  pub held-agrees : Agrees (reading b).home h
  held-agrees = agrees-says (reading b).home h found.0

  pub held-named : in_range k ≡ true → h.entry.key ≡ k
  held-named r =
      let f = key_fits (reading b).home h (archive-formed b a).home held-agrees in
      same_key_lem h.entry.key k (sym (rank-names h.entry.key k f (ranged k r)) ∙ eq-eqb _ _ found.1)
