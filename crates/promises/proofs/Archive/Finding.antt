-- A user and part in range, and what is held for it: as tests and as statements. Assumes nothing.
use Rattle.std.specs.Prelude.{Option, None, Some}
use mathlib.Core.Path.{◌≡◌, refl, sym, ap, ◌∙◌, subst}
use mathlib.Core.Logic.{◌↔◌, ⊎_elim}
use mathlib.Core.Bool.{Bool, true, false}
use mathlib.Core.List.Memᴰ
use mathlib.Core.List.{List, [], ◌∷◌, Memᴰ}
use Prim.Native.Nat.{ℕ, ◌<◌}
use native.Mathlib.Omega.{arith}
use lib.Dec.{eqb}
use borrow.Author.Tests.{eq-eqb, ne_eqb}
use Rattle.bits.specs.Bits.{pick}
use Rattle.bits.proofs.Tests.{never}
use Rattle.archive.specs.Model.{Held, rank_of, rank, in_range}
use Rattle.archive.specs.Filing.{body_agrees, keeps_rules}
use Rattle.archive.specs.Reading.{reading, is_archive}
use Rattle.archive.specs.Restoring.{lookup}
use Rattle.archive.proofs.Model.Rules.{AllFit, and-fit, kept, all_fit, archive-formed}
use Rattle.archive.proofs.Model.Keys as keys
use Rattle.archive.specs.declared.contents.Key.{Key}
use Rattle.promises.specs.Held.{one_or-two}
use Rattle.promises.specs.Archive.{Ranged, HeldFor}

-- ---- a user and part

pub ranged-says : (k : Key) → in_range k ≡ true → Ranged k
ranged-says k e =
    let r = keys.ranged k e in
    record { network = r.network; ssi = r.ssi; part = one_or-two k.part r.low r.high }

pub ranged-is : (k : Key) → Ranged k → in_range k ≡ true
ranged-is k r =
    ⊎_elim (λ e. keys.in-range k r.network r.ssi (omega (arith, e)) (omega (arith, e)))
    (λ e. keys.in-range k r.network r.ssi (omega (arith, e)) (omega (arith, e))) r.part

-- an entry of an archive is above what its entries rise from, and its body agrees with it
pub among-kept : (home last : ℕ) (h : Held) (hs : List Held) → keeps_rules home last hs ≡ true → Memᴰ h hs
    → (last < rank h) × (body_agrees home h ≡ true)
among-kept home last h [] k m = absurd (Memᴰ.not-nil m)
among-kept home last h (x ∷ xs) k m =
    let u = kept home last x xs k in
    ⊎_elim (λ e. (omega (arith, u.rises, ap rank e), subst (λ (y : Held). body_agrees home y ≡ true) (sym e) u.agrees))
    (λ t. let r = among-kept home (rank x) h xs u.others t in (omega (arith, u.rises, r.0), r.1)) (Memᴰ.cases_cons m)

module _ (k : Key) where
  look : (home last : ℕ) (h : Held) (hs : List Held) → keeps_rules home last hs ≡ true → rank h ≡ rank_of k → Memᴰ h hs → lookup k hs ≡ Some h
  look home last h [] r e m = absurd (Memᴰ.not-nil m)
  look home last h (x ∷ xs) r e m =
      let u = kept home last x xs r in
      ⊎_elim
      (λ f. ap (λ (t : Bool). pick t (Some x) (lookup k xs)) (eq-eqb _ _ (ap rank (sym f) ∙ e)) ∙ ap Some (sym f))
      (λ t.
      let l : rank x < rank h = (among-kept home (rank x) h xs u.others t).0 in
      ap (λ (t : Bool). pick t (Some x) (lookup k xs)) (ne_eqb (rank x) (rank_of k) (λ q. omega (arith, l, e, q)))
      ∙ look home (rank x) h xs u.others e t)
      (Memᴰ.cases_cons m)

  looked : (r : Ranged k) (h : Held) (hs : List Held) → AllFit hs → lookup k hs ≡ Some h → HeldFor hs k h
  looked r h [] f e = never cc
  looked r h (x ∷ xs) (and-fit fx fs) e = go (eqb (rank x) (rank_of k)) refl e (looked r h xs fs)
    where
      go : (t : Bool) → eqb (rank x) (rank_of k) ≡ t → pick t (Some x) (lookup k xs) ≡ Some h
          → (lookup k xs ≡ Some h → HeldFor xs k h) → HeldFor (x ∷ xs) k h
      go true q s ih =
          let same : x ≡ h = cc in
          let n = keys.same_key_lem x.entry.key k (sym (keys.rank-names x.entry.key k fx.entry.key (keys.ranged k (ranged-is k r))) ∙ q) in
          record { among = Memᴰ.head (sym same); for = ap (λ (y : Held). y.entry.key) (sym same) ∙ n }
      go false q s ih = let d = ih s in record { among = Memᴰ.tail d.among; for = d.for }

  module _ (b : List ℕ) (ok : is_archive b ≡ true) (r : Ranged k) where
    pub found : (h : Held) → (lookup k (reading b).held ≡ Some h) ↔ HeldFor (reading b).held k h
    found h =
        let f = archive-formed b ok in (
          looked r h (reading b).held (all_fit (reading b).home 0 (reading b).held f.home f.rules),
          λ d. look (reading b).home 0 h (reading b).held f.rules (ap rank_of d.for) d.among,
        )

    pub not_found : (lookup k (reading b).held ≡ None) ↔ ((h : Held) → HeldFor (reading b).held k h → ⊥)
    not_found = (
      λ e h d. let s = (found h).1 d in never cc,
      λ nobody. go (lookup k (reading b).held) refl nobody,
    )
      where
        go : (l : Option Held) → lookup k (reading b).held ≡ l → ((h : Held) → HeldFor (reading b).held k h → ⊥) → l ≡ None
        go None e nobody = refl
        go (Some h) e nobody = absurd (nobody h ((found h).0 e))
