-- The places by their index, in the paper's words and in the contract's; and which of them a set line names. Assumes nothing.
use mathlib.Core.Path.{◌≡◌, refl, sym, ap, ◌∙◌, subst}
use mathlib.Core.Bool.{Bool, true, false}
use mathlib.Core.List.{List, [], ◌∷◌}
use Prim.Native.Nat.{ℕ, zero, suc, ◌+◌, ◌-◌, ◌≤◌, ◌<◌}
use native.Mathlib.Omega.{arith}
use borrow.Author.Tests.{ltb-true, ltb-false, eq-eqb, eqb-true, le-leb, leb-true}
use lib.ListN.{length, get_or}
use lib.Dec.{eqb, leb, ltb}
use Rattle.std.specs.Prelude.{Option, Some, None}
use Rattle.bits.proofs.Tests.{both, both⁻¹, never, false-unless}
use Rattle.terminals.specs.Layers.{layer_at, places, nowhere}
use Rattle.terminals.specs.Profiles.{are_profiles, is_table, names_third, names}
use Rattle.terminals.specs.declared.lines.Fields.{Fields}
use Rattle.terminals.proofs.Places.{place_at}
use Rattle.promises.specs.Terminals as says
use Rattle.promises.specs.Terminals.{IsTable, Place, in_cc, in_mm, in_sds, in_sds_tl, in-packet-data, Names}

-- ---- tables

profiles_are : (t : List ℕ) → are_profiles t ≡ true → (i : ℕ) → get_or t i 0 ≤ 3
unfolding are_profiles
profiles_are [] e i = omega arith
profiles_are (v ∷ t) e zero = leb-true v 3 (both (leb v 3) (are_profiles t) e).0
profiles_are (v ∷ t) e (suc i) = profiles_are t (both (leb v 3) (are_profiles t) e).1 i

are-profiles : (t : List ℕ) → ((i : ℕ) → get_or t i 0 ≤ 3) → are_profiles t ≡ true
unfolding are_profiles
are-profiles [] h = refl
are-profiles (v ∷ t) h = both⁻¹ (le-leb v 3 (h 0)) (are-profiles t (λ i. h (suc i)))

pub table_is : (t : List ℕ) → is_table t ≡ true → IsTable t
unfolding is_table
table_is t e =
    let k = both (eqb (length t) 269) (are_profiles t) e in
    record { whole = eqb-true (length t) 269 k.0; profiles = profiles_are t k.1 }

pub is-table : (t : List ℕ) → IsTable t → is_table t ≡ true
unfolding is_table
is-table t h = both⁻¹ (eq-eqb (length t) 269 h.whole) (are-profiles t h.profiles)

pub no_table : (t : List ℕ) → (IsTable t → ⊥) → is_table t ≡ false
no_table t h = false-unless (is_table t) (λ e. h (table_is t e))

-- ---- places

pub inside : {i l : ℕ} {third : Option ℕ} → Place i l third → i < 269
inside (in_cc x h) = omega arith
inside (in_mm x h) = omega arith
inside (in_sds x h) = omega arith
inside (in_sds_tl x h) = omega arith
inside in-packet-data = omega arith

-- the place that stands there
pub place_is : {i l : ℕ} {third : Option ℕ} → Place i l third → get_or places i nowhere ≡ record { layer = l; third = third }
unfolding layer_at
place_is (in_cc x h) =
    place_at 0 x (record { known = omega arith; from = omega arith; before = omega arith })
    ∙ ap (λ (y : ℕ). record { layer = 0; third = Some y }) (omega arith)
place_is (in_mm x h) =
    place_at 1 (2 + x) (record { known = omega arith; from = omega arith; before = omega arith })
    ∙ ap (λ (y : ℕ). record { layer = 1; third = Some y }) (omega arith)
place_is (in_sds x h) =
    place_at 2 (7 + x) (record { known = omega arith; from = omega arith; before = omega arith })
    ∙ ap (λ (y : ℕ). record { layer = 2; third = Some y }) (omega arith)
place_is (in_sds_tl x h) =
    place_at 3 (12 + x) (record { known = omega arith; from = omega arith; before = omega arith })
    ∙ ap (λ (y : ℕ). record { layer = 3; third = Some y }) (omega arith)
place_is in-packet-data = place_at 4 268 (record { known = omega arith; from = omega arith; before = omega arith })

abbrev Placed : ℕ → Type 0
Placed i = (l : ℕ) × (third : Option ℕ) × Place i l third

moved : {i j : ℕ} → i ≡ j → Placed i → Placed j
moved e p = subst Placed e p

pub every : (i : ℕ) → i < 269 → Placed i
every i h = go (ltb i 2) refl (ltb i 7) refl (ltb i 12) refl (ltb i 268) refl
  where
    go : (a : Bool) → ltb i 2 ≡ a → (b : Bool) → ltb i 7 ≡ b → (c : Bool) → ltb i 12 ≡ c → (d : Bool) → ltb i 268 ≡ d → Placed i
    go true a b' b c' c d' d = (0, Some i, in_cc i (ltb-true i 2 a))
    go false a true b c' c d' d =
        let k = ltb-false i 2 a in
        let m = ltb-true i 7 b in
        moved {i = 2 + (i - 2)} (omega arith) (1, Some (10 + (i - 2)), in_mm (i - 2) (omega arith))
    go false a false b true c d' d =
        let k = ltb-false i 7 b in
        let m = ltb-true i 12 c in
        moved {i = 7 + (i - 7)} (omega arith) (2, Some (20 + (i - 7)), in_sds (i - 7) (omega arith))
    go false a false b false c true d =
        let k = ltb-false i 12 c in
        let m = ltb-true i 268 d in
        moved {i = 12 + (i - 12)} (omega arith) (3, Some (i - 12), in_sds_tl (i - 12) (omega arith))
    go false a false b false c false d =
        let k = ltb-false i 268 d in
        moved {i = 268} (omega arith) (4, None, in-packet-data)

-- a place by its layer and third field
abbrev least : Option ℕ → ℕ
least None = 0
least (Some t) = t

abbrev index_of : ℕ → Option ℕ → ℕ
index_of l None = 268
index_of l (Some x) = (layer_at l).start + (x - least (layer_at l).first)

index_is : {i l : ℕ} {third : Option ℕ} → Place i l third → i ≡ index_of l third
unfolding layer_at
index_is (in_cc x h) = omega arith
index_is (in_mm x h) = omega arith
index_is (in_sds x h) = omega arith
index_is (in_sds_tl x h) = omega arith
index_is in-packet-data = refl

pub one_place : {i j l : ℕ} {third : Option ℕ} → Place i l third → Place j l third → i ≡ j
one_place p q = index_is p ∙ sym (index_is q)

pub last-place : {i l : ℕ} {third : Option ℕ} → Place i l third → l ≡ 4 → i ≡ 268
last-place (in_cc x h) e = absurd (omega arith)
last-place (in_mm x h) e = absurd (omega arith)
last-place (in_sds x h) e = absurd (omega arith)
last-place (in_sds_tl x h) e = absurd (omega arith)
last-place in-packet-data e = refl

-- ---- the places that a set line names

names-says : (f : Fields) (l : ℕ) (third : Option ℕ) (own : Option ℕ) → f.third ≡ own → f.layer ≡ l → names_third own third ≡ true → Names f l third
names-says f l third None e k h = subst (λ (m : ℕ). Names f m third) k (says.all third e)
names-says f l (Some y) (Some x) e k h =
    subst (λ (m : ℕ). Names f m (Some y)) k (says.one y (e ∙ ap (λ (z : ℕ). Some z) (eqb-true x y h)))
names-says f l None (Some x) e k h = never cc

pub named : (f : Fields) (l : ℕ) (third : Option ℕ) → names f (record { layer = l; third = third }) ≡ true → Names f l third
unfolding names
named f l third e =
    let k = both (eqb f.layer l) (names_third f.third third) e in
    names-says f l third f.third refl (eqb-true f.layer l k.0) k.1

pub names_it : (f : Fields) {l : ℕ} {third : Option ℕ} → Names f l third → names f (record { layer = l; third = third }) ≡ true
unfolding names
names_it f (says.all third e) = both⁻¹ (eq-eqb f.layer f.layer refl) (ap (λ (x : Option ℕ). names_third x third) e)
names_it f (says.one x e) =
    both⁻¹ (eq-eqb f.layer f.layer refl) (ap (λ (y : Option ℕ). names_third y (Some x)) e ∙ eq-eqb x x refl)

pub names-not : (f : Fields) (l : ℕ) (third : Option ℕ) → (Names f l third → ⊥) → names f (record { layer = l; third = third }) ≡ false
names-not f l third h = false-unless (names f (record { layer = l; third = third })) (λ e. h (named f l third e))
