-- A line without a third field is as good as the lines for each place of its layer, in any order. Assumes nothing.
use mathlib.Core.Path.{◌≡◌, refl, sym, ap, ◌∙◌, subst}
use mathlib.Core.Bool.{Bool, true, false}
use mathlib.Core.List.{List, [], ◌∷◌}
use Prim.Native.Nat.{ℕ, ◌+◌, ◌≤◌, ◌<◌}
use native.Mathlib.Omega.{arith}
use lib.ListN.{length, get_or}
use lib.Seq.{ext_get_or}
use lib.Dec.{eqb, leb}
use borrow.Author.Tests.{eq-eqb, eqb-true, eqb-false, le-leb}
use Rattle.std.specs.Prelude.{Option, Some, None, Ok}
use Rattle.bits.specs.Bits.{pick}
use Rattle.bits.proofs.Tests.{both, both⁻¹, never, by-test, same-pick}
use Rattle.terminals.specs.Layers.{places}
use Rattle.terminals.specs.Lines.{fields_of, Says}
use Rattle.terminals.specs.Profiles.{are_profiles, is_table, fields_refusal, names, set_in}
use Rattle.terminals.specs.Answers.{table_after}
use Rattle.terminals.specs.declared.layers.Place as layers
use Rattle.terminals.specs.declared.lines.Fields.{Fields}
use Rattle.terminals.specs.declared.lines.Line.TheVariants.{Set}
use Rattle.terminals.proofs.Grammar.{says-reads}
use Rattle.terminals.proofs.Setting.{length-set_in}
use Rattle.promises.specs.Terminals as says
use Rattle.promises.specs.Terminals.{IsTable, Place, BadValue, BadCount, Names, after_all, Among, here, there, ByPlace}
use Rattle.promises.proofs.Terminals.Places as place
use Rattle.promises.proofs.Terminals.Values.{judged, gives-0}
use Rattle.promises.proofs.Terminals.OnLine.{set-leaves, set_at}

-- ---- a set line on a table

-- the fields of a line for a place, or for a whole layer, are not refused
pub fine : (profile l : ℕ) (third : Option ℕ) → profile ≤ 3 → l ≤ 4 → ((x : ℕ) → third ≡ Some x → (l ≤ 3) × (i : ℕ) × Place i l (Some x))
    → fields_refusal (fields_of profile l third false) ≡ Ok tt
fine profile l third p h given = gives-0 (judged f) no_value no-count
  where
    f : Fields
    f = fields_of profile l third false

    no_value : BadValue f → ⊥
    no_value (says.profile k) = omega arith
    no_value (says.layer k) = omega arith
    no_value (says.third x k e none) = let q = given x e in none q.1 q.2

    no-count : BadCount f → ⊥
    no-count (says.third x k e) = let q = given x e in omega (arith, q.0)
    no-count (says.fourth k) = never cc

-- a table stays one
profiles_stay : (f : Fields) (ps : List layers.Place) (t : List ℕ) → f.profile ≤ 3 → are_profiles t ≡ true → are_profiles (set_in f ps t) ≡ true
unfolding set_in are_profiles
profiles_stay f [] t p h = h
profiles_stay f (q ∷ ps) [] p h = refl
profiles_stay f (q ∷ ps) (v ∷ t) p h =
    let k = both (leb v 3) (are_profiles t) h in
    both⁻¹ (by-test (λ (x : ℕ). leb x 3 ≡ true) (names f q) (le-leb f.profile 3 p) k.0) (profiles_stay f ps t p k.1)

pub stays-table : (f : Fields) (t : List ℕ) → f.profile ≤ 3 → IsTable t → IsTable (set_in f places t)
unfolding is_table
stays-table f t p h =
    let k = both (eqb (length t) 269) (are_profiles t) (place.is-table t h) in
    place.table_is (set_in f places t)
    (both⁻¹ (eq-eqb (length (set_in f places t)) 269 (length-set_in f places t ∙ h.whole)) (profiles_stay f places t p k.1))

-- what it leaves
pub leaves : (s t : List ℕ) (f : Fields) → IsTable t → Says s (Set f) → fields_refusal f ≡ Ok tt → table_after s t ≡ set_in f places t
leaves s t f h y z = set-leaves s t f (place.is-table t h) (says-reads y) z

-- ---- lines for the places of a layer

-- a line names places of its own layer only
own-layer : {f : Fields} {m : ℕ} {third : Option ℕ} → Names f m third → m ≡ f.layer
own-layer (says.all third e) = refl
own-layer (says.one x e) = refl

-- a layer but Packet Data takes a third field
given-third : {i l : ℕ} {third : Option ℕ} → Place i l third → l ≤ 3 → (x : ℕ) × (third ≡ Some x)
given-third (says.in_cc x h) k = (x, refl)
given-third (says.in_mm x h) k = (10 + x, refl)
given-third (says.in_sds x h) k = (20 + x, refl)
given-third (says.in_sds_tl x h) k = (x, refl)
given-third says.in-packet-data k = absurd (omega arith)

module _ (profile l : ℕ) (p : profile ≤ 3) (h : l ≤ 3) where
  abbrev one_of : ℕ → Fields
  one_of x = fields_of profile l (Some x) false

  one-fine : {i x : ℕ} → Place i l (Some x) → fields_refusal (one_of x) ≡ Ok tt
  one-fine {i} {x} q =
      fine profile l (Some x) p (omega arith)
      (λ y e. (h, i, subst (λ (z : ℕ). Place i l (Some z)) (let g : x ≡ y = cc in g) q))

  one-leaves : {i x : ℕ} (s t : List ℕ) → IsTable t → Place i l (Some x) → Says s (Set (one_of x)) → table_after s t ≡ set_in (one_of x) places t
  one-leaves {x = x} s t k q y = leaves s t (one_of x) k y (one-fine q)

  abbrev Each : List (List ℕ) → Type 0
  Each ss = (s : List ℕ) → Among s ss → (i : ℕ) × (x : ℕ) × Place i l (Some x) × Says s (Set (one_of x))

  fewer : {s : List ℕ} {ss : List (List ℕ)} → Each (s ∷ ss) → Each ss
  fewer each r a = each r (there a)

  -- a line more, on a table
  after_one : (s : List ℕ) (ss : List (List ℕ)) (t : List ℕ) → IsTable t → Each (s ∷ ss) → IsTable (table_after s t)
  after_one s ss t k each =
      let q = each s here in
      subst IsTable (sym (one-leaves s t k q.2 q.3)) (stays-table (one_of q.1) t p k)

  pub still-table : (ss : List (List ℕ)) (t : List ℕ) → IsTable t → Each ss → IsTable (after_all ss t)
  unfolding after_all
  still-table [] t k each = k
  still-table (s ∷ ss) t k each = still-table ss (table_after s t) (after_one s ss t k each) (fewer each)

  module _ {j m : ℕ} {third : Option ℕ} (q : Place j m third) where
    -- a place after one of the lines
    at_one : (s : List ℕ) (ss : List (List ℕ)) (t : List ℕ) → IsTable t → (each : Each (s ∷ ss))
        → get_or (table_after s t) j 0 ≡ pick (names (one_of (each s here).1) (record { layer = m; third = third })) profile (get_or t j 0)
    at_one s ss t k each =
        let e = each s here in
        ap (λ (x : List ℕ). get_or x j 0) (one-leaves s t k e.2 e.3) ∙ set_at (one_of e.1) t k.whole q

    -- once at the profile, it stays there
    keeps : (ss : List (List ℕ)) (t : List ℕ) → IsTable t → Each ss → get_or t j 0 ≡ profile → get_or (after_all ss t) j 0 ≡ profile
    unfolding after_all
    keeps [] t k each e = e
    keeps (s ∷ ss) t k each e =
        let b = names (one_of (each s here).1) (record { layer = m; third = third }) in
        keeps ss (table_after s t) (after_one s ss t k each) (fewer each)
        (at_one s ss t k each ∙ ap (λ (v : ℕ). pick b profile v) e ∙ same-pick b profile)

    -- another layer's places stay
    stays : (ss : List (List ℕ)) (t : List ℕ) → IsTable t → Each ss → (m ≡ l → ⊥) → get_or (after_all ss t) j 0 ≡ get_or t j 0
    unfolding after_all
    stays [] t k each n = refl
    stays (s ∷ ss) t k each n =
        stays ss (table_after s t) (after_one s ss t k each) (fewer each) n
        ∙ at_one s ss t k each
        ∙ ap (λ (b : Bool). pick b profile (get_or t j 0)) (place.names-not (one_of (each s here).1) m third (λ o. n (own-layer o)))

  -- the line for a place sets it, wherever it comes
  reaches : {j x : ℕ} (s : List ℕ) {ss : List (List ℕ)} → Among s ss → (t : List ℕ) → IsTable t → Each ss → Place j l (Some x)
      → Says s (Set (one_of x))
      → get_or (after_all ss t) j 0 ≡ profile
  unfolding after_all
  reaches {j} {x} s (here {ss}) t k each q y =
      keeps q ss (table_after s t) (after_one s ss t k each) (fewer each)
      (ap (λ (z : List ℕ). get_or z j 0) (one-leaves s t k q y)
      ∙ set_at (one_of x) t k.whole q
      ∙ ap (λ (b : Bool). pick b profile (get_or t j 0)) (place.names_it (one_of x) (says.one x refl)))
  reaches s (there {r} {ss} a) t k each q y = reaches s a (table_after r t) (after_one r ss t k each) (fewer each) q y

  pub whole-layer : (s t : List ℕ) (ss : List (List ℕ)) → IsTable t → Says s (Set (fields_of profile l None false)) → ByPlace profile l ss
      → after_all ss t ≡ table_after s t
  whole-layer s t ss k y b =
      ext_get_or 0 (after_all ss t) (table_after s t) ((still-table ss t k b.each).whole
      ∙ sym (ap length all-leaves ∙ length-set_in all places t ∙ k.whole))
      (λ j n. at j (omega (arith, (still-table ss t k b.each).whole)))
    where
      all : Fields
      all = fields_of profile l None false

      all-leaves : table_after s t ≡ set_in all places t
      all-leaves = leaves s t all k y (fine profile l None p (omega arith) (λ x e. never cc))

      -- a place of the layer, and one of another
      own : {j m : ℕ} {third : Option ℕ} → Place j m third → m ≡ l → get_or (after_all ss t) j 0 ≡ profile
      own {j} {m} {third} q e =
          let g = given-third q (omega arith) in
          let r : Place j l (Some g.0) = subst (λ (n : ℕ). Place j n (Some g.0)) e (subst (Place j m) g.1 q) in
          let a = b.all j g.0 r in
          reaches a.0 a.1 t k b.each r a.2

      by-layer : {j m : ℕ} {third : Option ℕ} → Place j m third → (c : Bool) → eqb m l ≡ c → get_or (after_all ss t) j 0 ≡ get_or (set_in all places t) j 0
      by-layer {j} {m} {third} q true c =
          let e = eqb-true m l c in
          own q e
          ∙ sym
          (set_at all t k.whole q
          ∙ ap (λ (d : Bool). pick d profile (get_or t j 0)) (place.names_it all (subst (λ (n : ℕ). Names all n third) (sym e) (says.all third refl))))
      by-layer {j} {m} {third} q false c =
          stays q ss t k b.each (eqb-false m l c)
          ∙ sym
          (set_at all t k.whole q
          ∙ ap (λ (d : Bool). pick d profile (get_or t j 0)) (place.names-not all m third (λ o. eqb-false m l c (own-layer o))))

      at : (j : ℕ) → j < 269 → get_or (after_all ss t) j 0 ≡ get_or (table_after s t) j 0
      at j n =
          let q = place.every j n in
          by-layer q.2 (eqb q.0 l) refl ∙ ap (λ (x : List ℕ). get_or x j 0) (sym all-leaves)
