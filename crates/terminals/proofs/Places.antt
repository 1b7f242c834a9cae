-- Where the places of a layer stand among all. Assumes nothing.
use mathlib.Core.Path.{◌≡◌, refl, sym, ap, ◌∙◌}
use mathlib.Core.Bool.{Bool, true, not, ◌&&◌}
use mathlib.Core.List.{List, [], ◌∷◌, ◌++◌}
use Prim.Native.Nat.{ℕ, zero, suc, ◌+◌, ◌-◌, ◌≤◌, ◌<◌}
use native.Mathlib.Omega.{arith}
use native.Mathlib.Nat.{not-suc-le-zero, le_of_suc-le-suc, add-zero}
use lib.ListN.{length, get_or, get_or-append}
use lib.Seq.{get_or-append-add}
use lib.Dec.{eqb}
use Rattle.std.specs.Prelude.{Option, Some, None, option_map}
use Rattle.bits.proofs.Tests.{never}
use Rattle.terminals.specs.Layers.{layer_cc, layer_mm, layer_sds, layer_sds_tl, layer_packet_data, layer_at, values, alone, places_from, places_of, places, nowhere}
use Rattle.terminals.specs.Inner.{Has}
use Rattle.terminals.specs.declared.layers.Place.{Place}

-- ---- the five layers

pub each : (P : ℕ → Type 0) → P 0 → P 1 → P 2 → P 3 → P 4 → (l : ℕ) → l ≤ 4 → P l
each P p₀ p₁ p₂ p₃ p₄ zero h = p₀
each P p₀ p₁ p₂ p₃ p₄ (suc zero) h = p₁
each P p₀ p₁ p₂ p₃ p₄ (suc (suc zero)) h = p₂
each P p₀ p₁ p₂ p₃ p₄ (suc (suc (suc zero))) h = p₃
each P p₀ p₁ p₂ p₃ p₄ (suc (suc (suc (suc zero)))) h = p₄
each P p₀ p₁ p₂ p₃ p₄ (suc (suc (suc (suc (suc l))))) h = absurd (omega arith)

-- the places of every layer stand in the table
pub ends : (l : ℕ) → l ≤ 4 → (layer_at l).start + (layer_at l).count ≤ 269
unfolding layer_at
ends = each (λ l. (layer_at l).start + (layer_at l).count ≤ 269) (omega arith) (omega arith) (omega arith) (omega arith) (omega arith)

-- a layer's places end where the next one's start, the last one's at the table's end
abbrev GoesOn : ℕ → Type 0
GoesOn l = (i : ℕ) → (layer_at l).start + (layer_at l).count ≤ i → i < 269 → (l < 4) × ((layer_at (l + 1)).start ≡ (layer_at l).start + (layer_at l).count)

pub goes_on : (l : ℕ) → l ≤ 4 → GoesOn l
unfolding layer_at
goes_on =
    each GoesOn (λ i h k. (omega arith, refl)) (λ i h k. (omega arith, refl)) (λ i h k. (omega arith, refl)) (λ i h k. (omega arith, refl))
    (λ i h k. absurd (omega arith))

-- no place of that layer
unfoldable pub none_of : ℕ → List Place → Bool
none_of l [] = true
none_of l (p ∷ ps) = not (eqb l p.layer) && none_of l ps

-- the places before those of a layer, and after them
pub record Split (l : ℕ) : Type 0 where
  pub before : List Place
  pub after : List Place
  pub parts : places ≡ before ++ (places_of l (layer_at l) ++ after)
  pub from : length before ≡ (layer_at l).start
  pub size : length (places_of l (layer_at l)) ≡ (layer_at l).count
  pub none_before : none_of l before ≡ true
  pub none_after : none_of l after ≡ true

pub split : (l : ℕ) → l ≤ 4 → Split l
unfolding places layer_at values none_of
split =
    let a = places_of 0 layer_cc in
    let b = places_of 1 layer_mm in
    let c = places_of 2 layer_sds in
    let d = places_of 3 layer_sds_tl in
    let e = places_of 4 layer_packet_data in
    each Split
    (record { before = []; after = b ++ (c ++ (d ++ e)); parts = refl; from = refl; size = refl; none_before = refl; none_after = refl })
    (record { before = a; after = c ++ (d ++ e); parts = refl; from = refl; size = refl; none_before = refl; none_after = refl })
    (record { before = a ++ b; after = d ++ e; parts = refl; from = refl; size = refl; none_before = refl; none_after = refl })
    (record { before = a ++ (b ++ c); after = e; parts = refl; from = refl; size = refl; none_before = refl; none_after = refl })
    (record { before = a ++ (b ++ (c ++ d)); after = []; parts = refl; from = refl; size = refl; none_before = refl; none_after = refl })

-- ---- the place at an index

value-at : (l t n k : ℕ) → k < n → get_or (values l t n) k nowhere ≡ record { layer = l; third = Some (t + k) }
unfolding values
value-at l t zero k h = absurd (not-suc-le-zero h)
value-at l t (suc n) zero h = ap (λ (x : ℕ). record { layer = l; third = Some x }) (sym (add-zero t))
value-at l t (suc n) (suc k) h =
    value-at l (suc t) n k (le_of_suc-le-suc h) ∙ ap (λ (x : ℕ). record { layer = l; third = Some x }) (omega arith)

-- the place of a layer at an index of it
abbrev pub place_in : ℕ → ℕ → Place
place_in l i = record { layer = l; third = option_map (λ t. t + (i - (layer_at l).start)) (layer_at l).first }

in-layer : (l k : ℕ) (first : Option ℕ) (count : ℕ) → k < count → (first ≡ None → count ≡ 1)
    → get_or (places_from l first count) k nowhere ≡ record { layer = l; third = option_map (λ t. t + k) first }
in-layer l k (Some t) count h one = value-at l t count k h
in-layer l k None count h one = ap (λ (j : ℕ). get_or (alone l) j nowhere) {x = k} {y = 0} (let o = one refl in omega arith)

-- a layer without values has one place
pub only_one : (l : ℕ) → l ≤ 4 → (layer_at l).first ≡ None → (layer_at l).count ≡ 1
unfolding layer_at
only_one =
    each (λ l. (layer_at l).first ≡ None → (layer_at l).count ≡ 1) (λ e. never cc) (λ e. never cc) (λ e. never cc) (λ e. never cc) (λ e. refl)

pub place_at : (l i : ℕ) → Has l i → get_or places i nowhere ≡ place_in l i
place_at l i h =
    let s = split l h.known in
    let row = layer_at l in
    let k : ℕ = i - row.start in
    let at : i ≡ length s.before + k = omega (arith, s.from, h.from) in
    let short : k < row.count = omega (arith, h.from, h.before) in
    let here : k < length (places_of l row) = omega (arith, s.size) in
    let whole : get_or places i nowhere ≡ get_or (s.before ++ (places_of l row ++ s.after)) (length s.before + k) nowhere =
    λ j. get_or (s.parts j) (at j) nowhere
    in
    whole
    ∙ get_or-append-add s.before (places_of l row ++ s.after) k nowhere
    ∙ get_or-append (places_of l row) s.after nowhere k here
    ∙ in-layer l k row.first row.count short (only_one l h.known)
