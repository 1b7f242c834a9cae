-- The place of the layer that has it. Assumes nothing.
use mathlib.Core.Path.{◌≡◌, sym, ap, ◌∙◌}
use Prim.Native.Nat.{ℕ, ◌+◌, ◌-◌, ◌≤◌}
use native.Mathlib.Omega.{arith}
use lib.ListN.{get_or}
use Rattle.std.specs.Prelude.{Option, Some, option_map}
use Rattle.std.proofs.lemmas.Option.{same_Some}
use Rattle.bits.proofs.Tests.{never}
use Rattle.terminals.specs.Layers.{layer_at, places, nowhere}
use Rattle.terminals.specs.declared.layers.Layer.{Layer}
use Rattle.terminals.specs.declared.layers.Place.{Place}
use Rattle.terminals.proofs.Places.{each, place_at}
use Rattle.terminals.proofs.layers.place_at.Goals.{After-layer_of-row}
use Rattle.terminals.proofs.layers.place_at.Goals as goal

-- the values of every layer are small
abbrev Small : ℕ → Type 0
Small l = (t : ℕ) → (layer_at l).first ≡ Some t → t ≤ 20

first_small : (l : ℕ) → l ≤ 4 → Small l
unfolding layer_at
first_small =
    each Small (λ t e. let s = same_Some 0 t e in omega arith) (λ t e. let s = same_Some 10 t e in omega arith)
    (λ t e. let s = same_Some 20 t e in omega arith) (λ t e. let s = same_Some 0 t e in omega arith) (λ t e. never cc)

-- the place, by the row that was found
abbrev place_by : ℕ → ℕ → Layer → Option ℕ → Place
place_by l i row first = record { layer = l; third = option_map (λ t. t + (i - row.start)) first }

found : (c : After-layer_of-row) {first : Option ℕ} → c.layer_of-row.result.first ≡ first
    → place_by c.layer_with-layer.result c.args.index c.layer_of-row.result first ≡ get_or places c.args.index nowhere
found c e =
    let l = c.layer_with-layer.result in
    let i = c.args.index in
    ap (place_by l i c.layer_of-row.result) (sym e)
    ∙ ap (λ (r : Layer). place_by l i r r.first) c.layer_of-row.ensures ∙ sym (place_at l i c.layer_with-layer.ensures)

pub returns-in-Some : goal.returns-in-Some
returns-in-Some c = found (goal.at.returns-in-Some c).After-layer_of-row c.in-Some.is

pub returns-in-None : goal.returns-in-None
returns-in-None c = found (goal.at.returns-in-None c).After-layer_of-row c.in-None.is

pub overflow_add-result : goal.overflow_add-result
overflow_add-result c =
    let has = c.layer_with-layer.ensures in
    let first = first_small c.layer_with-layer.result has.known c.in-Some.first
    (sym (ap (λ (r : Layer). r.first) c.layer_of-row.ensures) ∙ c.in-Some.is) in
    omega (arith, c.requires)
