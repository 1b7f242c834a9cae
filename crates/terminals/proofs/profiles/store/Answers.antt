-- The fields are in their ranges, so the places that they name stand in the table. Assumes nothing.
use mathlib.Core.Path.{◌≡◌, sym, ap, ◌∙◌}
use Prim.Native.Nat.{ℕ, ◌+◌, ◌-◌, ◌≤◌, ◌<◌}
use native.Mathlib.Omega.{arith}
use lib.ListN.{length, set, take, drop, replicate}
use Rattle.std.specs.Prelude.{None}
use Rattle.std.proofs.lemmas.Option.{same_Some}
use Rattle.bits.specs.Bits.{splice}
use Rattle.bits.proofs.Lists.{length_part}
use Rattle.terminals.specs.Layers.{layer_at}
use Rattle.terminals.specs.declared.layers.Layer.{Layer}
use Rattle.terminals.proofs.Places.{ends}
use Rattle.terminals.proofs.Fields.{Settled, settled, value_of, not_taken}
use Rattle.terminals.proofs.Setting.{filled, set_all, set-one}
use Rattle.terminals.proofs.profiles.store.Goals.{After-layer_of-row, In-Some-Some, In_default}
use Rattle.terminals.proofs.profiles.store.Goals.{in_default-via-in-Some+in_default, in_default-via-in_default}
use Rattle.terminals.proofs.profiles.store.Goals as goal

fits : (c : After-layer_of-row) → Settled c.args.fields
fits c = settled c.args.fields c.requires.0

-- where the layer's places end
end : (c : After-layer_of-row) → c.layer_of-row.result.start + c.layer_of-row.result.count ≤ 269
end c =
    omega (arith, ends c.args.fields.layer (fits c).layer, ap (λ (r : Layer). r.start + r.count) c.layer_of-row.ensures)

-- the third field is one of the layer's values
given : (c : In-Some-Some) → let row = c.layer_of-row.result in
    (c.in-Some-Some.first ≤ c.in-Some-Some.value) × (c.in-Some-Some.value < c.in-Some-Some.first + row.count)
given c =
    let f = c.args.fields in
    let here = (goal.at.In-Some-Some c).After-layer_of-row in
    let v = value_of (layer_at f.layer) f.third c.in-Some-Some.is-1 (fits here).value (fits here).taken in
    let e = c.layer_of-row.ensures in
    let first = same_Some _ _ (sym c.in-Some-Some.is-0 ∙ ap (λ (r : Layer). r.first) e ∙ v.named) in
    (omega (arith, v.low), omega (arith, v.high, ap (λ (r : Layer). r.count) e))

pub layer_of-row-requires : goal.layer_of-row-requires
layer_of-row-requires c = (settled c.args.fields c.requires.0).layer

pub overflow_cast-profile : goal.overflow_cast-profile
overflow_cast-profile c = omega (arith, (fits (goal.at.overflow_cast-profile c).After-layer_of-row).profile)

pub overflow_sub-table : goal.overflow_sub-table
overflow_sub-table c = (given (goal.at.overflow_sub-table c).In-Some-Some).0

pub overflow_add-table : goal.overflow_add-table
overflow_add-table c = omega (arith, given (goal.at.overflow_add-table c).In-Some-Some, end (goal.at.overflow_add-table c).After-layer_of-row)

pub bounds-table-row : goal.bounds-table-row
bounds-table-row c = omega (arith, given (goal.at.bounds-table-row c).In-Some-Some, end (goal.at.bounds-table-row c).After-layer_of-row, c.requires.1)

pub overflow_add-row : goal.overflow_add-row
overflow_add-row c = omega (arith, end (goal.at.overflow_add-row c).After-layer_of-row)

pub slice_bounds-fill-end : goal.slice_bounds-fill-end
slice_bounds-fill-end c = omega (arith, end (goal.at.slice_bounds-fill-end c).After-layer_of-row, c.requires.1)

pub returns-in-Some-Some : goal.returns-in-Some-Some
returns-in-Some-Some c =
    let f = c.args.fields in
    let x = c.in-Some-Some.value in
    let first = c.in-Some-Some.first in
    let here = (goal.at.returns-in-Some-Some c).After-layer_of-row in
    let v = given (goal.at.returns-in-Some-Some c).In-Some-Some in
    let e = c.layer_of-row.ensures in
    ap (λ (r : Layer). set c.args.table.now (r.start + (x - first)) f.profile) e
    ∙ sym (set-one f c.args.table.now (fits here).layer c.requires.1 x first c.in-Some-Some.is-1
    (sym (ap (λ (r : Layer). r.first) e) ∙ c.in-Some-Some.is-0) v.0 (omega (arith, v.1, ap (λ (r : Layer). r.count) e)))

-- what the arm without a value is reached by
missing : (c : In_default) → c.args.fields.third ≡ None
missing c =
    let f = c.args.fields in
    let here = (goal.at.In_default c).After-layer_of-row in
    elim c.in_default.branch [
      | in_default-via-in-Some+in_default w ↦ w.in_default.is-1
      | in_default-via-in_default w ↦
          not_taken (layer_at f.layer) f.third (sym (ap (λ (r : Layer). r.first) c.layer_of-row.ensures) ∙ w.in_default.is-0) (fits here).taken
    ]

pub returns-in_default : goal.returns-in_default
returns-in_default c =
    let f = c.args.fields in
    let t = c.args.table.now in
    let row = c.layer_of-row.result in
    let here = (goal.at.returns-in_default c).After-layer_of-row in
    let count : row.start + row.count - row.start ≡ row.count = omega arith in
    let part = length_part t row.start row.count (omega (arith, end here, c.requires.1)) in
    let size : length (take (row.start + row.count - row.start) (drop row.start t)) ≡ row.count =
    ap (λ (n : ℕ). length (take n (drop row.start t))) count ∙ part in
    filled t row.start row.count f.profile (c.fill.ensures.after (λ y e. e) ∙ ap (λ (n : ℕ). replicate n f.profile) size)
    ∙ ap (λ (r : Layer). splice t r.start (replicate r.count f.profile)) c.layer_of-row.ensures
    ∙ sym (set_all f t (fits here).layer c.requires.1 (missing (goal.at.returns-in_default c).In_default))
