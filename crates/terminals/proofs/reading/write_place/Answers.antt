-- The layer, and the third field if there is one. Assumes nothing.
use mathlib.Core.Path.{◌≡◌, refl, sym, ap, ◌∙◌, subst}
use mathlib.Core.List.{List, ◌++◌}
use Prim.Native.Nat.{ℕ}
use Rattle.std.specs.Prelude.{Some, None}
use Rattle.text.specs.Decimal.{item}
use Rattle.text.proofs.Copies.{Fitted, and_then}
use Rattle.terminals.specs.Reading.{comma, line_end, place_text}
use Rattle.terminals.proofs.reading.write_place.Goals as goal

-- what is written where the third field is missing, and where it is given
missing : (l : ℕ) → place_text l None ≡ item l line_end
unfolding place_text
missing l = refl

given : (l x : ℕ) → place_text l (Some x) ≡ item l comma ++ item x line_end
unfolding place_text
given l x = refl

pub returns-in_default : goal.returns-in_default
returns-in_default c =
    let a = c.args in
    subst (λ (s : List ℕ). Fitted a.out.now a.at s c.write_item.new.out c.write_item.result)
    (sym (ap (place_text a.place.layer) c.in_default.is ∙ missing a.place.layer)) c.write_item.ensures.laid

pub returns : goal.returns
returns c =
    let a = c.args in
    subst (λ (s : List ℕ). Fitted a.out.now a.at s c.write_item-2.new.out c.write_item-2.result)
    (sym (ap (place_text a.place.layer) c.in-Some.is ∙ given a.place.layer c.in-Some.value))
    (and_then c.write_item-value_at.ensures.laid c.write_item-2.ensures.laid)
