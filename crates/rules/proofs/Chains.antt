-- One test after another, as long as they hold: what is said of them together. Assumes nothing.
use mathlib.Core.Path.{◌≡◌, ◌∙◌}
use mathlib.Core.Bool.{Bool, true, false, ◌&&◌}

-- the next is made, and says it
pub goes_on : {x a y b v : Bool} → x ≡ a → x ≡ true → y ≡ b → v ≡ y → v ≡ a && b
goes_on e t f h = rw (← e, t) (h ∙ f)

-- the next is not made
pub ends : {x a v : Bool} (b : Bool) → x ≡ a → x ≡ false → v ≡ x → v ≡ a && b
ends b e t h = rw (← e, t) (h ∙ t)
