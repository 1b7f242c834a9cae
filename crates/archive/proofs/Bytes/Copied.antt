-- Bytes laid at the front of a buffer; and how long the parts of a capture are. Assumes nothing.
use mathlib.Core.Path.{◌≡◌, ap, ◌∙◌}
use mathlib.Core.List.{List, ◌++◌}
use Prim.Native.Nat.{ℕ, ◌+◌, ◌-◌, ◌≤◌}
use native.Mathlib.Omega.{arith}
use native.Mathlib.Nat.{zero-add}
use lib.ListN.{length, take, drop, length-append}
use Rattle.bits.specs.Inner.{Laid}
use Rattle.bits.proofs.Lists.{length_part}
use Rattle.archive.specs.Model.{header_width, entry_width, header_bytes, entry_bytes}
use Rattle.archive.specs.Keeping.{over}
use Rattle.archive.specs.Inner.{next_at, rest_at, Within, front_of, back_of, spliced, spliced_length}
use Rattle.archive.specs.declared.checking.Place.{Place}
use Rattle.archive.specs.declared.contents.Entry.{Entry}

pub length_front : (b : List ℕ) (at count : ℕ) (e : Entry) → header_width ≤ at → at ≤ length b → length (front_of b at count e) ≡ at + entry_width
unfolding front_of header_bytes entry_bytes
length_front b at count e h k =
    let l : length (take (at - header_width) (drop header_width b)) ≡ at - header_width = length_part b header_width (at - header_width) (omega arith) in
    simp (length-append, l) (omega arith)

pub length-spliced : (b : List ℕ) (p : Place) (count : ℕ) (e : Entry) (body : List ℕ) → Within p b
    → length (spliced b p count e body) ≡ spliced_length b p (length body)
unfolding back_of
length-spliced b p count e body w =
    let l₁ : length (take (p.off - next_at p) (drop (next_at p) b)) ≡ p.off - next_at p =
    length_part b (next_at p) (p.off - next_at p) (omega (arith, w.contents, w.bodies)) in
    let l₂ : length (take (length b - rest_at p) (drop (rest_at p) b)) ≡ length b - rest_at p =
    length_part b (rest_at p) (length b - rest_at p) (omega (arith, w.bodies)) in
    let l₃ = length_front b p.at count e w.first (omega (arith, w.contents, w.bodies)) in
    simp (length-append, l₁, l₂, l₃) (omega arith)

-- at the front of a buffer
pub at_front : {out s out' : List ℕ} {end : ℕ} → Laid out 0 s out' end → (end ≡ length s) × (out' ≡ over s out)
at_front {out} {s} x = (x.ends ∙ zero-add (length s), x.same ∙ ap (λ (k : ℕ). s ++ drop k out) (zero-add (length s)))
