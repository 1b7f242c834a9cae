-- Entry by entry, what is left decides about the shape. Assumes nothing.
use mathlib.Core.Path.{◌≡◌, refl, sym, ap, ◌∙◌, subst}
use mathlib.Core.Bool.{Bool, true, ◌&&◌}
use mathlib.Core.List.{List}
use Prim.Native.Nat.{ℕ, ◌+◌, ◌-◌, ◌*◌, ◌≤◌, ◌<◌}
use native.Mathlib.Omega.{arith}
use lib.ListN.{length}
use Rattle.bits.specs.Frame.{bytes_for}
use Rattle.bits.proofs.Tests.{said-no, said-yes}
use Rattle.archive.specs.Model.{rank_of, in_range, entry_width}
use Rattle.archive.specs.Reading.{entry_at, size_at}
use Rattle.archive.specs.Inner.{may_follow, rest_shape}
use Rattle.archive.specs.declared.contents.Entry.{Entry}
use Rattle.archive.proofs.Bytes.Checking.{follows-not, follows, room_for, shape-none}
use Rattle.archive.proofs.checking.rest_has_shape.Goals.{After-bytes-off, After-in_range, After-may_follow, At-loop-index, Else-not-may_follow, In-loop-index}
use Rattle.archive.proofs.checking.rest_has_shape.Goals as goal

-- the bytes, where the entry at hand stands, how many are left from it on, and the room behind the bodies so far
abbrev b-of : At-loop-index → List ℕ
b-of c = c.args.archive.now

abbrev place : At-loop-index → ℕ
place c = c.args.from + entry_width * c.loop-index.index

abbrev left : At-loop-index → ℕ
left c = c.args.entries - c.loop-index.index

abbrev room : At-loop-index → ℕ
room c = length (b-of c) - c.loop-index.off

more : (c : In-loop-index) → 0 < left (goal.at.In-loop-index c).At-loop-index
more c = omega (arith, c.loop-index-test.true)

may : (c : After-may_follow) →
    let l = (goal.at.After-may_follow c).At-loop-index in
    c.may_follow.result ≡ may_follow (entry_at (b-of l) (place l)) (rank_of c.loop-index.last) (room l)
may c =
    let l = (goal.at.After-may_follow c).At-loop-index in
    c.may_follow.ensures ∙ ap (λ (e : Entry). may_follow e (rank_of c.loop-index.last) (room l)) c.entry_at-entry.ensures.0

pub returns-then-not-may_follow : goal.returns-then-not-may_follow
returns-then-not-may_follow c =
    let at = goal.at.returns-then-not-may_follow c in
    sym (c.loop-index.invariant.2 ∙ follows-not (b-of at.At-loop-index) _ _ _ _ (more at.In-loop-index) (said-no (may at.After-may_follow) c.if-not-may_follow.true))

-- it may follow, and its body ends inside
followed : (c : Else-not-may_follow) →
    let l = (goal.at.Else-not-may_follow c).At-loop-index in
    may_follow (entry_at (b-of l) (place l)) (rank_of c.loop-index.last) (room l) ≡ true
followed c = said-yes (may (goal.at.Else-not-may_follow c).After-may_follow) c.if-not-may_follow.false

inside : (c : After-bytes-off) →
    let l = (goal.at.After-bytes-off c).At-loop-index in
    (c.bytes-off.result ≡ size_at (b-of l) (place l)) × (c.loop-index.off + c.bytes-off.result ≤ length (b-of l))
inside c =
    let l = (goal.at.After-bytes-off c).At-loop-index in
    let size = c.bytes-off.ensures ∙ ap (λ (e : Entry). bytes_for e.bits.0) c.entry_at-entry.ensures.0 in
    (size, omega (arith, size, room_for (entry_at (b-of l) (place l)) _ _ (followed (goal.at.After-bytes-off c).Else-not-may_follow), c.loop-index.invariant.0))

-- the shape of what stands behind the entry at hand
abbrev behind : At-loop-index → Bool
behind l =
    rest_shape (b-of l) (rank_of (entry_at (b-of l) (place l)).key) (left l - 1) (place l + entry_width)
    (l.loop-index.off + size_at (b-of l) (place l))

-- its key's range and that decide
decided : (c : After-in_range) {t : Bool} → c.in_range.result ≡ t →
    let a = c.args in
    rest_shape a.archive.now (rank_of a.key) a.entries a.from a.bodies ≡ t && behind (goal.at.After-in_range c).At-loop-index
decided c e =
    let at = goal.at.After-in_range c in
    let range = ap (λ (x : Entry). in_range x.key) (sym c.entry_at-entry.ensures.0) ∙ sym c.in_range.ensures ∙ e in
    let day = subst (λ (x : Entry). x.day < 65536) c.entry_at-entry.ensures.0 c.entry_at-entry.ensures.1.day in
    c.loop-index.invariant.2 ∙ follows (b-of at.At-loop-index) _ _ _ _ (more at.In-loop-index) day (followed at.Else-not-may_follow)
    ∙ ap (λ (t : Bool). t && behind at.At-loop-index) range

pub returns-then-not-in_range : goal.returns-then-not-in_range
returns-then-not-in_range c = sym (decided (goal.at.returns-then-not-in_range c).After-in_range (said-no refl c.if-not-in_range.true))

pub overflow_add-off : goal.overflow_add-off
overflow_add-off c = omega (arith, (inside c).1, c.requires.entries_in_bounds.2)

pub loop-index-preserved : goal.loop-index-preserved
loop-index-preserved c =
    let l = (goal.at.loop-index-preserved c).At-loop-index in
    let rank : rank_of c.entry_at-entry.result.key ≡ rank_of (entry_at (b-of l) (place l)).key = ap (λ (e : Entry). rank_of e.key) c.entry_at-entry.ensures.0 in
    let next : place l + entry_width ≡ c.args.from + entry_width * (c.loop-index.index + 1) = omega arith in
    let n : left l - 1 ≡ c.args.entries - (c.loop-index.index + 1) = omega arith in (
      omega (arith, (inside c).1),
      c.entry_at-entry.ensures.1.key,
      decided (goal.at.loop-index-preserved c).After-in_range (said-yes refl c.if-not-in_range.false)
          ∙ (λ i. rest_shape (b-of l) (sym rank i) (n i) (next i) (c.loop-index.off + sym (inside c).0 i)),
    )

pub returns : goal.returns
returns c = sym (c.loop-index.invariant.2 ∙ shape-none _ _ _ _ _ (omega (arith, c.loop-index-test.false)))
