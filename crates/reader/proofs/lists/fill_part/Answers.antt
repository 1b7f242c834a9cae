-- Each part has its own lists. Assumes nothing.
use mathlib.Core.Path.{◌≡◌, ap, ◌∙◌}
use Prim.Native.Nat.{ℕ}
use native.Mathlib.Omega.{arith}
use borrow.Author.Tests.{ne_eqb}
use lib.ListN.{length, replicate}
use Rattle.grammar.specs.Grammar.{part_of}
use Rattle.reader.specs.Inner.{Fillable}
use Rattle.grammar.specs.Grammar.{identity_part, number_part}
use Rattle.words.specs.Places.{lists_width}
use Rattle.reader.proofs.Groups.{identity-groups, identity-others, identity_filled, number-groups, number-others, number_filled, none_filled}
use Rattle.reader.proofs.Parts.{fillable-by, fill-by}
use Rattle.reader.proofs.lists.fill_part.Goals.{Then-part-eq1, Then-part-eq2}
use Rattle.reader.proofs.lists.fill_part.Goals as goal

one : (c : Then-part-eq1) → let a = c.args in Fillable identity_part a.s.now a.c.at a.words.now lists_width
one c = fillable-by (ap (λ (x : ℕ). part_of x) c.if-part-eq1.true) c.requires

two : (c : Then-part-eq2) → let a = c.args in Fillable number_part a.s.now a.c.at a.words.now lists_width
two c = fillable-by (ap (λ (x : ℕ). part_of x) c.if-part-eq2.true) c.requires

pub fill-after_groups-requires : goal.fill-after_groups-requires
fill-after_groups-requires c =
    let p = one (goal.at.fill-after_groups-requires c).Then-part-eq1 in
    record { few = p.few; room = omega (arith, p.room); reads = identity-groups p.reads }

pub fill_two-requires : goal.fill_two-requires
fill_two-requires c =
    let p = one (goal.at.fill_two-requires c).Then-part-eq1 in
    record { few = p.few; room = omega (arith, p.room); reads = identity-others p.reads c.fill-after_groups.ensures.read }

pub returns-then-part-eq1 : goal.returns-then-part-eq1
returns-then-part-eq1 c =
    let size : length c.split_at_mut-identities.result.1.now ≡ 402 = omega (arith, c.requires.room) in
    let zeros = c.fill.ensures.after (λ y e. e) ∙ ap (λ (k : ℕ). replicate k 0) size in
    fill-by (ap (λ (x : ℕ). part_of x) c.if-part-eq1.true) (identity_filled c.fill-after_groups.ensures c.fill_two.ensures zeros)

pub fill-after_groups-requires-then-part-eq2 : goal.fill-after_groups-requires-then-part-eq2
fill-after_groups-requires-then-part-eq2 c =
    let p = two (goal.at.fill-after_groups-requires-then-part-eq2 c).Then-part-eq2 in
    record { few = p.few; room = omega (arith, p.room); reads = number-groups p.reads }

pub fill_two-requires-then-part-eq2 : goal.fill_two-requires-then-part-eq2
fill_two-requires-then-part-eq2 c =
    let p = two (goal.at.fill_two-requires-then-part-eq2 c).Then-part-eq2 in
    record { few = p.few; room = omega (arith, p.room); reads = number-others p.reads c.fill-after_groups-then-part-eq2.ensures.read }

pub returns-then-part-eq2 : goal.returns-then-part-eq2
returns-then-part-eq2 c =
    let size : length c.split_at_mut-identities.result.0.now ≡ 50 = omega (arith, c.requires.room) in
    let zeros = c.fill-then-part-eq2.ensures.after (λ y e. e) ∙ ap (λ (k : ℕ). replicate k 0) size in
    fill-by (ap (λ (x : ℕ). part_of x) c.if-part-eq2.true)
    (number_filled c.fill-after_groups-then-part-eq2.ensures zeros c.fill_two-then-part-eq2.ensures)

pub returns : goal.returns
returns c =
    let a = c.args in
    let first : length c.split_at_mut-groups.result.0.now ≡ 25 = omega (arith, c.requires.room) in
    let second : length c.split_at_mut-identities.result.0.now ≡ 50 = omega (arith, c.requires.room) in
    let third : length c.split_at_mut-identities.result.1.now ≡ 402 = omega (arith, c.requires.room) in
    rw (ne_eqb a.part 1 c.if-part-eq1.false, ne_eqb a.part 2 c.if-part-eq2.false)
    (none_filled (c.fill-2.ensures.after (λ y e. e) ∙ ap (λ (k : ℕ). replicate k 0) first)
    (c.fill-3.ensures.after (λ y e. e) ∙ ap (λ (k : ℕ). replicate k 0) second)
    (c.fill-4.ensures.after (λ y e. e) ∙ ap (λ (k : ℕ). replicate k 0) third))
