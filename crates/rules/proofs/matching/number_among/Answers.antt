-- The invariants: what is left to search, and to compare, decides the answer. Assumes nothing.
use native.Mathlib.Omega.{arith}
use mathlib.Core.Path.{◌≡◌, sym, ap, ◌∙◌}
use mathlib.Core.List.{List, []}
use Prim.Native.Nat.{ℕ, ◌≤◌, ◌<◌, min}
use lib.ListN as list
use lib.ListN.{take, get_or, length-take}
use lib.Seq.{take-length}
use borrow.Author.Tests.{eq-eqb, ne_eqb}
use Rattle.std.proofs.lemmas.List.{get_or-take}
use Rattle.bits.specs.Lists.{some}
use Rattle.bits.proofs.Lists.{take-used}
use Rattle.grammar.specs.SiteSheet.{entries_of}
use Rattle.grammar.specs.declared.record.Number.{Number}
use Rattle.grammar.proofs.Arrays.{numbers-length, each-digits-length}
use Rattle.rules.specs.Matching.{is_number, number_among}
use Rattle.rules.proofs.Search.{passed, found, some_end, agrees, differs, same_end}
use Rattle.rules.proofs.matching.number_among.Goals.{At-entries, In-entries, In-loop-j, Start}
use Rattle.rules.proofs.matching.number_among.Goals as goal

-- what stands past the end of the entries
abbrev blank : Number
blank = record { length = record { 0 = 0 }; digits = [] }

-- the entries that the search goes through are those that the range type means
long : (c : Start) → list.length c.args.list.entries ≡ 8
long c = numbers-length c.args.list _ c.well_formed.0

items : At-entries → List Number
items c = take c.min-count.result c.args.list.entries

whole : (c : At-entries)
    → let a = c.args in
    some (is_number a.number.length.0 a.number.digits) (take (list.length (items c)) (items c))
    ≡ number_among a.list a.number.length.0 a.number.digits
unfolding number_among items
whole c =
    let a = c.args in
    let f = some (is_number a.number.length.0 a.number.digits) in
    ap f (take-length (items c))
    ∙ ap f
    (take-used a.list.entries (entries_of a.list.code) (long (goal.at.At-entries c).Start)
    (c.min-count.ensures ∙ ap (λ (n : ℕ). min n 8) c.entries_of.ensures))

-- the entry that is looked at, and the digits that its length uses
entry : At-entries → Number
entry c = get_or (items c) c.entries.e-index blank

-- the places that are compared are there
there : (c : In-entries)
    → let a = c.args in
    (list.length (entry (goal.at.In-entries c).At-entries).digits ≡ 24) × (list.length a.number.digits ≡ 24) × (c.min-places.result ≤ 24)
unfolding entry items
there c =
    let a = c.args in
    let n = c.min-count.result in
    let i = c.entries.e-index in
    let inside : i < n = omega (arith, length-take n a.list.entries) in
    let same : get_or (take n a.list.entries) i blank ≡ get_or a.list.entries i blank = get_or-take n a.list.entries i blank inside in
    (ap (λ (e : Number). list.length e.digits) same ∙ each-digits-length a.list _ c.well_formed.0 blank (omega arith), omega arith, omega arith)

pub entries-preserved-then-e-length : goal.entries-preserved-then-e-length
unfolding is_number
entries-preserved-then-e-length c =
    let n = c.args.number in
    let l = c.entries.invariant in
    (l.0, passed (is_number n.length.0 n.digits) _ blank c.entries-test.true (omega arith) (rw (ne_eqb _ _ c.if-e-length.true)) l.1)

pub loop-j-init : goal.loop-j-init
unfolding entry items is_number
loop-j-init c =
    let n = c.args.number in
    let at = (goal.at.loop-j-init c).At-entries in
    let here = there (goal.at.loop-j-init c).In-entries in
    let alike : (entry at).length.0 ≡ n.length.0 = c.if-e-length.false in
    let whole-entry = take-used (entry at).digits n.length.0 here.0 c.min-places.ensures in
    let whole-number = take-used n.digits n.length.0 here.1 c.min-places.ensures in
    (c.entries.invariant.0, rw (eq-eqb _ _ alike, whole-entry, whole-number))

pub loop-j-preserved : goal.loop-j-preserved
unfolding entry items
loop-j-preserved c =
    let here = there (goal.at.loop-j-preserved c).In-entries in
    let l = c.loop-j.invariant in
    let e = entry (goal.at.loop-j-preserved c).At-entries in
    (l.0, agrees e.digits _ c.loop-j-test.true (omega (arith, here)) (omega (arith, here)) (eq-eqb _ _ c.if-e-j.false) l.1)

-- a digit differs
pub entries-preserved : goal.entries-preserved
unfolding entry items
entries-preserved c =
    let n = c.args.number in
    let here = there (goal.at.entries-preserved c).In-entries in
    let other = sym (differs (entry (goal.at.entries-preserved c).At-entries).digits n.digits c.loop-j-test.true (omega (arith, here))
    (omega (arith, here)) (ne_eqb _ _ c.if-e-j.true) c.loop-j.invariant.1) in
    let l = c.entries.invariant in
    (l.0, passed (is_number n.length.0 n.digits) _ blank c.entries-test.true (omega arith) other l.1)

pub returns-after-entries : goal.returns-after-entries
unfolding items
returns-after-entries c =
    let n = c.args.number in
    let l = c.entries.invariant in
    l.0 ∙ some_end c.entries-test.false (is_number n.length.0 n.digits) _ l.1 ∙ whole (goal.at.returns-after-entries c).At-entries

pub returns-after-loop-j : goal.returns-after-loop-j
unfolding entry items
returns-after-loop-j c =
    let n = c.args.number in
    let e = entry (goal.at.returns-after-loop-j c).At-entries in
    let same = sym (same_end c.loop-j-test.false e.digits n.digits c.loop-j.invariant.1) in
    found (is_number n.length.0 n.digits) _ blank c.entries-test.true (omega arith) same c.entries.invariant.1
    ∙ whole (goal.at.returns-after-loop-j c).At-entries
