-- The two ends, one after the other. Assumes nothing.
use mathlib.Core.Path.{◌≡◌, sym, ap₂, ◌∙◌, subst}
use mathlib.Core.List.{List}
use Prim.Native.Nat.{ℕ}
use lib.ListN.{get_or}
use Rattle.bits.specs.Bits.{bits}
use Rattle.codec.specs.Places.{places}
use Rattle.grammar.specs.Grammar.{identity, no_identity, zero_identity}
use Rattle.codec.proofs.Filling.{places-rest}
use Rattle.grammar.proofs.Steps.{no_identity-at}
use Rattle.rules.specs.Matching.{in_range}
use Rattle.grammar.specs.declared.record.Identity.{Identity}
use Rattle.reader.specs.Inner.{Read}
use Rattle.in_place.proofs.Splits.{read-once, Consed, split-cons}
use Rattle.in_place.proofs.identities.range_at.Goals.{After-entry_at-first, Start}
use Rattle.in_place.proofs.identities.range_at.Goals as goal

-- the list that is read: its first end, its second, and nothing after them
abbrev list : Start → List Identity
list b = b.requires.reads.value

ends : (b : Start) → Consed identity (places identity no_identity 7 1) (bits b.args.s.now) b.args.start (list b) b.requires.reads.end
unfolding places
ends b = split-cons identity (places identity no_identity 7 1) b.requires.reads.read

pub entry_at-first-requires : goal.entry_at-first-requires
entry_at-first-requires c =
    let x = ends (goal.at.entry_at-first-requires c).Start in
    record { few = c.requires.few; reads = record { value = x.entry; end = x.middle; read = x.first } }

-- the first end is the one that stands first
first-is : (c : After-entry_at-first) → let x = ends (goal.at.After-entry_at-first c).Start in let e = c.entry_at-first.result in
    (x.entry ≡ e.identity) × (x.middle ≡ e.end)
first-is c = read-once (ends (goal.at.After-entry_at-first c).Start).first c.entry_at-first.ensures

last : (c : After-entry_at-first)
    → Consed identity (places identity no_identity 6 0) (bits c.args.s.now) c.entry_at-first.result.end
    (ends (goal.at.After-entry_at-first c).Start).others c.requires.reads.end
unfolding places
last c = split-cons identity (places identity no_identity 6 0)
    (subst (λ (p : ℕ). Read (places identity no_identity 7 1) (bits c.args.s.now) p (ends (goal.at.After-entry_at-first c).Start).others
    c.requires.reads.end) (first-is c).1 (ends (goal.at.After-entry_at-first c).Start).then)

pub entry_at-last-requires : goal.entry_at-last-requires
entry_at-last-requires c =
    let x = last c in
    record { few = c.requires.few; reads = record { value = x.entry; end = x.middle; read = x.first } }

pub returns : goal.returns
returns c =
    let x = ends (goal.at.returns c).Start in
    let y = last (goal.at.returns c).After-entry_at-first in
    let o = read-once y.first c.entry_at-last.ensures in
    let none = places-rest identity no_identity (bits c.args.s.now) zero_identity (no_identity-at _) 6 y.middle in
    let end : c.requires.reads.end ≡ c.entry_at-last.result.end = cc (y.then.same, none) ∙ o.1 in
    let low : get_or (list (goal.at.returns c).Start) 0 zero_identity ≡ c.entry_at-first.result.identity = rw x.is (first-is (goal.at.returns c).After-entry_at-first).0 in
    let high : get_or (list (goal.at.returns c).Start) 1 zero_identity ≡ c.entry_at-last.result.identity = rw (x.is, y.is) o.0 in
    record {
      value = list (goal.at.returns c).Start;
      read = rw end at c.requires.reads.read;
      says = c.in_range.ensures ∙ sym (ap₂ (in_range c.args.wanted.missing c.args.wanted.user) low high);
    }
