-- Whatever lays the lines that are left lays them all: each turn lays one. Assumes nothing.
use mathlib.Core.Path.{◌≡◌, sym, ap, ◌∙◌, subst}
use mathlib.Core.List.{List, ◌++◌}
use Prim.Native.Nat.{ℕ, ◌+◌, ◌-◌, ◌≤◌}
use native.Mathlib.Omega.{arith}
use lib.ListN.{length}
use Rattle.bits.specs.Inner.{Laid}
use Rattle.bits.proofs.Laying.{then, none, first_fits, rest-fits}
use Rattle.archive.specs.Model.{header_width}
use Rattle.archive.specs.Reading.{count_of}
use Rattle.archive.specs.Inner.{lines_from, lines_in}
use Rattle.archive.specs.Listing.{line}
use Rattle.archive.specs.declared.contents.Entry.{Entry}
use Rattle.archive.proofs.Text.Lines.{lines_from-at, lines_from-over}
use Rattle.archive.proofs.checking.Archive.write_lines.Invariants.{left}
use Rattle.archive.proofs.checking.Archive.write_lines.Goals.{After-entry}
use Rattle.archive.proofs.checking.Archive.write_lines.Goals as goal

pub loop-index-init : goal.loop-index-init
loop-index-init c =
    let b = c.args.self.bytes.now in
    let none : count_of b - 0 ≡ count_of b = omega arith in
    let all : left b 0 ≡ lines_in b = ap (λ (n : ℕ). lines_from b n header_width) none in (
      omega (arith, c.requires, ap length all),
      λ out' end l. subst (λ (s : List ℕ). Laid c.args.out.now c.args.start s out' end) all l,
    )

-- the lines that are left: one, then the others
abbrev others : After-entry → List ℕ
others c = left c.args.self.bytes.now (c.loop-index.index + 1)

turn : (c : After-entry) → left c.args.self.bytes.now c.loop-index.index ≡ line c.entry.result ++ others c
turn c =
    lines_from-at c.args.self.bytes.now (count_of c.args.self.bytes.now) c.loop-index.index (omega (arith, c.count-index-end.ensures.0))
    ∙ ap (λ (e : Entry). line e ++ others c) (sym c.entry.ensures.0)

room : (c : After-entry) → c.loop-index.at + length (line c.entry.result ++ others c) ≤ length c.loop-index.out
room c = subst (λ (s : List ℕ). c.loop-index.at + length s ≤ length c.loop-index.out) (turn c) c.loop-index.invariant.0

pub write_line-at-requires : goal.write_line-at-requires
write_line-at-requires c = first_fits (line c.entry.result) (others c) c.loop-index.at (room c)

pub loop-index-preserved : goal.loop-index-preserved
loop-index-preserved c =
    let here = (goal.at.loop-index-preserved c).After-entry in
    let l = c.loop-index in (
      rest-fits (others here) (room here) c.write_line-at.ensures,
      λ out' end rest.
          l.invariant.1 out' end
          (subst (λ (s : List ℕ). Laid l.out l.at s out' end) (sym (turn here)) (then (omega (arith, room here)) c.write_line-at.ensures rest)),
    )

pub returns : goal.returns
returns c =
    let l = c.loop-index in
    l.invariant.1 l.out l.at
    (subst (λ (s : List ℕ). Laid l.out l.at s l.out l.at)
    (sym (lines_from-over c.args.self.bytes.now (count_of c.args.self.bytes.now) l.index (omega (arith, c.count-index-end.ensures.0)))) (none l.out l.at))
