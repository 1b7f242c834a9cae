-- Whatever lays the lines that are left lays them all: each turn lays one. Assumes nothing.
use mathlib.Core.Path.{◌≡◌, sym, ap, ◌∙◌, subst}
use mathlib.Core.List.{List, ◌++◌}
use Prim.Native.Nat.{ℕ, ◌+◌}
use native.Mathlib.Omega.{arith}
use lib.ListN.{get_or, drop}
use Rattle.bits.proofs.Laying.{none}
use Rattle.text.proofs.Copies.{Fitted, and_then}
use Rattle.terminals.specs.Layers.{places}
use Rattle.terminals.specs.Reading.{line_text, lines_text}
use Rattle.terminals.specs.declared.layers.Place.{Place}
use Rattle.terminals.proofs.Texts.{lines_next, lines-over}
use Rattle.terminals.proofs.reading.write_lines.Goals as goal

pub loop-index-preserved : goal.loop-index-preserved
loop-index-preserved c =
    let l = c.loop-index in
    let t = c.args.table.now in
    let others = lines_text (drop (l.index + 1) places) (drop (l.index + 1) t) in
    let turn : lines_text (drop l.index places) (drop l.index t) ≡ line_text (get_or t l.index 0) c.place_at.result ++ others =
    lines_next t l.index c.requires (omega arith)
    ∙ ap (λ (p : Place). line_text (get_or t l.index 0) p ++ others) (sym c.place_at.ensures)
    in
    λ out' end rest.
    l.invariant out' end
    (subst (λ (s : List ℕ). Fitted l.out l.at s out' end) (sym turn) (and_then c.write_line-at.ensures rest))

pub returns : goal.returns
returns c =
    let l = c.loop-index in
    l.invariant l.out l.at
    (subst (λ (s : List ℕ). Fitted l.out l.at s l.out l.at) (sym (lines-over c.args.table.now l.index c.requires (omega arith)))
    (λ h. none l.out l.at))
