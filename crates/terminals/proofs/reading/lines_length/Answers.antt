-- At each turn one line more. Assumes nothing.
use mathlib.Core.Path.{◌≡◌, ap, ◌∙◌}
use Prim.Native.Nat.{◌+◌}
use native.Mathlib.Omega.{arith}
use lib.ListN.{length, get_or, drop, length-append}
use Rattle.terminals.specs.Layers.{places, nowhere}
use Rattle.terminals.specs.Reading.{line_text, lines_text}
use Rattle.terminals.specs.declared.layers.Place.{Place}
use Rattle.terminals.proofs.Texts.{lines_next, lines-over}
use Rattle.terminals.proofs.reading.lines_length.Goals as goal

pub loop-index-preserved : goal.loop-index-preserved
loop-index-preserved c =
    let t = c.args.table.now in
    let i = c.loop-index.index in
    let rest = lines_text (drop (i + 1) places) (drop (i + 1) t) in
    let here : length (line_text (get_or t i 0) c.place_at.result) ≡ length (line_text (get_or t i 0) (get_or places i nowhere)) =
    ap (λ (p : Place). length (line_text (get_or t i 0) p)) c.place_at.ensures in
    let next : length (lines_text (drop i places) (drop i t)) ≡ length (line_text (get_or t i 0) (get_or places i nowhere)) + length rest =
    ap length (lines_next t i c.requires (omega arith))
    ∙ length-append (line_text (get_or t i 0) (get_or places i nowhere)) rest
    in
    (omega (arith, c.line_length-size.ensures.1), omega (arith, c.line_length-size.ensures.0))

pub returns : goal.returns
returns c =
    let t = c.args.table.now in
    let over : length (lines_text (drop c.loop-index.index places) (drop c.loop-index.index t)) ≡ 0 =
    ap length (lines-over t c.loop-index.index c.requires (omega arith)) in
    (omega arith, omega arith)
