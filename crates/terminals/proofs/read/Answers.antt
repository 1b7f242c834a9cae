-- No text, no room for it, or the text written. Assumes nothing.
use mathlib.Core.Path.{◌≡◌, sym, ap, ◌∙◌}
use Prim.Native.Nat.{◌+◌, ◌≤◌, ◌<◌}
use native.Mathlib.Omega.{arith}
use lib.ListN.{length, length-append}
use Rattle.terminals.specs.Layers.{places}
use Rattle.terminals.specs.Reading.{lead, lines_text, text_of}
use Rattle.terminals.proofs.Storing.{table_length}
use Rattle.terminals.proofs.Texts.{text-some, text-none, read_none, read_short, read-written}
use Rattle.terminals.proofs.read.Goals.{Else-lines-eq0}
use Rattle.terminals.proofs.read.Goals as goal

pub returns-then-lines-eq0 : goal.returns-then-lines-eq0
returns-then-lines-eq0 c =
    let t = c.args.table.now in
    let all = read_none t c.args.out.now (text-none t (sym c.lines_length-lines.ensures.0 ∙ c.if-lines-eq0.true)) in record {
      value = all.0;
      out_after = all.1;
    }

-- there is a line
some : (c : Else-lines-eq0) → 0 < length (lines_text places c.args.table.now)
some c = omega (arith, c.lines_length-lines.ensures.0, c.if-lines-eq0.false)

size : (c : Else-lines-eq0) → length (text_of c.args.table.now) ≡ 7 + c.lines_length-lines.result
size c =
    let t = c.args.table.now in
    ap length (text-some t (some c)) ∙ omega (arith, length-append lead (lines_text places t), c.lines_length-lines.ensures.0)

pub returns-then-out-lines : goal.returns-then-out-lines
returns-then-out-lines c =
    let here = (goal.at.returns-then-out-lines c).Else-lines-eq0 in
    let all = read_short c.args.table.now c.args.out.now (omega (arith, size here, c.if-out-lines.true)) in record {
      value = all.0;
      out_after = all.1;
    }

pub write_text-requires : goal.write_text-requires
write_text-requires c = (table_length _ c.requires, some (goal.at.write_text-requires c).Else-lines-eq0)

pub returns : goal.returns
returns c =
    let here = (goal.at.returns c).Else-lines-eq0 in
    let room : length (text_of c.args.table.now) ≤ length c.args.out.now = omega (arith, size here, c.if-out-lines.false) in
    let all = read-written c.args.table.now c.args.out.now room (c.write_text.ensures (omega (arith, room))) in record {
      value = all.0;
      out_after = all.1;
    }
