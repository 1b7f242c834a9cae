-- The command's name, then the lines. Assumes nothing.
use mathlib.Core.Path.{sym, subst}
use mathlib.Core.List.{List}
use Prim.Native.Nat.{ℕ}
use Rattle.text.proofs.Copies.{Fitted, and_then}
use Rattle.terminals.proofs.Texts.{text-some}
use Rattle.terminals.proofs.reading.write_text.Goals as goal

pub returns : goal.returns
returns c =
    let a = c.args in
    subst (λ (s : List ℕ). Fitted a.out.now 0 s c.write_lines.new.out c.write_lines.result) (sym (text-some a.table.now c.requires.1))
    (and_then c.append-at.ensures.laid c.write_lines.ensures)
