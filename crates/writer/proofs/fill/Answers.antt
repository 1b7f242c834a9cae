-- What is left in the part that is lent on is the PDU, and what stands after it stays. Assumes nothing.
use mathlib.Core.Path.{◌≡◌, sym, ap, ap₂, ◌∙◌}
use mathlib.Core.List.{List, ◌++◌}
use Prim.Native.Nat.{ℕ}
use lib.ListN.{length, take, drop}
use lib.Seq.{length-take-le}
use Rattle.bits.specs.Frame.{bytes_for}
use Rattle.words.specs.RecordWords.{record_from}
use Rattle.writer.specs.Write.{length_of}
use native.Mathlib.Omega.{arith}
use Rattle.writer.proofs.fill.Goals.{After-bytes-count, After-fill_bytes-arg-1}
use Rattle.writer.proofs.fill.Goals as goal

-- as many bytes as hold the PDU
counted : (c : After-bytes-count) → c.bytes-count.result ≡ bytes_for (length_of (record_from c.args.words.now))
counted c = c.bytes-count.ensures ∙ ap bytes_for c.requires.3

-- the part that is lent on has so many
lent : (c : After-fill_bytes-arg-1) → let k = c.bytes-count.result in
    length (take k c.args.out.now) ≡ k
lent c =
    length-take-le c.bytes-count.result c.args.out.now (omega (arith, counted (goal.at.After-fill_bytes-arg-1 c).After-bytes-count, c.requires.2))

pub fill_bytes-requires : goal.fill_bytes-requires
fill_bytes-requires c = (c.requires.0, c.requires.1, lent c ∙ counted (goal.at.fill_bytes-requires c).After-bytes-count)

pub returns : goal.returns
returns c =
    ap₂ (λ (x : List ℕ) (k : ℕ). x ++ drop k c.args.out.now) c.fill_bytes.ensures (counted (goal.at.returns c).After-bytes-count)

pub slice_bounds-fill_bytes-end : goal.slice_bounds-fill_bytes-end
slice_bounds-fill_bytes-end c =
    omega (arith, counted c, c.requires.2)

pub slice_bounds-fill_bytes-end-2 : goal.slice_bounds-fill_bytes-end-2
slice_bounds-fill_bytes-end-2 c =
    sym (lent c)
