-- The first line's length, and at each turn that of one more line. Assumes nothing.
use mathlib.Core.Path.{◌≡◌, sym, ap, ◌∙◌}
use mathlib.Core.List.{◌++◌}
use Prim.Native.Nat.{ℕ, ◌+◌, ◌-◌, ◌*◌}
use native.Mathlib.Omega.{arith}
use lib.ListN.{length, length-append}
use Rattle.archive.specs.Model.{header_width, entry_width}
use Rattle.archive.specs.Reading.{home_of, count_of, reading}
use Rattle.text.specs.Decimal.{decimal}
use Rattle.archive.specs.Listing.{first_line, line, listing}
use Rattle.archive.specs.Inner.{lines_from}
use Rattle.archive.specs.declared.contents.Entry.{Entry}
use Rattle.archive.proofs.Bytes.Checking.{sound}
use Rattle.archive.proofs.Text.Lines.{length-first, lines_from-at, lines_from-over, listing-read}
use Rattle.archive.proofs.checking.Archive.text_length.Goals as goal

pub loop-index-init : goal.loop-index-init
loop-index-init c =
    let b = c.args.self.bytes.now in
    let s = sound b c.args.self.passed in
    let n = c.count-count.ensures.0 in
    let first : length (first_line (home_of b) (count_of b)) ≡ length (decimal c.home-home.result) + length (decimal c.count-count.result) + 15 =
    (λ i. length (first_line (sym c.home-home.ensures i) (sym n i))) ∙ length-first c.home-home.result c.count-count.result
    in
    let whole : length (listing (reading b)) ≡ length (first_line (home_of b) (count_of b)) + length (lines_from b (count_of b) header_width) =
    ap length (listing-read b (omega (arith, s.whole))) ∙ length-append (first_line (home_of b) (count_of b)) (lines_from b (count_of b) header_width)
    in
    let none : count_of b - 0 ≡ count_of b = omega arith in
    let all : length (lines_from b (count_of b - 0) header_width) ≡ length (lines_from b (count_of b) header_width) =
    ap (λ (k : ℕ). length (lines_from b k header_width)) none
    in
    (omega arith, omega (arith, c.digits_of.ensures.value, c.digits_of-2.ensures.value))

pub entry-requires : goal.entry-requires
entry-requires c = omega (arith, c.count-count.ensures.0)

pub loop-index-preserved : goal.loop-index-preserved
loop-index-preserved c =
    let b = c.args.self.bytes.now in
    let i = c.loop-index.index in
    let others = lines_from b (count_of b - (i + 1)) (header_width + entry_width * (i + 1)) in
    let next : length (lines_from b (count_of b - i) (header_width + entry_width * i)) ≡ length (line c.entry.result) + length others =
    ap length (lines_from-at b (count_of b) i (omega (arith, c.count-count.ensures.0)) ∙ ap (λ (e : Entry). line e ++ others) (sym c.entry.ensures.0))
    ∙ length-append (line c.entry.result) others
    in
    (omega arith, omega arith)

pub returns : goal.returns
returns c =
    let b = c.args.self.bytes.now in
    omega (arith, ap length (lines_from-over b (count_of b) c.loop-index.index (omega (arith, c.count-count.ensures.0))))
