-- The first line, then the lines of the entries. Assumes nothing.
use mathlib.Core.Path.{◌≡◌, sym, ap, ◌∙◌}
use mathlib.Core.List.{List, ◌++◌}
use Prim.Native.Nat.{ℕ, ◌+◌, ◌≤◌}
use native.Mathlib.Omega.{arith}
use lib.ListN.{length}
use Rattle.bits.proofs.Laying.{then, first_fits, rest-fits}
use Rattle.archive.specs.Model.{header_width}
use Rattle.archive.specs.Reading.{count_of, reading}
use Rattle.archive.specs.Listing.{first_line, listing}
use Rattle.archive.specs.Inner.{lines_from}
use Rattle.archive.proofs.Bytes.Checking.{sound}
use Rattle.archive.proofs.Text.Lines.{listing-read}
use Rattle.archive.proofs.checking.Archive.write_text.Goals.{After-count}
use Rattle.archive.proofs.checking.Archive.write_text.Goals as goal

-- the bytes, and the text's two parts
abbrev b-of : After-count → List ℕ
b-of c = c.args.self.bytes.now

abbrev first : After-count → List ℕ
first c = first_line c.home.result c.count.result

abbrev rest : After-count → List ℕ
rest c = lines_from (b-of c) (count_of (b-of c)) header_width

parts : (c : After-count) → listing (reading (b-of c)) ≡ first c ++ rest c
parts c =
    let s = sound (b-of c) c.args.self.passed in
    listing-read (b-of c) (omega (arith, s.whole)) ∙ (λ i. first_line (sym c.home.ensures i) (sym c.count.ensures.0 i) ++ rest c)

room : (c : After-count) → 0 + length (first c ++ rest c) ≤ length c.args.out.now
room c = omega (arith, ap length (parts c), c.requires)

pub write_lines-requires : goal.write_lines-requires
write_lines-requires c =
    rest-fits (rest (goal.at.write_lines-requires c).After-count) (room (goal.at.write_lines-requires c).After-count) c.write_first-lines_at.ensures

pub returns : goal.returns
returns c =
    rw (parts (goal.at.returns c).After-count) (then (omega arith) c.write_first-lines_at.ensures c.write_lines.ensures)

pub write_first-lines_at-requires : goal.write_first-lines_at-requires
write_first-lines_at-requires c =
    omega (arith, first_fits (first c) (rest c) 0 (room c))
