-- Three parts, one after the other. Assumes nothing.
use mathlib.Core.Path.{◌≡◌, ap, ◌∙◌}
use Prim.Native.Nat.{ℕ, ◌-◌}
use native.Mathlib.Omega.{arith}
use lib.ListN.{take, drop, length-take}
use Rattle.bits.specs.Inner.{Laid}
use Rattle.bits.proofs.Laying.{then}
use Rattle.archive.specs.Model.{header_width, header_bytes}
use Rattle.archive.specs.Reading.{home_of}
use Rattle.archive.specs.Inner.{front_of}
use Rattle.archive.proofs.Bytes.Walking.{home-small}
use Rattle.archive.proofs.copying.write_front.Goals.{After-append-contents_at, After-append-entry_at}
use Rattle.archive.proofs.copying.write_front.Goals as goal

pub header_bytes-header-requires : goal.header_bytes-header-requires
header_bytes-header-requires c =
    (rw c.home.ensures (home-small c.args.archive.now (λ i. (c.type_inv.archive i).fits)), c.requires.3)

-- the header is laid, then the contents before the place
header_laid : (c : After-append-contents_at)
    → Laid c.args.out.now 0 c.header_bytes-header.result c.append-contents_at.new.out c.append-contents_at.result
header_laid c = c.append-contents_at.ensures.laid (omega arith)

contents_laid : (c : After-append-entry_at)
    → Laid c.append-contents_at.new.out c.append-contents_at.result (take (c.args.at - header_width) (drop header_width c.args.archive.now))
    c.append-entry_at.new.out c.append-entry_at.result
contents_laid c =
    let h = header_laid (goal.at.After-append-entry_at c).After-append-contents_at in
    let l = length-take (c.args.at - header_width) (drop header_width c.args.archive.now) in
    c.append-entry_at.ensures.laid (omega (arith, h.ends))

pub returns : goal.returns
unfolding front_of
returns c =
    let a = c.args in
    let h : c.header_bytes-header.result ≡ header_bytes (home_of a.archive.now) a.count =
    c.header_bytes-header.ensures ∙ ap (λ (x : ℕ). header_bytes x a.count) c.home.ensures
    in
    let first = header_laid (goal.at.returns c).After-append-contents_at in
    let second = contents_laid (goal.at.returns c).After-append-entry_at in
    let l = length-take (a.at - header_width) (drop header_width a.archive.now) in
    rw (h, c.entry_bytes-row.ensures) at
    (then (omega arith) (then (omega arith) first second) (c.append.ensures.laid (omega (arith, first.ends, second.ends))))
