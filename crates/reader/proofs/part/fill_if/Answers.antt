-- There, or zeros. Assumes nothing.
use mathlib.Core.Path.{sym, ap, ◌∙◌}
use mathlib.Core.Bool.{Bool}
use Prim.Native.Nat.{ℕ}
use lib.ListN.{replicate}
use Rattle.bits.specs.Bits.{bits, pick}
use Rattle.reader.proofs.Parts.{none_fill, fillable-by, fill-by}
use Rattle.reader.proofs.part.fill_if.Goals as goal

pub fill-requires : goal.fill-requires
fill-requires g c = let p = g.P.Part in fillable-by (ap (λ (x : Bool). pick x p.part p.none) c.if-carried.true) c.requires

pub returns-then-carried : goal.returns-then-carried
returns-then-carried g c = let p = g.P.Part in fill-by (ap (λ (x : Bool). pick x p.part p.none) c.if-carried.true) c.fill.ensures

pub returns : goal.returns
returns g c =
    let zeros = g.met.P.Part.zeros in
    rw c.if-carried.false
    (none_fill g.P.Part.none g.P.Spelt.spelt zeros.value (zeros.read (bits c.args.s.now) c.args.c.at)
    (c.fill-2.ensures.after (λ y e. e) ∙ ap (λ (k : ℕ). replicate k 0) c.requires.room ∙ sym zeros.words))
