-- There is room, so the run is put. Assumes nothing.
use mathlib.Core.Path.{sym, ap, ◌∙◌}
use mathlib.Core.Bool.{Bool}
use mathlib.Core.List.{List}
use Prim.Native.Nat.{ℕ, ◌+◌}
use native.Mathlib.Omega.{arith}
use lib.ListN.{take}
use Rattle.bits.proofs.Numbers.{length-bits_of}
use Rattle.bits.proofs.Lays.{lay-front}
use Rattle.codec.specs.Parts.{number}
use Rattle.writer.proofs.elements.put_run.Goals as goal

pub returns : goal.returns
unfolding number
returns c =
    let a = c.args in
    let l = length-bits_of a.width a.run in
    record {
      there = ap (λ (x : List Bool). take (a.at + a.width) x) c.lay.ensures.1
          ∙ lay-front a.out.now a.at a.width a.run c.requires.0 (omega (arith, c.requires.1.fits));
      next = ap (λ (n : ℕ). a.at + n) (sym l);
      kept = c.lay.auto.buf;
    }
