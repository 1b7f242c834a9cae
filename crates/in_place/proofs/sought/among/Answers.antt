-- Each turn passes an entry. Assumes nothing.
use mathlib.Core.Path.{refl}
use native.Mathlib.Omega.{arith}
use Rattle.in_place.proofs.Among.{along-none, along-next, along-more, along-all}
use Rattle.in_place.proofs.sought.among.Goals as goal

pub at-entry-requires : goal.at-entry-requires
at-entry-requires g c =
    record { few = c.requires.1.few; reads = along-next c.loop.invariant (omega arith) }

pub loop-preserved : goal.loop-preserved
loop-preserved g c = along-more c.loop.invariant (omega arith) c.at-entry.ensures refl

pub returns : goal.returns
returns g c = along-all c.loop.invariant (omega arith) (g.met.S.Sought.blank.read _)

pub loop-init : goal.loop-init
loop-init g c = along-none c.requires.0 c.requires.1.reads
