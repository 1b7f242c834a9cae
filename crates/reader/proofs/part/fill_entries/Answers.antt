-- Each turn stores an entry; zeros follow the last. Assumes nothing.
use mathlib.Core.Path.{◌≡◌, refl, ap, ◌∙◌}
use Prim.Native.Nat.{ℕ, ◌+◌, ◌-◌, ◌*◌}
use native.Mathlib.Omega.{arith}
use Rattle.bits.specs.Bits.{bits}
use Rattle.reader.proofs.Entries.{entries_none, entries_next, entries-place, entries-more, entries-all}
use Rattle.reader.proofs.part.fill_entries.Goals as goal

pub loop-i-init : goal.loop-i-init
loop-i-init g c = let b = c.requires.1 in entries_none c.requires.0 b.room b.reads

pub fill-at-requires : goal.fill-at-requires
fill-at-requires g c =
    let k = c.loop-i-test.true in
    let e = c.WIDTH-width.ensures in
    record {
      few = c.requires.1.few;
      room = entries-place c.loop-i.invariant k (ap (λ (x : ℕ). x * c.loop-i.i) e) (omega arith);
      reads = entries_next c.loop-i.invariant k;
    }

pub loop-i-preserved : goal.loop-i-preserved
loop-i-preserved g c =
    let k = c.loop-i-test.true in
    let from = ap (λ (x : ℕ). x * c.loop-i.i) c.WIDTH-width.ensures in
    let wide : c.WIDTH-width.result * c.loop-i.i + c.WIDTH-width.result - c.WIDTH-width.result * c.loop-i.i ≡ g.E.Spelt.WIDTH = omega arith in
    entries-more c.loop-i.invariant k from wide (c.fill-at.auto.words ∙ entries-place c.loop-i.invariant k from wide) c.fill-at.ensures

pub returns : goal.returns
returns g c =
    let zeros = g.met.E.Part.zeros in
    let from = ap (λ (x : ℕ). x * c.args.count) c.WIDTH-width.ensures in
    entries-all c.loop-i.invariant c.loop-i-test.false from refl (zeros.read (bits c.args.s.now)) zeros.words
    (c.fill.ensures.after (λ y e. e))
