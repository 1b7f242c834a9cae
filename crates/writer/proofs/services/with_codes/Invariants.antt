-- Code by code. Assumes nothing.
use mathlib.Core.Path.{◌≡◌}
use Prim.Native.Nat.{ℕ, ◌+◌, ◌*◌, ◌^◌, ◌<◌}
use lib.ListN.{take}
use Rattle.writer.specs.Inner.{CodesAfter}
use Rattle.writer.proofs.services.with_codes.Given as goal

abbrev pub invariant-loop-code : goal.invariant-loop-code
invariant-loop-code l =
    (l.run < 2 ^ (8 + 4 * l.code-index)) × ((w : ℕ) → l.scale ≡ 2 ^ w → CodesAfter w l.code-index l.start (take l.code-index l.codes) l.run)
