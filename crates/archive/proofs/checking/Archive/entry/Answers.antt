-- The entries stand in the archive, behind its header. Assumes nothing.
use native.Mathlib.Omega.{arith}
use Rattle.archive.proofs.Bytes.Checking.{sound}
use Rattle.archive.proofs.checking.Archive.entry.Goals as goal

pub overflow_mul-index : goal.overflow_mul-index
overflow_mul-index c = omega (arith, (sound _ c.args.self.passed).few)

pub overflow_add-index : goal.overflow_add-index
overflow_add-index c = omega (arith, (sound _ c.args.self.passed).few)

pub entry_at-requires : goal.entry_at-requires
entry_at-requires c = omega (arith, (sound _ c.args.self.passed).whole)
