-- An archive has its header, and at most 512 entries. Assumes nothing.
use native.Mathlib.Omega.{arith}
use Rattle.archive.proofs.Bytes.Checking.{sound}
use Rattle.archive.proofs.checking.Archive.count.Goals as goal

pub count-requires : goal.count-requires
count-requires c = omega (arith, (sound _ c.args.self.passed).whole)

pub returns : goal.returns
returns c = (c.count.ensures.0, omega (arith, c.count.ensures.0, (sound _ c.args.self.passed).few))
