-- By whether the bytes are there. Assumes nothing.
use native.Mathlib.Omega.{arith}
use borrow.Author.Tests.{le-leb, lt-leb}
use Rattle.bits.specs.Frame.{bytes_for}
use Rattle.writer.proofs.check_room.Goals as goal

pub returns-then-bytes-room : goal.returns-then-bytes-room
returns-then-bytes-room c = let a = c.args in rw (le-leb (bytes_for a.length.0) a.room (omega arith))

pub returns-else-bytes-room : goal.returns-else-bytes-room
returns-else-bytes-room c = let a = c.args in rw (lt-leb (bytes_for a.length.0) a.room (omega arith))
