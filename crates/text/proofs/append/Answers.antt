-- Where there is room: what the writer leaves in the part that is lent on is the bytes, and all around it stays. Assumes nothing.
use Prim.Native.Nat.{◌+◌, ◌≤◌}
use borrow.Author.Tests.{leb-true}
use lib.ListN.{length}
use Rattle.bits.proofs.Tests.{said-no, said-yes}
use Rattle.text.proofs.Copies.{lent, laid_in, by-laid, no_room}
use Rattle.text.proofs.append.Goals.{Else-not-has_room}
use Rattle.text.proofs.append.Goals as goal

pub returns-then-not-has_room : goal.returns-then-not-has_room
returns-then-not-has_room c =
    let a = c.args in let all =
    no_room a.out.now a.bytes.now a.at (said-no c.has_room.ensures c.if-not-has_room.true) in record {
      value = all.0;
      out_after = all.1;
      laid = λ h. laid_in h all;
    }

room : (c : Else-not-has_room) → let a = c.args in a.at + length a.bytes.now ≤ length a.out.now
room c = leb-true _ _ (said-yes c.has_room.ensures c.if-not-has_room.false)

pub returns : goal.returns
returns c =
    let a = c.args in
    let laid = lent a.out.now a.bytes.now a.at c.copy.ensures in
    let all = by-laid (room (goal.at.returns c).Else-not-has_room) laid in record {
      value = all.0;
      out_after = all.1;
      laid = λ h. laid;
    }
