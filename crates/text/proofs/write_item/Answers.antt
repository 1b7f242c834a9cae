-- Where there is room for both, the digits are written, then what stands after them. Assumes nothing.
use mathlib.Core.Path.{◌≡◌, ap, ◌∙◌}
use Prim.Native.Nat.{ℕ, ◌+◌, ◌≤◌}
use native.Mathlib.Omega.{arith}
use borrow.Author.Tests.{leb-true}
use lib.ListN.{length}
use lib.Dec.{leb}
use Rattle.bits.proofs.Tests.{said-no, said-yes}
use Rattle.text.specs.Decimal.{item}
use Rattle.text.proofs.Copies.{laid_in, by-laid, no_room, and_then}
use Rattle.text.proofs.Decimals.{length-item}
use Rattle.text.proofs.write_item.Goals.{After-has_room, Else-not-has_room}
use Rattle.text.proofs.write_item.Goals as goal

-- what was tested
tested : (c : After-has_room) →
    let a = c.args in
    c.has_room.result ≡ leb (a.at + length (item a.n a.word.now)) (length a.out.now)
tested c =
    let a = c.args in
    c.has_room.ensures
    ∙ ap (λ (k : ℕ). leb (a.at + k) (length a.out.now)) (omega (arith, c.digits_of-size.ensures.value, length-item a.n a.word.now))

room : (c : Else-not-has_room) → let a = c.args in a.at + length (item a.n a.word.now) ≤ length a.out.now
room c = leb-true _ _ (said-yes (tested (goal.at.Else-not-has_room c).After-has_room) c.if-not-has_room.false)

pub returns-then-not-has_room : goal.returns-then-not-has_room
returns-then-not-has_room c =
    let a = c.args in let all =
    no_room a.out.now (item a.n a.word.now) a.at
    (said-no (tested (goal.at.returns-then-not-has_room c).After-has_room) c.if-not-has_room.true) in record {
      value = all.0;
      out_after = all.1;
      laid = λ h. laid_in h all;
    }

pub returns : goal.returns
unfolding item
returns c =
    let here = room (goal.at.returns c).Else-not-has_room in
    let laid = and_then (λ h. c.write_digits-word_at.ensures) c.append.ensures.laid here in
    let all = by-laid here laid in record {
      value = all.0;
      out_after = all.1;
      laid = λ h. laid;
    }
