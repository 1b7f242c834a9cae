-- Each way out is the definition's own case. Assumes nothing.
use mathlib.Core.Path.{◌≡◌, sym, ap, ap₂, ◌∙◌}
use Prim.Native.Nat.{ℕ}
use native.Mathlib.Nat.{zero-add}
use borrow.Author.Tests.{eq-eqb}
use lib.Dec.{leb}
use Rattle.std.proofs.Common.{Ok, Err, rules}
use Rattle.bits.specs.Bits.{pick}
use Rattle.bits.specs.Frame.{bytes_for}
use borrow.Author.Tests.{not-true, not-false}
use Rattle.bits.proofs.Tests.{said-no, said-yes}
use Rattle.codec.specs.Codec.{first}
use Rattle.grammar.specs.Grammar.{pdu}
use Rattle.words.specs.RecordWords.{record_from}
use Rattle.tally.specs.Tally.{nothing, Tallies}
use Rattle.writer.specs.Write.{length_of, write_refusal, written}
use Rattle.writer.proofs.Writes.{other-kind, not-clean, then-fault, written-first, room-refused, room-there}
use Rattle.writer.proofs.checked.Goals.{After-tally_words-sum, Else-not-sum, Else-fault-ne0}
use Rattle.writer.proofs.checked.Goals as goal

pub returns-then-kind_refusal-ne0 : goal.returns-then-kind_refusal-ne0
unfolding record_from
returns-then-kind_refusal-ne0 c =
    let a = c.args in
    rw (other-kind (record_from a.words.now) a.room (λ e. c.if-kind_refusal-ne0.true (c.kind_refusal.ensures ∙ e)))

-- the words are a record's
tallied : (c : After-tally_words-sum) → Tallies pdu (record_from c.args.words.now) nothing
    c.tally_words-sum.result
tallied c = c.tally_words-sum.ensures.of-record (eq-eqb _ 520 c.requires)

pub returns-then-not-sum : goal.returns-then-not-sum
returns-then-not-sum c =
    let a = c.args in
    let t = tallied (goal.at.returns-then-not-sum c).After-tally_words-sum in
    rw (not-clean (record_from a.words.now) a.room (said-no t.clean (not-true _ c.if-not-sum.true)))

size : (c : After-tally_words-sum) → c.tally_words-sum.result.bits ≡ length_of
    (record_from c.args.words.now)
size c = (tallied c).bits ∙ zero-add (length_of (record_from c.args.words.now))

-- the refusal for want of room
abbrev short : After-tally_words-sum → ℕ
short c = pick (leb (bytes_for c.tally_words-sum.result.bits) c.args.room) 0 8

-- the first fault, then the room
given : (c : Else-not-sum) → let a = c.args in let t = (goal.at.Else-not-sum c).After-tally_words-sum in
    write_refusal (record_from a.words.now) a.room ≡ first c.tally_words-sum.result.refusal (short t)
unfolding record_from
given c =
    let a = c.args in
    let t = (goal.at.Else-not-sum c).After-tally_words-sum in
    then-fault (record_from a.words.now) a.room (sym c.kind_refusal.ensures ∙ c.if-kind_refusal-ne0.false)
    (said-yes (tallied t).clean (not-false _ c.if-not-sum.false))
    ∙ sym (ap₂ first (tallied t).refusal (ap (λ (n : ℕ). pick (leb (bytes_for n) a.room) 0 8) (size t)))

pub returns-then-fault-ne0 : goal.returns-then-fault-ne0
returns-then-fault-ne0 c =
    let n : ℕ = length_of (record_from c.args.words.now) in
    let t = (goal.at.returns-then-fault-ne0 c).After-tally_words-sum in
    sym (ap (written n) (given (goal.at.returns-then-fault-ne0 c).Else-not-sum)
    ∙ written-first n c.tally_words-sum.result.refusal (short t) c.if-fault-ne0.true)

-- where there is no fault
faultless : (c : Else-fault-ne0) → let a = c.args in
    write_refusal (record_from a.words.now) a.room ≡ short (goal.at.Else-fault-ne0 c).After-tally_words-sum
faultless c =
    given (goal.at.Else-fault-ne0 c).Else-not-sum
    ∙ ap (λ (n : ℕ). first n (short (goal.at.Else-fault-ne0 c).After-tally_words-sum)) c.if-fault-ne0.false

pub returns-in_err-check_room : goal.returns-in_err-check_room
returns-in_err-check_room c =
    let n : ℕ = length_of (record_from c.args.words.now) in
    let fits = leb (bytes_for c.tally_words-sum.result.bits) c.args.room in
    let refused : c.from_residual.result ≡ Err c.in_err-check_room.field-0.0 = search rules in
    refused
    ∙ sym (ap (written n) (faultless (goal.at.returns-in_err-check_room c).Else-fault-ne0)
    ∙ room-refused n fits (sym c.check_room.ensures ∙ c.in_err-check_room.was))

pub returns : goal.returns
returns c =
    let n : ℕ = length_of (record_from c.args.words.now) in
    let fits = leb (bytes_for c.tally_words-sum.result.bits) c.args.room in
    ap (λ (n : ℕ). Ok (record { 0 = n })) (size (goal.at.returns c).After-tally_words-sum)
    ∙ sym (ap (written n) (faultless (goal.at.returns c).Else-fault-ne0) ∙ room-there n fits (sym c.check_room.ensures ∙ c.in_ok-check_room.was))
