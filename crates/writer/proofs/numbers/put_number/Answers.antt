-- An external number is one run, or two of which the second puts the last bits of the first again. Assumes nothing.
use mathlib.Core.Path.{◌≡◌, sym, ◌∙◌}
use mathlib.Core.Bool.{Bool}
use mathlib.Core.List.{List, ◌++◌, append-nil}
use Prim.Native.Nat.{ℕ, ◌+◌, ◌-◌, ◌/◌, ◌%◌, ◌^◌, ◌≤◌, ◌<◌, min}
use lib.ListN.{take, drop, length-drop}
use Rattle.bits.specs.Bits.{bits_of}
use Rattle.grammar.specs.Grammar.{external}
use Rattle.words.specs.RecordWords.{word, number_from}
use Rattle.tally.proofs.Words.{rest-of}
use Rattle.writer.specs.Inner.{code_bits}
use Rattle.writer.proofs.Runs.{put_as-run, room-front, room-over, put-over}
use Rattle.writer.proofs.Codes.{length-small, number-front, number-rest}
use native.Mathlib.Omega.{arith}
use Rattle.writer.proofs.numbers.put_number.Goals.{After-min-late, After-with_twelve, After-with_twelve-2, Start}
use Rattle.writer.proofs.numbers.put_number.Goals as goal

few : (c : Start) → word c.args.words.now 0 < 255
few c = length-small c.args.words.now (omega (arith, c.requires.0)) c.requires.1

-- the digits that the first run does not have
abbrev others : (c : Start) → ℕ → List Bool
others c late = code_bits 4 (take late (drop 13 c.args.words.now))

front : (c : After-with_twelve) (late : ℕ) →
    let early = c.bits-early_bits.result.0 in
    c.min-early.result + late ≡ min (word c.args.words.now 0) 24
    → external.print (number_from c.args.words.now) ≡ bits_of (5 + early) (c.with_twelve.result / 2 ^ (48 - early))
    ++ others (goal.at.After-with_twelve c).Start late
front c late all =
    let p = sym c.bits-early_bits.ensures in
    number-front c.args.words.now (omega (arith, c.requires.0)) c.requires.1 _ late _ (omega (arith, c.min-early.ensures))
    all (rw rest-of at c.with_twelve.ensures)
    ∙ (λ i. bits_of (5 + p i) (c.with_twelve.result / 2 ^ (48 - p i)) ++ others (goal.at.After-with_twelve c).Start late)

pub with_twelve-requires : goal.with_twelve-requires
with_twelve-requires c =
    rw rest-of (omega (arith, few (goal.at.with_twelve-requires c).Start), omega (arith, length-drop 1 c.args.words.now, c.requires.0))

pub put_run-middle-requires : goal.put_run-middle-requires
put_run-middle-requires c =
    let late = min (word c.args.words.now 0) 24 - c.min-early.result in
    let same = front (goal.at.put_run-middle-requires c).After-with_twelve late (omega (arith, c.min-early.ensures)) in
    (omega (arith, c.bits-early_bits.ensures, c.min-early.ensures), room-front _ _ _ same c.requires.2)

pub returns-then-count-lt13 : goal.returns-then-count-lt13
unfolding code_bits
returns-then-count-lt13 c =
    let same = front (goal.at.returns-then-count-lt13 c).After-with_twelve 0 (omega (arith, c.min-early.ensures, c.if-count-lt13.true)) in
    put_as-run _ _ (same ∙ append-nil _) c.put_run-middle.ensures

-- the whole number by the first run, where there is a second
both : (c : After-min-late) →
    let early = c.bits-early_bits.result.0 in
    external.print (number_from c.args.words.now)
    ≡ bits_of (5 + early) (c.with_twelve.result / 2 ^ (48 - early)) ++ others (goal.at.After-min-late c).Start (c.min-late.result - 12)
both c =
    front (goal.at.After-min-late c).After-with_twelve (c.min-late.result - 12)
    (omega (arith, c.min-early.ensures, c.min-late.ensures, c.if-count-lt13.false))

over : (c : After-with_twelve-2) →
    let again = c.put_run-middle.result % 8 in
    let late = c.bits-late_bits.result.0 in
    bits_of (again + late) (c.with_twelve-2.result / 2 ^ (48 - late))
    ≡ bits_of again (c.with_twelve.result / 2 ^ (48 - c.bits-early_bits.result.0))
    ++ others (goal.at.After-with_twelve-2 c).Start (c.min-late.result - 12)
over c =
    let n = c.bits-late_bits.ensures in
    (λ i. bits_of (c.put_run-middle.result % 8 + n i) (c.with_twelve-2.result / 2 ^ (48 - n i)))
    ∙ number-rest c.args.words.now (omega (arith, c.requires.0)) c.requires.1 _ (c.min-late.result - 12) _ _ (omega arith)
    (omega (arith, c.min-late.ensures)) (rw rest-of at c.with_twelve-2.ensures)

wide : (c : After-min-late) → 8 ≤ 5 + c.bits-early_bits.result.0
wide c =
    omega (arith, c.bits-early_bits.ensures, c.min-early.ensures, c.if-count-lt13.false)

pub put_run-requires : goal.put_run-requires
put_run-requires c =
    let b = (goal.at.put_run-requires c).After-min-late in
    let h = over (goal.at.put_run-requires c).After-with_twelve-2 in (
      omega (arith, c.bits-late_bits.ensures, c.min-late.ensures),
      room-over _ _ _ (both b) c.requires.2 c.put_run-middle.ensures _ _ _ (wide b) (omega arith) h,
    )

pub returns : goal.returns
returns c =
    let b = (goal.at.returns c).After-min-late in
    let h = over (goal.at.returns c).After-with_twelve-2 in
    put-over _ _ _ (both b) c.requires.2 c.put_run-middle.ensures _ _ _ (wide b) (omega arith) h c.put_run.ensures
