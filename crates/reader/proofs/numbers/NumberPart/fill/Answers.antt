-- The length, then as many digits. Assumes nothing.
use mathlib.Core.Path.{◌≡◌, refl}
use mathlib.Core.List.{List, ◌++◌}
use Prim.Native.Nat.{ℕ, ◌+◌, ◌/◌, ◌^◌, ◌≤◌}
use native.Mathlib.Omega.{arith}
use lib.ListN.{length}
use Rattle.std.proofs.Common.{rules}
use Rattle.bits.specs.Bits.{bits}
use Rattle.codec.specs.Parts.{number, absent, element}
use Rattle.codec.specs.Places.{places}
use Rattle.grammar.specs.SiteSheet.{digit_refusal}
use Rattle.grammar.specs.Grammar.{external}
use Rattle.grammar.proofs.Codes.{between_le}
use Rattle.words.specs.RecordWords.{number_words}
use Rattle.reader.specs.Inner.{Read, Reads}
use Rattle.reader.proofs.Elements.{number_fits, front_read, small_window}
use Rattle.reader.proofs.Parts.{head-reads, head_passed, rest-reads, headed_fill}
use Rattle.reader.proofs.Runs.{digits-read}
use Rattle.reader.proofs.numbers.NumberPart.fill.Goals.{After-slice_known-5-1, After-window-window}
use Rattle.reader.proofs.numbers.NumberPart.fill.Goals as goal

abbrev pdu : After-window-window → List ℕ
pdu c = c.args.s.now

abbrev at : After-window-window → ℕ
at c = c.args.c.at

abbrev count : After-window-window → ℕ
count c = c.window-window.result / 2 ^ 52

counted : (c : After-window-window) → Reads (number 5) (bits (pdu c)) (at c)
unfolding external
counted c = head-reads _ _ _ _ _ _ _ c.requires.reads

count-read : (c : After-window-window) → Read (number 5) (bits (pdu c)) (at c) (count c) (at c + 5)
count-read c = front_read (pdu c) (at c) 5 (omega arith) (omega arith) c.window-window.ensures (counted c)

few : (c : After-window-window) → count c ≤ 24
unfolding external
few c = between_le 1 24 (count c) (head_passed _ _ _ _ _ _ _ c.requires.reads (count-read c))

near : (c : After-window-window) → at c + 5 ≤ 4096
near c = number_fits (pdu c) (at c) 5 (omega arith) c.requires.few (counted c)

rest : (c : After-window-window) → Reads (places (element 4 digit_refusal) absent 24 (count c)) (bits (pdu c)) (at c + 5)
unfolding external
rest c = rest-reads _ _ _ _ _ _ _ c.requires.reads (count-read c)

pub held-high-requires : goal.held-high-requires
held-high-requires c =
    let w = (goal.at.held-high-requires c).After-window-window in
    (small_window (pdu w) (at w) c.window-window.ensures, omega (arith, c.min-first.ensures), omega arith)

pub held-low-requires : goal.held-low-requires
held-low-requires c =
    let w = (goal.at.held-low-requires c).After-window-window in
    (small_window (pdu w) _ c.window.ensures, omega (arith, c.min-first.ensures, few w), omega arith)

pub put_twelve-requires-2 : goal.put_twelve-requires-2
put_twelve-requires-2 c =
    let long : length c.unwrap.result.1.now + 1 ≡ length c.args.words.now = search rules in
    omega (arith, long, c.requires.room)

abbrev window-of : After-slice_known-5-1 → After-window-window
window-of c = (goal.at.After-slice_known-5-1 c).After-window-window

pub returns : goal.returns
unfolding external number_words
returns c =
    let w = (goal.at.returns c).After-window-window in
    let digits = digits-read (pdu w) (at w) (count w) c.min-first.result c.min-first.ensures (few w) (rest w) c.window-window.ensures c.window.ensures
    c.held-high.ensures c.held-low.ensures in
    headed_fill _ _ _ _ _ _ _ c.requires.reads {h = λ (x : List ℕ). x} (λ _. refl) (count-read w)
    (record { value = _; read = digits; same = λ i. c.put_twelve.ensures i ++ c.put_twelve-2.ensures i })

pub overflow_mul-first : goal.overflow_mul-first
overflow_mul-first c =
    omega (arith, c.min-first.ensures)

pub overflow_add-at : goal.overflow_add-at
overflow_add-at c =
    omega (arith, near (goal.at.overflow_add-at c).After-window-window)

pub overflow_sub-count : goal.overflow_sub-count
overflow_sub-count c =
    omega (arith, c.min-first.ensures)

pub overflow_mul-count : goal.overflow_mul-count
overflow_mul-count c =
    omega (arith, few (goal.at.overflow_mul-count c).After-window-window)

pub overflow_add-result : goal.overflow_add-result
overflow_add-result c =
    omega (arith, near (window-of c))

pub overflow_mul-result : goal.overflow_mul-result
overflow_mul-result c =
    omega (arith, few (window-of c))

pub overflow_add-result-2 : goal.overflow_add-result-2
overflow_add-result-2 c =
    omega (arith, near (window-of c), few (window-of c))
