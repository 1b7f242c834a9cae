-- The number of services, then as many. Assumes nothing.
use mathlib.Core.Path.{◌≡◌, refl}
use mathlib.Core.List.{List}
use Prim.Native.Nat.{ℕ, ◌+◌, ◌/◌, ◌^◌, ◌≤◌}
use native.Mathlib.Omega.{arith}
use lib.ListN.{length}
use Rattle.std.proofs.Common.{rules}
use Rattle.bits.specs.Bits.{bits}
use Rattle.codec.specs.Parts.{number, absent, element}
use Rattle.codec.specs.Places.{places}
use Rattle.grammar.specs.SiteSheet.{service_refusal}
use Rattle.grammar.specs.Grammar.{services}
use Rattle.words.specs.RecordWords.{services_words}
use Rattle.reader.specs.Inner.{Read, Reads}
use Rattle.reader.proofs.Elements.{number_fits, number_small, front_read, small_window}
use Rattle.reader.proofs.Parts.{head-reads, rest-reads, headed_fill}
use Rattle.reader.proofs.Runs.{services-read}
use Rattle.reader.proofs.services.ServicesPart.fill.Goals.{After-slice_known-3-1, After-window-window}
use Rattle.reader.proofs.services.ServicesPart.fill.Goals as goal

abbrev pdu : After-window-window → List ℕ
pdu c = c.args.s.now

abbrev at : After-window-window → ℕ
at c = c.args.c.at

abbrev count : After-window-window → ℕ
count c = c.window-window.result / 2 ^ 54

counted : (c : After-window-window) → Reads (number 3) (bits (pdu c)) (at c)
unfolding services
counted c = head-reads _ _ _ _ _ _ _ c.requires.reads

count-read : (c : After-window-window) → Read (number 3) (bits (pdu c)) (at c) (count c) (at c + 3)
count-read c = front_read (pdu c) (at c) 3 (omega arith) (omega arith) c.window-window.ensures (counted c)

few : (c : After-window-window) → count c ≤ 7
few c = omega (arith, number_small 3 (count-read c))

near : (c : After-window-window) → at c + 3 ≤ 4096
near c = number_fits (pdu c) (at c) 3 (omega arith) c.requires.few (counted c)

rest : (c : After-window-window) → Reads (places (element 3 service_refusal) absent 7 (count c)) (bits (pdu c)) (at c + 3)
unfolding services
rest c = rest-reads _ _ _ _ _ _ _ c.requires.reads (count-read c)

pub held-list-requires : goal.held-list-requires
held-list-requires c = (small_window (pdu c) (at c) c.window-window.ensures, omega (arith, few c), omega arith)

pub put_codes-requires : goal.put_codes-requires
put_codes-requires c =
    let long : length c.unwrap.result.1.now + 1 ≡ length c.args.words.now = search rules in
    omega (arith, long, c.requires.room)

abbrev window-of : After-slice_known-3-1 → After-window-window
window-of c = (goal.at.After-slice_known-3-1 c).After-window-window

pub returns : goal.returns
unfolding services services_words
returns c =
    let w = (goal.at.returns c).After-window-window in
    let list = services-read (pdu w) (at w) (count w) (few w) (rest w) c.window-window.ensures refl c.held-list.ensures in
    headed_fill _ _ _ _ _ _ _ c.requires.reads {h = λ (x : List ℕ). x} (λ _. refl) (count-read w)
    (record { value = _; read = list; same = c.put_codes.ensures })

pub overflow_add-result : goal.overflow_add-result
overflow_add-result c =
    omega (arith, near (window-of c))

pub overflow_add-result-2 : goal.overflow_add-result-2
overflow_add-result-2 c =
    omega (arith, near (window-of c), few (window-of c))
