-- The lead, the number of services and the services are one run. Assumes nothing.
use mathlib.Core.Path.{◌≡◌, refl, subst}
use Prim.Native.Nat.{ℕ, ◌+◌, ◌*◌, ◌-◌, ◌/◌, ◌%◌, ◌^◌}
use lib.ListN.{take, drop, length-drop}
use lib.Seq.{length-take-le}
use Rattle.bits.specs.Bits.{bits_of}
use Rattle.codec.specs.Parts.{number, seq}
use Rattle.grammar.specs.Grammar.{services}
use Rattle.words.specs.RecordWords.{word, services_from}
use Rattle.writer.specs.Inner.{CodesAfter}
use Rattle.writer.proofs.Runs.{room-run, put_as-run}
use Rattle.writer.proofs.Codes.{services-run}
use native.Mathlib.Omega.{arith}
use Rattle.writer.proofs.services.put_services.Goals.{After-with_codes, Start}
use Rattle.writer.proofs.services.put_services.Goals as goal

whole : (c : After-with_codes) → let used = c.min-used_bits.result in let a = c.args in
    (seq (number a.width) (λ x. services)).print (a.lead, services_from a.words.now)
    ≡ bits_of (a.width + 3 + 3 * used) (c.with_codes.result / 2 ^ (21 - 3 * used))
whole c =
    let w = c.args.words.now in
    let seven = length-take-le 7 (drop 1 w) (omega (arith, length-drop 1 w, c.requires.2)) in
    let start : ℕ = c.args.lead * 8 + word w 0 % 8 in
    let codes = subst (λ (n : ℕ). CodesAfter 3 n start (take 7 (drop 1 w)) c.with_codes.result) seven (c.with_codes.ensures 3 refl) in
    services-run w _ c.args.width c.args.lead _ c.requires.2 c.min-used_bits.ensures codes

pub with_codes-requires : goal.with_codes-requires
with_codes-requires c =
    let w = c.args.words.now in
    (omega (arith, c.requires.0), omega arith, omega arith, omega (arith, length-take-le 7 (drop 1 w) (omega (arith, length-drop 1 w, c.requires.2))))

pub put_run-requires : goal.put_run-requires
put_run-requires c =
    (omega (arith, c.min-used_bits.ensures, c.requires.1), room-run _ _ (whole (goal.at.put_run-requires c).After-with_codes) c.requires.3)

pub returns : goal.returns
returns c = put_as-run _ _ (whole (goal.at.returns c).After-with_codes) c.put_run.ensures
