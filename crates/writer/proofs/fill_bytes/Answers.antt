-- The PDU's bits from the first on, then zeros to the end of the last byte. Assumes nothing.
use mathlib.Core.Path.{◌≡◌, ap, ap₂, ◌∙◌}
use mathlib.Core.Bool.{Bool}
use mathlib.Core.List.{List, ◌++◌}
use Prim.Native.Nat.{ℕ, ◌+◌, ◌-◌, ◌*◌, ◌≤◌}
use native.Mathlib.Nat.{zero-add}
use lib.ListN.{length, take}
use Rattle.bits.specs.Bits.{bits_of}
use Rattle.bits.specs.Frame.{bytes_for}
use Rattle.bits.proofs.Lays.{lay-front}
use Rattle.grammar.specs.Grammar.{pdu}
use Rattle.grammar.proofs.Sizes.{pdu-size}
use Rattle.words.specs.RecordWords.{record_from}
use Rattle.writer.specs.Write.{length_of}
use Rattle.writer.proofs.Fills.{filled}
use native.Mathlib.Omega.{arith}
use Rattle.writer.proofs.fill_bytes.Goals.{After-put_record-end}
use Rattle.writer.proofs.fill_bytes.Goals as goal

pub put_record-end-requires : goal.put_record-end-requires
put_record-end-requires c =
    let size = pdu-size (record_from c.args.words.now) in
    (c.requires.0, c.requires.1, record { short = omega arith; fits = omega (arith, c.requires.2) })

-- where the PDU ends, and how many bytes there are
ended : (c : After-put_record-end) → let r = record_from c.args.words.now in
    (c.put_record-end.result ≡ length_of r) × (length c.put_record-end.new.out ≡ bytes_for (length_of r)) × (length_of r ≤ 4096)
ended c =
    let r = record_from c.args.words.now in
    (c.put_record-end.ensures.next ∙ zero-add (length_of r), c.put_record-end.ensures.kept ∙ c.requires.2, omega (arith, pdu-size r))

pub returns : goal.returns
returns c =
    let r = record_from c.args.words.now in
    let n : ℕ = length_of r in
    let s : List ℕ = c.put_record-end.new.out in
    let end : ℕ = c.put_record-end.result in
    let k = ended (goal.at.returns c).After-put_record-end in
    let w : ℕ = 8 * length s - end in
    let width : w ≡ 8 * bytes_for n - n = ap₂ (λ (x y : ℕ). 8 * x - y) k.1 k.0 in
    let place : 8 * bytes_for n ≡ end + w = omega (arith, k.0, k.1) in
    filled c.lay.new.buf (pdu.print r) (λ i. (c.type_inv.place i).fits) (c.lay.auto.buf ∙ k.1)
    (ap₂ (λ (x : ℕ) (y : List Bool). take x y) place c.lay.ensures.1
    ∙ lay-front s end w 0 (omega (arith, k.0, k.1)) (omega (arith, k.0, k.1))
    ∙ ap₂ (λ (x y : List Bool). x ++ y) c.put_record-end.ensures.there (ap (λ (x : ℕ). bits_of x 0) width))

pub overflow_mul-place : goal.overflow_mul-place
overflow_mul-place c =
    omega (arith, ended (goal.at.overflow_mul-place c).After-put_record-end)

pub overflow_sub-place : goal.overflow_sub-place
overflow_sub-place c =
    omega (arith, ended (goal.at.overflow_sub-place c).After-put_record-end)
