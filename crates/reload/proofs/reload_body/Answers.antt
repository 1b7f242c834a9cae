-- The body is read, its lists are looked at, and what writing its PDU leaves is left. Assumes nothing.
use Rattle.std.proofs.Common.{rules}
use mathlib.Core.Path.{◌≡◌, refl, ap, ◌∙◌}
use mathlib.Core.List.{List}
use Prim.Native.Nat.{ℕ, ◌+◌, ◌-◌}
use native.Mathlib.Nat.{add-sub_cancel_left}
use lib.ListN.{take, drop}
use Rattle.bits.specs.Frame.{bytes_for}
use Rattle.bits.proofs.Tests.{said-yes}
use Rattle.grammar.specs.SiteSheet.{defined_part}
use Rattle.archive.specs.Refusals.{plain}
use Rattle.archive.proofs.Mapped.{map_err-is}
use Rattle.reader.specs.Read.{answer_of, found_in, read_is}
use Rattle.reload.specs.Define.{stands_in, stands}
use Rattle.reload.specs.Inner.{part_at}
use Rattle.reload.proofs.Reloading.{refused-written, stood}
use Rattle.reload.proofs.reload_body.Goals.{After-bytes, After-write_define}
use Rattle.reload.proofs.reload_body.Goals as goal

-- the body's bytes
bytes-are : (c : After-bytes) → let a = c.args in take (a.body.off + c.bytes.result - a.body.off) (drop a.body.off a.archive.now) ≡ take (bytes_for a.body.bits.0) (drop a.body.off a.archive.now)
bytes-are c =
    let a = c.args in
    ap (λ (k : ℕ). take k (drop a.body.off a.archive.now)) (add-sub_cancel_left a.body.off c.bytes.result ∙ c.bytes.ensures)

pub part_of-part-requires : goal.part_of-part-requires
part_of-part-requires c =
    let a = c.args in
    ap (λ (s : List ℕ). answer_of (read_is s a.body.bits.0)) (bytes-are (goal.at.part_of-part-requires c).After-bytes) ∙ c.requires.accepted

-- the record that was read
part-is : (w : After-write_define) → let a = w.args in w.part_of-part.result ≡ part_at a.archive.now a.body.off a.body.bits.0
part-is w =
    let a = w.args in
    w.part_of-part.ensures ∙ ap (λ (s : List ℕ). found_in (read_is s a.body.bits.0)) (bytes-are (goal.at.After-write_define w).After-bytes)

-- whether its lists stand
judged : (w : After-write_define) → let a = w.args in w.stand_in.result ≡ stands a.target a.wanted.definition w.part_of-part.result.lists
judged w =
    let a = w.args in
    w.stand_in.ensures
    ∙ ap (λ (k : ℕ). stands_in k w.part_of-part.result.lists)
    (w.defined_part-carried.ensures ∙ ap (λ (k : ℕ). defined_part k a.wanted.definition) w.part.ensures)

pub returns : goal.returns
returns c =
    let a = c.args in
    let w = (goal.at.returns c).After-write_define in
    let s = stood a.target a.archive.now a.body.off a.body.bits.0 a.wanted a.out.now (part-is w) (said-yes (judged w) w.if-not-stand_in.false)
    refl c.write_define.ensures.0 c.write_define.ensures.1 in record {
      value = map_err-is plain _ (λ e f p. search rules) _ c.map_err.ensures.cases ∙ refused-written c.write_define.result ∙ s.0;
      out_after = s.1;
    }
