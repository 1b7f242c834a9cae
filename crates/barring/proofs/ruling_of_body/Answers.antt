-- The body is read, and the rule is applied to its record. Assumes nothing.
use mathlib.Core.Path.{◌≡◌, sym, ap, ◌∙◌}
use Prim.Native.Nat.{ℕ}
use native.Mathlib.Nat.{add-sub_cancel_left}
use lib.ListN.{take, drop}
use Rattle.std.proofs.Common.{Ok}
use Rattle.bits.specs.Frame.{bytes_for}
use Rattle.reader.specs.Read.{found_in, read_is}
use Rattle.reader.proofs.Walked.{with-found}
use Rattle.barring.proofs.ruling_of_body.Goals.{After-read}
use Rattle.barring.proofs.ruling_of_body.Goals as goal

-- what reading answers
was-read : (c : After-read) → let a = c.args in let n = a.part.length.0 in
    c.read.result ≡ Ok (found_in (read_is (take (bytes_for n) (drop a.part.at a.archive.now)) n))
was-read c =
    let a = c.args in
    let n = a.part.length.0 in
    let s = drop a.part.at a.archive.now in
    c.read.ensures
    ∙ ap (λ (k : ℕ). read_is (take k s) n) (add-sub_cancel_left a.part.at c.bytes.result ∙ c.bytes.ensures)
    ∙ with-found (read_is (take (bytes_for n) s) n) c.requires.accepted

pub unwrap-held-requires : goal.unwrap-held-requires
unwrap-held-requires c = rw (was-read (goal.at.unwrap-held-requires c).After-read)

pub returns : goal.returns
returns c =
    let same = ap found_in (sym c.unwrap-held.ensures ∙ was-read (goal.at.returns c).After-read) in
    c.rule.ensures ∙ rw (c.home.ensures, same)
