-- The body is walked where it stands. Assumes nothing.
use mathlib.Core.Path.{◌≡◌, ◌∙◌}
use Prim.Native.Nat.{◌+◌, ◌-◌}
use native.Mathlib.Nat.{add-sub_cancel_left}
use Rattle.bits.specs.Frame.{bytes_for}
use Rattle.in_place.proofs.Judged.{body_ruled}
use Rattle.in_place.proofs.ruling_of_body.Goals.{After-bytes}
use Rattle.in_place.proofs.ruling_of_body.Goals as goal

size : (c : After-bytes) → let part = c.args.part in part.at + c.bytes.result - part.at ≡ bytes_for part.length.0
size c = add-sub_cancel_left c.args.part.at c.bytes.result ∙ c.bytes.ensures

pub ruling_in-requires : goal.ruling_in-requires
ruling_in-requires c = rw (size (goal.at.ruling_in-requires c).After-bytes) c.requires.body

pub returns : goal.returns
returns c = body_ruled _ _ _ _ c.requires (rw (size (goal.at.returns c).After-bytes) at c.ruling_in.ensures)
