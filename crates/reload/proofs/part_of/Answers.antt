-- What is accepted is a record. Assumes nothing.
use mathlib.Core.Path.{◌≡◌, sym, ap, ◌∙◌}
use Rattle.std.proofs.Common.{Ok}
use Rattle.reader.specs.Read.{found_in, read_is}
use Rattle.reader.proofs.Walked.{with-found}
use Rattle.reload.proofs.part_of.Goals.{After-read}
use Rattle.reload.proofs.part_of.Goals as goal

-- what reading answers
was-read : (c : After-read) → let a = c.args in c.read.result ≡ Ok (found_in (read_is a.s.now a.n.0))
was-read c = let a = c.args in c.read.ensures ∙ with-found (read_is a.s.now a.n.0) c.requires

pub unwrap-requires : goal.unwrap-requires
unwrap-requires c = rw (was-read (goal.at.unwrap-requires c).After-read)

pub returns : goal.returns
returns c = ap found_in (sym c.unwrap.ensures ∙ was-read (goal.at.returns c).After-read)
