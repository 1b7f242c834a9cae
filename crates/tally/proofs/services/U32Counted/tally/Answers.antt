-- One word, by the service's own refusal. Assumes nothing.
use native.Mathlib.Omega.{arith}
use Rattle.grammar.specs.SiteSheet.{service_refusal}
use Rattle.tally.proofs.Parts.{refusing, fits-element}
use Rattle.tally.proofs.services.U32Counted.tally.Goals as goal

pub element-requires : goal.element-requires
element-requires c = (omega arith, fits-element 3 service_refusal c.requires.1)

pub returns : goal.returns
returns c = refusing 3 service_refusal c.element.ensures c.service_refusal.ensures
