-- What the search finds among the services is what the definition finds. Assumes nothing.
use mathlib.Core.Path.{◌∙◌}
use lib.ListN.{take}
use Rattle.std.proofs.Common.{rules, tests}
use Rattle.std.proofs.lemmas.Iterator.{YieldsList-from_slice, YieldsList-from_take}
use Rattle.std.proofs.lemmas.Iterator.Search.{any_from_yields_List}
use Rattle.rules.specs.Matching.{is_covering, covered}
use Rattle.rules.proofs.Search.{any-some}
use Rattle.rules.proofs.matching.covers.Goals as goal

pub returns : goal.returns
unfolding covered
returns c =
    let a = c.args in
    any_from_yields_List (is_covering a.service) _ _ c.any.result c.any.ensures.ran
    (YieldsList-from_take a.services.count (YieldsList-from_slice a.services.list cc) cc) (λ x b q k. search (rules, tests))
    ∙ any-some (is_covering a.service) (take a.services.count a.services.list)
