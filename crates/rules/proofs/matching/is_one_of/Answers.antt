-- What the search finds among the entries is what the definition finds. Assumes nothing.
use mathlib.Core.Path.{◌∙◌}
use lib.ListN.{take}
use Rattle.std.proofs.Common.{rules, tests}
use Rattle.std.proofs.lemmas.Iterator.{YieldsList-from_slice, YieldsList-from_take}
use Rattle.std.proofs.lemmas.Iterator.Search.{any_from_yields_List}
use Rattle.rules.specs.Matching.{is_entry}
use Rattle.rules.proofs.Search.{any-some}
use Rattle.rules.proofs.matching.is_one_of.Goals as goal

pub returns : goal.returns
returns c =
    let a = c.args in
    any_from_yields_List (is_entry a.missing a.u) _ _ c.any.result c.any.ensures.ran
    (YieldsList-from_take a.n (YieldsList-from_slice a.entries cc) cc) (λ x b q k. search (rules, tests))
    ∙ any-some (is_entry a.missing a.u) (take a.n a.entries)
