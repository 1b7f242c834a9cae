-- A missing extension is read as the affected user's network. Assumes nothing.
use mathlib.Core.Path.{ap, ◌∙◌}
use Prim.Native.Nat.{ℕ}
use Rattle.rules.specs.Rule.{six_rules, ruling}
use Rattle.rules.proofs.rule.Goals as goal

pub returns : goal.returns
unfolding ruling
returns c =
    let a = c.args in
    c.six_rules.ensures ∙ ap (λ (m : ℕ). six_rules m a.part a.request) c.network_of.ensures
