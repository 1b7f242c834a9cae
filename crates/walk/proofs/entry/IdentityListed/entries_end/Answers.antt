-- Single entries, or a range. Assumes nothing.
use mathlib.Core.Path.{◌≡◌}
use native.Mathlib.Omega.{arith}
use Rattle.grammar.specs.SiteSheet.{row_of, range_type}
use Rattle.grammar.specs.declared.site.ListKind.TheVariants as of
use Rattle.walk.specs.Inner.{coded, range}
use Rattle.walk.proofs.Aheads.{ends_as}
use Rattle.walk.proofs.Sights.{legal-code, singles_end}
use Rattle.walk.proofs.entry.IdentityListed.entries_end.Goals as goal

pub returns-then-code-lt9 : goal.returns-then-code-lt9
returns-then-code-lt9 c = singles_end (omega (arith, c.if-code-lt9.true)) (omega arith) c.identities_end.ensures

pub returns : goal.returns
unfolding coded range row_of range_type
returns c =
    let e : c.args.code ≡ 9 = omega (arith, legal-code of.Identities _ c.requires.1, c.if-code-lt9.false) in
    ends_as (λ l r. rw e) (omega arith) c.range_end.ensures
