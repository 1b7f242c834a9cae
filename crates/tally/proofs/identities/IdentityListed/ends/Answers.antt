-- Only code 9 is a range, of the first two entries. Assumes nothing.
use mathlib.Core.Path.{sym, ap₂, ◌∙◌}
use borrow.Author.Tests.{eq-eqb}
use Rattle.grammar.specs.Grammar.{ends_refusal, range_ends}
use Rattle.grammar.proofs.Codes.{not-nine}
use Rattle.words.specs.RecordWords.{entries_from}
use Rattle.tally.proofs.Words.{rest-of}
use Rattle.tally.proofs.identities.IdentityListed.ends.Goals as goal

pub returns-then-code-ne9 : goal.returns-then-code-ne9
returns-then-code-ne9 c = sym (not-nine _ c.if-code-ne9.true _)

pub returns : goal.returns
unfolding range_ends entries_from
returns c =
    rw (eq-eqb c.args.code 9 c.if-code-ne9.false)
    (c.ends_refusal.ensures ∙ ap₂ ends_refusal c.identity_from-first.ensures (rw rest-of at c.identity_from-last.ensures))
