-- Alike are identities with one present bit. Assumes nothing.
use mathlib.Core.Path.{◌≡◌, subst}
use Prim.Native.Nat.{ℕ, ◌+◌, ◌*◌}
use native.Mathlib.Omega.{arith}
use lib.ListN.{drop, get_or}
use Rattle.grammar.specs.Grammar.{identity}
use Rattle.words.specs.RecordWords.{identity_from}
use Rattle.tally.specs.Inner.{AllPlain, Wide}
use Rattle.tally.proofs.Alike.{plain-wide}
use Rattle.tally.proofs.identities.IdentityListed.bits_alike.Goals.{Else-not-are_alike}
use Rattle.tally.proofs.identities.IdentityListed.bits_alike.Goals as goal

plain : (c : Else-not-are_alike) → AllPlain c.args.n (get_or c.args.words.now 1 0) c.args.words.now
plain c = c.are_alike.ensures c.if-not-are_alike.false

pub returns : goal.returns
returns c width e =
    let h = plain (goal.at.returns c).Else-not-are_alike in
    let p : 25 + 24 * get_or c.args.words.now 1 0 ≡ width = cc in
    record {
      each = λ i inside.
          subst (λ (n : ℕ). Wide identity n (identity_from (drop (3 * i) c.args.words.now))) p (plain-wide _ h.bit (h.each i inside));
    }

pub overflow_cast-result : goal.overflow_cast-result
overflow_cast-result c = omega (arith, (plain (goal.at.overflow_cast-result c).Else-not-are_alike).bit)
