-- None, or a range type and the users that it says. Assumes nothing.
use mathlib.Core.Bool.{false}
use mathlib.Core.Path.{◌≡◌, refl, sym, ap, ◌∙◌}
use Prim.Native.Nat.{ℕ, ◌/◌, ◌%◌, ◌^◌}
use native.Mathlib.Omega.{arith}
use Rattle.grammar.specs.SiteSheet.{range_type, range_refusal}
use Rattle.grammar.specs.Grammar.{identity, no_identities}
use Rattle.grammar.specs.Zero.{zero_identities}
use Rattle.grammar.specs.declared.site.ListKind.TheVariants as of
use Rattle.grammar.proofs.Steps.{no_identities-at}
use Rattle.walk.specs.Inner.{pass, coded}
use Rattle.walk.proofs.Passes.{pass-nothing}
use Rattle.walk.proofs.Lists.{pass-identities}
use Rattle.walk.proofs.Aheads.{off, ends_as, ends-none, ends_more, in_window}
use Rattle.walk.proofs.Sights.{users-code, singles_end, list-ends}
use Rattle.walk.proofs.ahead.users_ahead.Goals as goal

pub returns-then-not-users : goal.returns-then-not-users
returns-then-not-users c =
    let e : c.args.users ≡ false = c.if-not-users.true in
    rw e (record {
      after = omega arith;
      near = omega arith;
      there = λ n few i. pass-nothing no_identities zero_identities _ (no_identities-at _) _;
    })

pub returns-then-code-eq1 : goal.returns-then-code-eq1
unfolding range_type range_refusal
returns-then-code-eq1 c =
    rw c.if-not-users.false
    (ends_as (λ l r. pass-identities l r of.Users) (omega arith) (list-ends of.Users coded (in_window _ 0 11 4 11 refl (omega arith) (omega arith)
    (sym c.if-code-eq1.true ∙ ap (λ (x : ℕ). x / 2 ^ 42 % 16) c.requires)) refl
    (singles_end {k = 4097} (omega arith) (omega arith) (ends_more 0 1 refl (ends-none (pass identity) _ _) c.end.ensures))))

pub returns-then-range_refusal-ne0 : goal.returns-then-range_refusal-ne0
returns-then-range_refusal-ne0 c = off _ _ 11 32780 (omega arith)

pub entries_end-requires : goal.entries_end-requires
entries_end-requires c = (omega arith, users-code _ (sym c.range_refusal.ensures ∙ c.if-range_refusal-ne0.false))

pub returns : goal.returns
returns c =
    rw c.if-not-users.false
    (ends_as (λ l r. pass-identities l r of.Users) (omega arith) (list-ends of.Users coded (in_window _ 0 11 4 11 refl (omega arith) (omega arith)
    (ap (λ (x : ℕ). x / 2 ^ 42 % 16) c.requires)) (sym c.range_refusal.ensures ∙ c.if-range_refusal-ne0.false) c.entries_end.ensures))
