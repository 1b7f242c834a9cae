-- What fetch finds decides, after the range. Assumes nothing.
use Rattle.std.specs.Prelude.{Option, Some, Result, Ok, Err}
use Rattle.std.proofs.lemmas.Result.{err_from_is_err_and}
use mathlib.Core.Path.{◌≡◌, sym, ap, ◌∙◌}
use mathlib.Core.Bool.{true}
use mathlib.Core.List.{List}
use Prim.Native.Nat.{ℕ}
use lib.ListN.{length}
use Rattle.bits.proofs.Tests.{said-no, said-yes}
use Rattle.archive.specs.Model.{in_range}
use Rattle.archive.specs.Restoring.{fetch_is, restores, restore_is}
use Rattle.archive.specs.declared.refusal.Refusal.{Refusal}
use Rattle.archive.specs.declared.Body.{Body}
use Rattle.archive.proofs.Calls.Fetch.{fetch-found}
use Rattle.archive.proofs.Calls.Restore.{out_of_range, none_found, not_found, found-body, restore-leaves}
use Rattle.archive.proofs.restore.Goals.{After-fetch, Else-not-in_range, In-Some}
use Rattle.archive.proofs.restore.Goals as goal

pub returns-then-not-in_range : goal.returns-then-not-in_range
returns-then-not-in_range c =
    let a = c.args in
    let e = out_of_range a.archive.now a.key (length a.out.now) (said-no c.in_range.ensures c.if-not-in_range.true) in record {
      value = ap (λ (f : Refusal). Err f) c.plain.ensures ∙ sym e;
      out_after = sym (restore-leaves _ _ a.out.now e);
    }

within : (c : Else-not-in_range) → in_range c.args.key ≡ true
within c = said-yes c.in_range.ensures c.if-not-in_range.false

-- what fetch found
found : (c : After-fetch) {f : Result (Option Body) Refusal} → c.fetch.result ≡ f
    → fetch_is c.args.archive.now c.args.key ≡ f
found c e = sym c.fetch.ensures ∙ e

pub returns-in_err-body : goal.returns-in_err-body
returns-in_err-body c =
    let a = c.args in
    let p = err_from_is_err_and c.from_residual.result c.from_residual.ensures.1 in
    let e = none_found a.archive.now a.key (within (goal.at.returns-in_err-body c).Else-not-in_range) (length a.out.now) (found (goal.at.returns-in_err-body c).After-fetch c.in_err-body.was) in record {
      value = rw (p.1, p.2) (sym e);
      out_after = sym (restore-leaves _ _ a.out.now e);
    }

-- nothing is held
pub returns-in_default : goal.returns-in_default
returns-in_default c =
    let a = c.args in
    let nothing = c.in_ok-body.was ∙ ap Ok c.in_default.is in
    let e = not_found a.archive.now a.key (within (goal.at.returns-in_default c).Else-not-in_range) (length a.out.now) (found (goal.at.returns-in_default c).After-fetch nothing) in record {
      value = ap (λ (f : Refusal). Err f) c.plain-in_default.ensures ∙ sym e;
      out_after = sym (restore-leaves _ _ a.out.now e);
    }

-- a body is
body : (c : In-Some) → fetch_is c.args.archive.now c.args.key ≡ Ok (Some c.in-Some.body)
body c = found (goal.at.In-Some c).After-fetch (c.in_ok-body.was ∙ ap Ok c.in-Some.is)

pub deliver-requires : goal.deliver-requires
deliver-requires c =
    let a = c.args in
    (fetch-found a.archive.now a.key (within (goal.at.deliver-requires c).Else-not-in_range) (body (goal.at.deliver-requires c).In-Some)).1.inside

pub returns : goal.returns
returns c =
    let a = c.args in
    let out = a.out.now in
    let r = found-body a.archive.now a.key (within (goal.at.returns c).Else-not-in_range) (length out) (body (goal.at.returns c).In-Some) in
    let e : restore_is a.archive.now a.key (length out) ≡ c.deliver.result = r.0 ∙ sym c.deliver.ensures.value in record {
      value = sym e;
      out_after = c.deliver.ensures.out_after
          ∙ ap (λ (w : List ℕ). restores c.deliver.result w out) (sym r.1)
          ∙ sym (restore-leaves a.archive.now a.key out e);
    }
