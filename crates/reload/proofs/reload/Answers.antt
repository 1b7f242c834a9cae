-- What fetch finds decides, after the range of what is asked for. Assumes nothing.
use Rattle.std.specs.Prelude.{Option, Some, Result, Ok}
use Rattle.std.proofs.lemmas.Result.{err_from_is_err_and}
use mathlib.Core.Path.{◌≡◌, sym, ap, ap₂, ◌∙◌}
use mathlib.Core.List.{List}
use Prim.Native.Nat.{ℕ}
use mathlib.Core.Bool.{Bool, true, ◌&&◌}
use Rattle.bits.proofs.Tests.{said-no, said-yes}
use Rattle.archive.specs.Model.{in_range}
use Rattle.archive.specs.Restoring.{fetch_is}
use Rattle.archive.specs.declared.Body.{Body}
use Rattle.archive.specs.declared.refusal.Refusal.{Refusal}
use Rattle.archive.proofs.Calls.Fetch.{fetch-found}
use Rattle.archive.proofs.Model.Found.{held-agrees}
use Rattle.bits.specs.declared.BitCount.{BitCount}
use Rattle.reader.specs.Read.{answer_of, read_is}
use Rattle.reload.specs.Define.{is_definition}
use Rattle.reload.proofs.Reloading.{out_of_range, reload-leaves, damaged, missing, found, refusing}
use Rattle.reload.proofs.reload.Goals.{After-fetch, Else-not-in_range, Else-not-is_definition, In-Some}
use Rattle.reload.proofs.reload.Goals as goal

pub returns-then-not-in_range : goal.returns-then-not-in_range
returns-then-not-in_range c = let a = c.args in
    let e = out_of_range a.target a.archive.now a.key a.wanted a.out.now
    (ap (λ (x : Bool). x && is_definition a.wanted) (said-no c.in_range.ensures c.if-not-in_range.true)) in record {
      value = ap refusing c.plain.ensures ∙ sym e;
      out_after = sym (reload-leaves _ _ _ _ _ e);
    }

-- user and part are in range
user : (c : Else-not-in_range) → in_range c.args.key ≡ true
user c = said-yes c.in_range.ensures c.if-not-in_range.false

pub returns-then-not-is_definition : goal.returns-then-not-is_definition
returns-then-not-is_definition c = let a = c.args in
    let e = out_of_range a.target a.archive.now a.key a.wanted a.out.now
    (rw (user (goal.at.returns-then-not-is_definition c).Else-not-in_range) (said-no c.is_definition.ensures c.if-not-is_definition.true)) in record {
      value = ap refusing c.plain-then-not-is_definition.ensures ∙ sym e;
      out_after = sym (reload-leaves _ _ _ _ _ e);
    }

-- and so is the definition
asked : (c : Else-not-is_definition) → is_definition c.args.wanted ≡ true
asked c = said-yes c.is_definition.ensures c.if-not-is_definition.false

-- what fetch found
fetched : (c : After-fetch) {f : Result (Option Body) Refusal} → c.fetch.result ≡ f → let a = c.args in
    fetch_is a.archive.now a.key ≡ f
fetched c e = sym c.fetch.ensures ∙ e

pub returns-in_err-body : goal.returns-in_err-body
returns-in_err-body c =
    let p = err_from_is_err_and c.from_residual.result c.from_residual.ensures.1 in
    let at = goal.at.returns-in_err-body c in
    let e = damaged _ _ _ _ _ (user at.Else-not-in_range) (asked at.Else-not-is_definition) (fetched at.After-fetch c.in_err-body.was) in record {
      value = rw (p.1, p.2) (sym e);
      out_after = sym (reload-leaves _ _ _ _ _ e);
    }

-- nothing is held
pub returns-in_default : goal.returns-in_default
returns-in_default c =
    let at = goal.at.returns-in_default c in
    let e = missing _ _ _ _ _ (user at.Else-not-in_range) (asked at.Else-not-is_definition) (fetched at.After-fetch (c.in_ok-body.was ∙ ap Ok c.in_default.is)) in record {
      value = ap refusing c.plain-in_default.ensures ∙ sym e;
      out_after = sym (reload-leaves _ _ _ _ _ e);
    }

-- a body is
body : (c : In-Some) → fetch_is c.args.archive.now c.args.key ≡ Ok (Some c.in-Some.body)
body c = fetched (goal.at.In-Some c).After-fetch (c.in_ok-body.was ∙ ap Ok c.in-Some.is)

pub reload_body-requires : goal.reload_body-requires
reload_body-requires c =
    let a = c.args in
    let at = goal.at.reload_body-requires c in
    let k = fetch-found _ _ (user at.Else-not-in_range) (body at.In-Some) in record {
      within = k.1.inside;
      accepted = ap answer_of (sym (ap₂ (λ (s : List ℕ) (m : BitCount). read_is s m.0) k.1.body k.1.bits)) ∙ (held-agrees a.archive.now k.0 a.key k.1.is).accepted;
    }

pub returns : goal.returns
returns c =
    let at = goal.at.returns c in
    let e = found _ _ _ _ _ (user at.Else-not-in_range) (asked at.Else-not-is_definition) (body at.In-Some) in record {
      value = c.reload_body.ensures.value ∙ sym e.0;
      out_after = c.reload_body.ensures.out_after ∙ sym e.1;
    }
