-- The place that the search finds is that of the body held. Assumes nothing.
use Rattle.std.proofs.Common.{rules}
use Rattle.std.specs.Prelude.{Ok}
use Rattle.std.proofs.lemmas.Result.{err_from_is_err_and}
use mathlib.Core.Path.{◌≡◌, sym, ap, ◌∙◌}
use mathlib.Core.Bool.{true}
use native.Mathlib.Omega.{arith}
use Rattle.bits.proofs.Tests.{said-no, said-yes}
use Rattle.archive.specs.Model.{in_range}
use Rattle.archive.specs.Reading.{is_archive}
use Rattle.archive.specs.declared.contents.Entry.{Entry}
use Rattle.archive.proofs.Mapped.{map-is}
use Rattle.archive.proofs.Bytes.Spliced.{place_in}
use Rattle.archive.proofs.Calls.Fetch.{fetched_of, fetch-none, fetch_out, fetch-place}
use Rattle.archive.proofs.Model.Keys.{ranged}
use Rattle.archive.proofs.fetch.Goals.{Else-not-in_range, In_ok-archive}
use Rattle.archive.proofs.fetch.Goals as goal

ok : (c : In_ok-archive) → is_archive c.args.archive.now ≡ true
ok c = ap is_archive (sym c.in_ok-archive.ensures.same) ∙ c.in_ok-archive.archive.passed

within : (c : Else-not-in_range) → in_range c.args.key ≡ true
within c = said-yes c.in_range.ensures c.if-not-in_range.false

pub returns-in_err-archive : goal.returns-in_err-archive
returns-in_err-archive c =
    let p = err_from_is_err_and c.from_residual.result c.from_residual.ensures.1 in
    rw (p.1, p.2) (sym (fetch-none _ _ c.in_err-archive.ensures.refused))

pub returns-then-not-in_range : goal.returns-then-not-in_range
returns-then-not-in_range c = sym (fetch_out _ _ (ok (goal.at.returns-then-not-in_range c).In_ok-archive) (said-no c.in_range.ensures c.if-not-in_range.true))

pub find-place-requires : goal.find-place-requires
find-place-requires c =
    let r = ranged _ (within c) in
    record { network = r.network; ssi = r.ssi; part = omega (arith, r.high) }

pub returns : goal.returns
unfolding place_in
returns c =
    let a = c.args in
    let b = c.in_ok-archive.archive in
    let held : c.map-body.result ≡ fetched_of c.find-place.result =
    map-is (λ (e : Entry). record { off = c.find-place.result.off; bits = e.bits; day = e.day }) _ (λ e t p. search rules) _ c.map-body.ensures.cases in
    rw (← c.in_ok-archive.ensures.same)
    (ap Ok (held ∙ ap fetched_of c.find-place.ensures)
    ∙ sym (fetch-place b.bytes.now a.key b.passed (within (goal.at.returns c).Else-not-in_range)))
