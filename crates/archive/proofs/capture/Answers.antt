-- Each way out is a case of the answer; what is filed is what the definition files. Assumes nothing.
use Rattle.std.specs.Prelude.{Err, Ok}
use Rattle.std.proofs.lemmas.Result.{err_from_is_err_and}
use mathlib.Core.Path.{◌≡◌, sym, ap, ◌∙◌, subst}
use mathlib.Core.Bool.{true}
use mathlib.Core.List.{List}
use Prim.Native.Nat.{ℕ, ◌<◌}
use native.Mathlib.Omega.{arith}
use lib.ListN.{length}
use Rattle.walk.specs.Walk.{walk_is}
use Rattle.reader.specs.Read.{answer_of, found_in, read_is}
use Rattle.judging.specs.Judge.{may_hold}
use Rattle.archive.specs.Model.{Held, Archive, bytes_of}
use Rattle.archive.specs.Filing.{filed_key}
use Rattle.archive.specs.Reading.{home_of, reading, is_archive}
use Rattle.archive.specs.Keeping.{leaves, with, held_for, captured, placed, capture_is}
use Rattle.archive.specs.Inner.{filing_under, filed_in}
use Rattle.archive.specs.declared.contents.Key.{Key}
use Rattle.archive.specs.declared.refusal.Refusal.{Refusal}
use Rattle.archive.proofs.Model.Bodies.{fits, Fits}
use Rattle.archive.proofs.Calls.Capture.{home-read, home_fits, filed_under, offered-agrees}
use Rattle.archive.proofs.Calls.Capture.{no-day, no-archive, pdu-refused, not-held, as-placed, capture-leaves}
use Rattle.archive.proofs.capture.Goals.{In_ok-archive, After-filing_of, In-Some}
use Rattle.archive.proofs.capture.Goals as goal

pub returns-then-day-gt65535 : goal.returns-then-day-gt65535
returns-then-day-gt65535 c =
    let a = c.args in
    let e = no-day a.archive.now a.body.now a.n.0 a.day (length a.out.now) c.if-day-gt65535.true in record {
      value = ap (λ (f : Refusal). Err f) c.plain.ensures ∙ sym e;
      out_after = sym (capture-leaves _ _ _ _ a.out.now e);
    }

pub returns-in_err-archive : goal.returns-in_err-archive
returns-in_err-archive c =
    let a = c.args in
    let p = err_from_is_err_and c.from_residual.result c.from_residual.ensures.1 in
    let e = no-archive a.archive.now a.body.now a.n.0 a.day (length a.out.now) (omega (arith, c.if-day-gt65535.false)) c.in_err-archive.ensures.refused in record {
      value = rw (p.1, p.2) (sym e);
      out_after = sym (capture-leaves _ _ _ _ a.out.now e);
    }

-- the day is one, and the bytes are an archive
dated : (c : In_ok-archive) → c.args.day < 65536
dated c = omega (arith, c.if-day-gt65535.false)

ok : (c : In_ok-archive) → is_archive c.args.archive.now ≡ true
ok c = ap is_archive (sym c.in_ok-archive.ensures.same) ∙ c.in_ok-archive.archive.passed

-- the walk's refusal is passed on
pub returns-in_err-head : goal.returns-in_err-head
returns-in_err-head c =
    let a = c.args in
    let w = (goal.at.returns-in_err-head c).In_ok-archive in
    let p = err_from_is_err_and c.from_residual-in_err-head.result c.from_residual-in_err-head.ensures.1 in
    let e = pdu-refused a.archive.now a.body.now a.n.0 a.day (length a.out.now) (dated w) (ok w) (sym c.walk.ensures ∙ c.in_err-head.was) in record {
      value = rw (p.1, p.2) (sym e);
      out_after = sym (capture-leaves _ _ _ _ a.out.now e);
    }

-- the head of the accepted PDU, and what is filed by it
accepted : (c : After-filing_of) → walk_is c.args.body.now c.args.n.0 ≡ Ok c.in_ok-head.head
accepted c = sym c.walk.ensures ∙ c.in_ok-head.was

filed : (c : After-filing_of) → c.filing_of.result ≡ filing_under (reading c.args.archive.now).home c.in_ok-head.head
filed c =
    c.filing_of.ensures
    ∙ ap (λ (home : ℕ). filing_under home c.in_ok-head.head)
    (c.home.ensures ∙ ap home_of c.in_ok-archive.ensures.same ∙ home-read c.args.archive.now (ok (goal.at.After-filing_of c).In_ok-archive))

pub returns-in_default : goal.returns-in_default
returns-in_default c =
    let a = c.args in
    let w = (goal.at.returns-in_default c).After-filing_of in
    let i = (goal.at.returns-in_default c).In_ok-archive in
    let e = not-held a.archive.now a.body.now a.n.0 a.day (length a.out.now) (dated i) (reading a.archive.now).home (ok i) (accepted w) (sym (filed w) ∙ c.in_default.is) in record {
      value = ap (λ (x : Refusal). Err x) c.plain-in_default.ensures ∙ sym e;
      out_after = sym (capture-leaves _ _ _ _ a.out.now e);
    }

-- the key is the one that the PDU is held under
under : (c : In-Some) → let a = c.args in (answer_of (read_is a.body.now a.n.0) ≡ Ok tt)
    × (may_hold (found_in (read_is a.body.now a.n.0)) ≡ true)
    × (filed_key (reading a.archive.now).home (found_in (read_is a.body.now a.n.0)) ≡ c.in-Some.key)
under c = let w = (goal.at.In-Some c).After-filing_of in filed_under _ _ _ (accepted w) (sym (filed w) ∙ c.in-Some.is)

-- what is held under a key
abbrev held-as : In-Some → Key → Held
held-as c k = let a = c.args in record { entry = record { key = k; bits = record { 0 = a.n.0 }; day = a.day }; body = a.body.now }

fit : (c : In-Some) → Fits (held-as c c.in-Some.key)
fit c =
    let a = c.args in
    let i = (goal.at.In-Some c).In_ok-archive in
    let home = (reading a.archive.now).home in
    subst (λ (k : Key). Fits (held-as c k)) (under c).2
    (fits home (held_for home a.body.now a.n.0 a.day) (home_fits a.archive.now (ok i))
    (offered-agrees home a.body.now a.n.0 a.day (under c).0 (under c).1) (dated i))

pub file-requires : goal.file-requires
file-requires c = let f = fit (goal.at.file-requires c).In-Some in (f.entry, f.full)

pub returns : goal.returns
unfolding captured
returns c =
    let a = c.args in
    let s = (goal.at.returns c).In-Some in
    let i = (goal.at.returns c).In_ok-archive in
    let u = under s in
    let is : filed_in c.in_ok-archive.archive.bytes.now (held-as s c.in-Some.key).entry a.body.now ≡ captured a.archive.now a.body.now a.n.0 a.day =
    ap (λ (b : List ℕ). with (reading b) (held-as s c.in-Some.key)) c.in_ok-archive.ensures.same
    ∙ ap (λ (k : Key). with (reading a.archive.now) (held-as s k)) (sym u.2)
    in
    let e : capture_is a.archive.now a.body.now a.n.0 a.day (length a.out.now) ≡ c.file.result =
    as-placed a.archive.now a.body.now a.n.0 a.day (length a.out.now) (dated i) (ok i) u.0 u.1
    ∙ sym (c.file.ensures.value ∙ ap (λ (x : Archive). placed x (length a.out.now)) is)
    in record {
      value = sym e;
      out_after = c.file.ensures.out_after ∙ ap (λ (x : Archive). leaves c.file.result (bytes_of x) a.out.now) is
          ∙ sym (capture-leaves a.archive.now a.body.now a.n.0 a.day a.out.now e);
    }
