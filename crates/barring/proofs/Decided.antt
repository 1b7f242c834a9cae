-- A request in range asks for a user and part in range, and what is fetched for it is the part held. Assumes nothing.
use Rattle.std.specs.Prelude.{Option, None, Some, Result, Ok, Err}
use mathlib.Core.Path.{◌≡◌, refl, sym, ap, ap₂, ◌∙◌}
use mathlib.Core.Bool.{Bool, true, false, ◌&&◌}
use mathlib.Core.List.{List}
use Prim.Native.Nat.{ℕ, ◌+◌, ◌≤◌}
use native.Mathlib.Omega.{arith}
use lib.ListN.{length, take, drop}
use lib.Dec.{leb, ltb, eqb}
use borrow.Author.Tests.{eqb-true}
use Rattle.std.specs.Option.{MatchOption}
use Rattle.std.proofs.Common.{Some, None, Result, Ok, Err}
use Rattle.bits.specs.Bits.{pick, guard}
use Rattle.bits.specs.Frame.{bytes_for}
use Rattle.bits.proofs.Tests.{both, never}
use Rattle.bits.specs.declared.BitCount.{BitCount}
use Rattle.reader.specs.Read.{answer_of, found_in, read_is}
use Rattle.rules.specs.Request.{request_refusal, is_user}
use Rattle.rules.specs.Rule.{ruling}
use Rattle.rules.specs.declared.request.Destination.{Destination}
use Rattle.rules.specs.declared.request.Destination.TheVariants.{Identity, Number}
use Rattle.rules.specs.declared.request.Request.{Request}
use Rattle.archive.specs.Model.{in_range}
use Rattle.archive.specs.Reading.{reading, is_archive}
use Rattle.archive.specs.Restoring.{fetch_is}
use Rattle.archive.specs.declared.Body.{Body}
use Rattle.archive.specs.Refusals.{plain}
use Rattle.archive.specs.Checking.{check_is}
use Rattle.archive.specs.declared.refusal.Refusal.{Refusal}
use Rattle.archive.proofs.Model.Found.{held-agrees}
use Rattle.archive.proofs.Model.Checked.{archive_checked}
use Rattle.archive.proofs.Calls.Fetch.{BodyIs, fetch-damaged, fetch-missing, fetch-found}
use Rattle.archive.proofs.Calls.Capture.{home-read}
use Rattle.barring.specs.Decision.{decision_of}
use Rattle.barring.specs.Decide.{part_for, judged_by, judged_at, judging_part, key_for, part_in, decide_is}
use Rattle.barring.specs.Inner.{ruling_of_body}
use Rattle.barring.specs.declared.Decision.{Decision}
use Rattle.barring.specs.declared.Decision.TheVariants.{NotHeld}
use Rattle.barring.specs.declared.JudgingPart.{JudgingPart}

user-first : (a b c d e f : Bool) → pick {A = ℕ} (a && b && c && d && e && f) 0 9 ≡ 0 → a ≡ true
user-first true b c d e f h = refl
user-first false b c d e f h = absurd (omega arith)

part-ranged : (d : Destination) → leb 1 (part_for d) && leb (part_for d) 2 ≡ true
unfolding part_for
part-ranged (Identity u) = refl
part-ranged (Number length) = refl

pub request-ranged : (q : Request) → request_refusal q ≡ 0 → in_range (key_for q) ≡ true
unfolding request_refusal is_user in_range
request-ranged q e =
    let p = both (ltb q.user.network 16777216) (ltb q.user.ssi 16777216) (user-first _ _ _ _ _ _ e) in
    rw (p.0, p.1, part-ranged q.destination)

abbrev pub decided : Decision → Result Decision Refusal
decided d = Ok d

not-archive : (b : List ℕ) (q : Request) {f : Refusal} → request_refusal q ≡ 0 → check_is b ≡ Err f → Err f ≡ decide_is b q
unfolding decide_is
not-archive b q e a = rw (e, a)

module _ (b : List ℕ) (q : Request) (e : request_refusal q ≡ 0) where
  abbrev fetched_for : Result (Option Body) Refusal
  fetched_for = fetch_is b (key_for q)

  pub decide-held : is_archive b ≡ true → decide_is b q ≡ Ok (judged_by (reading b).home q (part_in b q))
  unfolding decide_is
  decide-held a = rw (e, archive_checked b a)

  -- the body that is fetched lies within the archive, and the rule applied to it is the decision
  module _ (at : ℕ) (n : BitCount) {day : ℕ} (f : fetched_for ≡ Ok (Some (record { off = at; bits = n; day = day }))) where
    body : (is_archive b ≡ true) × BodyIs b (record { off = at; bits = n; day = day }) (part_in b q)
    body = fetch-found b _ (request-ranged q e) f

    pub body-within : at + bytes_for n.0 ≤ length b
    body-within = body.1.inside

    -- an archive holds what is accepted
    pub body-accepted : answer_of (read_is (take (bytes_for n.0) (drop at b)) n.0) ≡ Ok tt
    body-accepted =
        let k = body.1 in
        ap answer_of (sym (ap₂ (λ (s : List ℕ) (m : BitCount). read_is s m.0) k.body k.bits)) ∙ (held-agrees b body.0 (key_for q) k.is).accepted

    pub decide-body : Ok (decision_of (ruling_of_body b at n.0 q)) ≡ decide_is b q
    decide-body =
        let k = body.1 in
        sym (decide-held body.0
        ∙ ap decided
        (ap (judged_by (reading b).home q) k.is
        ∙ ap₂ (λ (s : List ℕ) (m : BitCount). decision_of (ruling (reading b).home (found_in (read_is s m.0)) q)) k.body k.bits
        ∙ ap (λ (h : ℕ). decision_of (ruling h (found_in (read_is (take (bytes_for n.0) (drop at b)) n.0)) q)) (sym (home-read b body.0))))

  pub decide-missing : fetched_for ≡ Ok None → Ok NotHeld ≡ decide_is b q
  decide-missing f =
      let k = fetch-missing b _ (request-ranged q e) f in
      sym (decide-held k.0 ∙ ap decided (ap (judged_by (reading b).home q) k.1))

  pub decide-damaged : {f : Refusal} → fetched_for ≡ Err f → Err f ≡ decide_is b q
  decide-damaged f = not-archive b q e (fetch-damaged b _ (request-ranged q e) f)

-- ---- the part that judges

-- of the body that is fetched, its place and its length
pub mapped : (o : Option Body) {m : Option JudgingPart} → MatchOption o (m ≡ None) (λ body. m ≡ Some (record { at = body.off; length = body.bits }))
    → Ok m ≡ judged_at (Ok o)
mapped None e = ap Ok e
mapped (Some body) e = ap Ok e

module _ (b : List ℕ) (q : Request) where
  pub part-fetched : {f : Result (Option Body) Refusal} → request_refusal q ≡ 0 → fetch_is b (key_for q) ≡ f → judged_at f ≡ judging_part b q
  unfolding judging_part
  part-fetched e f = rw (e, f)

  out_of_range : eqb (request_refusal q) 0 ≡ false → Err (plain (request_refusal q)) ≡ decide_is b q
  unfolding decide_is
  out_of_range r = rw r

  -- where it stands, the body of the part stands that is fetched
  pub part_at : {part : JudgingPart} → judging_part b q ≡ Ok (Some part)
      → (request_refusal q ≡ 0) × (day : ℕ) × (fetch_is b (key_for q) ≡ Ok (Some (record { off = part.at; bits = part.length; day = day })))
  unfolding judging_part
  part_at {part} = go (eqb (request_refusal q) 0) refl (fetch_is b (key_for q)) refl
    where
      go : (t : Bool) → eqb (request_refusal q) 0 ≡ t → (f : Result (Option Body) Refusal) → fetch_is b (key_for q) ≡ f
          → guard t (Err (plain (request_refusal q))) (judged_at f) ≡ Ok (Some part)
          → (request_refusal q ≡ 0) × (day : ℕ) × (fetch_is b (key_for q) ≡ Ok (Some (record { off = part.at; bits = part.length; day = day })))
      go true r (Ok (Some held)) f e =
          let same : record { at = held.off; length = held.bits } ≡ part = cc in
          (eqb-true _ 0 r, held.day, f ∙ ap (λ (p : JudgingPart). Ok (Some (record { off = p.at; bits = p.length; day = held.day }))) same)
      go true r (Ok None) f e = never cc
      go true r (Err g) f e = never cc
      go false r f g e = never cc

  -- where there is none, "not held" is the answer, or the refusal
  pub part-missing : judging_part b q ≡ Ok None → Ok NotHeld ≡ decide_is b q
  unfolding judging_part
  part-missing = go (eqb (request_refusal q) 0) refl (fetch_is b (key_for q)) refl
    where
      go : (t : Bool) → eqb (request_refusal q) 0 ≡ t → (f : Result (Option Body) Refusal) → fetch_is b (key_for q) ≡ f
          → guard t (Err (plain (request_refusal q))) (judged_at f) ≡ Ok None → Ok NotHeld ≡ decide_is b q
      go true r (Ok (Some held)) f e = never cc
      go true r (Ok None) f e = decide-missing b q (eqb-true _ 0 r) f
      go true r (Err g) f e = never cc
      go false r f g e = never cc

  pub part-refused : {d : Refusal} → judging_part b q ≡ Err d → Err d ≡ decide_is b q
  unfolding judging_part
  part-refused {d} = go (eqb (request_refusal q) 0) refl (fetch_is b (key_for q)) refl
    where
      go : (t : Bool) → eqb (request_refusal q) 0 ≡ t → (f : Result (Option Body) Refusal) → fetch_is b (key_for q) ≡ f
          → guard t (Err (plain (request_refusal q))) (judged_at f) ≡ Err d → Err d ≡ decide_is b q
      go true r (Ok (Some held)) f e = never cc
      go true r (Ok None) f e = never cc
      go true r (Err g) f e = cc (decide-damaged b q (eqb-true _ 0 r) f)
      go false r f g e = cc (out_of_range r)
