-- The body that an archive holds for a request is a part that judges it, and what its rules say is the decision. Assumes nothing.
use Rattle.std.specs.Prelude.{Some, Ok, Result, Err}
use mathlib.Core.Path.{◌≡◌, refl, sym, ap, ap₂, ◌∙◌}
use mathlib.Core.Bool.{true, ◌&&◌}
use mathlib.Core.List.{List}
use Prim.Native.Nat.{ℕ}
use lib.ListN.{take, drop}
use lib.Dec.{eqb, leb}
use borrow.Author.Tests.{eqb-true}
use Rattle.std.proofs.Common.{Option}
use Rattle.bits.specs.Frame.{bytes_for}
use Rattle.bits.specs.declared.BitCount.{BitCount}
use Rattle.bits.proofs.Tests.{never, both}
use Rattle.grammar.specs.declared.record.Record.{Record}
use Rattle.walk.specs.Walk.{walk_is}
use Rattle.walk.specs.declared.Head.{Head}
use Rattle.walk.specs.declared.Refusal.{Refusal}
use Rattle.reader.specs.Read.{answer_of, found_in, read_is}
use Rattle.reader.proofs.Walked.{Accepts, accepts, same_answer}
use Rattle.rules.specs.Request.{request_refusal}
use Rattle.rules.specs.Rule.{missing_in, six_rules, ruling}
use Rattle.rules.specs.declared.Cause.{Cause}
use Rattle.rules.specs.declared.request.Request.{Request}
use Rattle.archive.specs.Filing.{filed_key}
use Rattle.archive.specs.Reading.{home_of, reading, is_archive}
use Rattle.archive.specs.Restoring.{fetch_is}
use Rattle.archive.specs.declared.contents.Key.{Key}
use Rattle.archive.proofs.Model.Found.{held-agrees, held-named}
use Rattle.archive.proofs.Calls.Fetch.{BodyIs, fetch-found}
use Rattle.archive.proofs.Calls.Capture.{home-read}
use Rattle.barring.specs.Decide.{part_for, key_for, part_in}
use Rattle.barring.specs.Inner.{ruling_of_body}
use Rattle.barring.proofs.Decided.{request-ranged}
use Rattle.in_place.specs.Inner.{Ruled, JudgingAt}
use Rattle.in_place.proofs.Splits.{read-once}

-- what is accepted is read
accepted : (s : List ℕ) (n : ℕ) → answer_of (read_is s n) ≡ Ok tt → Accepts s n
accepted s n e = go (walk_is s n) refl
  where
    go : (w : Result Head Refusal) → walk_is s n ≡ w → Accepts s n
    go (Ok h) q = accepts s n q
    go (Err f) q = let z = sym e ∙ same_answer s n ∙ ap answer_of q in never cc

module _ (b : List ℕ) (q : Request) (e : request_refusal q ≡ 0) {at : ℕ} {n : BitCount} {day : ℕ}
    (f : fetch_is b (key_for q) ≡ Ok (Some (record { off = at; bits = n; day = day }))) where
  abbrev body : List ℕ
  body = take (bytes_for n.0) (drop at b)

  fetched : (is_archive b ≡ true) × BodyIs b (record { off = at; bits = n; day = day }) (part_in b q)
  fetched = fetch-found b (key_for q) (request-ranged q e) f

  -- its record, which may be held, and is filed under the request's user and part
  record Filed : Type 0 where
    pub accepts : Accepts body n.0
    pub kind : accepts.found.kind ≡ 12
    pub single : accepts.found.affected.code ≡ 1
    pub part : accepts.found.figures.result ≡ part_for q.destination
    pub network : missing_in (home_of b) accepts.found ≡ q.user.network

  filed : Filed
  filed =
      let k = fetched.1 in
      let h = k.held in
      let held = held-agrees b fetched.0 (key_for q) k.is in
      let key : h.entry.key ≡ key_for q = held-named b fetched.0 (key_for q) k.is (request-ranged q e) in
      let read : read_is h.body h.entry.bits.0 ≡ read_is body n.0 =
      ap₂ (λ (s : List ℕ) (m : BitCount). read_is s m.0) k.body k.bits in
      let a = accepted body n.0 (ap answer_of (sym read) ∙ held.accepted) in
      let r : Record = a.found in
      let found : found_in (read_is h.body h.entry.bits.0) ≡ r = ap found_in (read ∙ a.same) in
      let may = rw found at held.may in
      let p = both (eqb r.kind 12) (leb 1 r.figures.result && (leb r.figures.result 2 && eqb r.affected.code 1)) may in
      let p₁ = both (leb 1 r.figures.result) (leb r.figures.result 2 && eqb r.affected.code 1) p.1 in
      let p₂ = both (leb r.figures.result 2) (eqb r.affected.code 1) p₁.1 in
      let under : filed_key (reading b).home r ≡ key_for q = sym (held.key ∙ ap (filed_key (reading b).home) found) ∙ key in
      record {
        accepts = a;
        kind = eqb-true _ 12 p.0;
        single = eqb-true _ 1 p₂.1;
        part = ap (λ (x : Key). x.part) under;
        network = ap (λ (home : ℕ). missing_in home r) (home-read b fetched.0) ∙ ap (λ (x : Key). x.network) under;
      }

  pub judging : JudgingAt b at n.0 q
  judging =
      let a = filed.accepts in
      record {
        inside = fetched.1.inside;
        body = record {
          few = a.few;
          found = a.found;
          end = a.end;
          read = a.read;
          kind = filed.kind;
          single = filed.single;
          part = filed.part;
        };
        same = ap found_in a.same;
        network = filed.network;
      }

-- the rules applied to the record that is read are the ruling
pub body_ruled : (b : List ℕ) (at n : ℕ) (q : Request) → JudgingAt b at n q → {x : Option Cause} → Ruled (take (bytes_for n) (drop at b)) q x
    → x ≡ ruling_of_body b at n q
unfolding ruling
body_ruled b at n q j u =
    let found : Record = found_in (read_is (take (bytes_for n) (drop at b)) n) in
    let same : u.found ≡ found = (read-once u.read j.body.read).0 ∙ sym j.same in
    u.says
    ∙ ap (λ (r : Record). six_rules q.user.network r q) same
    ∙ ap (λ (m : ℕ). six_rules m found q) (sym (ap (missing_in (home_of b)) j.same ∙ j.network))
