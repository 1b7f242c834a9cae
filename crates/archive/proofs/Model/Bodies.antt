-- What the rules say of a body and its entry, and that the numbers of such an entry fit their bytes. Assumes nothing.
use Rattle.std.specs.Prelude.{Option, Some, None, Ok, Err, Result, is_ok}
use mathlib.Core.Path.{◌≡◌, refl, sym, ap, ◌∙◌, subst}
use mathlib.Core.Bool.{Bool, true, false, ◌&&◌}
use mathlib.Core.List.{List}
use Prim.Native.Nat.{ℕ, ◌≤◌, ◌<◌}
use native.Mathlib.Omega.{arith}
use lib.ListN.{length}
use lib.Dec.{leb, eqb}
use borrow.Author.Tests.{leb-true}
use Rattle.bits.specs.Bits.{pick}
use Rattle.bits.proofs.Tests.{differ, never, both, picked, by-test}
use Rattle.grammar.specs.declared.record.Identity.{Identity}
use Rattle.grammar.specs.declared.record.Record.{Record}
use Rattle.grammar.specs.Grammar.{network_of}
use Rattle.walk.specs.Walk.{walk_is}
use Rattle.walk.specs.declared.Head.{Head}
use Rattle.walk.specs.declared.Refusal.{Refusal}
use Rattle.reader.specs.Read.{answer_of, found_in, read_is}
use Rattle.reader.proofs.Walked.{with-found, only_refused, same_answer, same_head}
use Rattle.pdu.proofs.Accepted.{accepted-framed, accepted-small}
use Rattle.judging.specs.Judge.{holdable, may_hold, judged_is}
use Rattle.archive.specs.Model.{Held, body_size}
use Rattle.archive.specs.Filing.{filed_key, filing_of, agrees, body_agrees}
use Rattle.archive.specs.Inner.{KeyFits, EntryFits, filing_under}
use Rattle.archive.specs.declared.contents.Key.{Key}
use Rattle.archive.proofs.Model.Keys.{same_key_lem, is-same_key}

-- ---- a body and its entry

-- what judging a head says decides its filing
module _ (home : ℕ) (x : Head) where
  pub filing-other : judged_is x ≡ None → filing_under home x ≡ None
  unfolding filing_under judged_is
  filing-other = go (holdable x) _
    where
      go : (t : Bool) (f : Option Key) → pick {A = Option (Identity × ℕ)} t (Some (x.user, x.result)) None ≡ None → pick t f None ≡ None
      go true f e = never cc
      go false f e = refl

  pub filing-part : {user : Identity} {part network : ℕ} → judged_is x ≡ Some (user, part) → network ≡ network_of home user
      → filing_under home x ≡ Some (record { network = network; ssi = user.ssi; part = part })
  unfolding filing_under judged_is
  filing-part {user} {part} e f =
      let k = picked (holdable x) e (λ y. never cc) in
      let same : (x.user, x.result) ≡ (user, part) = cc k.1 in
      let u : x.user ≡ user = ap (λ (p : Identity × ℕ). p.0) same in
      let p : x.result ≡ part = ap (λ (p : Identity × ℕ). p.1) same in
      rw (k.0, u, p, f)

-- a PDU that the walk accepts is read, and filed by its head
module _ (s : List ℕ) (n : ℕ) {x : Head} (w : walk_is s n ≡ Ok x) where
  pub walk-accepted : answer_of (read_is s n) ≡ Ok tt
  walk-accepted = same_answer s n ∙ ap answer_of w

  pub filed-by-head : (home : ℕ) → filing_under home x ≡ filing_of home (found_in (read_is s n))
  unfolding filing_under filing_of
  filed-by-head home = ap (filing_under home) (same_head s n w)

-- a body agrees with its entry if the walk accepts it and that has the key it is filed under
module _ (home : ℕ) (h : Held) where
  pub body_refused : {f : Refusal} → walk_is h.body h.entry.bits.0 ≡ Err f → body_agrees home h ≡ false
  unfolding body_agrees
  body_refused w =
      rw (only_refused (read_is h.body h.entry.bits.0) (same_answer h.body h.entry.bits.0 ∙ ap answer_of w))

  pub body-filed : {x : Head} → walk_is h.body h.entry.bits.0 ≡ Ok x
      → body_agrees home h ≡ agrees (filing_under home x) h.entry.key
  unfolding body_agrees
  body-filed w = rw (with-found (read_is h.body h.entry.bits.0) (walk-accepted h.body h.entry.bits.0 w), filed-by-head h.body h.entry.bits.0 w home)

-- the body is a legal PDU that may be held, and its entry has the key that it is filed under
pub record Agrees (home : ℕ) (h : Held) : Type 0 where
  pub accepted : answer_of (read_is h.body h.entry.bits.0) ≡ Ok tt
  pub may : may_hold (found_in (read_is h.body h.entry.bits.0)) ≡ true
  pub key : h.entry.key ≡ filed_key home (found_in (read_is h.body h.entry.bits.0))

was_ok : (r : Result Record Refusal) → is_ok r ≡ true → answer_of r ≡ Ok tt
was_ok (Ok r) e = refl
was_ok (Err f) e = differ (sym e)

agreed : (home : ℕ) (r : Record) (k : Key) (p : Bool) → may_hold r ≡ p
    → agrees (pick p (Some (filed_key home r)) None) k ≡ true → (may_hold r ≡ true) × (k ≡ filed_key home r)
agreed home r k false m a = differ (sym a)
agreed home r k true m a = (m, sym (same_key_lem (filed_key home r) k a))

pub agrees-says : (home : ℕ) (h : Held) → body_agrees home h ≡ true → Agrees home h
unfolding body_agrees filing_of
agrees-says home h e =
    let n = h.entry.bits.0 in
    let r = found_in (read_is h.body n) in
    let p = both (is_ok (read_is h.body n)) (agrees (filing_of home r) h.entry.key) e in
    let q = agreed home r h.entry.key (may_hold r) refl p.1 in
    record { accepted = was_ok (read_is h.body n) p.0; may = q.0; key = q.1 }

pub agrees-is : (home : ℕ) (h : Held) → Agrees home h → body_agrees home h ≡ true
unfolding body_agrees filing_of
agrees-is home h a =
    rw (with-found (read_is h.body h.entry.bits.0) a.accepted, a.may) (is-same_key (filed_key home (found_in (read_is h.body h.entry.bits.0))) h.entry.key (sym a.key))

-- ---- numbers fit their bytes

-- a PDU that may be held is of part 1 or 2
pub part-is : (r : Record) → may_hold r ≡ true → (1 ≤ r.figures.result) × (r.figures.result ≤ 2)
part-is r m =
    let p = both (eqb r.kind 12) (leb 1 r.figures.result && (leb r.figures.result 2 && eqb r.affected.code 1)) m in
    let q = both (leb 1 r.figures.result) (leb r.figures.result 2 && eqb r.affected.code 1) p.1 in
    let t = both (leb r.figures.result 2) (eqb r.affected.code 1) q.1 in
    (leb-true 1 r.figures.result q.0, leb-true r.figures.result 2 t.0)

pub record Fits (h : Held) : Type 0 where
  pub entry : EntryFits h.entry
  pub full : length h.body ≡ body_size h

network-small : (home : ℕ) (u : Identity) → home < 16777216 → u.extension < 16777216 → network_of home u < 16777216
unfolding network_of
network-small home u h k = by-test (λ (x : ℕ). x < 16777216) (eqb u.present 1) k h

module _ (home : ℕ) (h : Held) (k : home < 16777216) (a : Agrees home h) where
  pub key_fits : KeyFits h.entry.key
  key_fits =
      let n = h.entry.bits.0 in
      let s = accepted-small h.body n a.accepted in
      let p = part-is (found_in (read_is h.body n)) a.may in
      subst KeyFits (sym a.key) (record { network = network-small home _ k s.1; ssi = s.0; part = omega (arith, p.1) })

  pub fits : h.entry.day < 65536 → Fits h
  fits day =
      let f = accepted-framed h.body h.entry.bits.0 a.accepted in
      record { entry = record { key = key_fits; bits = omega (arith, f.short); day = day }; full = f.count }
