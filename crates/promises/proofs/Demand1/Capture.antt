-- Capture keeps its promise. Assumes nothing.
use Rattle.std.specs.Prelude.{Result, Ok, Err, Option, None, Some, ℕ}
use mathlib.Core.Path.{◌≡◌, refl, sym, ap, ◌∙◌, subst}
use mathlib.Core.Bool.{Bool, true, false, ◌||◌}
use mathlib.Core.List.{List, [], ◌∷◌, ◌++◌}
use Prim.Native.Nat.{ℕ, zero, suc, ◌≤◌, ◌<◌}
use native.Mathlib.Omega.{arith}
use lib.ListN.{length}
use lib.Dec.{ltb, leb, eqb}
use borrow.Author.Tests.{eqb-true, eq-eqb, leb-true, leb-false, ltb-true, ltb-false, lt-ltb, le-ltb}
use Rattle.bits.specs.Bits.{pick}
use Rattle.bits.proofs.Tests.{never, differ, false-unless, both, both⁻¹}
use Rattle.reader.specs.Read.{refusal_of, answer_of, found_in, read_is}
use Rattle.judging.specs.Judge.{may_hold}
use Rattle.archive.specs.Model.{Held, Archive, length_of}
use Rattle.archive.specs.Filing.{filed_key, body_agrees, keeps_rules}
use Rattle.archive.specs.Reading.{reading, is_archive}
use Rattle.archive.specs.Refusals.{plain, of_pdu}
use Rattle.archive.specs.Checking.{check_is}
use Rattle.walk.specs.declared.Refusal as pdu
use Rattle.archive.specs.declared.refusal.Refusal.{Refusal}
use Rattle.archive.specs.Keeping.{stored_refusal, held_for, captured, capture_is}
use Rattle.archive.specs.Restoring.{lookup}
use Rattle.archive.specs.declared.contents.Key.{Key}
use Rattle.archive.proofs.Model.Bodies as bodies
use Rattle.archive.proofs.Model.Rules.{all_fit, archive-formed}
use Rattle.archive.proofs.Model.Put.{is_none, rules-put}
use Rattle.archive.proofs.Calls.Capture.{offered-agrees, no-day, no-archive, capture-leaves}
use Rattle.archive.proofs.Calls.Limits.{full_for, eight}
use Rattle.promises.specs.Answers.{OneOf}
use Rattle.promises.specs.Held.{may_be-held}
use Rattle.promises.specs.Archive as said
use Rattle.promises.specs.Archive.{Agrees, IsArchive, Ranged, HeldFor}
use Rattle.promises.specs.Demand1.Reading as read
use Rattle.promises.specs.Demand1.Capture.{answer, Offered, Full, result, Given, Promise}
use Rattle.promises.specs.Demand1.Capture.{success, undated, damaged, unread, not-kept, full, too_long, no_room}
use Rattle.promises.proofs.Tables.{exactly, wider}
use Rattle.promises.specs.Broken as breaking
use Rattle.promises.proofs.Archive as archive-kept
use Rattle.promises.proofs.Broken as broken-kept
use Rattle.promises.proofs.Broken.{seven}
use Rattle.promises.proofs.Archive.Agreeing.{agreed-key, filed-agrees}
use Rattle.promises.proofs.Archive.Forming.{length-bytes}
use Rattle.promises.proofs.Demand1.Reading as reading-kept

abbrev archives : said.Promise
archives = archive-kept.promise

abbrev broken : breaking.Promise
broken = broken-kept.promise

-- ---- a PDU that is not filed

module _ (b s : List ℕ) (n day room : ℕ) (dated : day < 65536) where
  pdu-refused : {f : pdu.Refusal} → IsArchive b → answer_of (read_is s n) ≡ Err f → capture_is b s n day room ≡ Err (of_pdu f)
  unfolding capture_is
  pdu-refused k f = rw (lt-ltb _ _ dated, (broken.passes b).1 k, f)

  may-not : IsArchive b → answer_of (read_is s n) ≡ Ok tt → may_hold (found_in (read_is s n)) ≡ false
      → capture_is b s n day room ≡ Err (plain 6)
  unfolding capture_is
  may-not k f g = rw (lt-ltb _ _ dated, (broken.passes b).1 k, f, g)

is-none : (l : Option Held) → is_none l ≡ true → l ≡ None
is-none None e = refl
is-none (Some h) e = differ (sym e)

module _ (b s : List ℕ) (n day room : ℕ) where
  abbrev size : ℕ
  size = length_of (captured b s n day)

  -- what the PDU is held as
  abbrev filed : Held
  filed = held_for (reading b).home s n day

  abbrev is_full : Bool
  is_full = full_for b filed

  abbrev Both : Refusal → Type 0
  Both f = Given b s n day room f × OneOf (read.numbers ++ (9 ∷ 7 ∷ 6 ∷ 8 ∷ [])) f.number

  archive : IsArchive b → is_archive b ≡ true
  archive k = (archives.is-archive b).1 k

  -- ---- a PDU that is offered is filed under one entry, in its range

  module _ (o : Offered b s n day) where
    may : may_hold (found_in (read_is s n)) ≡ true
    may = (may_be-held (found_in (read_is s n))).1 o.may

    agrees : body_agrees (reading b).home filed ≡ true
    agrees = bodies.agrees-is (reading b).home filed (offered-agrees (reading b).home s n day o.accepted may)

    rules : keeps_rules (reading b).home 0 (captured b s n day).held ≡ true
    unfolding captured
    rules =
        let f = archive-formed b (archive o.archive) in
        let p = bodies.part-is (found_in (read_is s n)) may in
        rules-put (reading b).home 0 filed (reading b).held o.dated agrees (omega (arith, p.0)) f.rules

    -- the result's length is header, contents and bodies
    long : length (result b s n day) ≡ size
    unfolding captured
    long =
        let f = archive-formed b (archive o.archive) in
        length-bytes (captured b s n day) (all_fit (reading b).home 0 (captured b s n day).held f.home rules)

    ranged : Ranged filed.entry.key
    ranged =
        let f = archive-formed b (archive o.archive) in
        let e = bodies.key_fits (reading b).home filed f.home (offered-agrees (reading b).home s n day o.accepted may) in
        record { network = e.network; ssi = e.ssi; part = o.may.result }

    is-full : is_full ≡ true → Full b s n o.archive
    is-full e =
        let x = both (is_none (lookup filed.entry.key (reading b).held)) (eqb (length (reading b).held) 512) e in
        let y = filed.entry in
        let no_one = (archives.not_found b (archive o.archive) y.key ranged).0 (is-none _ x.0) in
        let same = sym (archives.one-reading b o.archive) in
        record {
          entry = y;
          bits = refl;
          agrees = subst (λ (a : Archive). Agrees a.home filed (found_in (read_is s n))) same (filed-agrees (reading b).home s n day o.accepted o.may);
          new = subst (λ (a : Archive). (h : Held) → HeldFor a.held y.key h → ⊥) same no_one;
          count = subst (λ (a : Archive). length a.held ≡ 512) same (eqb-true _ _ x.1);
        }

    full_is : Full b s n o.archive → is_full ≡ true
    full_is f =
        let same = archives.one-reading b o.archive in
        let e : f.entry.key ≡ filed.entry.key =
        agreed-key o.archive.archive.home (record { entry = f.entry; body = s }) (found_in (read_is s n)) f.agrees
        ∙ ap (λ (a : Archive). filed_key a.home (found_in (read_is s n))) same in
        let no_one = subst (λ (a : Archive). (h : Held) → HeldFor a.held f.entry.key h → ⊥) same f.new in
        let new = subst (λ (k : Key). (h : Held) → HeldFor (reading b).held k h → ⊥) e no_one in
        let y = filed.entry in
        both⁻¹ (ap is_none ((archives.not_found b (archive o.archive) y.key ranged).1 new))
        (eq-eqb _ _ (subst (λ (a : Archive). length a.held ≡ 512) same f.count))

    placed : capture_is b s n day room ≡ pick (is_full || (ltb 65536 size || ltb room size)) (Err (plain 8)) (Ok size)
    placed = eight b s n day room o.dated (archive o.archive) o.accepted may

    offered : Both (answer b s n day room)
    offered = subst Both (sym (ap stored_refusal placed)) (go is_full refl (ltb 65536 size) refl (ltb room size) refl)
      where
        go : (p : Bool) → is_full ≡ p → (q : Bool) → ltb 65536 size ≡ q → (t : Bool) → ltb room size ≡ t
            → Both (stored_refusal (pick (p || (q || t)) (Err (plain 8)) (Ok size)))
        go true e q f t g = (full o (is-full e), refl)
        go false e true f t g = (too_long o (omega (arith, long, ltb-true 65536 size f)), refl)
        go false e false f true g = (no_room o (omega (arith, long, ltb-true room size g)), refl)
        go false e false f false g =
            let l : length (result b s n day) ≤ 65536 = omega (arith, long, ltb-false 65536 size f) in
            let h : length (result b s n day) ≤ room = omega (arith, long, ltb-false room size g) in
            (success o (λ x. differ (sym (full_is x) ∙ e)) l h, refl)

    over : is_full || (ltb 65536 size || ltb room size) ≡ true → answer b s n day room ≡ plain 8
    over e = ap stored_refusal (placed ∙ ap (λ (t : Bool). pick t (Err (plain 8)) (Ok size)) e)

    fits : (Full b s n o.archive → ⊥) → length (result b s n day) ≤ 65536 → length (result b s n day) ≤ room → capture_is b s n day room ≡ Ok size
    fits f l h =
        let none = false-unless is_full (λ t. f (is-full t)) in
        let short = le-ltb 65536 size (omega (arith, long, l)) in
        let room_for = le-ltb room size (omega (arith, long, h)) in
        placed ∙ (λ i. pick (none i || (short i || room_for i)) (Err (plain 8)) (Ok size))

  -- ---- the table

  -- no PDU is refused with 0
  accepted-not : {p : Option ℕ} → answer_of (read_is s n) ≡ Err (read.told 0 p) → ⊥
  accepted-not f =
      let a : answer_of (read_is s n) ≡ Ok tt = ((reading-kept.promise).success s n (ap (λ (x : Result Unit pdu.Refusal). (refusal_of x).number) f)).0 in
      never cc

  dated-row : day < 65536 → Both (answer b s n day room)
  dated-row dated = go (check_is b) refl (answer_of (read_is s n)) refl (may_hold (found_in (read_is s n))) refl
    where
      to : {f : Refusal} → capture_is b s n day room ≡ Err f → Both f → Both (answer b s n day room)
      to e h = subst Both (sym (ap stored_refusal e)) h

      unread-row : IsArchive b → (k : ℕ) (p : Option ℕ) → answer_of (read_is s n) ≡ Err (read.told k p) → Both (answer b s n day room)
      unread-row a zero p f = absurd (accepted-not f)
      unread-row a (suc k) p f =
          let listed = subst (λ (x : Result Unit pdu.Refusal). OneOf read.numbers (refusal_of x).number) f ((reading-kept.promise).table s n).listed in
          to (pdu-refused b s n day room dated a f) (unread k p dated a f, wider read.numbers (9 ∷ 7 ∷ 6 ∷ 8 ∷ []) (suc k) listed)

      go : (c : Result (Unit {0}) Refusal) → check_is b ≡ c → (a : Result Unit pdu.Refusal) → answer_of (read_is s n) ≡ a → (q : Bool) → may_hold (found_in (read_is s n)) ≡ q
          → Both (answer b s n day room)
      go (Err x) e a f q g =
          let k = (broken.refuses b x).0 e in
          to (no-archive b s n day room dated e) (damaged x dated k, subst (OneOf (read.numbers ++ (9 ∷ 7 ∷ 6 ∷ 8 ∷ []))) (sym (seven k)) refl)
      go (Ok _) e (Err x) f q g = unread-row ((broken.passes b).0 e) x.number x.place f
      go (Ok _) e (Ok tt) f false g =
          let k = (broken.passes b).0 e in
          to (may-not b s n day room dated k f g) (not-kept dated k f (λ m. differ (sym ((may_be-held (found_in (read_is s n))).1 m) ∙ g)), refl)
      go (Ok _) e (Ok tt) f true g =
          offered (record { dated = dated; archive = (broken.passes b).0 e; accepted = f; may = (may_be-held (found_in (read_is s n))).0 g })

  row : Both (answer b s n day room)
  row = go (leb day 65535) refl
    where
      go : (t : Bool) → leb day 65535 ≡ t → Both (answer b s n day room)
      go true e = dated-row (omega (arith, leb-true day 65535 e))
      go false e =
          let late = leb-false day 65535 e in
          subst Both (sym (ap stored_refusal (no-day b s n day room late))) (undated late, refl)

  or-true : (p : Bool) {q : Bool} → q ≡ true → p || q ≡ true
  or-true true e = refl
  or-true false e = e

  back : (x : Refusal) → Given b s n day room x → answer b s n day room ≡ x
  back x (success o f l h) = ap stored_refusal (fits o f l h)
  back x (undated late) = ap stored_refusal (no-day b s n day room late)
  back x (damaged y d k) = ap stored_refusal (no-archive b s n day room d ((broken.refuses b y).1 k))
  back x (unread m p d e f) = ap stored_refusal (pdu-refused b s n day room d e f)
  back x (not-kept d e f g) =
      ap stored_refusal (may-not b s n day room d e f (false-unless _ (λ t. g ((may_be-held (found_in (read_is s n))).0 t))))
  back x (full o f) = over o (ap (λ (p : Bool). p || (ltb 65536 size || ltb room size)) (full_is o f))
  back x (too_long o h) = over o (or-true is_full (ap (λ (q : Bool). q || ltb room size) (lt-ltb 65536 size (omega (arith, long o, h)))))
  back x (no_room o h) = over o (or-true is_full (or-true (ltb 65536 size) (lt-ltb room size (omega (arith, long o, h)))))

  written : (x : Refusal) → Given b s n day room x → x.number ≡ 0 → (capture_is b s n day room ≡ Ok size) × (length (result b s n day) ≡ size)
  written x (success o f l h) z = (fits o f l h, long o)
  written x (undated late) z = absurd (omega arith)
  written x (damaged y d k) z = absurd (omega (arith, seven k, z))
  written x (unread m p d e f) z = absurd (omega arith)
  written x (not-kept d e f g) z = absurd (omega arith)
  written x (full o f) z = absurd (omega arith)
  written x (too_long o h) z = absurd (omega arith)
  written x (no_room o h) z = absurd (omega arith)

pub promise : Promise
promise = record {
  table = λ b s n day room. exactly (Given b s n day room) (row b s n day room).0 (row b s n day room).1 (back b s n day room);
  success = λ b s n day out e.
      let w = written b s n day (length out) (answer b s n day (length out)) (row b s n day (length out)).0 e in
      (w.0 ∙ ap Ok (sym w.1), capture-leaves b s n day out w.0);
  refusal = λ b s n day out k e. capture-leaves b s n day out e;
}
