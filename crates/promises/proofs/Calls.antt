-- Each of the eleven calls for C keeps its promise, by those of the functions that it passes on. Assumes nothing.
use Rattle.std.specs.Prelude.{Result, Ok, Err, None, ℕ}
use mathlib.Core.Path.{◌≡◌, refl, sym, ap, ◌∙◌, subst}
use mathlib.Core.Bool.{Bool, true, false}
use mathlib.Core.List.{List, [], ◌∷◌, ◌++◌}
use Prim.Native.Nat.{ℕ}
use native.Mathlib.Omega.{arith}
use borrow.Author.Tests.{eqb-true, eq-eqb}
use lib.ListN.{length}
use lib.Dec.{eqb}
use Rattle.std.proofs.Common.{Result, Ok, Err}
use Rattle.bits.specs.declared.BitCount.{BitCount}
use Rattle.bits.specs.Bits.{pick}
use Rattle.bits.proofs.Tests.{differ, pick-ap, picked}
use Rattle.walk.specs.declared.Refusal as pdu
use Rattle.reader.specs.Read.{refusal_of, answer_of, found_in, read_is}
use Rattle.reader.specs.Words.{read_words_is, read_words, if_accepted}
use Rattle.writer.specs.Write.{write_is, out_is, written_number}
use Rattle.rules.specs.Request.{request_refusal}
use Rattle.archive.specs.Refusals.{plain}
use Rattle.archive.specs.Checking.{check_is, if_archive}
use Rattle.archive.specs.Keeping.{empty_is}
use Rattle.archive.specs.Restoring.{entry_is}
use Rattle.archive.specs.declared.refusal.Refusal.{Refusal}
use Rattle.archive.specs.declared.Restored.{Restored}
use Rattle.archive.specs.declared.contents.Key.{Key}
use Rattle.reload.specs.Reload.{reload_is}
use Rattle.reload.specs.declared.Definition.{Definition}
use Rattle.reload.specs.declared.Target.{Target}
use Rattle.words.specs.RecordWords.{record_words, record_from}
use Rattle.words.specs.RequestWords.{is_request, request_from}
use Rattle.barring.specs.Decide.{part_in, decide_is}
use Rattle.barring.specs.declared.Decision.{Decision}
use Rattle.boc.specs.Calls.{told_refusal, place_word, read_place_of, written_length, write_number, write_out, write_bits}
use Rattle.barring.specs.declared.Decision.TheVariants.{NotHeld}
use Rattle.boc.specs.Calls.{told_number, stored_length, told_entry, told_place, capture_answer, contents_answer}
use Rattle.boc.specs.Calls.{listed_key, listed_length, listed_day, entry_answer}
use Rattle.boc.specs.Calls.{restored_length, restored_day, key_of, restore_answer}
use Rattle.boc.specs.Calls.{reloaded_length}
use Rattle.boc.specs.Calls.{decided_verdict, decide_answer}
use Rattle.promises.specs.Answers.{Exactly}
use Rattle.promises.specs.Calls as call
use Rattle.promises.specs.Calls.{Read, Write, Empty, Capture, Restore, Reloads, Decide, Contents}
use Rattle.promises.specs.Broken.{number_of}
use Rattle.promises.specs.Demand1.Reading as read
use Rattle.promises.specs.Demand1.Decision as decision
use Rattle.promises.proofs.Tables.{wider}
use Rattle.promises.proofs.Broken as broken
use Rattle.promises.proofs.Broken.{seven}
use Rattle.promises.proofs.Demand1.Reading as reading
use Rattle.promises.proofs.Demand1.Writing as writing
use Rattle.promises.proofs.Demand1.Empty as empty
use Rattle.promises.proofs.Demand1.Capture as capture
use Rattle.promises.proofs.Demand1.Entry as entries-kept
use Rattle.promises.specs.Demand1.Entry as entries
use Rattle.promises.proofs.Demand1.Restore as restore
use Rattle.promises.proofs.Demand1.Reload as reload
use Rattle.promises.proofs.Demand1.Listing as listing
use Rattle.promises.proofs.Demand1.Decision as deciding
use Rattle.promises.proofs.Calls.OfWords.{looked-at, request-of, of_request, given-record, asked}
use Rattle.archive.specs.declared.contents.Entry.{Entry}
pub mod OfWords

-- ---- answers that are refusals

written-refusal : (a : Result BitCount ℕ) → (written_number a ≡ 0 → ⊥) → (k : ℕ) × (a ≡ Err k)
written-refusal (Ok n) h = absurd (h refl)
written-refusal (Err k) h = (k, refl)

-- a refusal's number, entry and place are told
refused : (entry place : ℕ) {A : Type 0} (a : Result A Refusal) → (told_number a ≡ 0 → ⊥) → (f : Refusal) × (a ≡ Err f)
    × (told_entry a entry ≡ place_word (told_refusal a).entry) × (told_place a place ≡ place_word (told_refusal a).place)
refused entry place (Ok x) h = absurd (h refl)
refused entry place (Err f) h = (f, refl, refl, refl)

-- what a pointer shows after an answer
shown : {A B : Type 0} (f : A → B → B) (old : B) {a is : A} → a ≡ is → f a old ≡ f is old
shown f old e = ap (λ x. f x old) e

module _ (old entry place : ℕ) where
  -- a decision's number is told, and entry and place are left
  decided-success : {n : ℕ} {d : Result Decision Refusal} → decision.Verdict n d → (decided_verdict d old ≡ n) × (told_entry d entry ≡ entry) × (told_place d place ≡ place)
  decided-success decision.outside-group = (refl, refl, refl)
  decided-success decision.restricted-service = (refl, refl, refl)
  decided-success decision.restricted-address = (refl, refl, refl)
  decided-success decision.allowed = (refl, refl, refl)
  decided-success decision.not-held = (refl, refl, refl)

-- ---- boc_read

module _ (s : List ℕ) (n : ℕ) (w : List ℕ) (place : ℕ) where
  abbrev nine : pdu.Refusal
  nine = read.told 9 None

  table : Exactly read.number_of (refusal_of (read_words_is s n (length w))) (read.numbers ++ (9 ∷ []))
      (call.Checked nine (call.OfRecord w) (read.Given s n))
  unfolding read_words_is
  table =
      subst (λ (f : pdu.Refusal). Exactly read.number_of f (read.numbers ++ (9 ∷ [])) (call.Checked nine (call.OfRecord w) (read.Given s n)))
      (sym (pick-ap refusal_of (eqb (length w) 520) (answer_of (read_is s n)) (Err nine)))
      (looked-at (eqb (length w) 520) (eqb-true (length w) 520) (eq-eqb (length w) 520) refl
      (wider read.numbers (9 ∷ []) (refusal_of (answer_of (read_is s n))).number) ((reading.promise).table s n))

  pub read_kept : Read s n w place
  unfolding read_words_is read_words
  read_kept = record {
    table = table;
    success = λ e.
        let k = given-record s n (length w) e in
        let p = (reading.promise).success s n k.1 in
        (p.1, p.2, rw (k.0, p.0), rw (k.0, p.0));
    refusal = bad (eqb (length w) 520) (answer_of (read_is s n));
  }
    where
      bad : (t : Bool) (a : Result Unit pdu.Refusal) → ((refusal_of (pick t a (Err nine))).number ≡ 0 → ⊥)
          → (pick t (if_accepted a (record_words (found_in (read_is s n))) w) w ≡ w)
          × (read_place_of (pick t a (Err nine)) place ≡ place_word (refusal_of (pick t a (Err nine))).place)
      bad false a h = (refl, refl)
      bad true (Ok tt) h = absurd (h refl)
      bad true (Err f) h = (refl, refl)

-- ---- boc_write

module _ (w out : List ℕ) (old : ℕ) where
  pub write_kept : Write w out old
  unfolding write_number write_out write_bits
  write_kept = record {
    table =
        looked-at (eqb (length w) 520) (eqb-true (length w) 520) (eq-eqb (length w) 520) refl
        (wider (0 ∷ 3 ∷ 4 ∷ 8 ∷ []) (9 ∷ []) (written_number (write_is (record_from w) out)))
        ((writing.promise).table (record_from w) out);
    success = λ e.
        let k = picked (eqb (length w) 520) e (λ x. omega arith) in
        let p = (writing.promise).success (record_from w) out k.1 in
        (rw k.0 p.1, rw (k.0, p.0));
    refusal = go (eqb (length w) 520);
  }
    where
      go : (t : Bool) → (pick t (written_number (write_is (record_from w) out)) 9 ≡ 0 → ⊥)
          → (pick t (out_is (record_from w) out) out ≡ out) × (pick t (written_length (write_is (record_from w) out) old) old ≡ old)
      go false h = (refl, refl)
      go true h =
          let r = written-refusal (write_is (record_from w) out) h in
          ((writing.promise).refusal (record_from w) out r.0 r.1, ap (λ (x : Result BitCount ℕ). written_length x old) r.1)

-- ---- the archive's

module _ (home : ℕ) (out : List ℕ) (old : ℕ) where
  pub empty-kept : Empty home out old
  empty-kept = record {
    table = (empty.promise).table home (length out);
    success = λ e. let p = (empty.promise).success home out e in (p.1, shown stored_length old p.0);
    refusal = λ h. let r = refused 0 0 (empty_is home (length out)) h in ((empty.promise).refusal home out r.0 r.1, shown stored_length old r.1);
  }

module _ (b s : List ℕ) (n day : ℕ) (out : List ℕ) (old entry place : ℕ) where
  pub capture-kept : Capture b s n day out old entry place
  capture-kept = record {
    table = (capture.promise).table b s n day (length out);
    success = λ e.
        let p = (capture.promise).success b s n day out e in
        (p.1, shown stored_length old p.0, shown told_entry entry p.0, shown told_place place p.0);
    refusal = λ h.
        let r = refused entry place (capture_answer b s n day out) h in
        ((capture.promise).refusal b s n day out r.0 r.1, shown stored_length old r.1, r.2, r.3);
  }

module _ (b : List ℕ) (index : ℕ) (key : List ℕ) (old old_day entry place : ℕ) where
  -- an entry is given to three words
  given-entry : told_number (entry_answer b index (length key)) ≡ 0 → (eqb (length key) 3 ≡ true) × (told_number (entry_is b index) ≡ 0)
  unfolding entry_answer
  given-entry = go (eqb (length key) 3) refl
    where
      go : (t : Bool) → eqb (length key) 3 ≡ t → told_number (pick t (entry_is b index) (Err (plain 9))) ≡ 0
          → (eqb (length key) 3 ≡ true) × (told_number (entry_is b index) ≡ 0)
      go true f e = (f, e)
      go false f e = absurd (omega (arith, e))

  pub entry_kept : call.Entry b index key old old_day entry place
  unfolding entry_answer
  entry_kept = record {
    table =
        subst (λ (f : Refusal). Exactly number_of f (0 ∷ 7 ∷ 11 ∷ 9 ∷ []) (call.Checked (plain 9) (length key ≡ 3) (entries.Given b index)))
        (sym (pick-ap told_refusal (eqb (length key) 3) (entry_is b index) (Err (plain 9))))
        (looked-at (eqb (length key) 3) (eqb-true (length key) 3) (eq-eqb (length key) 3) refl
        (wider (0 ∷ 7 ∷ 11 ∷ []) (9 ∷ []) (told_refusal (entry_is b index)).number) ((entries-kept.promise).table b index));
    success = λ e.
        let k = given-entry e in
        let p = (entries-kept.promise).success b index k.1 in
        rw k.0 (
          p.0,
          p.1,
          p.2,
          shown listed_key key p.3,
          shown listed_length old p.3,
          shown listed_day old_day p.3,
          shown told_entry entry p.3,
          shown told_place place p.3,
        );
    refusal = λ h.
        let r = refused entry place (entry_answer b index (length key)) h in
        (shown listed_key key r.1, shown listed_length old r.1, shown listed_day old_day r.1, r.2, r.3);
  }

module _ (b : List ℕ) (network ssi part : ℕ) (out : List ℕ) (old old_day entry place : ℕ) where
  pub restore-kept : Restore b network ssi part out old old_day entry place
  restore-kept = record {
    table = (restore.promise).table b (key_of network ssi part) (length out);
    success = λ e.
        let p = (restore.promise).success b (key_of network ssi part) out e in (
          p.0,
          p.1,
          p.2,
          p.4,
          shown restored_length old p.3,
          shown restored_day old_day p.3,
          shown told_entry entry p.3,
          shown told_place place p.3,
        );
    refusal = λ h.
        let r = refused entry place (restore_answer b network ssi part out) h in
        ((restore.promise).refusal b (key_of network ssi part) out r.0 r.1, shown restored_length old r.1, shown restored_day old_day r.1, r.2, r.3);
  }

module _ (t : Target) (b : List ℕ) (key : Key) (d : Definition) (out : List ℕ) (old entry place : ℕ) where
  pub reload-kept : Reloads t b key d out old entry place
  reload-kept = record {
    table = (reload.promise).table t b key d out;
    success = λ e.
        let p = (reload.promise).success t b key d out e in (
          p.0,
          p.1,
          p.2,
          p.5,
          shown reloaded_length old p.4,
          shown told_entry entry p.4,
          shown told_place place p.4,
        );
    refusal = λ h.
        let r = refused entry place (reload_is t b key d out) h in
        ((reload.promise).refusal t b key d out r.0 r.1, shown reloaded_length old r.1, r.2, r.3);
  }

module _ (b out : List ℕ) (old entry place : ℕ) where
  pub contents-kept : Contents b out old entry place
  contents-kept = record {
    table = (listing.promise).table b (length out);
    success = λ e.
        let p = (listing.promise).success b out e in
        (p.0, p.2, shown stored_length old p.1, shown told_entry entry p.1, shown told_place place p.1);
    refusal = λ h.
        let r = refused entry place (contents_answer b out) h in
        ((listing.promise).refusal b out r.0 r.1, shown stored_length old r.1, r.2, r.3);
  }

-- ---- boc_decide

module _ (b w : List ℕ) (old entry place : ℕ) where
  by-nothing : told_number (decide_is b (request_from w)) ≡ 0 → part_in b (request_from w) ≡ None → decided_verdict (decide_is b (request_from w)) old ≡ 4
  unfolding decide_is
  by-nothing e h = rw h (go (eqb r 0) refl (check_is b) refl (rw h at e))
    where
      r : ℕ
      r = request_refusal (request_from w)

      go : (p : Bool) → eqb r 0 ≡ p → (c : Result (Unit {0}) Refusal) → check_is b ≡ c
          → told_number (pick p (if_archive c Err (Ok NotHeld)) (Err (plain r))) ≡ 0
          → decided_verdict (pick p (if_archive c Err (Ok NotHeld)) (Err (plain r))) old ≡ 4
      go true f (Ok _) g e = refl
      go true f (Err x) g e = absurd (omega (arith, seven (((broken.promise).refuses b x).0 g), e))
      go false f c g e = differ (sym (eq-eqb r 0 e) ∙ f)

  pub decide-kept : Decide b w old entry place
  unfolding decide_answer
  decide-kept = record {
    table =
        subst (λ (f : Refusal). Exactly number_of f (0 ∷ 9 ∷ 7 ∷ []) (call.Checked (plain 9) (call.OfRequest w) (decision.Given b (request_from w))))
        (sym (pick-ap told_refusal (is_request w) (decide_is b (request_from w)) (Err (plain 9))))
        (looked-at (is_request w) (request-of w) (of_request w) refl (λ x. x) ((deciding.promise).table b (request_from w)));
    success = λ e.
        let k = asked b w e in
        let v = (deciding.promise).success b (request_from w) k.1 in
        let t = decided-success old entry place v in
        rw k.0 (subst (λ (n : ℕ). decision.Verdict n (decide_is b (request_from w))) (sym t.0) v, t.1, t.2);
    not-held = λ e h. let k = asked b w e in rw k.0 (by-nothing k.1 h);
    refusal = λ h.
        let r = refused entry place (decide_answer b w) h in
        (shown decided_verdict old r.1, r.2, r.3);
  }
