-- A record's words read back as that record, and as many words as a record has are written again as they were. Assumes nothing.
use mathlib.Core.Path.{◌≡◌, refl, ap, ◌∙◌}
use mathlib.Core.List.{List, [], ◌∷◌, ◌++◌, append_assoc}
use Prim.Native.Nat.{ℕ, suc, ◌+◌, ◌-◌, ◌≤◌}
use native.Mathlib.Omega.{arith}
use lib.ListN.{length, take, drop, length-append, length-drop}
use lib.Seq.{take_all, drop-drop}
use Rattle.bits.specs.Bits.{Bytes}
use Rattle.grammar.specs.declared.record.Identities.{Identities}
use Rattle.grammar.specs.declared.record.Record.{Record}
use Rattle.words.specs.Places.{identities_width, entries_width, numbers_width, services_width, restricted_at, exceptions_at, numbers_at}
use Rattle.words.specs.Places.{excepted_at, lists_width, affected_at, asked_at, result_at, status_at, services_at, lists_at, delivery_at}
use Rattle.words.specs.Places.{acknowledgement_at, definition_at, defined_at, distributed_at, cause_at, record_width}
use Rattle.words.specs.Places.{number_entries_at, excepted_entries_at}
use Rattle.words.specs.RecordWords.{identities_words, numbers_words, services_words, lists_words, record_words, identities_from, numbers_from}
use Rattle.words.specs.RecordWords.{word, services_from, lists_from, figures_from, record_from}
use Rattle.words.specs.Sized.{SizedIdentities, SizedRecord}
use Rattle.words.proofs.Layouts.{drop-after, word_after, spelt-word, spelt-then}
use Rattle.words.proofs.ListInverse.{identities-long, identities-back, identities-forth, numbers-long, numbers-back, numbers-forth}
use Rattle.words.proofs.ListInverse.{services-back, services-forth}

-- ---- the five lists

lists-forth : (w : List ℕ) → lists_width ≤ length w → Bytes (take entries_width (drop (numbers_at + 1) w))
    → Bytes (take entries_width (drop (excepted_at + 1) w)) → lists_words (lists_from w) ≡ take lists_width w
unfolding lists_words lists_from
lists-forth w h b b' =
    let room : (at : ℕ) → length (drop at w) ≡ length w - at = λ at. length-drop at w in
    spelt-then w 0 identities_width (lists_width - restricted_at) (identities-forth w (omega arith))
    (spelt-then w restricted_at identities_width (lists_width - exceptions_at) (identities-forth (drop restricted_at w) (omega (arith, room restricted_at)))
    (spelt-then w exceptions_at identities_width (lists_width - numbers_at) (identities-forth (drop exceptions_at w) (omega (arith, room exceptions_at)))
    (spelt-then w numbers_at numbers_width numbers_width
    (numbers-forth (drop numbers_at w) (omega (arith, room numbers_at)) (rw (drop-drop 1 numbers_at w) b))
    (numbers-forth (drop excepted_at w) (omega (arith, room excepted_at)) (rw (drop-drop 1 excepted_at w) b')))))

-- ---- the record

module _ (r : Record) (f : SizedRecord r) where
  lists-long : length (lists_words r.lists) ≡ lists_width
  unfolding lists_words
  lists-long =
      let l = r.lists in
      let g = identities-long l.groups f.lists.groups in
      let e = identities-long l.restricted f.lists.restricted in
      let x = identities-long l.exceptions f.lists.exceptions in
      let n = numbers-long l.numbers f.lists.numbers in
      let y = numbers-long l.excepted f.lists.excepted in
      simp length-append (omega arith)

  lists_back : (rest : List ℕ) → lists_from (lists_words r.lists ++ rest) ≡ r.lists
  unfolding lists_words lists_from
  lists_back rest =
      let l = r.lists in
      let y = numbers_words l.excepted ++ rest in
      let from-n = numbers_words l.numbers ++ y in
      let from-x = identities_words l.exceptions ++ from-n in
      let from-e = identities_words l.restricted ++ from-x in
      let w = identities_words l.groups ++ from-e in
      let past : (s : Identities) → SizedIdentities s → (q : List ℕ) (k : ℕ) → drop (identities_width + k) (identities_words s ++ q) ≡ drop k q =
      λ s z q k. drop-after (identities_words s) q identities_width k (identities-long s z)
      in
      let e : (k : ℕ) → drop (identities_width + k) w ≡ drop k from-e = past l.groups f.lists.groups from-e in
      let x : (k : ℕ) → drop (identities_width + k) from-e ≡ drop k from-x = past l.restricted f.lists.restricted from-x in
      let n : (k : ℕ) → drop (identities_width + k) from-x ≡ drop k from-n = past l.exceptions f.lists.exceptions from-n in
      let last : drop numbers_width from-n ≡ y =
      drop-after (numbers_words l.numbers) y numbers_width 0 (numbers-long l.numbers f.lists.numbers)
      in
      let y-at = e (exceptions_at + numbers_width) ∙ x (restricted_at + numbers_width) ∙ n numbers_width ∙ last in
      let all : lists_words l ++ rest ≡ w = simp append_assoc in
      ap lists_from all ∙ λ i. record {
        groups = identities-back l.groups f.lists.groups from-e i;
        restricted = (ap identities_from (e 0) ∙ identities-back l.restricted f.lists.restricted from-x) i;
        exceptions = (ap identities_from (e restricted_at ∙ x 0) ∙ identities-back l.exceptions f.lists.exceptions from-n) i;
        numbers = (ap numbers_from (e exceptions_at ∙ x restricted_at ∙ n 0) ∙ numbers-back l.numbers f.lists.numbers y) i;
        excepted = (ap numbers_from y-at ∙ numbers-back l.excepted f.lists.excepted rest) i;
      }

  pub record-long : length (record_words r) ≡ record_width
  unfolding record_words services_words
  record-long = simp length-append (omega (arith, identities-long r.affected f.affected, f.services, lists-long))

  pub record-back : record_from (record_words r) ≡ r
  unfolding record_words record_from figures_from services_words
  record-back =
      let a = identities_words r.affected in
      let s = services_words r.services in
      let l = lists_words r.lists in
      let g = r.figures in
      let d = g.delivery ∷ g.acknowledgement ∷ g.definition ∷ g.defined ∷ g.distributed ∷ g.cause ∷ [] in
      let t = l ++ d in
      let three = g.asked ∷ g.result ∷ g.status ∷ [] in
      let q = three ++ (s ++ t) in
      let long = identities-long r.affected f.affected in
      let few : length s ≡ services_width = ap suc f.services in
      let after-a = drop-after a q identities_width (lists_at - asked_at) long ∙ drop-after s t services_width 0 few in
      let last : (k : ℕ) → word (a ++ q) (identities_width + (3 + (services_width + (lists_width + k)))) ≡ word d k =
      λ k. word_after a q identities_width (3 + (services_width + (lists_width + k))) long
      ∙ word_after three (s ++ t) 3 (services_width + (lists_width + k)) refl
      ∙ word_after s t services_width (lists_width + k) few
      ∙ word_after l d lists_width k lists-long
      in
      λ i. record {
        kind = r.kind;
        affected = identities-back r.affected f.affected q i;
        figures = record {
          asked = word_after a q identities_width 0 long i;
          result = word_after a q identities_width 1 long i;
          status = word_after a q identities_width 2 long i;
          delivery = last 0 i;
          acknowledgement = last 1 i;
          definition = last 2 i;
          defined = last 3 i;
          distributed = last 4 i;
          cause = last 5 i;
        };
        services = (ap services_from (drop-after a q identities_width 3 long) ∙ services-back r.services t f.services) i;
        lists = (ap lists_from after-a ∙ lists_back d) i;
      }

-- the lengths and digits of numbers have to be bytes
pub record-forth : (w : List ℕ) → length w ≡ record_width → Bytes (take entries_width (drop number_entries_at w))
    → Bytes (take entries_width (drop excepted_entries_at w)) → record_words (record_from w) ≡ w
unfolding record_words record_from figures_from
record-forth w h b b' =
    let room : (at : ℕ) → length (drop at w) ≡ length w - at = λ at. length-drop at w in
    let lists =
    lists-forth (drop lists_at w) (omega (arith, room lists_at)) (rw (drop-drop (numbers_at + 1) lists_at w) b)
    (rw (drop-drop (excepted_at + 1) lists_at w) b')
    in
    spelt-then w 0 1 (record_width - affected_at) (spelt-word w 0 (omega arith))
    (spelt-then w affected_at identities_width (record_width - asked_at) (identities-forth (drop affected_at w) (omega (arith, room affected_at)))
    (spelt-then w asked_at 1 (record_width - result_at) (spelt-word w asked_at (omega arith))
    (spelt-then w result_at 1 (record_width - status_at) (spelt-word w result_at (omega arith))
    (spelt-then w status_at 1 (record_width - services_at) (spelt-word w status_at (omega arith))
    (spelt-then w services_at services_width (record_width - lists_at) (services-forth (drop services_at w) (omega (arith, room services_at)))
    (spelt-then w lists_at lists_width 6 lists
    (spelt-then w delivery_at 1 5 (spelt-word w delivery_at (omega arith))
    (spelt-then w acknowledgement_at 1 4 (spelt-word w acknowledgement_at (omega arith))
    (spelt-then w definition_at 1 3 (spelt-word w definition_at (omega arith))
    (spelt-then w defined_at 1 2 (spelt-word w defined_at (omega arith))
    (spelt-then w distributed_at 1 1 (spelt-word w distributed_at (omega arith)) (spelt-word w cause_at (omega arith)))))))))))))
    ∙ take_all record_width w (omega arith)
