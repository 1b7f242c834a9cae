-- Calls one after another keep demand 3: what C goes on with is what the history goes on with. Assumes nothing.
use Rattle.std.specs.Prelude.{Result, Ok, Err, Option, None, Some}
use mathlib.Core.Path.{◌≡◌, refl, sym, ap, ap₂, ◌∙◌, subst}
use mathlib.Core.Bool.{Bool, true, false, ◌&&◌}
use mathlib.Core.List.{List, [], ◌∷◌}
use Prim.Native.Nat.{ℕ, ◌≤◌}
use borrow.Author.Tests.{eqb-true, ne_eqb}
use lib.ListN.{length, take}
use lib.Dec.{eqb}
use Rattle.std.proofs.Common.{Result, Ok, Err}
use Rattle.bits.specs.Bits.{pick}
use Rattle.bits.specs.Frame.{bytes_for, pack}
use Rattle.bits.specs.declared.BitCount.{BitCount}
use Rattle.bits.proofs.Tests.{never}
use Rattle.grammar.specs.Grammar.{pdu}
use Rattle.reader.specs.Read.{found_in, read_is}
use Rattle.rules.specs.Request.{request_refusal}
use Rattle.rules.specs.Rule.{ruling}
use Rattle.barring.specs.declared.Decision.{Decision}
use Rattle.rules.specs.declared.request.Request.{Request}
use Rattle.archive.specs.Model.{in_range}
use Rattle.archive.specs.Reading.{reading}
use Rattle.archive.specs.Filing.{same_key}
use Rattle.archive.specs.Refusals.{plain}
use Rattle.archive.specs.Checking.{check_is, if_archive}
use Rattle.archive.specs.Keeping.{stored_refusal, over, empty_is, empty_out, capture_out}
use Rattle.archive.specs.Restoring.{restore_out}
use Rattle.archive.specs.History.{Offer, kept_of, answer_to, after, after_all, offered_for, latest, last_accepted}
use Rattle.archive.specs.declared.contents.Key.{Key}
use Rattle.archive.specs.declared.refusal.Refusal.{Refusal}
use Rattle.archive.specs.declared.Restored.{Restored}
use Rattle.archive.proofs.Model.Keys.{in-range}
use Rattle.reload.specs.Define.{define_of}
use Rattle.reload.specs.Reload.{redefined, reload_is, reloads, reload_out}
use Rattle.reload.specs.declared.Definition.{Definition}
use Rattle.reload.specs.declared.Target.{Target}
use Rattle.words.specs.RequestWords.{request_from}
use Rattle.barring.specs.Decide.{key_for, part_in, judged_by, decide_is}
use Rattle.barring.specs.Decision.{decision_of, verdict_of}
use Rattle.boc.specs.Calls.{told_number, stored_length, empty_number, restored_length, restored_day, key_of, restore_answer}
use Rattle.boc.specs.Calls.{reloaded_length}
use Rattle.boc.specs.Calls.{decided_verdict, decide_answer}
use Rattle.promises.specs.Sequences.{Call, returned, gone_on, gone_on_all, last_zero, begun, Promise}
use Rattle.promises.specs.Demand1.Decision.{Verdict, outside-group, restricted-service, restricted-address, allowed, not-held}
use Rattle.promises.specs.Archive as archive
use Rattle.promises.specs.Archive.{Ranged}
use Rattle.promises.specs.Demand1.Reload.{Asked}
use Rattle.promises.specs.Demand3 as demand3
use Rattle.promises.proofs.Archive as archive-kept
use Rattle.promises.proofs.Standing.{asked_is}
use Rattle.promises.proofs.Calls.{decide-kept}
use Rattle.promises.proofs.Calls.OfWords.{asked}
use Rattle.promises.proofs.Demand1.Empty as empty
use Rattle.promises.proofs.Demand1.Capture as capture

abbrev archives : archive.Promise
archives = archive-kept.promise

-- ---- what C goes on with

-- no capture is refused with 0
zero-taken : (b : List ℕ) (o : Offer) (f : Refusal) → answer_to b o ≡ Err f → f.number ≡ 0 → ⊥
zero-taken b o f e z =
    let w = ((capture.promise).success b o.pdu o.bits o.day o.lent (ap (λ (a : Result ℕ Refusal). (stored_refusal a).number) e ∙ z)).0 in
    never cc

goes : (a : Result ℕ Refusal) (b out : List ℕ) (old : ℕ) → ((f : Refusal) → a ≡ Err f → f.number ≡ 0 → ⊥)
    → pick (eqb (told_number a) 0) (take (stored_length a old) out) b ≡ kept_of a b out
goes (Ok n) b out old h = refl
goes (Err f) b out old h = rw (ne_eqb f.number 0 (h f refl))

counts : (a : Result ℕ Refusal) (same : Bool) (o : Offer) (last : Option Offer) → ((f : Refusal) → a ≡ Err f → f.number ≡ 0 → ⊥)
    → pick (eqb (told_number a) 0 && same) (Some o) last ≡ latest a same o last
counts (Ok n) true o last h = refl
counts (Ok n) false o last h = refl
counts (Err f) same o last h = rw (ne_eqb f.number 0 (h f refl))

unfoldable offers : List Call → List Offer
offers [] = []
offers (c ∷ cs) = c.offer ∷ offers cs

gone-on : (b : List ℕ) (c : Call) → gone_on b c ≡ after b c.offer
unfolding gone_on after
gone-on b c = let o = c.offer in goes (answer_to b o) b (capture_out b o.pdu o.bits o.day o.lent) c.old (zero-taken b o)

gone-on-all : (b : List ℕ) (cs : List Call) → gone_on_all b cs ≡ after_all b (offers cs)
unfolding gone_on_all after_all offers
gone-on-all b [] = refl
gone-on-all b (c ∷ cs) = gone-on-all (gone_on b c) cs ∙ ap (λ (x : List ℕ). after_all x (offers cs)) (gone-on b c)

module _ (k : Key) where
  last-zero : (b : List ℕ) (last : Option Offer) (cs : List Call) → last_zero k b last cs ≡ last_accepted k b last (offers cs)
  unfolding last_zero last_accepted offers
  last-zero b last [] = refl
  last-zero b last (c ∷ cs) =
      let o = c.offer in
      last-zero (gone_on b c) (pick (eqb (returned b c) 0 && same_key (offered_for b o) k) (Some o) last) cs
      ∙ ap₂ (λ (x : List ℕ) (l : Option Offer). last_accepted k x l (offers cs)) (gone-on b c)
      (counts (answer_to b o) (same_key (offered_for b o) k) o last (zero-taken b o))

-- ---- restore and decide

-- a request that is decided is in its range
request-zero : (b : List ℕ) (q : Request) → told_number (decide_is b q) ≡ 0 → request_refusal q ≡ 0
unfolding decide_is
request-zero b q = go (eqb (request_refusal q) 0) refl (if_archive (check_is b) Err (Ok (judged_by (reading b).home q (part_in b q))))
  where
    go : (p : Bool) → eqb (request_refusal q) 0 ≡ p → (d : Result Decision Refusal) → told_number (pick p d (Err (plain (request_refusal q)))) ≡ 0
        → request_refusal q ≡ 0
    go true f d e = eqb-true (request_refusal q) 0 f
    go false f d e = e

verdict-is : {n : ℕ} {d : Result Decision Refusal} → Verdict n d → n ≡ verdict_of d
verdict-is outside-group = refl
verdict-is restricted-service = refl
verdict-is restricted-address = refl
verdict-is allowed = refl
verdict-is not-held = refl

-- what boc_decide tells is the number of the decision
decision-is : (b w : List ℕ) (old : ℕ) → told_number (decide_answer b w) ≡ 0
    → decided_verdict (decide_answer b w) old ≡ verdict_of (decide_is b (request_from w))
decision-is b w old e = verdict-is ((decide-kept b w old 0 0).success e).0

-- it is a request in its range
in_its-range : (b w : List ℕ) → told_number (decide_answer b w) ≡ 0 → request_refusal (request_from w) ≡ 0
in_its-range b w e = request-zero b (request_from w) (asked b w e).1

module _ (home : ℕ) (lent : List ℕ) (old : ℕ) (calls : List Call) (e : empty_number home lent ≡ 0) where
  abbrev m : ℕ
  m = 5

  written : empty_is home (length lent) ≡ Ok m
  written = ((empty.promise).success home lent e).0

  abbrev start : List ℕ
  start = take m (empty_out home lent)

  abbrev b : List ℕ
  b = gone_on_all (begun home lent old) calls

  abbrev last : Key → Option Offer
  last k = last_zero k (begun home lent old) None calls

  begun-is : begun home lent old ≡ start
  begun-is = ap (λ (a : Result ℕ Refusal). take (stored_length a old) (empty_out home lent)) written

  archive-is : after_all start (offers calls) ≡ b
  archive-is = sym (gone-on-all (begun home lent old) calls ∙ ap (λ (x : List ℕ). after_all x (offers calls)) begun-is)

  last-is : (k : Key) → last_accepted k start None (offers calls) ≡ last k
  last-is k =
      sym
      (last-zero k (begun home lent old) None calls ∙ ap (λ (x : List ℕ). last_accepted k x None (offers calls)) begun-is)

  module _ (network ssi part : ℕ) (r : in_range (key_of network ssi part) ≡ true) (out : List ℕ) (bits day : ℕ) where
    abbrev Gives : ℕ → ℕ → ℕ → List ℕ → List ℕ → Type 0
    Gives k n taken left b = let answer = restore_answer b network ssi part out in
        (told_number answer ≡ k) × (restored_length answer bits ≡ n) × (restored_day answer day ≡ taken)
        × (restore_out b (key_of network ssi part) out ≡ left)

    restored : (o : Offer) → last (key_of network ssi part) ≡ Some o → bytes_for o.bits ≤ length out
        → Gives 0 o.bits o.day (over o.pdu out) b
    restored o l h =
        let p = demand3.restores_the-last home lent m written (offers calls) (key_of network ssi part) r out o (last-is (key_of network ssi part) ∙ l) h in
        subst (Gives 0 o.bits o.day (over o.pdu out)) archive-is
        (ap told_number p.0, ap (λ (x : Result Restored Refusal). restored_length x bits) p.0, ap (λ (x : Result Restored Refusal). restored_day x day) p.0, p.1)

    none-held : last (key_of network ssi part) ≡ None → Gives 11 bits day out b
    none-held l =
        let p = demand3.restores-nothing_else home lent m written (offers calls) (key_of network ssi part) r out (last-is (key_of network ssi part) ∙ l) in
        subst (Gives 11 bits day out) archive-is
        (ap told_number p.0, ap (λ (x : Result Restored Refusal). restored_length x bits) p.0, ap (λ (x : Result Restored Refusal). restored_day x day) p.0, p.1)

  module _ (t : Target) (k : Key) (d : Definition) (r : Ranged k) (a : Asked d) (out : List ℕ) where
    abbrev Answers : Result BitCount Refusal → List ℕ → List ℕ → Type 0
    Answers x left b = (reload_is t b k d out ≡ x) × (reload_out t b k d out ≡ left)

    reloaded : (o : Offer) → last k ≡ Some o → let part = found_in (read_is o.pdu o.bits) in
        Answers (redefined t d part out) (reloads (redefined t d part out) (pack (pdu.print (define_of t d part))) out) b
    reloaded o l =
        subst (Answers _ _) archive-is
        (demand3.reloads_the-last home lent m written (offers calls) t k ((archives.in-range k).1 r) d (asked_is d a) out o (last-is k ∙ l))

    none-reloaded : (bits : ℕ) → last k ≡ None
        → (told_number (reload_is t b k d out) ≡ 11) × (reloaded_length (reload_is t b k d out) bits ≡ bits) × (reload_out t b k d out ≡ out)
    none-reloaded bits l =
        let p = subst (Answers _ _) archive-is
        (demand3.reloads-nothing_else home lent m written (offers calls) t k ((archives.in-range k).1 r) d (asked_is d a) out (last-is k ∙ l)) in
        (ap told_number p.0, ap (λ (x : Result BitCount Refusal). reloaded_length x bits) p.0, p.1)

  module _ (w : List ℕ) (before : ℕ) (d : told_number (decide_answer b w) ≡ 0) where
    abbrev q : Request
    q = request_from w

    abbrev last_for : Option Offer
    last_for = last (key_for q)

    last_for-is : last_accepted (key_for q) start None (offers calls) ≡ last_for
    last_for-is = last-is (key_for q)

    -- what is told, once the decision is known
    told : {x : Result Decision Refusal} → decide_is (after_all start (offers calls)) q ≡ x → decided_verdict (decide_answer b w) before ≡ verdict_of x
    told {x} k = decision-is b w before d ∙ ap verdict_of (subst (λ (s : List ℕ). decide_is s q ≡ x) archive-is k)

    by_the-last : (o : Offer) → last_for ≡ Some o → decided_verdict (decide_answer b w) before ≡ verdict_of (Ok (decision_of (ruling home (found_in (read_is o.pdu o.bits)) q)))
    by_the-last o l = told (demand3.decides-by_the-last home lent m written (offers calls) q (in_its-range b w d) o (last_for-is ∙ l))

    by-nothing : last_for ≡ None → decided_verdict (decide_answer b w) before ≡ 4
    by-nothing l = told (demand3.decides-by-nothing_else home lent m written (offers calls) q (in_its-range b w d) (last_for-is ∙ l))

pub promise : (home : ℕ) (lent : List ℕ) (old : ℕ) (calls : List Call) → Promise home lent old calls
promise home lent old calls = record {
  restores_the-last = λ e network ssi part n s l h. restored home lent old calls e network ssi part (in-range (key_of network ssi part) n s l h);
  restores-nothing_else = λ e network ssi part n s l h. none-held home lent old calls e network ssi part (in-range (key_of network ssi part) n s l h);
  reloads_the-last = reloaded home lent old calls;
  reloads-nothing_else = none-reloaded home lent old calls;
  decides-by_the-last = by_the-last home lent old calls;
  decides-by-nothing_else = by-nothing home lent old calls;
}
