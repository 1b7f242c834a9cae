-- What a check says of an archive's shape and of its bodies is what the rules say. Assumes nothing.
use Rattle.std.specs.Prelude.{Result, Ok, Err, Option, None, ℕ}
use mathlib.Core.Path.{◌≡◌, refl, sym, ap, ◌∙◌}
use mathlib.Core.Bool.{Bool, true, false, ◌&&◌}
use mathlib.Core.List.{List, [], ◌∷◌}
use Prim.Native.Nat.{ℕ, suc, ◌<◌}
use native.Mathlib.Omega.{arith}
use lib.ListN.{length}
use lib.Dec.{ltb, eqb}
use borrow.Author.Tests.{ltb-true}
use Rattle.bits.specs.Bits.{pick}
use Rattle.bits.proofs.Tests.{differ, never, and-false, picked}
use Rattle.walk.specs.Walk.{walk_is}
use Rattle.walk.specs.declared.Head.{Head}
use Rattle.walk.specs.declared.Refusal as pdu
use Rattle.reader.specs.Read.{refusal_of, answer_of, found_in, read_is}
use Rattle.reader.proofs.Walked.{same_answer}
use Rattle.archive.specs.Model.{Held, rank, in_range, is_day, length_of, within_limits}
use Rattle.archive.specs.Filing.{agrees, body_agrees, keeps_rules, well_formed}
use Rattle.archive.specs.Reading.{reading, is_archive}
use Rattle.archive.specs.Refusals.{plain, of_body}
use Rattle.archive.specs.Checking.{in_order, has_shape, body_place, bodies_from, check_is}
use Rattle.archive.specs.Inner.{filing_under, agreement_is}
use Rattle.archive.specs.declared.contents.Key.{Key}
use Rattle.archive.proofs.Model.Bodies.{walk-accepted, body_refused, body-filed, agrees-says, part-is, key_fits}
use Rattle.archive.proofs.Model.Keys.{in-range}
use Rattle.archive.specs.declared.refusal.Refusal.{Refusal}

abbrev is_yes : Result (Unit {0}) Refusal → Bool
is_yes (Ok _) = true
is_yes (Err f) = false

-- ---- one body

module _ (home : ℕ) (h : Held) where
  pub agreed : agreement_is home h ≡ Ok tt → body_agrees home h ≡ true
  unfolding agreement_is
  agreed e = (picked (body_agrees home h) e (λ x. never cc)).0

  pub faulty : {p : Option ℕ} → agreement_is home h ≡ Err p → (body_agrees home h ≡ false) × (body_place h ≡ p)
  unfolding agreement_is
  faulty {p} = go (body_agrees home h)
    where
      go : (t : Bool) → pick t (Ok (tt {0})) (Err (body_place h)) ≡ Err p → (t ≡ false) × (body_place h ≡ p)
      go true e = never cc
      go false e = (refl, cc)

  -- by the walk's answer
  pub agreement-refused : {f : pdu.Refusal} → walk_is h.body h.entry.bits.0 ≡ Err f → agreement_is home h ≡ Err f.place
  unfolding agreement_is
  agreement-refused w =
      rw (body_refused home h w, ap (λ (a : Result Unit pdu.Refusal). (refusal_of a).place) (same_answer h.body h.entry.bits.0 ∙ ap answer_of w))

  pub agreement-filed : {x : Head} → walk_is h.body h.entry.bits.0 ≡ Ok x
      → agreement_is home h ≡ pick (agrees (filing_under home x) h.entry.key) (Ok tt) (Err None)
  unfolding agreement_is
  agreement-filed w = rw (body-filed home h w, ap (λ (a : Result Unit pdu.Refusal). (refusal_of a).place) (walk-accepted h.body h.entry.bits.0 w))

  -- a body that agrees has a user and part in range
  pub agrees-ranged : home < 16777216 → body_agrees home h ≡ true → in_range h.entry.key ≡ true
  agrees-ranged k e =
      let a = agrees-says home h e in
      let f = key_fits home h k a in
      let p = part-is (found_in (read_is h.body h.entry.bits.0)) a.may in
      let part = ap (λ (y : Key). y.part) a.key in
      in-range h.entry.key f.network f.ssi (omega (arith, p.0, part)) (omega (arith, p.1, part))

-- ---- all of them

pub and_assoc : (p q r : Bool) → p && (q && r) ≡ (p && q) && r
and_assoc true q r = refl
and_assoc false q r = refl

rules_are : (home last i : ℕ) (hs : List Held) → home < 16777216 → keeps_rules home last hs ≡ in_order last hs && is_yes (bodies_from home i hs)
unfolding keeps_rules in_order bodies_from
rules_are home last i [] k = refl
rules_are home last i (h ∷ hs) k = go (body_agrees home h) refl (rules_are home (rank h) (suc i) hs k)
  where
    go : (t : Bool) → body_agrees home h ≡ t → keeps_rules home (rank h) hs ≡ in_order (rank h) hs && is_yes (bodies_from home (suc i) hs)
        → ltb last (rank h) && (is_day h.entry.day && (body_agrees home h && keeps_rules home (rank h) hs))
        ≡ (ltb last (rank h) && (in_range h.entry.key && (is_day h.entry.day && in_order (rank h) hs)))
        && is_yes (pick (body_agrees home h) (bodies_from home (suc i) hs) (Err (of_body i (body_place h))))
    go true e rest =
        rw (e, agrees-ranged home h k e, rest)
        (ap (λ (x : Bool). ltb last (rank h) && x)
        (and_assoc (is_day h.entry.day) (in_order (rank h) hs) (is_yes (bodies_from home (suc i) hs)))
        ∙ and_assoc (ltb last (rank h)) (is_day h.entry.day && in_order (rank h) hs) (is_yes (bodies_from home (suc i) hs)))
    go false e rest = rw e
        (and-false (ltb last (rank h)) (and-false (is_day h.entry.day) refl)
        ∙ sym (and-false (ltb last (rank h) && (in_range h.entry.key && (is_day h.entry.day && in_order (rank h) hs))) refl))

module _ (b : List ℕ) where
  -- the bytes are an archive exactly if the check says so
  same : is_archive b ≡ is_yes (check_is b)
  unfolding is_archive well_formed has_shape check_is
  same = go (ltb home 16777216) refl
    where
      home : ℕ
      home = (reading b).home

      held : List Held
      held = (reading b).held

      shuffled : (w o e : Bool) (c : Result (Unit {0}) Refusal)
          → (w && (o && is_yes c)) && e ≡ is_yes (pick (w && (o && e)) c (Err (plain 7)))
      shuffled false o e c = refl
      shuffled true false e c = refl
      shuffled true true false c = and-false (is_yes c) refl
      shuffled true true true (Ok _) = refl
      shuffled true true true (Err f) = refl

      go : (t : Bool) → ltb home 16777216 ≡ t
          → (t && (within_limits (length held) (length_of (reading b)) && keeps_rules home 0 held)) && eqb (length_of (reading b)) (length b)
          ≡ is_yes (pick (t && (within_limits (length held) (length_of (reading b)) && (in_order 0 held && eqb (length_of (reading b)) (length b))))
          (bodies_from home 0 held) (Err (plain 7)))
      go false h = refl
      go true h = rw (rules_are home 0 0 held (ltb-true home 16777216 h))
          (shuffled (within_limits (length held) (length_of (reading b))) (in_order 0 held) (eqb (length_of (reading b)) (length b)) (bodies_from home 0 held))

  pub archive_checked : is_archive b ≡ true → check_is b ≡ Ok tt
  archive_checked e = go (check_is b) (sym same ∙ e)
    where
      go : (c : Result (Unit {0}) Refusal) → is_yes c ≡ true → c ≡ Ok tt
      go (Ok _) h = refl
      go (Err f) h = differ (sym h)

  pub checked-archive : check_is b ≡ Ok tt → is_archive b ≡ true
  checked-archive e = same ∙ ap is_yes e
