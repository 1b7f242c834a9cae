-- Whatever is offered, restoring gives the last PDU accepted for the user and part, and its day, or 11: each capture puts its PDU in or changes nothing.
-- Assumes nothing.
use Rattle.std.specs.Prelude.{Result, Ok, Err, Option, None, Some}
use mathlib.Core.Path.{◌≡◌, refl, sym, ap, ◌∙◌, subst}
use mathlib.Core.Bool.{Bool, true, false}
use mathlib.Core.List.{List, [], ◌∷◌}
use Prim.Native.Nat.{ℕ, ◌≤◌}
use lib.ListN.{length, take}
use lib.Dec.{leb}
use borrow.Author.Tests.{le-leb}
use Rattle.bits.specs.Bits.{pick}
use Rattle.bits.specs.Frame.{bytes_for}
use Rattle.archive.specs.Model.{Held, Archive, in_range}
use Rattle.archive.specs.Filing.{same_key}
use Rattle.archive.specs.Reading.{reading, is_archive}
use Rattle.archive.specs.Refusals.{plain}
use Rattle.archive.specs.Keeping.{over, empty_is, empty_out, held_for, captured, capture_out}
use Rattle.archive.specs.Restoring.{lookup, delivered, body_of, restore_is, restores, restore_out}
use Rattle.archive.specs.History.{Offer, kept_of, answer_to, after, after_all, offered_for, latest, last_accepted}
use Rattle.archive.specs.declared.contents.Key.{Key}
use Rattle.archive.specs.declared.Restored.{Restored}
use Rattle.archive.proofs.Calls.Restore.{as-delivered, restore-leaves}
use Rattle.archive.proofs.Calls.AfterCapture.{new-archive, new-reads, held_after}
use Rattle.archive.proofs.Calls.Empty.{empty_holds}
use Rattle.archive.specs.declared.refusal.Refusal.{Refusal}

-- ---- one offer

-- what is held is the last PDU accepted
abbrev pub Matches : Option Held → Option Offer → Type 0
Matches None None = Unit {0}
Matches (Some h) (Some o) = (h.body ≡ o.pdu) × (h.entry.bits ≡ record { 0 = o.bits }) × (h.entry.day ≡ o.day)
Matches None (Some o) = ⊥
Matches (Some h) None = ⊥

module _ (k : Key) (r : in_range k ≡ true) where
  abbrev held_in : List ℕ → Option Held
  held_in b = lookup k (reading b).held

  step : (b : List ℕ) (o : Offer) (last : Option Offer) → is_archive b ≡ true → Matches (held_in b) last
      → (is_archive (after b o) ≡ true) × (Matches (held_in (after b o)) (latest (answer_to b o) (same_key (offered_for b o) k) o last))
  unfolding after
  step b o last ok m = go (answer_to b o) refl
    where
      now : (x : Result ℕ Refusal) → List ℕ
      now x = kept_of x b (capture_out b o.pdu o.bits o.day o.lent)

      picked : (p : Bool) {l : Option Held} → l ≡ pick p (Some (held_for (reading b).home o.pdu o.bits o.day)) (held_in b) → (n : ℕ)
          → Matches l (latest (Ok n) p o last)
      picked true e n = subst (λ (l : Option Held). Matches l (Some o)) (sym e) (refl, refl, refl)
      picked false e n = subst (λ (l : Option Held). Matches l last) (sym e) m

      go : (x : Result ℕ Refusal) → answer_to b o ≡ x
          → (is_archive (now (answer_to b o)) ≡ true) × (Matches (held_in (now (answer_to b o))) (latest (answer_to b o) (same_key (offered_for b o) k) o last))
      go (Ok n) e =
          rw e (new-archive b o.pdu o.bits o.day n o.lent e, picked (same_key (offered_for b o) k) (held_after b o.pdu o.bits o.day n o.lent e k r) n)
      go (Err k) e = rw e (ok, m)

  steps : (b : List ℕ) (os : List Offer) (last : Option Offer) → is_archive b ≡ true → Matches (held_in b) last
      → (is_archive (after_all b os) ≡ true) × (Matches (held_in (after_all b os)) (last_accepted k b last os))
  unfolding after_all last_accepted
  steps b [] last ok m = (ok, m)
  steps b (o ∷ os) last ok m =
      let s = step b o last ok m in
      steps (after b o) os (latest (answer_to b o) (same_key (offered_for b o) k) o last) s.0 s.1

-- ---- what restoring gives

-- of the last PDU accepted: its bits and its day, or 11 if there was none
abbrev pub given_of : Option Offer → ℕ → Result Restored Refusal
given_of None room = Err (plain 11)
given_of (Some o) room = pick (leb (bytes_for o.bits) room) (Ok (record { bits = record { 0 = o.bits }; day = o.day })) (Err (plain 8))

abbrev pub pdu_of : Option Offer → List ℕ
pdu_of None = []
pdu_of (Some o) = o.pdu

gives : (l : Option Held) (last : Option Offer) (room : ℕ) → Matches l last → (delivered l room ≡ given_of last room) × (body_of l ≡ pdu_of last)
gives None None room m = (refl, refl)
gives (Some h) (Some o) room m =
    ((λ i. pick (leb (bytes_for (m.1 i).0) room) (Ok (record { bits = m.1 i; day = m.2 i })) (Err (plain 8))), m.0)
gives None (Some o) room m = absurd m
gives (Some h) None room m = absurd m

-- ---- the history

-- a capture keeps the home network
same_home : (b : List ℕ) (o : Offer) → (reading (after b o)).home ≡ (reading b).home
unfolding after captured
same_home b o = go (answer_to b o) refl
  where
    go : (x : Result ℕ Refusal) → answer_to b o ≡ x → (reading (kept_of (answer_to b o) b (capture_out b o.pdu o.bits o.day o.lent))).home ≡ (reading b).home
    go (Ok n) e = rw e (ap (λ (a : Archive). a.home) (new-reads b o.pdu o.bits o.day n o.lent e))
    go (Err k) e = rw e

home-kept : (b : List ℕ) (os : List Offer) → (reading (after_all b os)).home ≡ (reading b).home
unfolding after_all
home-kept b [] = refl
home-kept b (o ∷ os) = home-kept (after b o) os ∙ same_home b o

-- from an empty archive, for any offers: what is held for a user and part is the last PDU accepted for them
pub record Kept (home : ℕ) (b : List ℕ) (k : Key) (last : Option Offer) : Type 0 where
  pub archive : is_archive b ≡ true
  pub home-is : (reading b).home ≡ home
  pub held : Matches (lookup k (reading b).held) last

pub kept : (home : ℕ) (lent : List ℕ) (m : ℕ) → empty_is home (length lent) ≡ Ok m → (os : List Offer) (k : Key) → in_range k ≡ true
    → Kept home (after_all (take m (empty_out home lent)) os) k (last_accepted k (take m (empty_out home lent)) None os)
kept home lent m e os k r =
    let start = take m (empty_out home lent) in
    let z = empty_holds home lent m e in
    let none-held : Matches (held_in k r start) None = subst (λ (a : Archive). Matches (lookup k a.held) None) (sym z.1) tt in
    let s = steps k r start os None z.0 none-held in
    record { archive = s.0; home-is = home-kept start os ∙ ap (λ (a : Archive). a.home) z.1; held = s.1 }

-- and restoring gives it, or 11
module _ (home : ℕ) (lent : List ℕ) (m : ℕ) (e : empty_is home (length lent) ≡ Ok m) (os : List Offer) (k : Key) (r : in_range k ≡ true)
    (out : List ℕ) where
  abbrev pub start : List ℕ
  start = take m (empty_out home lent)

  abbrev pub last : Option Offer
  last = last_accepted k start None os

  pub history : (restore_is (after_all start os) k (length out) ≡ given_of last (length out))
      × (restore_out (after_all start os) k out ≡ restores (given_of last (length out)) (pdu_of last) out)
  history =
      let held = kept home lent m e os k r in
      let g = gives (held_in k r (after_all start os)) last (length out) held.held in
      let x = as-delivered (after_all start os) k (length out) r held.archive ∙ g.0 in
      (x, restore-leaves (after_all start os) k out x ∙ ap (λ (w : List ℕ). restores (given_of last (length out)) w out) g.1)

  -- none was accepted for them: 11, and no byte changed
  pub never : last ≡ None → (restore_is (after_all start os) k (length out) ≡ Err (plain 11)) × (restore_out (after_all start os) k out ≡ out)
  never n = rw n at history

  -- otherwise, with room for it, exactly the bits of the last, and its day
  pub always : (o : Offer) → last ≡ Some o → bytes_for o.bits ≤ length out
      → (restore_is (after_all start os) k (length out) ≡ Ok (record { bits = record { 0 = o.bits }; day = o.day }))
      × (restore_out (after_all start os) k out ≡ over o.pdu out)
  always o l h = rw (l, le-leb (bytes_for o.bits) (length out) h) at history
