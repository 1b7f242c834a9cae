-- Restore keeps its promise. Assumes nothing.
use Rattle.std.specs.Prelude.{Result, Ok, Err, Option, None, Some}
use mathlib.Core.Path.{◌≡◌, refl, sym, ap, ◌∙◌, subst}
use mathlib.Core.Bool.{Bool, true, false}
use mathlib.Core.List.{List, [], ◌∷◌}
use Prim.Native.Nat.{ℕ, ◌≤◌}
use native.Mathlib.Omega.{arith}
use lib.ListN.{length}
use lib.Dec.{leb}
use borrow.Author.Tests.{leb-true, leb-false, le-leb, lt-leb}
use Rattle.bits.specs.Bits.{pick}
use Rattle.bits.proofs.Tests.{differ, false-unless}
use Rattle.archive.specs.Model.{Held, Archive, body_size, in_range}
use Rattle.archive.specs.Reading.{reading}
use Rattle.archive.specs.Refusals.{plain}
use Rattle.archive.specs.Checking.{check_is}
use Rattle.archive.specs.Keeping.{over}
use Rattle.archive.specs.Restoring.{restored_refusal, lookup, delivered, body_of, restore_is, restore_out}
use Rattle.archive.specs.declared.contents.Key.{Key}
use Rattle.archive.specs.declared.refusal.Refusal.{Refusal}
use Rattle.archive.specs.declared.Restored.{Restored}
use Rattle.archive.proofs.Calls.Restore.{out_of_range, no-archive, as-delivered, restore-leaves}
use Rattle.promises.specs.Answers.{OneOf}
use Rattle.promises.specs.Archive as archive
use Rattle.promises.specs.Archive.{IsArchive, Ranged, HeldFor}
use Rattle.promises.specs.Demand1.Restore.{answer, Holds, Given, success, unranged, damaged, not-held, no_room, Promise}
use Rattle.promises.proofs.Tables.{exactly}
use Rattle.promises.specs.Broken as breaking
use Rattle.promises.proofs.Archive as archive-kept
use Rattle.promises.proofs.Broken as broken-kept
use Rattle.promises.proofs.Broken.{seven}

abbrev archives : archive.Promise
archives = archive-kept.promise

abbrev broken : breaking.Promise
broken = broken-kept.promise

module _ (b : List ℕ) (key : Key) where
  -- the PDU held for the user and part
  abbrev held : Option Held
  held = lookup key (reading b).held

  -- what the table says is what the call tests
  pub ranged : Ranged key → in_range key ≡ true
  ranged = (archives.in-range key).1

  pub holds : Ranged key → (k : IsArchive b) (h : Held) → Holds b key k h → held ≡ Some h
  holds r k h d =
      (archives.found b ((archives.is-archive b).1 k) key r h).1
      (subst (λ (a : Archive). HeldFor a.held key h) (archives.one-reading b k) d)

  pub holds-none : Ranged key → (k : IsArchive b) → ((h : Held) → Holds b key k h → ⊥) → held ≡ None
  holds-none r k d =
      (archives.not_found b ((archives.is-archive b).1 k) key r).1
      (subst (λ (a : Archive). (h : Held) → HeldFor a.held key h → ⊥) (archives.one-reading b k) d)

  -- and what the call finds is what the table says
  pub held_by : Ranged key → (k : IsArchive b) (h : Held) → held ≡ Some h → Holds b key k h
  held_by r k h e =
      subst (λ (a : Archive). HeldFor a.held key h) (sym (archives.one-reading b k)) ((archives.found b ((archives.is-archive b).1 k) key r h).0 e)

  pub none-by : Ranged key → (k : IsArchive b) → held ≡ None → (h : Held) → Holds b key k h → ⊥
  none-by r k e =
      subst (λ (a : Archive). (h : Held) → HeldFor a.held key h → ⊥) (sym (archives.one-reading b k))
      ((archives.not_found b ((archives.is-archive b).1 k) key r).0 e)

  module _ (room : ℕ) where
    abbrev Both : Refusal → Type 0
    Both f = Given b key room f × OneOf (0 ∷ 9 ∷ 7 ∷ 11 ∷ 8 ∷ []) f.number

    asked : Ranged key → IsArchive b → (l : Option Held) → held ≡ l → restore_is b key room ≡ delivered l room
    asked r k l e = as-delivered b key room (ranged r) ((archives.is-archive b).1 k) ∙ ap (λ (x : Option Held). delivered x room) e

    row : Both (answer b key room)
    row = go (in_range key) refl (check_is b) refl held refl
      where
        to : {r : Result Restored Refusal} → restore_is b key room ≡ r → Both (restored_refusal r) → Both (answer b key room)
        to e h = subst Both (sym (ap restored_refusal e)) h

        by : (h : Held) → Ranged key → (k : IsArchive b) → Holds b key k h → (t : Bool) → leb (body_size h) room ≡ t
            → Both (restored_refusal (pick t (Ok (record { bits = h.entry.bits; day = h.entry.day })) (Err (plain 8))))
        by h r k d true f = (success r k h d (leb-true _ _ f), refl)
        by h r k d false f = (no_room r k h d (leb-false _ _ f), refl)

        go : (p : Bool) → in_range key ≡ p → (c : Result (Unit {0}) Refusal) → check_is b ≡ c → (l : Option Held) → held ≡ l → Both (answer b key room)
        go false e c f l g = to (out_of_range b key room e) (unranged (λ r. differ (sym (ranged r) ∙ e)), refl)
        go true e (Err x) f l g =
            let k = (broken.refuses b x).0 f in
            to (no-archive b key room e f)
            (damaged x ((archives.in-range key).0 e) k, subst (OneOf (0 ∷ 9 ∷ 7 ∷ 11 ∷ 8 ∷ [])) (sym (seven k)) refl)
        go true e (Ok _) f None g =
            let r = (archives.in-range key).0 e in
            let k = (broken.passes b).0 f in
            to (asked r k None g) (not-held r k (none-by r k g), refl)
        go true e (Ok _) f (Some h) g =
            let r = (archives.in-range key).0 e in
            let k = (broken.passes b).0 f in
            to (asked r k (Some h) g) (by h r k (held_by r k h g) (leb (body_size h) room) refl)

    back : (f : Refusal) → Given b key room f → answer b key room ≡ f
    back f (success r k h d l) = ap restored_refusal (asked r k (Some h) (holds r k h d)) ∙ rw (le-leb _ _ l)
    back f (unranged r) = ap restored_refusal (out_of_range b key room (false-unless _ (λ e. r ((archives.in-range key).0 e))))
    back f (damaged x r k) = ap restored_refusal (no-archive b key room (ranged r) ((broken.refuses b x).1 k))
    back f (not-held r k d) = ap restored_refusal (asked r k None (holds-none r k d))
    back f (no_room r k h d l) = ap restored_refusal (asked r k (Some h) (holds r k h d)) ∙ rw (lt-leb _ _ l)

  -- what is held is given back
  pub restored-held : (out : List ℕ) → Ranged key → (k : IsArchive b) (h : Held) → Holds b key k h → body_size h ≤ length out
      → (restore_is b key (length out) ≡ Ok (record { bits = h.entry.bits; day = h.entry.day })) × (restore_out b key out ≡ over h.body out)
  restored-held out r k h d l =
      let e = holds r k h d in
      let x : restore_is b key (length out) ≡ Ok (record { bits = h.entry.bits; day = h.entry.day }) =
      asked (length out) r k (Some h) e ∙ ap (λ (t : Bool). pick t (Ok (record { bits = h.entry.bits; day = h.entry.day })) (Err (plain 8))) (le-leb _ _ l)
      in
      (x, restore-leaves b key out x ∙ ap (λ (y : Option Held). over (body_of y) out) e)

  succeeds : (out : List ℕ) (n : Refusal) → Given b key (length out) n → n.number ≡ 0
      → (k : IsArchive b) × (h : Held) × Holds b key k h
      × (restore_is b key (length out) ≡ Ok (record { bits = h.entry.bits; day = h.entry.day })) × (restore_out b key out ≡ over h.body out)
  succeeds out n (success r k h d l) z = let x = restored-held out r k h d l in (k, h, d, x.0, x.1)
  succeeds out n (unranged r) z = absurd (omega arith)
  succeeds out n (damaged f r k) z = absurd (omega (arith, seven k, z))
  succeeds out n (not-held r k d) z = absurd (omega arith)
  succeeds out n (no_room r k h d l) z = absurd (omega arith)

pub promise : Promise
promise = record {
  table = λ b key room.
      exactly (Given b key room) (row b key room).0 (row b key room).1 (back b key room);
  success = λ b key out e. succeeds b key out (answer b key (length out)) (row b key (length out)).0 e;
  refusal = λ b key out k e. restore-leaves b key out e;
}
