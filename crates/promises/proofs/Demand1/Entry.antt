-- The entry at an index keeps its promise. Assumes nothing.
use Rattle.std.specs.Prelude.{Result, Ok, Err, Option, None, Some}
use mathlib.Core.Path.{◌≡◌, refl, sym, ap, subst}
use mathlib.Core.List.{List, [], ◌∷◌}
use Prim.Native.Nat.{ℕ, ◌≤◌}
use native.Mathlib.Omega.{arith}
use lib.ListN.{length}
use Rattle.archive.specs.Model.{Held, Archive}
use Rattle.archive.specs.Reading.{reading}
use Rattle.archive.specs.Checking.{check_is}
use Rattle.archive.specs.Restoring.{listed_refusal, held_nth, listed_as, entry_is}
use Rattle.archive.specs.declared.refusal.Refusal.{Refusal}
use Rattle.archive.proofs.Model.Rules.{archive-formed}
use Rattle.promises.specs.Answers.{OneOf}
use Rattle.promises.specs.Archive as said
use Rattle.promises.specs.Archive.{IsArchive, StandsAt}
use Rattle.promises.specs.Broken as breaking
use Rattle.promises.specs.Demand1.Entry.{answer, Given, success, damaged, beyond, Promise}
use Rattle.promises.proofs.Tables.{exactly}
use Rattle.promises.proofs.Archive as archive-kept
use Rattle.promises.proofs.Archive.Indexing.{stands-ranged, stands-among, nth-stands, stands_nth, nth-none, none_nth}
use Rattle.promises.proofs.Broken as broken-kept
use Rattle.promises.proofs.Broken.{seven}
use Rattle.promises.proofs.Demand1.Restore.{restored-held}
use Rattle.archive.specs.declared.contents.Entry.{Entry}

abbrev archives : said.Promise
archives = archive-kept.promise

abbrev broken : breaking.Promise
broken = broken-kept.promise

module _ (b : List ℕ) (index : ℕ) where
  abbrev Both : Refusal → Type 0
  Both f = Given b index f × OneOf (0 ∷ 7 ∷ 11 ∷ []) f.number

  -- what the call reads is the archive of the promise
  asked : IsArchive b → {o : Option Held} → held_nth (reading b).held index ≡ o → entry_is b index ≡ listed_as o
  unfolding entry_is
  asked k e = rw ((broken.passes b).1 k) (ap listed_as e)

  no-archive : {f : Refusal} → check_is b ≡ Err f → entry_is b index ≡ Err f
  unfolding entry_is
  no-archive e = rw e

  read_so : (k : IsArchive b) → reading b ≡ k.archive
  read_so k = sym (archives.one-reading b k)

  row : Both (answer b index)
  row = go (check_is b) refl (held_nth (reading b).held index) refl
    where
      to : {r : Result Entry Refusal} → entry_is b index ≡ r → Both (listed_refusal r) → Both (answer b index)
      to e h = subst Both (sym (ap listed_refusal e)) h

      go : (c : Result (Unit {0}) Refusal) → check_is b ≡ c → (o : Option Held) → held_nth (reading b).held index ≡ o → Both (answer b index)
      go (Err x) e o f =
          let k = (broken.refuses b x).0 e in
          to (no-archive e) (damaged x k, subst (OneOf (0 ∷ 7 ∷ 11 ∷ [])) (sym (seven k)) refl)
      go (Ok _) e None f =
          let k = (broken.passes b).0 e in
          to (asked k f) (beyond k (subst (λ (a : Archive). length a.held ≤ index) (read_so k) (nth-none (reading b).held index f)), refl)
      go (Ok _) e (Some h) f =
          let k = (broken.passes b).0 e in
          to (asked k f) (success k h (subst (λ (a : Archive). StandsAt a.held index h) (read_so k) (nth-stands (reading b).held index f)), refl)

  stood : (k : IsArchive b) {h : Held} → StandsAt k.archive.held index h → StandsAt (reading b).held index h
  stood k {h} s = subst (λ (a : Archive). StandsAt a.held index h) (archives.one-reading b k) s

  back : (f : Refusal) → Given b index f → answer b index ≡ f
  back f (success k h s) = ap listed_refusal (asked k (stands_nth (stood k s)))
  back f (damaged x k) = ap listed_refusal (no-archive ((broken.refuses b x).1 k))
  back f (beyond k l) =
      ap listed_refusal (asked k (none_nth (reading b).held index (subst (λ (a : Archive). length a.held ≤ index) (archives.one-reading b k) l)))

  succeeds : (f : Refusal) → Given b index f → f.number ≡ 0
      → (k : IsArchive b) × (h : Held) × StandsAt k.archive.held index h × (entry_is b index ≡ Ok h.entry)
  succeeds f (success k h s) z = (k, h, s, asked k (stands_nth (stood k s)))
  succeeds f (damaged x k) z = absurd (omega (arith, seven k, z))
  succeeds f (beyond k l) z = absurd (omega arith)

pub promise : Promise
promise = record {
  table = λ b index. exactly (Given b index) (row b index).0 (row b index).1 (back b index);
  success = λ b index e. succeeds b index (answer b index) (row b index).0 e;
  restores = λ b k index h s out room.
      let formed = archive-formed b ((archives.is-archive b).1 k) in
      let ranged = stands-ranged (reading b).home (reading b).held index h formed.home formed.rules (stood b index k s) in
      restored-held b h.entry.key out ((archives.in-range h.entry.key).0 ranged) k h (record { among = stands-among s; for = refl }) room;
}
