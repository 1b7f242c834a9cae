-- The listing keeps its promise. Assumes nothing.
use Rattle.std.specs.Prelude.{Result, Ok, Err}
use mathlib.Core.Path.{◌≡◌, refl, sym, ap, ◌∙◌, subst}
use mathlib.Core.Bool.{Bool, true, false}
use mathlib.Core.List.{List, [], ◌∷◌}
use Prim.Native.Nat.{ℕ, ◌≤◌}
use native.Mathlib.Omega.{arith}
use lib.ListN.{length}
use lib.Dec.{leb}
use borrow.Author.Tests.{leb-true, leb-false, le-leb, lt-leb}
use Rattle.bits.specs.Bits.{pick}
use Rattle.archive.specs.Reading.{reading}
use Rattle.archive.specs.Refusals.{plain}
use Rattle.archive.specs.Checking.{check_is, if_archive}
use Rattle.archive.specs.Keeping.{stored_refusal, leaves, over}
use Rattle.archive.specs.Listing.{listing, list_is, list_out}
use Rattle.archive.specs.declared.refusal.Refusal.{Refusal}
use Rattle.promises.specs.Answers.{OneOf}
use Rattle.promises.specs.Archive as said
use Rattle.promises.specs.Archive.{IsArchive}
use Rattle.promises.specs.Demand1.Listing.{answer, Given, success, damaged, no_room, Promise}
use Rattle.promises.proofs.Tables.{exactly}
use Rattle.promises.specs.Broken as breaking
use Rattle.promises.proofs.Archive as archive-kept
use Rattle.promises.proofs.Broken as broken-kept
use Rattle.promises.proofs.Broken.{seven}

abbrev archives : said.Promise
archives = archive-kept.promise

abbrev broken : breaking.Promise
broken = broken-kept.promise

module _ (b : List ℕ) where
  -- the text of the archive that the bytes say
  abbrev text : List ℕ
  text = listing (reading b)

  list-leaves : (out : List ℕ) {r : Result ℕ Refusal} → list_is b (length out) ≡ r → list_out b out ≡ leaves r text out
  unfolding list_out
  list-leaves out e = ap (λ (r : Result ℕ Refusal). leaves r text out) e

  archive : IsArchive b → check_is b ≡ Ok tt
  archive k = (broken.passes b).1 k

  -- the archive that the bytes are is the one that they say
  same : (k : IsArchive b) → listing k.archive ≡ text
  same k = ap listing (archives.one-reading b k)

  same_length : (k : IsArchive b) → length (listing k.archive) ≡ length text
  same_length k = ap length (same k)

  module _ (room : ℕ) where
    abbrev answer_by : Result (Unit {0}) Refusal → Bool → Result ℕ Refusal
    answer_by c fits = if_archive c Err (pick fits (Ok (length text)) (Err (plain 8)))

    abbrev Both : Refusal → Type 0
    Both f = Given b room f × OneOf (0 ∷ 7 ∷ 8 ∷ []) f.number

    row : Both (answer b room)
    unfolding list_is
    row = go (check_is b) refl (leb (length text) room) refl
      where
        go : (c : Result (Unit {0}) Refusal) → check_is b ≡ c → (q : Bool) → leb (length text) room ≡ q → Both (stored_refusal (answer_by c q))
        go (Err x) e q f =
            let k = (broken.refuses b x).0 e in
            (damaged x k, subst (OneOf (0 ∷ 7 ∷ 8 ∷ [])) (sym (seven k)) refl)
        go (Ok _) e true f =
            let k = (broken.passes b).0 e in
            (success k (omega (arith, same_length k, leb-true (length text) room f)), refl)
        go (Ok _) e false f =
            let k = (broken.passes b).0 e in
            (no_room k (omega (arith, same_length k, leb-false (length text) room f)), refl)

    fits : (k : IsArchive b) → length (listing k.archive) ≤ room → list_is b room ≡ Ok (length text)
    unfolding list_is
    fits k h = rw (archive k, le-leb (length text) room (omega (arith, same_length k, h)))

    back : (f : Refusal) → Given b room f → answer b room ≡ f
    unfolding list_is
    back n (success k h) = ap stored_refusal (fits k h)
    back n (damaged x k) = rw ((broken.refuses b x).1 k)
    back n (no_room k h) = rw (archive k, lt-leb (length text) room (omega (arith, same_length k, h)))

  succeeds : (out : List ℕ) (n : Refusal) → Given b (length out) n → n.number ≡ 0 → (k : IsArchive b)
      × (list_is b (length out) ≡ Ok (length (listing k.archive))) × (list_out b out ≡ over (listing k.archive) out)
  succeeds out n (success k h) z =
      let x = fits (length out) k h in
      (k, x ∙ ap Ok (sym (same_length k)), list-leaves out x ∙ ap (λ (w : List ℕ). over w out) (sym (same k)))
  succeeds out n (damaged x k) z = absurd (omega (arith, seven k, z))
  succeeds out n (no_room k h) z = absurd (omega arith)

pub promise : Promise
promise = record {
  table = λ b room. exactly (Given b room) (row b room).0 (row b room).1 (back b room);
  success = λ b out e. succeeds b out (answer b (length out)) (row b (length out)).0 e;
  refusal = λ b out k e. list-leaves b out e;
}
