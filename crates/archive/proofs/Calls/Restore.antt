-- What restore answers, by what fetch finds. Assumes nothing.
use Rattle.std.specs.Prelude.{Err, Result, Ok, Option, None, Some}
use mathlib.Core.Path.{◌≡◌, ap, ◌∙◌}
use mathlib.Core.Bool.{true, false}
use mathlib.Core.List.{List}
use Prim.Native.Nat.{ℕ}
use lib.ListN.{length, take, drop}
use lib.Dec.{leb}
use Rattle.bits.specs.Bits.{pick}
use Rattle.bits.specs.Frame.{bytes_for}
use Rattle.archive.specs.Model.{Held, in_range}
use Rattle.archive.specs.Reading.{reading, is_archive}
use Rattle.archive.specs.Refusals.{plain}
use Rattle.archive.specs.Checking.{check_is}
use Rattle.archive.specs.Restoring.{fetch_is, lookup, delivered, body_of, restore_is, restores, restore_out}
use Rattle.archive.specs.declared.contents.Key.{Key}
use Rattle.archive.specs.declared.Body.{Body}
use Rattle.archive.specs.declared.refusal.Refusal.{Refusal}
use Rattle.archive.specs.declared.Restored.{Restored}
use Rattle.archive.proofs.Model.Checked.{archive_checked}
use Rattle.archive.proofs.Calls.Fetch.{fetch-damaged, fetch-missing, fetch-found}

module _ (b : List ℕ) (k : Key) where
  -- the PDU held for the user and part
  abbrev pub held_for : Option Held
  held_for = lookup k (reading b).held

  pub out_of_range : (room : ℕ) → in_range k ≡ false → restore_is b k room ≡ Err (plain 9)
  unfolding restore_is
  out_of_range room e = rw e

  pub no-archive : (room : ℕ) {f : Refusal} → in_range k ≡ true → check_is b ≡ Err f → restore_is b k room ≡ Err f
  unfolding restore_is
  no-archive room e f = rw (e, f)

  pub as-delivered : (room : ℕ) → in_range k ≡ true → is_archive b ≡ true → restore_is b k room ≡ delivered held_for room
  unfolding restore_is
  as-delivered room e f = rw (e, archive_checked b f)

  pub restore-leaves : (out : List ℕ) {r : Result Restored Refusal} → restore_is b k (length out) ≡ r → restore_out b k out ≡ restores r (body_of held_for) out
  unfolding restore_out
  restore-leaves out e = ap (λ (r : Result Restored Refusal). restores r (body_of held_for) out) e

  -- what fetch finds decides
  module _ (e : in_range k ≡ true) where
    pub none_found : (room : ℕ) {f : Refusal} → fetch_is b k ≡ Err f → restore_is b k room ≡ Err f
    none_found room t = no-archive room e (fetch-damaged b k e t)

    pub not_found : (room : ℕ) → fetch_is b k ≡ Ok None → restore_is b k room ≡ Err (plain 11)
    not_found room t =
        let r = fetch-missing b k e t in
        as-delivered room e r.0 ∙ ap (λ (o : Option Held). delivered o room) r.1

    pub found-body : {at : Body} (room : ℕ) → fetch_is b k ≡ Ok (Some at)
        → (restore_is b k room ≡ pick (leb (bytes_for at.bits.0) room) (Ok (record { bits = at.bits; day = at.day })) (Err (plain 8)))
        × (body_of held_for ≡ take (bytes_for at.bits.0) (drop at.off b))
    found-body room t =
        let r = fetch-found b k e t in
        let x = r.1 in (
          as-delivered room e r.0
              ∙ ap (λ (o : Option Held). delivered o room) x.is
              ∙ (λ i. pick (leb (bytes_for (x.bits i).0) room) (Ok (record { bits = x.bits i; day = x.day-is i })) (Err (plain 8))),
          ap body_of x.is ∙ x.body,
        )
