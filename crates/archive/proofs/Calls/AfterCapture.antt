-- Capture and restore in document 01's words: what is held and restored after a capture. Assumes nothing.
use Rattle.std.specs.Prelude.{Ok, Err, Option, Some}
use mathlib.Core.Path.{◌≡◌, refl, sym, ap, ◌∙◌}
use mathlib.Core.Bool.{Bool, true}
use mathlib.Core.List.{List}
use Prim.Native.Nat.{ℕ, ◌≤◌}
use lib.ListN.{length, take}
use borrow.Author.Tests.{le-leb}
use Rattle.bits.specs.Bits.{pick}
use Rattle.bits.specs.Frame.{bytes_for}
use Rattle.reader.specs.Read.{found_in, read_is}
use Rattle.archive.specs.Model.{Held, Archive, length_of, in_range}
use Rattle.archive.specs.Filing.{same_key}
use Rattle.archive.specs.Reading.{reading, is_archive}
use Rattle.archive.specs.Refusals.{plain}
use Rattle.archive.specs.Keeping.{over, held_for, captured, capture_is, capture_out}
use Rattle.archive.specs.Restoring.{lookup, delivered, body_of, restore_is, restore_out}
use Rattle.archive.specs.Inner.{KeyFits}
use Rattle.archive.specs.declared.contents.Key.{Key}
use Rattle.archive.proofs.Model.Bodies.{key_fits, part-is}
use Rattle.archive.proofs.Calls.CaptureWrites.{Taken, taken, captured-formed, captured-archive, captured-reads, written}
use Rattle.archive.proofs.Bytes.AsWritten.{length-written}
use Rattle.archive.proofs.Calls.Restore.{as-delivered, restore-leaves}
use Rattle.archive.proofs.Calls.Capture.{home_fits, offered-agrees}
use Rattle.archive.proofs.Model.Put.{lookup-put}
use Rattle.archive.proofs.Model.Keys.{is-same_key, ranged, in-range, rank-names}

-- after an accepted capture

module _ (b s : List ℕ) (n day m : ℕ) (lent : List ℕ) (e : capture_is b s n day (length lent) ≡ Ok m) where
  -- what the captured PDU is held as, its user and part, and the archive that was written
  abbrev held : Held
  held = held_for (reading b).home s n day

  abbrev pub key : Key
  key = held.entry.key

  abbrev pub new : List ℕ
  new = take m (capture_out b s n day lent)

  t : Taken b s n day (length lent) m
  t = taken b s n day (length lent) m e

  pub new-archive : is_archive new ≡ true
  new-archive = ap is_archive (written b s n day m lent e) ∙ captured-archive b s n day (length lent) m t

  pub new-reads : reading new ≡ captured b s n day
  new-reads = ap reading (written b s n day m lent e) ∙ captured-reads b s n day (length lent) m t

  -- the answer is the length of the new archive: header, contents and bodies, and nothing else
  pub new-length : (m ≡ length new) × (m ≡ length_of (captured b s n day))
  new-length = (
    t.size
        ∙ sym (ap length (written b s n day m lent e) ∙ length-written (captured b s n day) (captured-formed b s n day (length lent) m t)),
    t.size,
  )

  fit : KeyFits key
  fit = key_fits (reading b).home held (home_fits b t.archive) (offered-agrees (reading b).home s n day t.accepted t.may)

  in_its-range : in_range key ≡ true
  in_its-range =
      let p = part-is (found_in (read_is s n)) t.may in
      in-range key fit.network fit.ssi p.0 p.1

  -- what is held for a user and part
  pub held_after : (k : Key) → in_range k ≡ true
      → lookup k (reading new).held ≡ pick (same_key key k) (Some held) (lookup k (reading b).held)
  unfolding captured
  held_after k r =
      ap (λ (a : Archive). lookup k a.held) new-reads
      ∙ lookup-put k held (reading b).held
      ∙ ap (λ (p : Bool). pick p (Some held) (lookup k (reading b).held))
      (rank-names key k fit (ranged k r))

  -- restore gives exactly the captured bits and the day for that user and part
  pub restore-captured : (out : List ℕ) → bytes_for n ≤ length out
      → (restore_is new key (length out) ≡ Ok (record { bits = record { 0 = n }; day = day })) × (restore_out new key out ≡ over s out)
  restore-captured out h =
      let r = in_its-range in
      let l : lookup key (reading new).held ≡ Some held =
      held_after key r ∙ ap (λ (p : Bool). pick p (Some held) (lookup key (reading b).held)) (is-same_key key key refl)
      in
      let x : restore_is new key (length out) ≡ Ok (record { bits = record { 0 = n }; day = day }) =
      as-delivered new key (length out) r new-archive
      ∙ ap (λ (z : Option Held). delivered z (length out)) l
      ∙ ap (λ (p : Bool). pick p (Ok (record { bits = record { 0 = n }; day = day })) (Err (plain 8))) (le-leb (bytes_for n) (length out) h)
      in
      (x, restore-leaves new key out x ∙ ap (λ (z : Option Held). over (body_of z) out) l)
