-- Reload keeps its promise. Assumes nothing.
use Rattle.std.specs.Prelude.{Result, Ok, Err, Option, None, Some}
use mathlib.Core.Path.{◌≡◌, refl, sym, ap, ◌∙◌, subst}
use mathlib.Core.Bool.{Bool, true, false, ◌&&◌}
use mathlib.Core.List.{List, [], ◌∷◌}
use Prim.Native.Nat.{ℕ, ◌≤◌}
use native.Mathlib.Omega.{arith}
use lib.ListN.{length}
use lib.Dec.{leb}
use Rattle.std.proofs.Common.{Ok}
use borrow.Author.Tests.{leb-true, leb-false}
use Rattle.bits.proofs.Tests.{differ, false-unless, both, both⁻¹}
use Rattle.bits.specs.Frame.{bytes_for, pack}
use Rattle.bits.specs.declared.BitCount.{BitCount}
use Rattle.codec.specs.Codec.{Legal}
use Rattle.grammar.specs.Grammar.{pdu}
use Rattle.writer.specs.Write.{length_of, written_number, write_is}
use Rattle.archive.specs.Model.{Held, in_range}
use Rattle.archive.specs.Reading.{reading}
use Rattle.archive.specs.Refusals.{plain}
use Rattle.archive.specs.Checking.{check_is}
use Rattle.archive.specs.Keeping.{over}
use Rattle.archive.specs.Restoring.{lookup}
use Rattle.archive.specs.declared.contents.Key.{Key}
use Rattle.archive.specs.declared.refusal.Refusal.{Refusal}
use Rattle.reload.specs.Define.{is_definition, stands}
use Rattle.reload.specs.Reload.{reloaded_refusal, record_of, as_written, reloaded, reload_is, define_bytes, reload_out}
use Rattle.reload.specs.declared.Definition.{Definition}
use Rattle.reload.specs.declared.Target.{Target}
use Rattle.reload.proofs.Reloading.{out_of_range, no-archive, reload-held, reload-leaves}
use Rattle.reload.proofs.Held.{held-defined}
use Rattle.promises.specs.Answers.{OneOf}
use Rattle.promises.specs.Archive as archive
use Rattle.promises.specs.Archive.{IsArchive, Ranged}
use Rattle.promises.specs.Broken as breaking
use Rattle.promises.specs.Demand1.Restore.{Holds}
use Rattle.promises.specs.Demand1.Writing as writes
use Rattle.promises.specs.Demand1.Reload.{answer, Asked, defined, Standing, Given, success, unranged, damaged, not-held, lost, no_room}
use Rattle.promises.specs.Demand1.Reload.{Promise}
use Rattle.promises.proofs.Tables.{exactly}
use Rattle.promises.proofs.Standing.{asked_is, is-asked, stands-is, is-standing}
use Rattle.promises.proofs.Archive as archive-kept
use Rattle.promises.proofs.Broken as broken-kept
use Rattle.promises.proofs.Broken.{seven}
use Rattle.promises.proofs.Demand1.Restore.{ranged, holds, holds-none, held_by, none-by}
use Rattle.promises.proofs.Demand1.Writing as writing

abbrev archives : archive.Promise
archives = archive-kept.promise

abbrev broken : breaking.Promise
broken = broken-kept.promise

abbrev numbers : List ℕ
numbers = 0 ∷ 9 ∷ 7 ∷ 11 ∷ 12 ∷ 8 ∷ []

-- the refusal of what writing answers
as_number : (w : Result BitCount ℕ) → reloaded_refusal (as_written w) ≡ plain (written_number w)
as_number (Ok n) = refl
as_number (Err k) = refl

module _ (t : Target) (b : List ℕ) (key : Key) (d : Definition) (out : List ℕ) where
  abbrev Both : Refusal → Type 0
  Both f = Given t b key d (length out) f × OneOf numbers f.number

  tests : Ranged key → Asked d → in_range key && is_definition d ≡ true
  tests r a = both⁻¹ (ranged b key r) (asked_is d a)

  -- the part is held
  module _ (r : Ranged key) (a : Asked d) (k : IsArchive b) where
    pub found : (l : Option Held) → lookup key (reading b).held ≡ l → reload_is t b key d out ≡ reloaded t d l out
    found l e =
        reload-held t b key d out (ranged b key r) (asked_is d a) ((archives.is-archive b).1 k) ∙ ap (λ (x : Option Held). reloaded t d x out) e

    module _ (h : Held) (x : Holds b key k h) where
      pub is_held : lookup key (reading b).held ≡ Some h
      is_held = holds b key r k h x

      pub legal : Standing t b key d h → Legal pdu (defined t b key d h)
      legal s = held-defined b ((archives.is-archive b).1 k) key is_held t d (asked_is d a) (stands-is t d.definition (record_of h).lists a.definition s)

      -- its lists stand, and writing says the rest
      wrote : Standing t b key d h → reload_is t b key d out ≡ as_written (write_is (defined t b key d h) out)
      wrote s = found (Some h) is_held ∙ rw (stands-is t d.definition (record_of h).lists a.definition s)

      pub wrote-number : Standing t b key d h → answer t b key d out ≡ plain (writes.number (defined t b key d h) out)
      wrote-number s = ap reloaded_refusal (wrote s) ∙ as_number (write_is (defined t b key d h) out)

      fits : Standing t b key d h → bytes_for (length_of (defined t b key d h)) ≤ length out → writes.number (defined t b key d h) out ≡ 0
      fits s l = (((writing.promise).table (defined t b key d h) out).exactly 0).1 (writes.success (legal s) l)

  row : Both (answer t b key d out)
  row = go (in_range key) refl (is_definition d) refl (check_is b) refl (lookup key (reading b).held) refl
    where
      to : {f : Refusal} → answer t b key d out ≡ f → Both f → Both (answer t b key d out)
      to e h = subst Both (sym e) h

      by : (r : Ranged key) (a : Asked d) (k : IsArchive b) (h : Held) → Holds b key k h → (f : Bool) → stands t d.definition (record_of h).lists ≡ f
          → (u : Bool) → leb (bytes_for (length_of (defined t b key d h))) (length out) ≡ u → Both (answer t b key d out)
      by r a k h x true e true f =
          let s = is-standing t _ _ e in
          to (wrote-number r a k h x s ∙ ap plain (fits r a k h x s (leb-true _ _ f))) (success r a k h x s (leb-true _ _ f), refl)
      by r a k h x true e false f =
          let s = is-standing t _ _ e in
          let full = (((writing.promise).table (defined t b key d h) out).exactly 8).1 (writes.no_room (legal r a k h x s) (leb-false _ _ f)) in
          to (wrote-number r a k h x s ∙ ap plain full) (no_room r a k h x s (leb-false _ _ f), refl)
      by r a k h x false e u f =
          to (ap reloaded_refusal (found r a k (Some h) (is_held r a k h x)) ∙ rw e)
          (lost r a k h x (λ s. differ (sym (stands-is t _ _ a.definition s) ∙ e)), refl)

      go : (p : Bool) → in_range key ≡ p → (q : Bool) → is_definition d ≡ q → (c : Result (Unit {0}) Refusal) → check_is b ≡ c
          → (l : Option Held) → lookup key (reading b).held ≡ l → Both (answer t b key d out)
      go false e q f c g l i =
          to (ap reloaded_refusal (out_of_range t b key d out (rw e refl))) (unranged (λ x. differ (sym (ranged b key x.0) ∙ e)), refl)
      go true e false f c g l i =
          to (ap reloaded_refusal (out_of_range t b key d out (rw (e, f) refl))) (unranged (λ x. differ (sym (asked_is d x.1) ∙ f)), refl)
      go true e true f (Err x) g l i =
          let k = (broken.refuses b x).0 g in
          to (ap reloaded_refusal (no-archive t b key d out e f g))
          (damaged x ((archives.in-range key).0 e) (is-asked d f) k, subst (OneOf numbers) (sym (seven k)) refl)
      go true e true f (Ok _) g None i =
          let r = (archives.in-range key).0 e in
          let k = (broken.passes b).0 g in
          to (ap reloaded_refusal (found r (is-asked d f) k None i)) (not-held r (is-asked d f) k (none-by b key r k i), refl)
      go true e true f (Ok _) g (Some h) i =
          let r = (archives.in-range key).0 e in
          let k = (broken.passes b).0 g in
          by r (is-asked d f) k h (held_by b key r k h i) (stands t d.definition (record_of h).lists) refl _ refl

  back : (f : Refusal) → Given t b key d (length out) f → answer t b key d out ≡ f
  back f (success r a k h x s l) = wrote-number r a k h x s ∙ ap plain (fits r a k h x s l)
  back f (unranged r) =
      ap reloaded_refusal (out_of_range t b key d out
      (false-unless _ (λ e. let p = both (in_range key) (is_definition d) e in r ((archives.in-range key).0 p.0, is-asked d p.1))))
  back f (damaged x r a k) = ap reloaded_refusal (no-archive t b key d out (ranged b key r) (asked_is d a) ((broken.refuses b x).1 k))
  back f (not-held r a k x) = ap reloaded_refusal (found r a k None (holds-none b key r k x))
  back f (lost r a k h x s) =
      ap reloaded_refusal (found r a k (Some h) (is_held r a k h x)) ∙ rw (false-unless (stands t d.definition (record_of h).lists) (λ e. s (is-standing t _ _ e)))
  back f (no_room r a k h x s l) =
      wrote-number r a k h x s
      ∙ ap plain ((((writing.promise).table (defined t b key d h) out).exactly 8).1 (writes.no_room (legal r a k h x s) l))

  -- a part that was put back
  pub record Success : Type 0 where
    pub ranged : Ranged key
    pub asked : Asked d
    pub archive : IsArchive b
    pub held : Held
    pub holds : Holds b key archive held
    pub stand : Standing t b key d held
    pub wrote : write_is (defined t b key d held) out ≡ Ok (record { 0 = length_of (defined t b key d held) })
    pub is : reload_is t b key d out ≡ Ok (record { 0 = length_of (defined t b key d held) })
    pub left : reload_out t b key d out ≡ over (pack (pdu.print (defined t b key d held))) out

  succeeds : (f : Refusal) → Given t b key d (length out) f → f.number ≡ 0 → Success
  succeeds f (success r a k h x s l) z =
      let w = ((writing.promise).success (defined t b key d h) out (fits r a k h x s l)).0 in
      let e : reload_is t b key d out ≡ Ok (record { 0 = length_of (defined t b key d h) }) = wrote r a k h x s ∙ ap as_written w in
      record {
        ranged = r;
        asked = a;
        archive = k;
        held = h;
        holds = x;
        stand = s;
        wrote = w;
        is = e;
        left = reload-leaves t b key d out e ∙ ap (λ (y : Option Held). over (define_bytes t d y) out) (is_held r a k h x);
      }
  succeeds f (unranged r) z = absurd (omega arith)
  succeeds f (damaged x r a k) z = absurd (omega (arith, seven k, z))
  succeeds f (not-held r a k x) z = absurd (omega arith)
  succeeds f (lost r a k h x s) z = absurd (omega arith)
  succeeds f (no_room r a k h x s l) z = absurd (omega arith)

  pub succeeded : (answer t b key d out).number ≡ 0 → Success
  succeeded = succeeds (answer t b key d out) row.0

pub promise : Promise
promise = record {
  table = λ t b key d out. exactly (Given t b key d (length out)) (row t b key d out).0 (row t b key d out).1 (back t b key d out);
  success = λ t b key d out e. let s = succeeded t b key d out e in (s.archive, s.held, s.holds, s.stand, s.is, s.left);
  refusal = λ t b key d out f e. reload-leaves t b key d out e;
}
