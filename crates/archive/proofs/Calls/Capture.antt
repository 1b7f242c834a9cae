-- What capture answers, case by case, and that what it files keeps the rules. Assumes nothing.
use Rattle.std.specs.Prelude.{Err, Result, Ok, Some, None}
use mathlib.Core.Path.{◌≡◌, refl, ap, sym, ◌∙◌}
use mathlib.Core.Bool.{Bool, true, false, ◌&&◌}
use mathlib.Core.List.{List}
use Prim.Native.Nat.{ℕ, ◌<◌, ◌≤◌}
use native.Mathlib.Omega.{arith}
use lib.ListN.{length}
use Rattle.bits.specs.Bits.{pick}
use Rattle.bits.proofs.Tests.{never, and-false, both⁻¹, picked}
use Rattle.walk.specs.Walk.{walk_is}
use Rattle.walk.specs.declared.Head.{Head}
use Rattle.walk.specs.declared.Refusal as pdu
use Rattle.reader.specs.Read.{answer_of, found_in, read_is}
use Rattle.judging.specs.Judge.{may_hold}
use Rattle.archive.specs.Model.{bytes_of, Archive, length_of, within_limits}
use Rattle.archive.specs.Filing.{filed_key, filing_of}
use Rattle.archive.specs.Reading.{home_of, reading, is_archive}
use Rattle.archive.specs.Refusals.{plain, of_pdu}
use Rattle.archive.specs.Checking.{check_is}
use Rattle.archive.specs.declared.refusal.Refusal.{Refusal}
use Rattle.archive.specs.Keeping.{leaves, held_for, captured, placed, capture_is, capture_out}
use Rattle.archive.specs.Inner.{filing_under}
use Rattle.archive.specs.declared.contents.Key.{Key}
use Rattle.reader.proofs.Walked.{same_answer}
use Rattle.archive.proofs.Model.Bodies.{Agrees, walk-accepted, filed-by-head}
use Rattle.archive.proofs.Model.Checked.{archive_checked}
use Rattle.archive.proofs.Bytes.Walking.{home-is}
use Rattle.archive.proofs.Bytes.Checking.{sound}
use lib.Dec.{leb}
use borrow.Author.Tests.{le-leb, lt-leb, lt-ltb, le-ltb}

-- the home network of an archive
pub home-read : (b : List ℕ) → is_archive b ≡ true → home_of b ≡ (reading b).home
unfolding reading
home-read b ok = home-is b (omega (arith, (sound b ok).whole))

pub home_fits : (b : List ℕ) → is_archive b ≡ true → (reading b).home < 16777216
unfolding reading
home_fits b ok = (sound b ok).home

-- ---- filing

pub filed_under : (home : ℕ) (s : List ℕ) (n : ℕ) {x : Head} {k : Key} → walk_is s n ≡ Ok x → filing_under home x ≡ Some k
    → (answer_of (read_is s n) ≡ Ok tt) × (may_hold (found_in (read_is s n)) ≡ true) × (filed_key home (found_in (read_is s n)) ≡ k)
unfolding filing_of
filed_under home s n w f =
    let m = picked (may_hold (found_in (read_is s n))) (sym (filed-by-head s n w home) ∙ f) (λ x. never cc) in
    (walk-accepted s n w, m.0, cc m.1)

-- a PDU that is filed agrees with its entry
pub offered-agrees : (home : ℕ) (s : List ℕ) (n day : ℕ) → answer_of (read_is s n) ≡ Ok tt → may_hold (found_in (read_is s n)) ≡ true
    → Agrees home (held_for home s n day)
offered-agrees home s n day a m = record { accepted = a; may = m; key = refl }

-- ---- the answer

pub no-day : (b s : List ℕ) (n day room : ℕ) → 65535 < day → capture_is b s n day room ≡ Err (plain 9)
unfolding capture_is
no-day b s n day room late = rw (le-ltb day 65536 (omega arith))

module _ (b s : List ℕ) (n day room : ℕ) (dated : day < 65536) where
  pub no-archive : {f : Refusal} → check_is b ≡ Err f → capture_is b s n day room ≡ Err f
  unfolding capture_is
  no-archive e = rw (lt-ltb _ _ dated, e)

  pub pdu-refused : {f : pdu.Refusal} → is_archive b ≡ true → walk_is s n ≡ Err f → capture_is b s n day room ≡ Err (of_pdu f)
  unfolding capture_is
  pdu-refused e w = rw (lt-ltb _ _ dated, archive_checked b e, same_answer s n ∙ ap answer_of w)

  pub not-held : (home : ℕ) {x : Head} → is_archive b ≡ true → walk_is s n ≡ Ok x → filing_under home x ≡ None
      → capture_is b s n day room ≡ Err (plain 6)
  unfolding capture_is filing_of
  not-held home e w f =
      rw (lt-ltb _ _ dated, archive_checked b e, walk-accepted s n w) (go (may_hold (found_in (read_is s n))) (sym (filed-by-head s n w home) ∙ f))
    where
      go : (m : Bool) → pick m (Some (filed_key home (found_in (read_is s n)))) None ≡ None
          → pick m (placed (captured b s n day) room) (Err (plain 6)) ≡ Err (plain 6)
      go true g = never cc
      go false g = refl

  pub as-placed : is_archive b ≡ true → answer_of (read_is s n) ≡ Ok tt → may_hold (found_in (read_is s n)) ≡ true
      → capture_is b s n day room ≡ placed (captured b s n day) room
  unfolding capture_is
  as-placed e f g = rw (lt-ltb _ _ dated, archive_checked b e, f, g)

-- ---- what placing answers

module _ (a : Archive) (room : ℕ) where
  pub placed-over : within_limits (length a.held) (length_of a) ≡ false → Err (plain 8) ≡ placed a room
  unfolding placed
  placed-over e = sym (ap (λ (p : Bool). pick (p && leb (length_of a) room) (Ok (length_of a)) (Err (plain 8))) e)

  pub placed-short : room < length_of a → Err (plain 8) ≡ placed a room
  unfolding placed
  placed-short h =
      sym (ap (λ (p : Bool). pick p (Ok (length_of a)) (Err (plain 8)))
      (and-false (within_limits (length a.held) (length_of a)) (lt-leb (length_of a) room h)))

  pub placed-whole : within_limits (length a.held) (length_of a) ≡ true → length_of a ≤ room → Ok (length_of a) ≡ placed a room
  unfolding placed
  placed-whole e h = sym (ap (λ (p : Bool). pick p (Ok (length_of a)) (Err (plain 8))) (both⁻¹ e (le-leb (length_of a) room h)))

-- what is left in the lent buffer goes by the answer
pub capture-leaves : (b s : List ℕ) (n day : ℕ) (out : List ℕ) {r : Result ℕ Refusal} → capture_is b s n day (length out) ≡ r
    → capture_out b s n day out ≡ leaves r (bytes_of (captured b s n day)) out
unfolding capture_out
capture-leaves b s n day out e = ap (λ (r : Result ℕ Refusal). leaves r (bytes_of (captured b s n day)) out) e
