-- An accepted capture: the archive with the PDU is well-formed, it is what was written, and it reads so. Assumes nothing.
use Rattle.std.specs.Prelude.{Result, Ok, Err}
use mathlib.Core.Path.{◌≡◌, refl, sym, ap, ◌∙◌}
use mathlib.Core.Bool.{true, ◌&&◌}
use mathlib.Core.List.{List}
use Prim.Native.Nat.{ℕ, ◌≤◌, ◌<◌}
use native.Mathlib.Omega.{arith}
use lib.ListN.{length, take, drop}
use lib.Seq.{take_at}
use lib.Dec.{leb}
use borrow.Author.Tests.{leb-true, ltb-true}
use Rattle.bits.proofs.Tests.{never, both, picked}
use Rattle.walk.specs.declared.Refusal as pdu
use Rattle.reader.specs.Read.{answer_of, found_in, read_is}
use Rattle.judging.specs.Judge.{may_hold}
use Rattle.archive.specs.Model.{Archive, is_day, bytes_of, length_of, within_limits}
use Rattle.archive.specs.Filing.{well_formed}
use Rattle.archive.specs.Reading.{reading, is_archive}
use Rattle.archive.specs.Checking.{check_is, if_archive}
use Rattle.archive.specs.Keeping.{held_for, captured, if_accepted, placed, capture_is, capture_out}
use Rattle.archive.proofs.Model.Bodies.{agrees-is, part-is}
use Rattle.archive.proofs.Model.Rules.{archive-formed, is-formed}
use Rattle.archive.proofs.Model.Checked.{checked-archive}
use Rattle.archive.proofs.Bytes.AsWritten.{length-written, read-as_written, passes}
use Rattle.archive.proofs.Model.Put.{rules-put}
use Rattle.archive.proofs.Calls.Capture.{offered-agrees, capture-leaves}
use Rattle.archive.specs.declared.refusal.Refusal.{Refusal}

-- what an accepted capture says
pub record Taken (b s : List ℕ) (n day room m : ℕ) : Type 0 where
  pub dated : day < 65536
  pub archive : is_archive b ≡ true
  pub accepted : answer_of (read_is s n) ≡ Ok tt
  pub may : may_hold (found_in (read_is s n)) ≡ true
  pub limits : within_limits (length (captured b s n day).held) (length_of (captured b s n day)) ≡ true
  pub fits : length_of (captured b s n day) ≤ room
  pub size : m ≡ length_of (captured b s n day)

was-placed : (a : Archive) (room m : ℕ) → placed a room ≡ Ok m
    → (within_limits (length a.held) (length_of a) ≡ true) × (length_of a ≤ room) × (m ≡ length_of a)
unfolding placed
was-placed a room m e =
    let within = within_limits (length a.held) (length_of a) in
    let p = picked (within && leb (length_of a) room) e (λ x. never cc) in
    let q = both within (leb (length_of a) room) p.0 in
    (q.0, leb-true (length_of a) room q.1, cc p.1)

if-accepted : (a : Result Unit pdu.Refusal) {r : Result ℕ Refusal} {m : ℕ} → if_accepted a r ≡ Ok m → (a ≡ Ok tt) × (r ≡ Ok m)
if-accepted (Ok tt) e = (refl, e)
if-accepted (Err f) e = never cc

if-archive : (c : Result (Unit {0}) Refusal) {r : Result ℕ Refusal} {m : ℕ} → if_archive c Err r ≡ Ok m → (c ≡ Ok tt) × (r ≡ Ok m)
if-archive (Ok _) e = (refl, e)
if-archive (Err f) e = never cc

pub taken : (b s : List ℕ) (n day room m : ℕ) → capture_is b s n day room ≡ Ok m → Taken b s n day room m
unfolding capture_is
taken b s n day room m e =
    let d = picked (is_day day) e (λ x. never cc) in
    let p = if-archive (check_is b) d.1 in
    let a = if-accepted (answer_of (read_is s n)) p.1 in
    let q = picked (may_hold (found_in (read_is s n))) a.1 (λ x. never cc) in
    let r = was-placed (captured b s n day) room m q.1 in
    record {
      dated = ltb-true day 65536 d.0;
      archive = checked-archive b p.0;
      accepted = a.0;
      may = q.0;
      limits = r.0;
      fits = r.1;
      size = r.2;
    }

module _ (b s : List ℕ) (n day room m : ℕ) (t : Taken b s n day room m) where
  pub captured-formed : well_formed (captured b s n day) ≡ true
  unfolding captured
  captured-formed =
      let home = (reading b).home in
      let h = held_for home s n day in
      let f = archive-formed b t.archive in
      let a = agrees-is home h (offered-agrees home s n day t.accepted t.may) in
      let l = both (leb (length (captured b s n day).held) 512) (leb (length_of (captured b s n day)) 65536) t.limits in
      let part = part-is (found_in (read_is s n)) t.may in
      is-formed (captured b s n day)
      (record {
        home = f.home;
        few = leb-true _ _ l.0;
        small = leb-true _ _ l.1;
        rules = rules-put home 0 h (reading b).held t.dated a (omega (arith, part.0)) f.rules;
      })

  pub captured-archive : is_archive (bytes_of (captured b s n day)) ≡ true
  captured-archive = passes (captured b s n day) captured-formed

  pub captured-reads : reading (bytes_of (captured b s n day)) ≡ captured b s n day
  captured-reads = read-as_written (captured b s n day) captured-formed

-- the written part of the lent buffer is the archive with the PDU
pub written : (b s : List ℕ) (n day m : ℕ) (out : List ℕ) → capture_is b s n day (length out) ≡ Ok m
    → take m (capture_out b s n day out) ≡ bytes_of (captured b s n day)
written b s n day m out e =
    let t = taken b s n day (length out) m e in
    let w = bytes_of (captured b s n day) in
    ap (take m) (capture-leaves b s n day out e)
    ∙ take_at w (drop (length w) out) m (length-written (captured b s n day) (captured-formed b s n day (length out) m t) ∙ sym t.size)
