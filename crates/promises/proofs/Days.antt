-- A PDU that is held, captured on another day: the same archive but for that entry's day. Assumes nothing.
use Rattle.std.specs.Prelude.{Ok}
use mathlib.Core.Path.{◌≡◌, refl, sym, ap, ◌∙◌, subst}
use mathlib.Core.Bool.{true}
use mathlib.Core.List.{List, [], ◌∷◌, ◌++◌, append_assoc}
use Prim.Native.Nat.{ℕ, ◌+◌, ◌/◌, ◌%◌, ◌≤◌, ◌<◌}
use native.Mathlib.Omega.{arith}
use lib.ListN.{length, length-append}
use borrow.Author.Tests.{le-leb, le-ltb, lt-ltb, eq-eqb}
use Rattle.bits.specs.Bits.{Bytes, splice}
use Rattle.bits.proofs.Tests.{both⁻¹}
use Rattle.bits.proofs.Splices.{splice_at}
use Rattle.reader.specs.Read.{answer_of, found_in, read_is}
use Rattle.judging.specs.Judge.{may_hold}
use Rattle.archive.specs.Model.{Held, Archive, rank, bytes2, bytes3, header_bytes, entry_bytes, contents_of, bodies_of, bytes_of, length_of}
use Rattle.archive.specs.Filing.{filed_key, keeps_rules}
use Rattle.archive.specs.Reading.{reading, is_archive}
use Rattle.archive.specs.Keeping.{over, put, held_for, captured, capture_is}
use Rattle.archive.proofs.Model.Bodies as bodies
use Rattle.archive.proofs.Model.Rules.{kept, archive-formed}
use Rattle.archive.proofs.Bytes.AsRead.{written_as-read}
use Rattle.archive.proofs.Bytes.AsWritten.{length-header, length-contents}
use Rattle.archive.proofs.Bytes.Checking.{sound}
use Rattle.archive.proofs.Bytes.Split.{contents-join, bodies-join, sizes-join}
use Rattle.archive.proofs.Calls.Limits.{counted}
use Rattle.archive.proofs.Calls.Capture.{as-placed, placed-whole, capture-leaves}
use Rattle.promises.specs.Days.{HoldsAt, day_place, Promise}
use Rattle.promises.proofs.Archive.Laying.{archive-is, archive-read}
use Rattle.promises.proofs.Archive.Finding.{among-kept}
use Rattle.promises.proofs.Archive.Indexing.{among-joined}

-- ---- in an archive that keeps the rules

module _ (home : ℕ) (h : Held) (post : List Held) where
  -- a PDU of its key is put in its place
  put-there : (x : Held) → rank x ≡ rank h → (last : ℕ) (pre : List Held) → keeps_rules home last (pre ++ (h ∷ post)) ≡ true
      → put x (pre ++ (h ∷ post)) ≡ pre ++ (x ∷ post)
  put-there x e last [] k = rw (le-ltb (rank h) (rank x) (omega (arith, e)), eq-eqb (rank h) (rank x) (sym e))
  put-there x e last (y ∷ pre) k =
      let u = kept home last y (pre ++ (h ∷ post)) k in
      let above = (among-kept home (rank y) h (pre ++ (h ∷ post)) u.others (among-joined h pre post)).0 in
      rw (lt-ltb (rank y) (rank x) (omega (arith, e, above))) (ap (λ (l : List Held). y ∷ l) (put-there x e (rank y) pre u.others))

-- ---- the bytes around a day

-- the same PDU, held on a day
abbrev on : Held → ℕ → Held
on h day = record { entry = record { key = h.entry.key; bits = h.entry.bits; day = day }; body = h.body }

module _ (home : ℕ) (pre : List Held) (h : Held) (post : List Held) where
  abbrev held : ℕ → List Held
  held day = pre ++ (on h day ∷ post)

  abbrev front : List ℕ
  front =
      header_bytes home (length (pre ++ (h ∷ post)))
      ++ (contents_of pre ++ (bytes3 h.entry.key.network ++ (bytes3 h.entry.key.ssi ++ (h.entry.key.part ∷ bytes2 h.entry.bits.0))))

  abbrev back : List ℕ
  back = contents_of post ++ (bodies_of pre ++ (h.body ++ bodies_of post))

  as_many : (day : ℕ) → length (held day) ≡ length (pre ++ (h ∷ post))
  as_many day = simp length-append refl

  as_long : (day : ℕ) → length_of (record { home = home; held = held day }) ≡ length_of (record { home = home; held = pre ++ (h ∷ post) })
  as_long day = omega (arith, as_many day, sizes-join pre (on h day ∷ post), sizes-join pre (h ∷ post))

  around : (day : ℕ) → bytes_of (record { home = home; held = held day }) ≡ front ++ (bytes2 day ++ back)
  unfolding entry_bytes
  around day = rw (as_many day, contents-join pre (on h day ∷ post), bodies-join pre (on h day ∷ post)) (simp append_assoc)

  front_length : length front ≡ day_place (length pre)
  front_length = simp length-append (omega (arith, length-header home (length pre + length (h ∷ post)), length-contents pre))

-- ---- the capture

module _ (b s : List ℕ) (n index day : ℕ) (y : Bytes b) (k : HoldsAt b s n index) (dated : day < 65536) where
  ok : is_archive b ≡ true
  ok = archive-is b k.archive

  abbrev home : ℕ
  home = (reading b).home

  held-is : (reading b).held ≡ k.stands.before ++ (k.here ∷ k.stands.after)
  held-is = ap (λ (a : Archive). a.held) (sym (archive-read b k.archive)) ∙ k.stands.split

  rules : keeps_rules home 0 (k.stands.before ++ (k.here ∷ k.stands.after)) ≡ true
  rules = subst (λ (hs : List Held). keeps_rules home 0 hs ≡ true) held-is (archive-formed b ok).rules

  agrees : bodies.Agrees home k.here
  agrees =
      let s = k.stands in
      bodies.agrees-says home k.here
      (among-kept home 0 k.here (s.before ++ (k.here ∷ s.after)) rules (among-joined k.here s.before s.after)).1

  -- what the PDU is held as is what is held, on that day
  same : held_for home s n day ≡ on k.here day
  same =
      let key = (λ i. filed_key home (found_in (read_is (sym k.body i) (sym k.bits i)))) ∙ sym agrees.key in
      λ i. record { entry = record { key = key i; bits = record { 0 = sym k.bits i }; day = day }; body = sym k.body i }

  captured-is : captured b s n day ≡ record { home = home; held = k.stands.before ++ (on k.here day ∷ k.stands.after) }
  unfolding captured
  captured-is =
      let put_is : put (held_for home s n day) (reading b).held ≡ k.stands.before ++ (on k.here day ∷ k.stands.after) =
      (λ i. put (same i) (held-is i)) ∙ put-there home k.here k.stands.after (on k.here day) refl 0 k.stands.before rules in
      λ i. record { home = home; held = put_is i }

  before-is : reading b ≡ record { home = home; held = k.stands.before ++ (k.here ∷ k.stands.after) }
  before-is = λ i. record { home = home; held = held-is i }

  size : length_of (captured b s n day) ≡ length b
  size = ap length_of captured-is ∙ as_long home k.stands.before k.here k.stands.after day ∙ sym (ap length_of before-is) ∙ sym (counted b ok).size

  many : length (captured b s n day).held ≡ length (reading b).held
  many = ap (λ (a : Archive). length a.held) captured-is ∙ as_many home k.stands.before k.here k.stands.after day ∙ sym (ap length held-is)

  answer : (room : ℕ) → length b ≤ room → capture_is b s n day room ≡ Ok (length b)
  answer room h =
      let f = archive-formed b ok in
      let accepted = subst (λ (x : ℕ). answer_of (read_is s x) ≡ Ok tt) k.bits
      (subst (λ (x : List ℕ). answer_of (read_is x k.here.entry.bits.0) ≡ Ok tt) k.body agrees.accepted) in
      let may = subst (λ (x : ℕ). may_hold (found_in (read_is s x)) ≡ true) k.bits
      (subst (λ (x : List ℕ). may_hold (found_in (read_is x k.here.entry.bits.0)) ≡ true) k.body agrees.may) in
      let small = (sound b ok).small in
      as-placed b s n day room dated ok accepted may
      ∙ sym (placed-whole (captured b s n day) room
      (both⁻¹ (le-leb (length (captured b s n day).held) 512 (omega (arith, many, f.few)))
      (le-leb (length_of (captured b s n day)) 65536 (omega (arith, size, small)))) (omega (arith, size, h)))
      ∙ ap Ok size

  bytes : bytes_of (captured b s n day) ≡ splice b (day_place index) (day / 256 ∷ day % 256 ∷ [])
  bytes =
      let new = ap bytes_of captured-is ∙ around home k.stands.before k.here k.stands.after day in
      let old : b ≡ front home k.stands.before k.here k.stands.after ++ (bytes2 k.here.entry.day ++ back home k.stands.before k.here k.stands.after) =
      sym (written_as-read b y ok) ∙ ap bytes_of before-is ∙ around home k.stands.before k.here k.stands.after k.here.entry.day in
      let at = front_length home k.stands.before k.here k.stands.after ∙ ap day_place k.stands.standing in
      new ∙ sym (ap (λ (x : List ℕ). splice x (day_place index) (day / 256 ∷ day % 256 ∷ [])) old
      ∙ splice_at (front home k.stands.before k.here k.stands.after) (bytes2 k.here.entry.day) (back home k.stands.before k.here k.stands.after) (bytes2 day)
      (day_place index) at refl)

pub promise : Promise
promise = record {
  another-day = λ b s n index day out y k dated room.
      let e = answer b s n index day y k dated (length out) room in
      (e, capture-leaves b s n day out e ∙ ap (λ (w : List ℕ). over w out) (bytes b s n index day y k dated));
}
