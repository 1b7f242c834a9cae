-- A capture's bytes, parts of the old archive around a new entry and body, are those of the archive with the PDU put in its place.
-- Assumes nothing.
use mathlib.Core.Path.{◌≡◌, sym, ap, ◌∙◌, subst}
use mathlib.Core.Bool.{true}
use mathlib.Core.List.{List, [], ◌∷◌, ◌++◌, append_assoc, append-nil}
use Prim.Native.Nat.{ℕ, suc, ◌+◌, ◌*◌, ◌-◌}
use native.Mathlib.Omega.{arith}
use lib.ListN.{length, take, drop, length-append}
use Rattle.bits.specs.Bits as are
use Rattle.archive.specs.Model.{Held, rank, header_width, entry_width, header_bytes, entry_bytes}
use Rattle.archive.specs.Model.{contents_of, bodies_of, bytes_of, body_size, sizes, length_of}
use Rattle.archive.specs.Reading.{number3, count_of, bodies_at, held_in, reading, is_archive}
use Rattle.archive.specs.Keeping.{put, with}
use Rattle.archive.specs.Inner.{seek, entries_in, next_at, rest_at, Within, front_of, back_of, spliced, spliced_length}
use Rattle.archive.specs.declared.checking.Place.{Place}
use Rattle.archive.proofs.Model.Rules.{AllFit, all_fit}
use Rattle.archive.proofs.Bytes.Walking.{home-is, length-held_from}
use Rattle.archive.proofs.Bytes.Checking.{sound}
use Rattle.archive.proofs.Bytes.AsRead.{written_as-read}
use Rattle.archive.proofs.Bytes.AsWritten.{part_of, length-header, length-contents, length-bodies}
use Rattle.archive.proofs.Bytes.Split.{Split, split, contents-join, bodies-join, sizes-join, fit_parts}

-- ---- an archive around the place of a PDU

regroup : (h cp e cq bp d bq : List ℕ) → h ++ cp ++ e ++ ((cq ++ bp) ++ d ++ bq) ≡ h ++ ((cp ++ (e ++ cq)) ++ (bp ++ (d ++ bq)))
regroup h cp e cq bp d bq = simp append_assoc

-- where a key stands in the bytes
unfoldable pub place_in : List ℕ → ℕ → Place
place_in b key = seek key header_width (bodies_at b) (held_in b)

module _ (b : List ℕ) (y : are.Bytes b) (ok : is_archive b ≡ true) (key : ℕ) where
  s : Split key header_width (bodies_at b) (held_in b) (place_in b key)
  unfolding place_in
  s = split key header_width (bodies_at b) (held_in b)

  record Parts : Type 0 where
    cp : length (contents_of s.pre) ≡ entry_width * length s.pre
    cm : length (contents_of s.mid) ≡ entry_width * length s.mid
    cq : length (contents_of s.post) ≡ entry_width * length s.post
    bp : length (bodies_of s.pre) ≡ sizes s.pre
    bm : length (bodies_of s.mid) ≡ sizes s.mid
    bq : length (bodies_of s.post) ≡ sizes s.post
    count : count_of b ≡ length s.pre + (length s.mid + length s.post)
    whole : bodies_at b + (sizes s.pre + (sizes s.mid + sizes s.post)) ≡ length b

  parts : Parts
  parts =
      let o = sound b ok in
      let f = fit_parts s.pre (s.mid ++ s.post) (subst AllFit s.is (all_fit (number3 b 0) 0 (held_in b) o.home o.rules)) in
      let g = fit_parts s.mid s.post f.1 in
      let n : length (held_in b) ≡ length (s.pre ++ (s.mid ++ s.post)) = ap length s.is in
      let z : sizes (held_in b) ≡ sizes s.pre + (sizes s.mid + sizes s.post) =
      ap sizes s.is ∙ sizes-join s.pre (s.mid ++ s.post) ∙ ap (λ (k : ℕ). sizes s.pre + k) (sizes-join s.mid s.post)
      in
      record {
        cp = length-contents s.pre;
        cm = length-contents s.mid;
        cq = length-contents s.post;
        bp = length-bodies s.pre f.0;
        bm = length-bodies s.mid g.0;
        bq = length-bodies s.post g.1;
        count = omega (arith, length-held_from b (count_of b) header_width (bodies_at b), simp length-append at n);
        whole = omega (arith, z, o.whole);
      }

  -- the place lies within the bytes
  pub within : Within (place_in b key) b
  within =
      let l = parts in
      record {
        first = omega (arith, s.at-is);
        contents = omega (arith, l.count, s.at-is, s.entries-is, s.off-is);
        bodies = omega (arith, l.whole, s.off-is, s.bits_is);
        small = (sound b ok).small;
      }

  module _ (h : Held) (is : rank h ≡ key) where
    -- the new count, length and bytes
    pub new-count : length (put h (held_in b)) + entries_in (place_in b key).entry ≡ count_of b + 1
    new-count =
        let l = parts in
        let e : length (put h (held_in b)) ≡ length (s.pre ++ (h ∷ s.post)) = ap length (s.put_is h is) in
        omega (arith, l.count, s.entries-is, simp length-append at e)

    pub new-length : spliced_length b (place_in b key) (body_size h) ≡ length_of (with (reading b) h)
    unfolding reading
    new-length =
        let p = place_in b key in
        let l = parts in
        let u = s.put_is h is in
        let e : length (put h (held_in b)) ≡ length s.pre + suc (length s.post) = ap length u ∙ length-append s.pre (h ∷ s.post) in
        let z : sizes (put h (held_in b)) ≡ sizes s.pre + (body_size h + sizes s.post) = ap sizes u ∙ sizes-join s.pre (h ∷ s.post) in
        let a : p.off - next_at p ≡ entry_width * length s.post + sizes s.pre = omega (arith, l.count, s.at-is, s.entries-is, s.off-is) in
        let t : length b - rest_at p ≡ sizes s.post = omega (arith, l.whole, s.off-is, s.bits_is) in
        rw (a, t) (omega (arith, e, z, s.at-is))

    pub new-bytes : spliced b (place_in b key) (length (put h (held_in b))) h.entry h.body ≡ bytes_of (with (reading b) h)
    unfolding reading front_of back_of
    new-bytes =
        let p = place_in b key in
        let cp = contents_of s.pre in
        let cm = contents_of s.mid in
        let cq = contents_of s.post in
        let bp = bodies_of s.pre in
        let bm = bodies_of s.mid in
        let bq = bodies_of s.post in
        let home = number3 b 0 in
        let head = header_bytes home (length (held_in b)) in
        let hl = length-header home (length (held_in b)) in
        let l = parts in
        let cs : contents_of (held_in b) ≡ cp ++ (cm ++ cq) =
        ap contents_of s.is ∙ contents-join s.pre (s.mid ++ s.post) ∙ ap (λ (k : List ℕ). cp ++ k) (contents-join s.mid s.post) in
        let bs : bodies_of (held_in b) ≡ bp ++ (bm ++ bq) =
        ap bodies_of s.is ∙ bodies-join s.pre (s.mid ++ s.post) ∙ ap (λ (k : List ℕ). bp ++ k) (bodies-join s.mid s.post) in
        let w : b ≡ head ++ ((cp ++ (cm ++ cq)) ++ (bp ++ (bm ++ bq))) = sym (written_as-read b y ok) ∙ (λ i. head ++ (cs i ++ bs i)) in
        let p₂ : take (p.at - header_width) (drop header_width b) ≡ cp =
        part_of b head cp ((cm ++ cq) ++ (bp ++ (bm ++ bq))) header_width (p.at - header_width) (w ∙ simp append_assoc) hl
        (omega (arith, l.cp, s.at-is))
        in
        let p₃ : take (p.off - next_at p) (drop (next_at p) b) ≡ cq ++ bp =
        part_of b (head ++ (cp ++ cm)) (cq ++ bp) (bm ++ bq) (next_at p) (p.off - next_at p) (w ∙ simp append_assoc)
        (simp length-append (omega (arith, hl, l.cp, l.cm, s.at-is, s.entries-is)))
        (simp length-append (omega (arith, l.cq, l.bp, l.count, s.at-is, s.entries-is, s.off-is)))
        in
        let p₄ : take (length b - rest_at p) (drop (rest_at p) b) ≡ bq =
        part_of b (head ++ ((cp ++ (cm ++ cq)) ++ (bp ++ bm))) bq [] (rest_at p) (length b - rest_at p) (w ∙ simp (append_assoc, append-nil))
        (simp length-append (omega (arith, hl, l.cp, l.cm, l.cq, l.bp, l.bm, l.count, s.off-is, s.bits_is)))
        (omega (arith, l.bq, l.whole, s.off-is, s.bits_is))
        in
        let n = length (put h (held_in b)) in
        let u = s.put_is h is in
        let cu : contents_of (put h (held_in b)) ≡ cp ++ (entry_bytes h.entry ++ cq) = ap contents_of u ∙ contents-join s.pre (h ∷ s.post) in
        let bu : bodies_of (put h (held_in b)) ≡ bp ++ (h.body ++ bq) = ap bodies_of u ∙ bodies-join s.pre (h ∷ s.post) in
        let at_home = home-is b (omega (arith, (sound b ok).whole)) in
        let r : spliced b p n h.entry h.body ≡ header_bytes home n ++ cp ++ entry_bytes h.entry ++ ((cq ++ bp) ++ h.body ++ bq) =
        λ i. header_bytes (at_home i) n ++ p₂ i ++ entry_bytes h.entry ++ (p₃ i ++ h.body ++ p₄ i)
        in
        r ∙ regroup (header_bytes home n) cp (entry_bytes h.entry) cq bp h.body bq ∙ sym (λ i. header_bytes home n ++ (cu i ++ bu i))
