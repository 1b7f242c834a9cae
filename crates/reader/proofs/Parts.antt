-- What a part needs where the whole is read, and what the whole has where its parts are stored: a law for each way to build a codec.
-- Assumes nothing.
use mathlib.Core.Path.{◌≡◌, sym, ap, ◌∙◌, subst}
use mathlib.Core.Bool.{Bool, true}
use mathlib.Core.List.{List, ◌∷◌, ◌++◌}
use Prim.Native.Nat.{ℕ, ◌+◌}
use Rattle.codec.specs.Codec.{Codec}
use Rattle.codec.specs.Parts.{number, number_fault, element, seq, tested, shaped, mark, only, first-none}
use Rattle.codec.specs.Places.{places}
use Rattle.codec.specs.Reading.{got, and_next, unless_at, read_at}
use Rattle.codec.proofs.Reading.{read_at-seq, read_at-tested, read_at-shaped, read_at-legal, mark-at}
use Rattle.grammar.specs.SiteSheet.{entries_of}
use Rattle.walk.proofs.Numbers.{element-says}
use Rattle.reader.specs.Inner.{Read, Reads, Fillable, Fills, ranged, ranged_words}
use Rattle.reader.proofs.Elements.{steps, first_reads, passed, number-end}

-- ---- one part after another

module _ {A B : Type 0} (c : Codec A) (d : A → Codec B) {s : List Bool} {at : ℕ} where
  pub reads_first : Reads (seq c d) s at → Reads c s at
  reads_first r = first_reads (steps _ _ (sym (read_at-seq c d s at) ∙ r.read.same))

  pub reads-next : {a : A} {m : ℕ} → Reads (seq c d) s at → Read c s at a m → Reads (d a) s m
  reads-next {a} {m} r e =
      let whole : read_at (seq c d) s at ≡ and_next (read_at (d a) s m) (λ b end. got (a, b) end) = read_at-seq c d s at ∙ rw e.same in
      first_reads (steps _ _ (sym whole ∙ r.read.same))

  pub read-then : {a : A} {b : B} {m end : ℕ} → Read c s at a m → Read (d a) s m b end → Read (seq c d) s at (a, b) end
  read-then e f = record { same = read_at-seq c d s at ∙ rw (e.same, f.same) }

  pub fill-then : (g : A → List ℕ) {h : B → List ℕ} {m end : ℕ} {w w' : List ℕ}
      → (p : Fills c g s at w m) → Fills (d p.value) h s m w' end → Fills (seq c d) (λ p. g p.0 ++ h p.1) s at (w ++ w') end
  fill-then g p f = record { value = (p.value, f.value); read = read-then p.read f.read; same = λ i. p.same i ++ f.same i }

  pub seq-parts : {p : A × B} {end : ℕ} → Read (seq c d) s at p end → (m : ℕ) × Read c s at p.0 m × Read (d p.0) s m p.1 end
  seq-parts {p} {end} r =
      let a = steps (read_at c s at) (λ x m. and_next (read_at (d x) s m) (λ y e. got (x, y) e)) (sym (read_at-seq c d s at) ∙ r.same) in
      let b = steps (read_at (d a.value) s a.next) (λ y e. got (a.value, y) e) a.then in
      let q : (a.value, b.value) ≡ p = cc in
      let e : b.next ≡ end = cc in
      subst (λ (t : A × B). (m : ℕ) × Read c s at t.0 m × Read (d t.0) s m t.1 end) q
      (a.next, record { same = a.first }, record { same = b.first ∙ ap (λ (x : ℕ). got b.value x) e })

-- ---- a part under another shape

module _ {A B : Type 0} (c : Codec A) (to : A → B) (from : B → A)
    (there : (a : A) → c.clean a ≡ true → c.fault a ≡ 0 → from (to a) ≡ a) (back : (b : B) → to (from b) ≡ b) {s : List Bool} {at : ℕ} where
  pub reads-shaped : Reads (shaped c to from there back) s at → Reads c s at
  reads-shaped r = first_reads (steps _ _ (sym (read_at-shaped c to from there back s at) ∙ r.read.same))

  pub fill-shaped : {f : A → List ℕ} {g : B → List ℕ} {end : ℕ} {w : List ℕ} → ((a : A) → f a ≡ g (to a))
      → Fills c f s at w end → Fills (shaped c to from there back) g s at w end
  fill-shaped e f = record {
    value = to f.value;
    read = record { same = read_at-shaped c to from there back s at ∙ rw f.read.same };
    same = f.same ∙ e f.value;
  }

-- ---- a part with a test after it, which a legal PDU passes

module _ {A : Type 0} (c : Codec A) (refuse into : A → ℕ) {s : List Bool} {at : ℕ} (r : Reads (tested c refuse into) s at) where
  pub reads-tested : Reads c s at
  reads-tested = first_reads (steps _ _ (sym (read_at-tested c refuse into s at) ∙ r.read.same))

  pub tested-read : {a : A} {end : ℕ} → Read c s at a end → Read (tested c refuse into) s at a end
  tested-read {a} {end} e =
      let x = steps (read_at c s at) (λ v m. unless_at (refuse v) (at + into v) (got v m)) (sym (read_at-tested c refuse into s at) ∙ r.read.same)
      in
      let va : x.value ≡ a = cc (x.first, e.same) in
      let t : refuse a ≡ 0 = rw va at (passed (refuse x.value) (at + into x.value) (got x.value x.next) x.then).0 in
      record { same = read_at-tested c refuse into s at ∙ rw (e.same, t) }

module _ (w : ℕ) (refuse : ℕ → ℕ) {s : List Bool} {at : ℕ} (r : Reads (element w refuse) s at) where
  pub reads-element : Reads (number w) s at
  unfolding element
  reads-element = reads-tested (number w) refuse (λ v. 0) r

  pub element-read : {v end : ℕ} → Read (number w) s at v end → Read (element w refuse) s at v end
  unfolding element
  element-read e = tested-read (number w) refuse (λ v. 0) r e

-- ---- a number, and what it says follows: a range type, a count, a length

module _ {A B : Type 0} (w : ℕ) (refuse : ℕ → ℕ) (d : ℕ → Codec A) (to : ℕ × A → B) (from : B → ℕ × A)
    (there : (p : ℕ × A) → (seq (element w refuse) d).clean p ≡ true → (seq (element w refuse) d).fault p ≡ 0 → from (to p) ≡ p)
    (back : (b : B) → to (from b) ≡ b) {s : List Bool} {at : ℕ} (r : Reads (shaped (seq (element w refuse) d) to from there back) s at) where
  pub head-reads : Reads (number w) s at
  head-reads = reads-element w refuse (reads_first _ d (reads-shaped _ to from there back r))

  head_read : {v m : ℕ} → Read (number w) s at v m → Read (element w refuse) s at v m
  head_read e = element-read w refuse (reads_first _ d (reads-shaped _ to from there back r)) e

  -- its test was passed
  pub head_passed : {v m : ℕ} → Read (number w) s at v m → refuse v ≡ 0
  unfolding element tested number
  head_passed {v} {m} e =
      (first-none (number_fault w v) (refuse v) (read_at-legal (element w refuse) s at v m (head_read e).same).0.faultless).1

  pub rest-reads : {v m : ℕ} → Read (number w) s at v m → Reads (d v) s m
  rest-reads e = reads-next _ d (reads-shaped _ to from there back r) (head_read e)

  pub headed_fill : {h : A → List ℕ} {g : B → List ℕ} {v m end : ℕ} {words : List ℕ} → ((p : ℕ × A) → p.0 ∷ h p.1 ≡ g (to p))
      → Read (number w) s at v m → Fills (d v) h s m words end
      → Fills (shaped (seq (element w refuse) d) to from there back) g s at (v ∷ words) end
  headed_fill {h} {v = v} same e f =
      fill-shaped _ to from there back same
      (record { value = (v, f.value); read = read-then _ d (head_read e) f.read; same = ap (λ (x : List ℕ). v ∷ x) f.same })

-- ---- a range type and its entries, with tests or without

module _ {A B : Type 0} (refuse : ℕ → ℕ) (d : ℕ → Codec (List A)) (to : ℕ × List A → B) (from : B → ℕ × List A)
    (there : (p : ℕ × List A) → (seq (element 4 refuse) d).clean p ≡ true → (seq (element 4 refuse) d).fault p ≡ 0 → from (to p) ≡ p)
    (back : (b : B) → to (from b) ≡ b) {s : List Bool} {at : ℕ} (r : Reads (shaped (seq (element 4 refuse) d) to from there back) s at)
    (c z : Codec A) where
  pub ranged-reads : ((v m : ℕ) → Reads (d v) s m → Reads (places c z 8 (entries_of v)) s m) → Reads (ranged c z) s at
  ranged-reads enter =
      let h = head-reads 4 refuse d to from there back r in
      let t = enter h.value h.end (rest-reads 4 refuse d to from there back r h.read) in
      record { value = (h.value, t.value); end = t.end; read = read-then _ _ h.read t.read }

  pub ranged-fill : (f : A → List ℕ) {g : B → List ℕ} {end : ℕ} {words : List ℕ} → ((p : ℕ × List A) → ranged_words f p ≡ g (to p))
      → ((v m end : ℕ) (l : List A) → Reads (d v) s m → Read (places c z 8 (entries_of v)) s m l end → Read (d v) s m l end)
      → Fills (ranged c z) (ranged_words f) s at words end → Fills (shaped (seq (element 4 refuse) d) to from there back) g s at words end
  ranged-fill f {end = end} same leave p =
      let q = seq-parts _ _ p.read in
      let v = p.value in
      let k = rest-reads 4 refuse d to from there back r q.1 in
      fill-shaped _ to from there back same
      (record { value = v; read = read-then _ d (head_read 4 refuse d to from there back r q.1) (leave v.0 q.0 end v.1 k q.2); same = p.same })

-- ---- how many places are used, by an equation

module _ {A : Type 0} (c z : Codec A) (m : ℕ) {n k : ℕ} (e : n ≡ k) {s : List Bool} {at : ℕ} where
  pub reads-used : Reads (places c z m k) s at → Reads (places c z m n) s at
  reads-used r = subst (λ (x : ℕ). Reads (places c z m x) s at) (sym e) r

  pub fill-used : {f : List A → List ℕ} {end : ℕ} {w : List ℕ} → Fills (places c z m n) f s at w end → Fills (places c z m k) f s at w end
  fill-used {f} {end} {w} p = subst (λ (x : ℕ). Fills (places c z m x) f s at w end) e p

-- ---- a part that the PDU does not carry: zeros

pub none_fill : {A : Type 0} (c : Codec A) (f : A → List ℕ) (v : A) {s : List Bool} {at : ℕ} → read_at c s at ≡ got v at
    → {w : List ℕ} → w ≡ f v → Fills c f s at w at
none_fill c f v e z = record { value = v; read = record { same = e }; same = z }

-- ---- a fixed number before a part: it has no word

module _ {A : Type 0} (w v : ℕ) (c : Codec A) {s : List Bool} {at : ℕ} (r : Reads (mark w v c) s at) where
  mark-read : read_at (mark w v c) s at ≡ read_at c s (at + w)
  mark-read =
      let x = steps (read_at (element w (only v)) s at) (λ n m. read_at c s m) (sym (mark-at w v c s at) ∙ r.read.same) in
      mark-at w v c s at ∙ rw x.first (ap (read_at c s) (number-end s at w (element-says w (only v) s at x.first).0))

  pub reads-mark : Reads c s (at + w)
  reads-mark = record { value = r.value; end = r.end; read = record { same = sym mark-read ∙ r.read.same } }

  pub fill-mark : {f : A → List ℕ} {end : ℕ} {words : List ℕ} → Fills c f s (at + w) words end → Fills (mark w v c) f s at words end
  fill-mark f = record { value = f.value; read = record { same = mark-read ∙ f.read.same }; same = f.same }

-- ---- a part by another name

module _ {A : Type 0} {c d : Codec A} (e : c ≡ d) where
  pub fillable-by : {s : List ℕ} {at n : ℕ} {w : List ℕ} → Fillable c s at w n → Fillable d s at w n
  fillable-by {s} {at} {n} {w} p = subst (λ (x : Codec A). Fillable x s at w n) e p

  pub fill-by : {f : A → List ℕ} {s : List Bool} {at end : ℕ} {w : List ℕ} → Fills d f s at w end → Fills c f s at w end
  fill-by {f} {s} {at} {end} {w} p = subst (λ (x : Codec A). Fills x f s at w end) (sym e) p

-- what was stored is what is read, whoever reads it
pub fills-is : {A : Type 0} {c : Codec A} {f : A → List ℕ} {s : List Bool} {at end e : ℕ} {w : List ℕ} {v : A}
    → Fills c f s at w end → Read c s at v e → w ≡ f v
fills-is {f = f} {v = v} p r =
    let q : p.value ≡ v = cc (p.read.same, r.same) in
    p.same ∙ ap f q
