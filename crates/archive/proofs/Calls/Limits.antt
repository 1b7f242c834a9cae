-- The entry count is the number of keys held, the length is header, contents and bodies, and when 8 is given. Assumes nothing.
use Rattle.std.specs.Prelude.{Result, Ok, Err}
use mathlib.Core.Path.{◌≡◌, refl, sym, ap, ◌∙◌}
use mathlib.Core.Bool.{Bool, true, false, not, ◌&&◌, ◌||◌}
use mathlib.Core.List.{List, [], ◌∷◌}
use Prim.Native.Nat.{ℕ, suc, ◌≤◌, ◌<◌}
use native.Mathlib.Omega.{arith}
use lib.ListN.{length}
use lib.Dec.{ltb, leb, eqb}
use borrow.Author.Tests.{leb-true, leb-false, eqb-true, eqb-false, le-leb, lt-leb, le-ltb, lt-ltb}
use Rattle.bits.specs.Bits.{pick}
use Rattle.reader.specs.Read.{answer_of, found_in, read_is}
use Rattle.judging.specs.Judge.{may_hold}
use Rattle.archive.specs.Model.{Held, rank, Rising, no_key, next-key, header_width, length_of}
use Rattle.archive.specs.Filing.{keeps_rules}
use Rattle.archive.specs.Reading.{count_of, bodies_at, held_in, reading, is_archive, Counted}
use Rattle.archive.specs.Refusals.{plain}
use Rattle.archive.specs.Keeping.{put, held_for, captured, placed, capture_is}
use Rattle.archive.specs.Restoring.{lookup}
use Rattle.archive.proofs.Model.Rules.{kept, archive-formed}
use Rattle.archive.proofs.Bytes.Walking.{length-held_from}
use Rattle.archive.proofs.Bytes.Checking.{sound}
use Rattle.archive.proofs.Calls.Capture.{as-placed}
use Rattle.archive.proofs.Model.Put.{is_none, length-put}
use Rattle.archive.specs.declared.refusal.Refusal.{Refusal}

-- ---- the entry count is the number of keys held

rising : (home last : ℕ) (hs : List Held) → keeps_rules home last hs ≡ true → Rising last hs
rising home last [] k = no_key
rising home last (h ∷ hs) k =
    let u = kept home last h hs k in
    next-key u.rises (rising home (rank h) hs u.others)

pub counted : (b : List ℕ) → is_archive b ≡ true → Counted b
unfolding reading
counted b ok =
    let o = sound b ok in
    let l = length-held_from b (count_of b) header_width (bodies_at b) in
    record { count = sym l; once = rising _ 0 (held_in b) o.rules; size = sym (rw l o.whole) }

-- ---- 8 is given exactly for a new key with 512 held, or a result over 65,536 bytes or over the lent buffer

-- a new key with 512 held
abbrev pub full_for : List ℕ → Held → Bool
full_for b h = is_none (lookup h.entry.key (reading b).held) && eqb (length (reading b).held) 512

one_too-many : (c : ℕ) (p : Bool) → c ≤ 512 → leb (pick p (suc c) c) 512 ≡ not (p && eqb c 512)
one_too-many c false h = le-leb c 512 h
one_too-many c true h = go (eqb c 512) refl
  where
    go : (q : Bool) → eqb c 512 ≡ q → leb (suc c) 512 ≡ not q
    go true e = lt-leb (suc c) 512 (omega (arith, eqb-true c 512 e))
    go false e = le-leb (suc c) 512 (omega (arith, eqb-false c 512 e))

over-not : (x y : ℕ) → leb x y ≡ not (ltb y x)
over-not x y = go (leb x y) refl
  where
    go : (p : Bool) → leb x y ≡ p → p ≡ not (ltb y x)
    go true e = sym (ap not (le-ltb y x (leb-true x y e)))
    go false e = sym (ap not (lt-ltb y x (leb-false x y e)))

either : (p q r : Bool) (x y : Result ℕ Refusal) → pick ((not p && not q) && not r) x y ≡ pick (p || (q || r)) y x
either true q r x y = refl
either false true r x y = refl
either false false true x y = refl
either false false false x y = refl

pub eight : (b s : List ℕ) (n day room : ℕ) → day < 65536 → is_archive b ≡ true → answer_of (read_is s n) ≡ Ok tt
    → may_hold (found_in (read_is s n)) ≡ true → let size = length_of (captured b s n day) in
    capture_is b s n day room
    ≡ pick (full_for b (held_for (reading b).home s n day) || (ltb 65536 size || ltb room size)) (Err (plain 8)) (Ok size)
unfolding placed captured
eight b s n day room dated ok a m =
    let h = held_for (reading b).home s n day in
    let f = archive-formed b ok in
    let size = length_of (captured b s n day) in
    let c : leb (length (put h (reading b).held)) 512 ≡ not (full_for b h) =
    ap (λ (k : ℕ). leb k 512) (length-put (reading b).home 0 h (reading b).held f.rules)
    ∙ one_too-many (length (reading b).held) (is_none (lookup h.entry.key (reading b).held)) f.few
    in
    as-placed b s n day room dated ok a m
    ∙ (λ i. pick ((c i && over-not size 65536 i) && over-not size room i) (Ok size) (Err (plain 8)))
    ∙ either (full_for b h) (ltb 65536 size) (ltb room size) (Ok size) (Err (plain 8))
