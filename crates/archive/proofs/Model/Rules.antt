-- What the rules say of an archive, entry by entry and as a whole. Assumes nothing.
use mathlib.Core.Path.{◌≡◌}
use mathlib.Core.Bool.{true, ◌&&◌}
use mathlib.Core.List.{List, [], ◌∷◌}
use Prim.Native.Nat.{ℕ, ◌≤◌, ◌<◌}
use lib.ListN.{length}
use lib.Dec.{ltb, leb, eqb}
use borrow.Author.Tests.{ltb-true, leb-true, lt-ltb, le-leb}
use Rattle.bits.proofs.Tests.{both, both⁻¹}
use Rattle.archive.specs.Model.{Held, Archive, rank, is_day, length_of, within_limits}
use Rattle.archive.specs.Filing.{body_agrees, keeps_rules, well_formed}
use Rattle.archive.specs.Reading.{reading, is_archive}
use Rattle.archive.proofs.Model.Bodies.{agrees-says, Fits, fits}

pub data AllFit : List Held → Type 0 where
  no_more : AllFit []
  and-fit : {h : Held} {hs : List Held} → Fits h → AllFit hs → AllFit (h ∷ hs)

-- ---- an archive that keeps the rules

pub record Kept (home last : ℕ) (h : Held) (hs : List Held) : Type 0 where
  pub rises : last < rank h
  pub day : h.entry.day < 65536
  pub agrees : body_agrees home h ≡ true
  pub others : keeps_rules home (rank h) hs ≡ true

pub kept : (home last : ℕ) (h : Held) (hs : List Held) → keeps_rules home last (h ∷ hs) ≡ true → Kept home last h hs
unfolding keeps_rules
kept home last h hs e =
    let p = both (ltb last (rank h)) (is_day h.entry.day && (body_agrees home h && keeps_rules home (rank h) hs)) e in
    let d = both (is_day h.entry.day) (body_agrees home h && keeps_rules home (rank h) hs) p.1 in
    let q = both (body_agrees home h) (keeps_rules home (rank h) hs) d.1 in
    record { rises = ltb-true _ _ p.0; day = ltb-true _ _ d.0; agrees = q.0; others = q.1 }

pub is-kept : (home last : ℕ) (h : Held) (hs : List Held) → Kept home last h hs → keeps_rules home last (h ∷ hs) ≡ true
unfolding keeps_rules
is-kept home last h hs k = both⁻¹ (lt-ltb _ _ k.rises) (both⁻¹ (lt-ltb _ _ k.day) (both⁻¹ k.agrees k.others))

pub all_fit : (home last : ℕ) (hs : List Held) → home < 16777216 → keeps_rules home last hs ≡ true → AllFit hs
all_fit home last [] h e = no_more
all_fit home last (x ∷ xs) h e =
    let k = kept home last x xs e in
    and-fit (fits home x h (agrees-says home x k.agrees) k.day) (all_fit home (rank x) xs h k.others)

pub record Formed (a : Archive) : Type 0 where
  pub home : a.home < 16777216
  pub few : length a.held ≤ 512
  pub small : length_of a ≤ 65536
  pub rules : keeps_rules a.home 0 a.held ≡ true

pub formed : (a : Archive) → well_formed a ≡ true → Formed a
unfolding well_formed
formed a e =
    let p = both (ltb a.home 16777216) (within_limits (length a.held) (length_of a) && keeps_rules a.home 0 a.held) e in
    let q = both (within_limits (length a.held) (length_of a)) (keeps_rules a.home 0 a.held) p.1 in
    let t = both (leb (length a.held) 512) (leb (length_of a) 65536) q.0 in
    record { home = ltb-true _ _ p.0; few = leb-true _ _ t.0; small = leb-true _ _ t.1; rules = q.1 }

-- the rules of an archive's bytes
pub archive-formed : (b : List ℕ) → is_archive b ≡ true → Formed (reading b)
unfolding is_archive
archive-formed b ok = formed (reading b) (both (well_formed (reading b)) (eqb (length_of (reading b)) (length b)) ok).0

pub is-formed : (a : Archive) → Formed a → well_formed a ≡ true
unfolding well_formed
is-formed a f = both⁻¹ (lt-ltb _ _ f.home) (both⁻¹ (both⁻¹ (le-leb _ _ f.few) (le-leb _ _ f.small)) f.rules)
