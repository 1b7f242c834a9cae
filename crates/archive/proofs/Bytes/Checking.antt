-- The check: what is left of it from an entry on, and what an archive's bytes keep. Assumes nothing.
use Rattle.std.specs.Prelude.{Result, Ok, Err, Option, ℕ}
use mathlib.Core.Path.{◌≡◌, refl, sym, ap, ◌∙◌}
use mathlib.Core.Bool.{Bool, true, false, ◌&&◌}
use mathlib.Core.List.{List, ◌∷◌}
use Prim.Native.Nat.{ℕ, zero, suc, ◌+◌, ◌-◌, ◌≤◌, ◌<◌}
use native.Mathlib.Omega.{arith}
use native.Mathlib.Nat.{not-suc-le-zero}
use lib.ListN.{length}
use lib.Dec.{ltb, leb, eqb}
use borrow.Author.Tests.{eqb-true, leb-true, lt-ltb, le-leb, ne_eqb}
use Rattle.bits.specs.Bits.{guard, Bytes}
use Rattle.bits.specs.Frame.{bytes_for}
use Rattle.bits.proofs.Tests.{differ, false-unless, and-false, both, both⁻¹}
use Rattle.archive.specs.Model.{Held, rank_of, rank, in_range, is_day, header_width, entry_width, sizes, length_of, within_limits}
use Rattle.archive.specs.Filing.{body_agrees, keeps_rules, well_formed}
use Rattle.archive.specs.Reading.{number3, count_of, entry_at, size_at, held_at, held_from, bodies_at, held_in, reading, is_archive}
use Rattle.archive.specs.Refusals.{plain}
use Rattle.archive.specs.Checking.{in_order, has_shape, body_place, bodies_from, check_is}
use Rattle.archive.specs.Inner.{may_follow, rest_shape, fault_is}
use Rattle.archive.specs.declared.contents.Entry.{Entry}
use Rattle.archive.proofs.Model.Rules.{archive-formed}
use Rattle.archive.proofs.Model.Checked.{and_assoc, agrees-ranged}
use Rattle.archive.proofs.Bytes.Walking.{number3-small, held_from-next, length-held_from}
use Rattle.archive.specs.declared.refusal.Refusal.{Refusal}

-- ---- entry by entry

module _ (b : List ℕ) (last n at off : ℕ) (h : 0 < n) where
  abbrev here : Held
  here = held_at b at off

  abbrev rest : List Held
  rest = held_from b (n - 1) (at + entry_width) (off + size_at b at)

  -- an entry that may not follow breaks the shape
  pub follows-not : may_follow (entry_at b at) last (length b - off) ≡ false → rest_shape b last n at off ≡ false
  unfolding may_follow rest_shape in_order
  follows-not e = false-unless (rest_shape b last n at off) (λ t. differ (sym (may t) ∙ e))
    where
      may : rest_shape b last n at off ≡ true → may_follow (entry_at b at) last (length b - off) ≡ true
      may t =
          let k = both (in_order last (here ∷ rest)) (eqb (off + (size_at b at + sizes rest)) (length b)) (rw (held_from-next b n at off h) at t) in
          let p = both (ltb last (rank here)) (in_range here.entry.key && (is_day here.entry.day && in_order (rank here) rest)) k.0 in
          let whole = eqb-true (off + (size_at b at + sizes rest)) (length b) k.1 in
          both⁻¹ p.0 (le-leb (size_at b at) (length b - off) (omega (arith, whole)))

  -- behind one that may, and whose day is in two bytes, its key's range and what is left decide
  pub follows : (entry_at b at).day < 65536 → may_follow (entry_at b at) last (length b - off) ≡ true
      → rest_shape b last n at off
      ≡ in_range here.entry.key && rest_shape b (rank here) (n - 1) (at + entry_width) (off + size_at b at)
  unfolding may_follow rest_shape in_order
  follows d t =
      let p = both (ltb last (rank here)) (leb (size_at b at) (length b - off)) t in
      let e : off + (size_at b at + sizes rest) ≡ off + size_at b at + sizes rest = omega arith in
      rw (held_from-next b n at off h, p.0, lt-ltb _ _ d)
      (ap (λ (k : ℕ). (in_range here.entry.key && in_order (rank here) rest) && eqb k (length b)) e
      ∙ sym (and_assoc (in_range here.entry.key) (in_order (rank here) rest) (eqb (off + size_at b at + sizes rest) (length b))))

-- an entry that may follow has room for its body
pub room_for : (e : Entry) (last room : ℕ) → may_follow e last room ≡ true → bytes_for e.bits.0 ≤ room
unfolding may_follow
room_for e last room t =
    leb-true (bytes_for e.bits.0) room (both (ltb last (rank_of e.key)) (leb (bytes_for e.bits.0) room) t).1

pub shape-none : (b : List ℕ) (last n at off : ℕ) → n ≤ 0 → rest_shape b last n at off ≡ eqb off (length b)
unfolding rest_shape in_order held_from
shape-none b last zero at off h = ap (λ (k : ℕ). eqb k (length b)) (omega arith)
shape-none b last (suc n) at off h = absurd (not-suc-le-zero h)

-- what is left of the check, from the entry at an index on
pub rest_is : List ℕ → ℕ → ℕ → ℕ → ℕ → ℕ → ℕ → Result (Unit {0}) Refusal
rest_is b home i last n at off = guard (rest_shape b last n at off) (Err (plain 7)) (bodies_from home i (held_from b n at off))

module _ (b : List ℕ) (home i last n at off : ℕ) where
  pub rest-shapeless : rest_shape b last n at off ≡ false → rest_is b home i last n at off ≡ Err (plain 7)
  unfolding rest_is
  rest-shapeless e = rw e

  pub rest-none : n ≤ 0 → rest_is b home i last n at off ≡ guard (eqb off (length b)) (Err (plain 7)) (Ok tt)
  unfolding rest_is held_from bodies_from
  rest-none h = rw (shape-none b last n at off h) (ap (λ (c : Result (Unit {0}) Refusal). guard (eqb off (length b)) (Err (plain 7)) c) (go n h))
    where
      go : (m : ℕ) → m ≤ 0 → bodies_from home i (held_from b m at off) ≡ Ok tt
      go zero k = refl
      go (suc m) k = absurd (not-suc-le-zero k)

  module _ (h : 0 < n) (d : (entry_at b at).day < 65536) (m : may_follow (entry_at b at) last (length b - off) ≡ true) where
    pub rest-bad : {p : Option ℕ} → body_agrees home (held_at b at off) ≡ false → body_place (held_at b at off) ≡ p
        → rest_is b home i last n at off ≡ fault_is b (entry_at b at).key (n - 1) (at + entry_width) (off + size_at b at) i p
    unfolding rest_is bodies_from fault_is
    rest-bad e f = rw (follows b last n at off h d m, held_from-next b n at off h, e, f)

    pub rest-next : home < 16777216 → body_agrees home (held_at b at off) ≡ true
        → rest_is b home i last n at off ≡ rest_is b home (suc i) (rank (held_at b at off)) (n - 1) (at + entry_width) (off + size_at b at)
    unfolding rest_is bodies_from
    rest-next k e = rw (follows b last n at off h d m, agrees-ranged home (held_at b at off) k e, held_from-next b n at off h, e)

-- ---- the whole

module _ (b : List ℕ) where
  abbrev total : ℕ
  total = bodies_at b + sizes (held_in b)

  -- the shape in the numbers that the code has
  shape : has_shape b ≡ ltb (number3 b 0) 16777216 && (within_limits (count_of b) total && (in_order 0 (held_in b) && eqb total (length b)))
  unfolding has_shape reading
  shape = rw (length-held_from b (count_of b) header_width (bodies_at b))

  abbrev within : ℕ → Bool
  within size = within_limits (count_of b) size && (in_order 0 (held_in b) && eqb total (length b))

  -- only a total that is the length counts
  as_long : within total ≡ within (length b)
  as_long = go (eqb total (length b)) refl
    where
      go : (e : Bool) → eqb total (length b) ≡ e
          → within_limits (count_of b) total && (in_order 0 (held_in b) && e) ≡ within_limits (count_of b) (length b) && (in_order 0 (held_in b) && e)
      go true h = ap (λ (k : ℕ). within_limits (count_of b) k && (in_order 0 (held_in b) && true)) (eqb-true total (length b) h)
      go false h =
          let none : in_order 0 (held_in b) && false ≡ false = and-false (in_order 0 (held_in b)) refl in
          and-false (within_limits (count_of b) total) none ∙ sym (and-false (within_limits (count_of b) (length b)) none)

  shapeless : has_shape b ≡ false → check_is b ≡ Err (plain 7)
  unfolding check_is
  shapeless e = rw e

  pub too_short : length b < bodies_at b → check_is b ≡ Err (plain 7)
  too_short h =
      let not-all : eqb total (length b) ≡ false = ne_eqb total (length b) (λ (p : total ≡ length b). omega arith) in
      shapeless
      (shape ∙ and-false (ltb (number3 b 0) 16777216)
      (and-false (within_limits (count_of b) total) (and-false (in_order 0 (held_in b)) not-all)))

  pub over-limits : within_limits (count_of b) (length b) ≡ false → check_is b ≡ Err (plain 7)
  over-limits h = shapeless
      (shape ∙ and-false (ltb (number3 b 0) 16777216)
      (as_long ∙ ap (λ (x : Bool). x && (in_order 0 (held_in b) && eqb total (length b))) h))

  pub begins : Bytes b → within_limits (count_of b) (length b) ≡ true → check_is b ≡ rest_is b (number3 b 0) 0 0 (count_of b) header_width (bodies_at b)
  unfolding check_is rest_is rest_shape reading
  begins y h =
      let k : within (length b) ≡ rest_shape b 0 (count_of b) header_width (bodies_at b) =
      ap (λ (x : Bool). x && (in_order 0 (held_in b) && eqb total (length b))) h in
      let s = shape ∙ ap (λ (x : Bool). x && within total) (lt-ltb (number3 b 0) 16777216 (number3-small b 0 y)) ∙ as_long ∙ k in
      rw s

  -- what an archive's bytes keep
  pub record Sound : Type 0 where
    pub home : number3 b 0 < 16777216
    pub few : count_of b ≤ 512
    pub small : length b ≤ 65536
    pub rules : keeps_rules (number3 b 0) 0 (held_in b) ≡ true
    pub whole : total ≡ length b

  pub sound : is_archive b ≡ true → Sound
  unfolding is_archive reading
  sound p =
      let f = archive-formed b p in
      let n = length-held_from b (count_of b) header_width (bodies_at b) in
      let w = eqb-true (length_of (reading b)) (length b) (both (well_formed (reading b)) (eqb (length_of (reading b)) (length b)) p).1 in
      record { home = f.home; few = omega (arith, f.few, n); small = omega (arith, f.small, w); rules = f.rules; whole = omega (arith, w, n) }
