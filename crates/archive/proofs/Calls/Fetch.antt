-- What the search finds is what is held for the key, and where its body stands. Assumes nothing.
use Rattle.std.specs.Prelude.{Result, Ok, Err, Option, None, Some}
use Rattle.std.specs.Option.{option_map}
use mathlib.Core.Path.{◌≡◌, refl, sym, ap, ◌∙◌, subst}
use mathlib.Core.Bool.{Bool, true, false}
use mathlib.Core.List.{List, [], ◌∷◌}
use Prim.Native.Nat.{ℕ, zero, suc, ◌+◌, ◌≤◌}
use native.Mathlib.Omega.{arith}
use lib.ListN.{length, take, drop}
use lib.Dec.{ltb, eqb}
use borrow.Author.Tests.{ltb-true, ltb-false, ne_eqb}
use Rattle.bits.specs.Frame.{bytes_for}
use Rattle.bits.proofs.Tests.{never}
use Rattle.archive.specs.Model.{Held, rank_of, rank, entry_width, body_size, sizes, in_range}
use Rattle.archive.specs.Filing.{keeps_rules}
use Rattle.archive.specs.Reading.{held_at, size_at, held_from, bodies_at, held_in, reading, is_archive}
use Rattle.archive.specs.Restoring.{body_from, fetch_is, lookup}
use Rattle.archive.specs.Inner.{seek}
use Rattle.archive.specs.declared.contents.Key.{Key}
use Rattle.archive.specs.declared.contents.Entry.{Entry}
use Rattle.archive.specs.declared.Body.{Body}
use Rattle.archive.specs.declared.checking.Place.{Place}
use Rattle.archive.specs.Checking.{check_is}
use Rattle.archive.specs.declared.refusal.Refusal.{Refusal}
use Rattle.archive.proofs.Model.Rules.{Kept, kept}
use Rattle.archive.proofs.Model.Checked.{archive_checked, checked-archive}
use Rattle.archive.proofs.Bytes.Checking.{sound}
use Rattle.archive.proofs.Bytes.Spliced.{place_in}

-- ---- by order or not

-- the body of an entry whose body begins at a place, and what a place says of its key
abbrev pub body_at : ℕ → Option Entry → Option Body
body_at off = option_map (λ e. record { off = off; bits = e.bits; day = e.day })

abbrev pub fetched_of : Place → Option Body
fetched_of p = body_at p.off p.entry

none_above : (home last : ℕ) (key : Key) (off : ℕ) (hs : List Held) → keeps_rules home last hs ≡ true → rank_of key ≤ last
    → body_from key off hs ≡ None
none_above home last key off [] k h = refl
none_above home last key off (x ∷ xs) k h =
    let u = kept home last x xs k in
    rw (ne_eqb (rank x) (rank_of key) (λ (q : rank x ≡ rank_of key). omega (arith, u.rises)))
    (none_above home (rank x) key (off + body_size x) xs u.others (omega (arith, u.rises)))

seek-body : (home last : ℕ) (key : Key) (at off : ℕ) (hs : List Held) → keeps_rules home last hs ≡ true
    → body_from key off hs ≡ fetched_of (seek (rank_of key) at off hs)
unfolding seek
seek-body home last key at off [] k = refl
seek-body home last key at off (x ∷ xs) k = go (ltb (rank x) (rank_of key)) refl (eqb (rank x) (rank_of key)) refl
    (seek-body home (rank x) key (at + entry_width) (off + body_size x) xs (kept home last x xs k).others)
  where
    u : Kept home last x xs
    u = kept home last x xs k

    go : (p : Bool) → ltb (rank x) (rank_of key) ≡ p → (q : Bool) → eqb (rank x) (rank_of key) ≡ q
        → body_from key (off + body_size x) xs ≡ fetched_of (seek (rank_of key) (at + entry_width) (off + body_size x) xs)
        → body_from key off (x ∷ xs) ≡ fetched_of (seek (rank_of key) at off (x ∷ xs))
    go true hp q hq ih =
        let r = ltb-true (rank x) (rank_of key) hp in
        rw (hp, ne_eqb (rank x) (rank_of key) (λ (z : rank x ≡ rank_of key). omega arith)) ih
    go false hp true hq ih = rw (hp, hq)
    go false hp false hq ih =
        let r = ltb-false (rank x) (rank_of key) hp in
        rw (hp, hq) (none_above home (rank x) key (off + body_size x) xs u.others (omega arith))

-- ---- the body that is found is that of the PDU held

pub record BodyIs (b : List ℕ) (at : Body) (o : Option Held) : Type 0 where
  pub held : Held
  pub is : o ≡ Some held
  pub bits : held.entry.bits ≡ at.bits
  pub day-is : held.entry.day ≡ at.day
  pub body : held.body ≡ take (bytes_for at.bits.0) (drop at.off b)
  pub inside : at.off + bytes_for at.bits.0 ≤ length b

abbrev pub Right : List ℕ → Option Body → Option Held → Type 0
Right b (Some at) o = BodyIs b at o
Right b None o = o ≡ None

right-from : (b : List ℕ) (key : Key) (n at off : ℕ) → off + sizes (held_from b n at off) ≤ length b
    → Right b (body_from key off (held_from b n at off)) (lookup key (held_from b n at off))
unfolding held_from
right-from b key zero at off h = refl
right-from b key (suc n) at off h =
    go (eqb (rank (held_at b at off)) (rank_of key)) refl (right-from b key n (at + entry_width) (off + size_at b at) (omega arith))
  where
    go : (p : Bool) → eqb (rank (held_at b at off)) (rank_of key) ≡ p
        → Right b (body_from key (off + size_at b at) (held_from b n (at + entry_width) (off + size_at b at)))
        (lookup key (held_from b n (at + entry_width) (off + size_at b at)))
        → Right b (body_from key off (held_from b (suc n) at off)) (lookup key (held_from b (suc n) at off))
    go true e r = rw e (record { held = held_at b at off; is = refl; bits = refl; day-is = refl; body = refl; inside = omega arith })
    go false e r = rw e r

-- ---- fetch

module _ (b : List ℕ) (k : Key) where
  pub fetch-none : {f : Refusal} → check_is b ≡ Err f → fetch_is b k ≡ Err f
  unfolding fetch_is
  fetch-none e = rw e

  pub fetch_out : is_archive b ≡ true → in_range k ≡ false → fetch_is b k ≡ Ok None
  unfolding fetch_is
  fetch_out e f = rw (archive_checked b e, f)

  pub fetch-place : is_archive b ≡ true → in_range k ≡ true → fetch_is b k ≡ Ok (fetched_of (place_in b (rank_of k)))
  unfolding fetch_is place_in reading
  fetch-place e f = rw (archive_checked b e, f) (ap Ok (seek-body _ 0 k _ (bodies_at b) (held_in b) (sound b e).rules))

  -- in an archive it finds what is held for a user and part in range
  pub fetch-right : is_archive b ≡ true → in_range k ≡ true → {o : Option Body} → fetch_is b k ≡ Ok o → Right b o (lookup k (reading b).held)
  unfolding fetch_is reading
  fetch-right e f {o} t =
      let was = rw (archive_checked b e, f) at t in
      let found : body_from k (bodies_at b) (held_in b) ≡ o = cc in
      subst (λ (o : Option Body). Right b o (lookup k (reading b).held)) found (right-from b k _ _ (bodies_at b) (omega (arith, (sound b e).whole)))

  -- what it found, of a user and part in range: the refusal of what is no archive, or what an archive holds
  module _ (e : in_range k ≡ true) where
    pub fetch-damaged : {f : Refusal} → fetch_is b k ≡ Err f → check_is b ≡ Err f
    unfolding fetch_is
    fetch-damaged {f} t = go (check_is b) refl
      where
        go : (c : Result (Unit {0}) Refusal) → check_is b ≡ c → check_is b ≡ Err f
        go (Ok _) ok = let no = rw ok at t in never cc
        go (Err g) bad = let same = sym (fetch-none bad) ∙ t in bad ∙ cc same

    found_as : {o : Option Body} → fetch_is b k ≡ Ok o → (is_archive b ≡ true) × Right b o (lookup k (reading b).held)
    found_as {o} t = go (check_is b) refl
      where
        go : (c : Result (Unit {0}) Refusal) → check_is b ≡ c → (is_archive b ≡ true) × Right b o (lookup k (reading b).held)
        go (Ok _) ok = let a = checked-archive b ok in (a, fetch-right a e t)
        go (Err g) bad = let no = sym (fetch-none bad) ∙ t in never cc

    pub fetch-missing : fetch_is b k ≡ Ok None → (is_archive b ≡ true) × (lookup k (reading b).held ≡ None)
    fetch-missing t = found_as t

    pub fetch-found : {at : Body} → fetch_is b k ≡ Ok (Some at) → (is_archive b ≡ true) × BodyIs b at (lookup k (reading b).held)
    fetch-found t = found_as t
