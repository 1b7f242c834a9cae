-- Where a key splits a list of held PDUs, and what contents, bodies and sizes of joined lists are. Assumes nothing.
use mathlib.Core.Path.{◌≡◌, refl, sym, ap, ◌∙◌}
use mathlib.Core.Bool.{Bool, true, false}
use mathlib.Core.List.{List, [], ◌∷◌, ◌++◌, append_assoc}
use Prim.Native.Nat.{ℕ, ◌+◌, ◌*◌}
use native.Mathlib.Omega.{arith}
use lib.ListN.{length}
use lib.Dec.{ltb, eqb}
use Rattle.archive.specs.Model.{Held, rank, entry_width, entry_bytes, contents_of, bodies_of, body_size, sizes}
use Rattle.archive.specs.Keeping.{put}
use Rattle.archive.specs.Inner.{entries_in, size_in, seek}
use Rattle.archive.specs.declared.checking.Place.{Place}
use Rattle.archive.proofs.Model.Rules.{AllFit, no_more, and-fit}

-- ---- where a key stands in a list

-- those before the place, those at it (none or one) and those after it
pub record Split (key at off : ℕ) (hs : List Held) (p : Place) : Type 0 where
  pub pre : List Held
  pub mid : List Held
  pub post : List Held
  pub is : hs ≡ pre ++ (mid ++ post)
  pub at-is : p.at ≡ at + entry_width * length pre
  pub off-is : p.off ≡ off + sizes pre
  pub entries-is : entries_in p.entry ≡ length mid
  pub bits_is : size_in p.entry ≡ sizes mid
  pub put_is : (h : Held) → rank h ≡ key → put h hs ≡ pre ++ (h ∷ post)

pub split : (key at off : ℕ) (hs : List Held) → Split key at off hs (seek key at off hs)
unfolding seek
split key at off [] =
    record {
      pre = [];
      mid = [];
      post = [];
      is = refl;
      at-is = omega arith;
      off-is = omega arith;
      entries-is = refl;
      bits_is = refl;
      put_is =
          λ h e. refl;
    }
split key at off (x ∷ xs) = go (ltb (rank x) key) refl (eqb (rank x) key) refl (split key (at + entry_width) (off + body_size x) xs)
  where
    go : (p : Bool) → ltb (rank x) key ≡ p → (q : Bool) → eqb (rank x) key ≡ q
        → Split key (at + entry_width) (off + body_size x) xs (seek key (at + entry_width) (off + body_size x) xs)
        → Split key at off (x ∷ xs) (seek key at off (x ∷ xs))
    go true hp q hq s =
        rw hp
        (record {
          pre = x ∷ s.pre;
          mid = s.mid;
          post = s.post;
          is = ap (λ (l : List Held). x ∷ l) s.is;
          at-is = omega (arith, s.at-is);
          off-is = omega (arith, s.off-is);
          entries-is = s.entries-is;
          bits_is = s.bits_is;
          put_is = λ h e. rw (e, hp) (ap (λ (l : List Held). x ∷ l) (s.put_is h e));
        })
    go false hp true hq s =
        rw (hp, hq)
        (record {
          pre = [];
          mid = x ∷ [];
          post = xs;
          is = refl;
          at-is = omega arith;
          off-is = omega arith;
          entries-is = refl;
          bits_is = omega arith;
          put_is = λ h e. rw (e, hp, hq);
        })
    go false hp false hq s =
        rw (hp, hq)
        (record {
          pre = [];
          mid = [];
          post = x ∷ xs;
          is = refl;
          at-is = omega arith;
          off-is = omega arith;
          entries-is = refl;
          bits_is = refl;
          put_is = λ h e. rw (e, hp, hq);
        })

-- ---- joined lists

pub contents-join : (xs ys : List Held) → contents_of (xs ++ ys) ≡ contents_of xs ++ contents_of ys
contents-join [] ys = refl
contents-join (x ∷ xs) ys =
    ap (λ (l : List ℕ). entry_bytes x.entry ++ l) (contents-join xs ys) ∙ sym (append_assoc (entry_bytes x.entry) (contents_of xs) (contents_of ys))

pub bodies-join : (xs ys : List Held) → bodies_of (xs ++ ys) ≡ bodies_of xs ++ bodies_of ys
bodies-join [] ys = refl
bodies-join (x ∷ xs) ys = ap (λ (l : List ℕ). x.body ++ l) (bodies-join xs ys) ∙ sym (append_assoc x.body (bodies_of xs) (bodies_of ys))

pub sizes-join : (xs ys : List Held) → sizes (xs ++ ys) ≡ sizes xs + sizes ys
sizes-join [] ys = omega arith
sizes-join (x ∷ xs) ys = omega (arith, sizes-join xs ys)

pub fit_parts : (xs ys : List Held) → AllFit (xs ++ ys) → (AllFit xs) × (AllFit ys)
fit_parts [] ys f = (no_more, f)
fit_parts (x ∷ xs) ys (and-fit f fs) =
    let r = fit_parts xs ys fs in
    (and-fit f r.0, r.1)
