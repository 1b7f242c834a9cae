-- The one law of the walk: among the entries of a list at a place, some entry matches exactly if the decoded list has it. Assumes nothing.
use mathlib.Core.Path.{◌≡◌, refl, sym, ap, ap₂, ◌∙◌, subst}
use mathlib.Core.Bool.{Bool, true, false, ◌||◌}
use mathlib.Core.List.{List}
use Prim.Native.Nat.{ℕ, suc, ◌+◌, ◌-◌, ◌≤◌, ◌<◌}
use native.Mathlib.Nat.{sub-zero}
use native.Mathlib.Omega.{arith}
use lib.ListN.{take}
use Rattle.bits.specs.Lists.{some}
use Rattle.codec.specs.Codec.{Codec}
use Rattle.codec.specs.Places.{places}
use Rattle.codec.specs.Reading.{got, read_at}
use Rattle.codec.proofs.Filling.{places-rest}
use Rattle.reader.specs.Inner.{Read, Reads}
use Rattle.in_place.specs.Inner.{Says}
use Rattle.in_place.proofs.Splits.{Consed, split-cons, says_is}

-- The loop's invariant: of n entries in m places, from `start` on, i were passed; the next stands at `at`. What was found so far, or is to be
-- found in those that are left, is found in the whole list.
pub record Along {A : Type 0} (c z : Codec A) (test : A → Bool) (m n : ℕ) (s : List Bool) (start i at : ℕ) (has : Bool) : Type 0 where
  pub within : i ≤ n
  pub fits : n ≤ m
  pub whole : List A
  pub end : ℕ
  pub all : Read (places c z m n) s start whole end
  pub left : List A
  pub read : Read (places c z (m - i) (n - i)) s at left end
  pub same : has || some test (take (n - i) left) ≡ some test (take n whole)

module _ {A : Type 0} {c z : Codec A} {test : A → Bool} {m n : ℕ} {s : List Bool} {start : ℕ} where
  pub along-none : n ≤ m → Reads (places c z m n) s start → Along c z test m n s start 0 start false
  along-none h r = record {
    within = omega arith;
    fits = h;
    whole = r.value;
    end = r.end;
    all = r.read;
    left = r.value;
    read = rw (sub-zero m, sub-zero n) r.read;
    same = rw (sub-zero n);
  }

  module _ {i at : ℕ} {has : Bool} (a : Along c z test m n s start i at has) where
    -- an entry, then the others
    split : i < n → Consed c (places c z (m - (i + 1)) (n - (i + 1))) s at a.left a.end
    unfolding places
    split k =
        let em : m - i ≡ suc (m - (i + 1)) = omega (arith, a.fits) in
        let en : n - i ≡ suc (n - (i + 1)) = omega arith in
        split-cons c (places c z (m - (i + 1)) (n - (i + 1)))
        (subst (λ (x : Codec (List A)). Read x s at a.left a.end) (ap₂ (places c z) em en) a.read)

    pub along-next : i < n → Reads c s at
    along-next k = let x = split k in record { value = x.entry; end = x.middle; read = x.first }

    pub along-more : {hit now : Bool} {next : ℕ} → i < n → Says c test s at hit next → now ≡ has || hit
        → Along c z test m n s start (i + 1) next now
    unfolding some
    along-more {hit} {now} {next} k e o =
        let x = split k in
        let h = says_is e x.first in
        let en : n - i ≡ suc (n - (i + 1)) = omega arith in
        let rest : Bool = some test (take (n - (i + 1)) x.others) in
        let was : has || (test x.entry || rest) ≡ some test (take n a.whole) = rw (en, x.is) at a.same in
        record {
          within = omega arith;
          fits = a.fits;
          whole = a.whole;
          end = a.end;
          all = a.all;
          left = x.others;
          read = subst (λ (p : ℕ). Read (places c z (m - (i + 1)) (n - (i + 1))) s p x.others a.end) (sym h.1) x.then;
          same = ap (λ (t : Bool). t || rest) o ∙ joined has hit rest ∙ ap (λ (t : Bool). has || (t || rest)) h.0 ∙ was;
        }
      where
        joined : (p q r : Bool) → (p || q) || r ≡ p || (q || r)
        joined true q r = refl
        joined false q r = refl

    -- at the first that is found
    pub along-found : {hit : Bool} {next : ℕ} → i < n → Says c test s at hit next → hit ≡ true
        → Says (places c z m n) (λ l. some test (take n l)) s start true a.end
    unfolding some
    along-found k e f =
        let x = split k in
        let here : test x.entry ≡ true = sym (says_is e x.first).0 ∙ f in
        let en : n - i ≡ suc (n - (i + 1)) = omega arith in
        let rest : Bool = some test (take (n - (i + 1)) x.others) in
        let was : has || (test x.entry || rest) ≡ some test (take n a.whole) = rw (en, x.is) at a.same in
        record { value = a.whole; read = a.all; says = sym (always has) ∙ rw here at was }
      where
        always : (p : Bool) → p || true ≡ true
        always true = refl
        always false = refl

    -- after the last
    pub along-all : {none : A} → n ≤ i → ((p : ℕ) → read_at z s p ≡ got none p)
        → Says (places c z m n) (λ l. some test (take n l)) s start has at
    unfolding some
    along-all {none} last hz =
        let l : n - i ≡ 0 = omega arith in
        let r : read_at (places c z (m - i) 0) s at ≡ got a.left a.end = rw l at a.read.same in
        let q = places-rest c z s none hz (m - i) at in
        let e : a.end ≡ at = cc (r, q) in
        let t : has || false ≡ some test (take n a.whole) = rw l at a.same in
        record { value = a.whole; read = rw e at a.all; says = sym (nothing has) ∙ t }
      where
        nothing : (p : Bool) → p || false ≡ p
        nothing true = refl
        nothing false = refl
