-- Elements laid in a buffer, one part after the other: one, none, a part after a part, and room for each. Assumes nothing.
use mathlib.Core.Path.{◌≡◌, refl, sym, ap, ap₂, ◌∙◌}
use mathlib.Core.List.{List, [], ◌∷◌, ◌++◌}
use Prim.Native.Nat.{ℕ, ◌+◌, ◌≤◌, ◌<◌}
use native.Mathlib.Omega.{arith}
use native.Mathlib.Numerals.{add-one}
use lib.ListN.{length, set, length-append}
use lib.Seq.{set_split}
use Rattle.bits.specs.Bits.{splice}
use Rattle.bits.specs.Inner.{Laid}
use Rattle.bits.proofs.Splices.{length-splice, splice-nil, splice-splice}

module _ {A : Type 0} where
  pub one : (out : List A) (at : ℕ) (x : A) → at < length out → Laid out at (x ∷ []) (set out at x) (at + 1)
  one out at x h = record { ends = refl; same = rw (add-one, set_split out at x h) }

  pub none : (out : List A) (at : ℕ) → Laid out at [] out at
  none out at = record { ends = omega arith; same = sym (splice-nil out at) }

  -- one part after the other
  pub then : {out out' out'' s t : List A} {at m end : ℕ} → at ≤ length out → Laid out at s out' m → Laid out' m t out'' end → Laid out at (s ++ t) out'' end
  then {out} {s = s} {t = t} {at = at} h x y = record {
    ends = omega (arith, y.ends, x.ends, length-append s t);
    same = y.same ∙ ap₂ (λ (l : List A) (k : ℕ). splice l k t) x.same x.ends ∙ splice-splice out at s t h;
  }

  -- room for a part, and for what follows it
  pub first_fits : (s t : List A) (at : ℕ) {n : ℕ} → at + length (s ++ t) ≤ n → at + length s ≤ n
  first_fits s t at h = omega (arith, length-append s t)

  pub rest-fits : {out out' s : List A} {at m : ℕ} (t : List A) → at + length (s ++ t) ≤ length out → Laid out at s out' m → m + length t ≤ length out'
  rest-fits {out} {out'} {s} {at} {m} t h x =
      let l : length out' ≡ length out = ap length x.same ∙ length-splice out at s (omega (arith, length-append s t)) in
      omega (arith, l, x.ends, length-append s t)
