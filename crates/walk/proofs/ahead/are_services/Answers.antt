-- The mask has the high bit of each service, and a service is legal exactly if that bit is 0. Assumes nothing.
use mathlib.Core.Path.{◌≡◌, refl, sym, ap, ap₂, ◌∙◌}
use mathlib.Core.Bool.{◌&&◌}
use Prim.Native.Nat.{ℕ, zero, suc, ◌+◌, ◌*◌, ◌/◌, ◌%◌, ◌≤◌, ◌<◌, min}
use native.Mathlib.Omega.{arith}
use borrow.Author.Tests.{ne_eqb}
use lib.Bits.{bit_and, and_step, and_zero_r}
use lib.Dec.{eqb}
use Rattle.grammar.specs.SiteSheet.{service_of, service_refusal}
use Rattle.walk.specs.Inner.{passing}
use Rattle.walk.proofs.ahead.are_services.Goals as goal

-- the mask of k services
mask : ℕ → ℕ
mask zero = 0
mask (suc k) = mask k * 8 + 4

low_bit : (v m r : ℕ) → r < 2 → bit_and v (m * 2 + r) ≡ bit_and (v / 2) m * 2 + min (v % 2) r
low_bit v m r h =
    let half : (m * 2 + r) / 2 ≡ m = omega arith in
    let odd : (m * 2 + r) % 2 ≡ r = omega arith in
    and_step v (m * 2 + r) ∙ ap₂ (λ (x y : ℕ). bit_and (v / 2) x * 2 + min (v % 2) y) half odd

three : (x y z w i j k : ℕ) → x ≡ y * 2 + min i 0 → y ≡ z * 2 + min j 0 → z ≡ w * 2 + min k 1 → k < 2 → x ≡ w * 8 + k * 4
three x y z w i j k a b d h = omega arith

-- the high bit of the last service, and the services before it
mask_step : (v m : ℕ) → bit_and v (m * 8 + 4) ≡ bit_and (v / 8) m * 8 + v / 4 % 2 * 4
mask_step v m =
    let p : m * 8 + 4 ≡ (m * 4 + 2) * 2 + 0 = omega arith in
    let q : m * 4 + 2 ≡ (m * 2 + 1) * 2 + 0 = omega arith in
    let eighth : v / 2 / 2 / 2 ≡ v / 8 = omega arith in
    let a : bit_and v (m * 8 + 4) ≡ bit_and (v / 2) (m * 4 + 2) * 2 + min (v % 2) 0 = ap (bit_and v) p ∙ low_bit v (m * 4 + 2) 0 (omega arith) in
    let b : bit_and (v / 2) (m * 4 + 2) ≡ bit_and (v / 2 / 2) (m * 2 + 1) * 2 + min (v / 2 % 2) 0 = ap (bit_and (v / 2)) q
    ∙ low_bit (v / 2) (m * 2 + 1) 0 (omega arith) in
    let d : bit_and (v / 2 / 2) (m * 2 + 1) ≡ bit_and (v / 8) m * 2 + min (v / 2 / 2 % 2) 1 =
    low_bit (v / 2 / 2) m 1 (omega arith) ∙ ap (λ (x : ℕ). bit_and x m * 2 + min (v / 2 / 2 % 2) 1) eighth in
    let same : v / 2 / 2 % 2 ≡ v / 4 % 2 = omega arith in
    three _ _ _ (bit_and (v / 8) m) (v % 2) (v / 2 % 2) (v / 2 / 2 % 2) a b d (omega arith) ∙ ap (λ (k : ℕ). bit_and (v / 8) m * 8 + k * 4) same

legal : (r : ℕ) → r < 4 → service_refusal r ≡ 0
unfolding service_refusal service_of
legal zero h = refl
legal (suc zero) h = refl
legal (suc (suc zero)) h = refl
legal (suc (suc (suc zero))) h = refl
legal (suc (suc (suc (suc r)))) h = absurd (omega arith)

refused : (r : ℕ) → 4 ≤ r → service_refusal r ≡ 3
unfolding service_refusal service_of
refused r h = rw (ne_eqb r 0 (λ e. omega arith), ne_eqb r 1 (λ e. omega arith), ne_eqb r 2 (λ e. omega arith), ne_eqb r 3 (λ e. omega arith))

masked : (k v : ℕ) → eqb (bit_and v (mask k)) 0 ≡ passing service_refusal 3 k v
unfolding mask passing
masked zero v = rw (and_zero_r v)
masked (suc k) v = ap (λ (x : ℕ). eqb x 0) (mask_step v (mask k)) ∙ go (v / 4 % 2) refl (masked k (v / 8))
  where
    go : (b : ℕ) → v / 4 % 2 ≡ b → eqb (bit_and (v / 8) (mask k)) 0 ≡ passing service_refusal 3 k (v / 8)
        → eqb (bit_and (v / 8) (mask k) * 8 + b * 4) 0 ≡ eqb (service_refusal (v % 8)) 0 && passing service_refusal 3 k (v / 8)
    go zero e rest = rw (legal (v % 8) (omega arith)) (eighths (bit_and (v / 8) (mask k)) ∙ rest)
      where
        eighths : (x : ℕ) → eqb (x * 8 + 0 * 4) 0 ≡ eqb x 0
        eighths zero = refl
        eighths (suc x) = ne_eqb (suc x * 8 + 0 * 4) 0 (λ e. omega arith) ∙ sym (ne_eqb (suc x) 0 (λ e. omega arith))
    go (suc b) e rest = rw (refused (v % 8) (omega arith)) (ne_eqb (bit_and (v / 8) (mask k) * 8 + suc b * 4) 0 (λ z. omega arith))

pub returns : goal.returns
unfolding mask
returns c = masked 7 c.args.list
