-- Bytes that pass the check are the bytes of the archive that they say. Assumes nothing.
use mathlib.Core.Path.{◌≡◌, refl, sym, ap, ◌∙◌}
use mathlib.Core.Bool.{true}
use mathlib.Core.List.{List, [], ◌∷◌, ◌++◌}
use Prim.Native.Nat.{ℕ, zero, suc, ◌+◌, ◌*◌, ◌/◌, ◌%◌, ◌≤◌, ◌<◌}
use native.Mathlib.Nat.{add_assoc}
use native.Mathlib.Omega.{arith}
use lib.ListN.{length, get_or, take, drop, length-drop, take-append-drop}
use lib.Seq.{drop-cons, drop-drop, take-add, take_all}
use Rattle.bits.specs.Bits.{Bytes}
use Rattle.archive.specs.Model.{header_width, entry_width, bytes2, bytes3, header_bytes, entry_bytes, contents_of, bodies_of, bytes_of, sizes}
use Rattle.archive.specs.Reading.{number3, count_of, entry_at, size_at, held_from, bodies_at, held_in, reading, is_archive}
use Rattle.archive.proofs.Bytes.Walking.{length-held_from}
use Rattle.archive.proofs.Bytes.Checking.{sound}

-- ---- numbers in bytes

bytes2-number : {x y : ℕ} → y < 256 → bytes2 (x * 256 + y) ≡ x ∷ y ∷ []
bytes2-number {x} {y} hy =
    let p : (x * 256 + y) / 256 ≡ x = omega arith in
    let q : (x * 256 + y) % 256 ≡ y = omega arith in
    λ i. p i ∷ q i ∷ []

bytes3-number : {x y z : ℕ} → y < 256 → z < 256 → bytes3 (x * 65536 + y * 256 + z) ≡ x ∷ y ∷ z ∷ []
bytes3-number {x} {y} {z} hy hz =
    let p : (x * 65536 + y * 256 + z) / 65536 ≡ x = omega arith in
    let q : (x * 65536 + y * 256 + z) / 256 % 256 ≡ y = omega arith in
    let r : (x * 65536 + y * 256 + z) % 256 ≡ z = omega arith in
    λ i. p i ∷ q i ∷ r i ∷ []

-- n bytes from place `at + k` on, one by one
bytes_from : List ℕ → ℕ → ℕ → ℕ → List ℕ
bytes_from b at k zero = []
bytes_from b at k (suc n) = get_or b (at + k) 0 ∷ bytes_from b at (suc k) n

bytes-from : (b : List ℕ) (at n k : ℕ) → at + k + n ≤ length b → bytes_from b at k n ≡ take n (drop (at + k) b)
unfolding bytes_from
bytes-from b at zero k h = refl
bytes-from b at (suc n) k h =
    let e : at + suc k ≡ suc (at + k) = omega arith in
    ap (λ (l : List ℕ). get_or b (at + k) 0 ∷ l) (bytes-from b at n (suc k) (omega arith) ∙ ap (λ (j : ℕ). take n (drop j b)) e)
    ∙ sym (ap (take (suc n)) (drop-cons b (at + k) 0 (omega arith)))

-- ---- what passes is written as it was read

entry_read : (b : List ℕ) (at : ℕ) → Bytes b → at + entry_width ≤ length b → entry_bytes (entry_at b at) ≡ take entry_width (drop at b)
unfolding entry_bytes bytes_from
entry_read b at y h =
    let z : at + 0 ≡ at = omega arith in
    let n₁ = bytes3-number {x = get_or b at 0} (y (at + 1)) (y (at + 2)) in
    let n₂ = bytes3-number {x = get_or b (at + 3) 0} (y (at + 3 + 1)) (y (at + 3 + 2)) in
    let n₃ = bytes2-number {x = get_or b (at + 7) 0} (y (at + 7 + 1)) in
    let n₄ = bytes2-number {x = get_or b (at + 9) 0} (y (at + 9 + 1)) in
    let r : entry_bytes (entry_at b at) ≡ bytes_from b at 0 entry_width =
    (λ i. n₁ i ++ (n₂ i ++ (get_or b (at + 6) 0 ∷ (n₃ i ++ n₄ i))))
    ∙ rw (z, add_assoc at 3 1, add_assoc at 3 2, add_assoc at 7 1, add_assoc at 9 1)
    in
    r ∙ bytes-from b at entry_width 0 (omega arith) ∙ ap (λ (j : ℕ). take entry_width (drop j b)) z

header_read : (b : List ℕ) → Bytes b → header_width ≤ length b → header_bytes (number3 b 0) (count_of b) ≡ take header_width b
unfolding header_bytes bytes_from
header_read b y h =
    let n₁ = bytes3-number {x = get_or b 0 0} (y 1) (y 2) in
    let n₂ = bytes2-number {x = get_or b 3 0} (y 4) in
    (λ i. n₁ i ++ n₂ i) ∙ bytes-from b 0 header_width 0 h

contents-read : (b : List ℕ) (n at off : ℕ) → Bytes b → at + entry_width * n ≤ length b
    → contents_of (held_from b n at off) ≡ take (entry_width * n) (drop at b)
unfolding held_from
contents-read b zero at off y h = refl
contents-read b (suc n) at off y h =
    let e : entry_width * suc n ≡ entry_width + entry_width * n = omega arith in
    let p = entry_read b at y (omega arith) in
    let q = contents-read b n (at + entry_width) (off + size_at b at) y (omega arith) in
    let r : contents_of (held_from b (suc n) at off) ≡ take entry_width (drop at b) ++ take (entry_width * n) (drop (at + entry_width) b) =
    λ i. p i ++ q i in
    r ∙ rw (e, take-add entry_width (entry_width * n) (drop at b), drop-drop)

bodies-read : (b : List ℕ) (n at off : ℕ) → bodies_of (held_from b n at off) ≡ take (sizes (held_from b n at off)) (drop off b)
unfolding held_from
bodies-read b zero at off = refl
bodies-read b (suc n) at off =
    let m = size_at b at in
    rw (bodies-read b n (at + entry_width) (off + m), take-add m (sizes (held_from b n (at + entry_width) (off + m))) (drop off b), drop-drop)

-- bytes that pass the check are the bytes of the archive that they say
pub written_as-read : (b : List ℕ) → Bytes b → is_archive b ≡ true → bytes_of (reading b) ≡ b
unfolding reading
written_as-read b y ok =
    let s = sound b ok in
    let n = count_of b in
    let w : bodies_at b + sizes (held_in b) ≡ length b = s.whole in
    let e₁ : header_bytes (number3 b 0) (length (held_in b)) ≡ take header_width b =
    ap (header_bytes (number3 b 0)) (length-held_from b n header_width (bodies_at b)) ∙ header_read b y (omega arith)
    in
    let e₂ : contents_of (held_in b) ≡ take (entry_width * n) (drop header_width b) = contents-read b n header_width (bodies_at b) y (omega arith) in
    let e₃ : bodies_of (held_in b) ≡ drop (entry_width * n) (drop header_width b) =
    bodies-read b n header_width (bodies_at b)
    ∙ take_all (sizes (held_in b)) (drop (bodies_at b) b) (simp length-drop (omega arith))
    ∙ sym (drop-drop (entry_width * n) header_width b)
    in
    let r : bytes_of (reading b) ≡ take header_width b ++ (take (entry_width * n) (drop header_width b) ++ drop (entry_width * n) (drop header_width b)) =
    λ i. e₁ i ++ (e₂ i ++ e₃ i)
    in
    r ∙ rw (take-append-drop (entry_width * n) (drop header_width b), take-append-drop header_width b)
