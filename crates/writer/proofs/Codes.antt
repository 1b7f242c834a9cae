-- Codes of a few bits each, put as one run: the digits of an external number, services. Assumes nothing.
use mathlib.Core.Path.{◌≡◌, refl, sym, ap, ap₂, ◌∙◌, subst}
use mathlib.Core.Bool.{Bool, true, false}
use mathlib.Core.List.{List, [], ◌∷◌, ◌++◌, append-nil, append_assoc}
use Prim.Native.Nat.{ℕ, zero, suc, ◌+◌, ◌-◌, ◌*◌, ◌/◌, ◌%◌, ◌^◌, ◌≤◌, ◌<◌, min}
use native.Mathlib.Numerals.{add-one}
use native.Mathlib.Omega.{arith}
use lib.ListN.{length, take, drop, get_or, length-append, length-drop}
use lib.Seq.{take-nil, take_at, take-add, take-suc, take-take, drop-drop, length-take-le}
use lib.Dec.{leb}
use borrow.Author.Tests.{leb-true, leb-false}
use Rattle.bits.specs.Bits.{bits_of}
use Rattle.bits.specs.Lists.{Each}
use Rattle.bits.proofs.Numbers.{length-bits_of, bits_of_add, bits_of-parts, bits_of-join}
use Rattle.bits.proofs.Lists.{take-used}
use Rattle.codec.specs.Parts.{number, absent, element, seq, tested, shaped}
use Rattle.codec.specs.Places.{nil, cons, places}
use Rattle.grammar.specs.Grammar.{external, services}
use Rattle.grammar.specs.declared.record.Services.{Services}
use Rattle.words.specs.RecordWords.{word, narrow, narrowed, number_from, services_from}
use Rattle.words.proofs.LegalRecords.{Small, SmallNumber}
use Rattle.writer.specs.Inner.{code_bits, CodesAfter}
use Rattle.writer.proofs.Runs.{low_bits}

-- ---- codes of w bits

module _ (w : ℕ) where
  code_bits_append : (a b : List ℕ) → code_bits w (a ++ b) ≡ code_bits w a ++ code_bits w b
  unfolding code_bits
  code_bits_append [] b = refl
  code_bits_append (d ∷ a) b = ap (λ (l : List Bool). bits_of w d ++ l) (code_bits_append a b) ∙ sym
      (append_assoc (bits_of w d) (code_bits w a) (code_bits w b))

  length-code_bits : (l : List ℕ) → length (code_bits w l) ≡ w * length l
  unfolding code_bits
  length-code_bits [] = omega arith
  length-code_bits (d ∷ l) = omega (arith, length-append (bits_of w d) (code_bits w l), length-bits_of w d, length-code_bits l)

  pub no-codes : (start : ℕ) → CodesAfter w 0 start [] start
  unfolding code_bits
  no-codes start v =
      let none : v + w * 0 ≡ v = omega arith in
      ap (λ (n : ℕ). bits_of n start) none ∙ sym (append-nil (bits_of v start))

  -- one code more
  pub more-codes : (t : List ℕ) (i start run : ℕ) → i < length t → CodesAfter w i start (take i t) run
      → CodesAfter w (i + 1) start (take (i + 1) t) (run * 2 ^ w + get_or t i 0 % 2 ^ w)
  unfolding code_bits
  more-codes t i start run inside sofar v =
      let d : ℕ = get_or t i 0 in
      let size : v + w * (i + 1) ≡ v + w * i + w = omega arith in
      let next : take (i + 1) t ≡ take i t ++ (d ∷ []) = ap (λ (n : ℕ). take n t) (add-one i) ∙ take-suc t i 0 inside in
      ap (λ (n : ℕ). bits_of n (run * 2 ^ w + d % 2 ^ w)) size
      ∙ bits_of-join (v + w * i) w run d
      ∙ ap (λ (l : List Bool). l ++ bits_of w d) (sofar v)
      ∙ append_assoc (bits_of v start) (code_bits w (take i t)) (bits_of w d)
      ∙ ap (λ (l : List Bool). bits_of v start ++ l)
      (sym (ap (code_bits w) next ∙ code_bits_append (take i t) (d ∷ []) ∙ ap (λ (l : List Bool). code_bits w (take i t) ++ l)
      (append-nil (bits_of w d))))

  -- codes, and others after them
  codes-then : (a b : List ℕ) (j k start x y : ℕ) → CodesAfter w j start a x → CodesAfter w k 0 b y → y < 2 ^ (w * k)
      → CodesAfter w (j + k) start (a ++ b) (x * 2 ^ (w * k) + y)
  unfolding bits_of
  codes-then a b j k start x y p q few v =
      let size : v + w * (j + k) ≡ v + w * j + w * k = omega arith in
      let none : 0 + w * k ≡ w * k = omega arith in
      ap (λ (n : ℕ). bits_of n (x * 2 ^ (w * k) + y)) size
      ∙ bits_of-parts (v + w * j) (w * k) x y few
      ∙ ap₂ (λ (l r : List Bool). l ++ r) (p v) (ap (λ (n : ℕ). bits_of n y) (sym none) ∙ q 0)
      ∙ append_assoc (bits_of v start) (code_bits w a) (code_bits w b)
      ∙ ap (λ (l : List Bool). bits_of v start ++ l) (sym (code_bits_append a b))

  -- of j + k codes after a number, the first j
  fewer-codes : (t : List ℕ) (j k start run : ℕ) → j + k ≤ length t → CodesAfter w (j + k) start (take (j + k) t) run
      → CodesAfter w j start (take j t) (run / 2 ^ (w * k))
  fewer-codes t j k start run long whole v =
      let m : ℕ = w * k in
      let n : ℕ = v + w * j in
      let size : v + w * (j + k) ≡ n + m = omega arith in
      let own : List Bool = bits_of n (run / 2 ^ m) in
      let front : List Bool = bits_of v start ++ code_bits w (take j t) in
      let rest : List Bool = code_bits w (take k (drop j t)) in
      let both : own ++ bits_of m run ≡ front ++ rest =
      sym (bits_of_add n m run) ∙ ap (λ (x : ℕ). bits_of x run) (sym size) ∙ whole v
      ∙ ap (λ (l : List Bool). bits_of v start ++ l) (ap (code_bits w) (take-add j k t) ∙ code_bits_append (take j t) (take k (drop j t)))
      ∙ sym (append_assoc (bits_of v start) (code_bits w (take j t)) rest) in
      sym (take_at own (bits_of m run) n (length-bits_of n (run / 2 ^ m)))
      ∙ ap (take n) both
      ∙ take_at front rest n
      (length-append (bits_of v start) (code_bits w (take j t)) ∙ ap₂ (λ (x y : ℕ). x + y) (length-bits_of v start)
      (length-code_bits (take j t) ∙ ap (λ (x : ℕ). w * x) (length-take-le j t (omega arith))))

  -- the codes of a list of which the first n are used
  print-codes : (refuse : ℕ → ℕ) (m n : ℕ) (l : List ℕ) → length l ≡ m → (places (element w refuse) absent m n).print l ≡ code_bits w (take n l)
  unfolding places cons nil element tested number absent code_bits
  print-codes refuse zero n [] e = ap (code_bits w) (sym (take-nil n))
  print-codes refuse zero n (d ∷ l) e = absurd (omega arith)
  print-codes refuse (suc m) n [] e = absurd (omega arith)
  print-codes refuse (suc m) zero (d ∷ l) e = print-codes refuse m zero l (omega arith)
  print-codes refuse (suc m) (suc n) (d ∷ l) e = ap (λ (x : List Bool). bits_of w d ++ x) (print-codes refuse m n l (omega arith))

-- four digits after a number
pub four-codes : (t : List ℕ) (start : ℕ) → 4 ≤ length t → CodesAfter 4 4 start (take 4 t)
    ((((start * 16 + get_or t 0 0 % 16) * 16 + get_or t 1 0 % 16) * 16 + get_or t 2 0 % 16) * 16 + get_or t 3 0 % 16)
four-codes t start inside =
    more-codes 4 t 3 start _ (omega arith) (more-codes 4 t 2 start _ (omega arith) (more-codes 4 t 1 start _ (omega arith)
    (more-codes 4 t 0 start start (omega arith) (no-codes 4 start))))

-- twelve are four, four and four
pub twelve-codes : (t : List ℕ) (start x y z : ℕ) → CodesAfter 4 4 start (take 4 t) x → CodesAfter 4 4 0 (take 4 (drop 4 t)) y → y < 65536
    → CodesAfter 4 4 0 (take 4 (drop 8 t)) z → z < 65536 → CodesAfter 4 12 start (take 12 t) ((x * 65536 + y) * 65536 + z)
twelve-codes t start x y z p q fewer r few =
    let all : (take 4 t ++ take 4 (drop 4 t)) ++ take 4 (drop 8 t) ≡ take 12 t =
    ap (λ (l : List ℕ). l ++ take 4 (drop 8 t)) (sym (take-add 4 4 t)) ∙ sym (take-add 8 4 t) in
    subst (λ (l : List ℕ). CodesAfter 4 12 start l ((x * 65536 + y) * 65536 + z)) all
    (codes-then 4 _ _ 8 4 start (x * 65536 + y) z (codes-then 4 _ _ 4 4 start x y p q fewer) r few)

-- of `count` codes of w bits after a number, the first j, where m bits stand after them
first-codes : (w count m : ℕ) (t : List ℕ) (j start run : ℕ) → j ≤ count → count ≤ length t → m ≡ w * (count - j) → CodesAfter w count start
    (take count t) run
    → CodesAfter w j start (take j t) (run / 2 ^ m)
first-codes w count m t j start run few long e whole =
    let all : count ≡ j + (count - j) = omega arith in
    subst (λ (x : ℕ). CodesAfter w j start (take j t) (run / 2 ^ x)) (sym e)
    (fewer-codes w t j (count - j) start run (omega arith) (subst (λ (x : ℕ). CodesAfter w x start (take x t) run) all whole))

-- ---- an external number

-- no word of it is wider than a byte
narrowed-small : (s : List ℕ) → Each Small (narrowed s) → narrowed s ≡ s
unfolding narrowed
narrowed-small [] h = refl
narrowed-small (x ∷ s) (h, t) = let e : narrow x ≡ x = omega arith in λ i. e i ∷ narrowed-small s t i

-- the first n of 24 digits, in two halves
halves : (n early late : ℕ) (v : List ℕ) → 24 ≤ length v → early ≡ min n 12 → early + late ≡ min n 24
    → take n (take 24 v) ≡ take early v ++ take late (drop 12 v)
halves n early late v long he hl = sym (take-used (take 24 v) n (length-take-le 24 v long) hl) ∙ take-take (early + late) 24 v (omega arith) ∙ go
    (leb n 12) refl
  where
    go : (b : Bool) → leb n 12 ≡ b → take (early + late) v ≡ take early v ++ take late (drop 12 v)
    go true h =
        let le = leb-true n 12 h in
        let none : late ≡ 0 = omega arith in
        let sum : early + late ≡ early = omega arith in
        ap (λ (i : ℕ). take i v) sum ∙ sym (append-nil (take early v)) ∙ ap (λ (i : ℕ). take early v ++ take i (drop 12 v)) (sym none)
    go false h =
        let gt = leb-false n 12 h in
        let twelve : early ≡ 12 = omega arith in
        take-add early late v ∙ ap (λ (i : ℕ). take early v ++ take late (drop i v)) twelve

module _ (s : List ℕ) (long : 25 ≤ length s) (small : SmallNumber (number_from s)) where
  pub length-small : word s 0 < 255
  unfolding number_from
  length-small = omega (arith, small.small.0)

  -- its length and the digits that stand with it, and the others
  pub number-front : (early late x : ℕ) → early ≡ min (word s 0) 12 → early + late ≡ min (word s 0) 24
      → CodesAfter 4 12 (word s 0) (take 12 (drop 1 s)) x
      → external.print (number_from s) ≡ bits_of (5 + 4 * early) (x / 2 ^ (48 - 4 * early)) ++ code_bits 4 (take late (drop 13 s))
  unfolding external number_from shaped seq element tested number bits_of
  number-front early late x he hl hx =
      let n : ℕ = word s 0 in
      let v : List ℕ = drop 1 s in
      let w : List ℕ = drop 13 s in
      let later : drop 12 v ≡ w = drop-drop 12 1 s in
      let same : narrow n ≡ n = omega (arith, small.small.0) in
      let plain : narrowed (take 24 v) ≡ take 24 v = narrowed-small (take 24 v) small.small.1 in
      let early-bits : bits_of (5 + 4 * early) (x / 2 ^ (48 - 4 * early)) ≡ bits_of 5 n ++ code_bits 4 (take early v) =
      first-codes 4 12 (48 - 4 * early) v early n x (omega arith) (omega (arith, length-drop 1 s)) (omega arith) hx 5
      in
      ap₂ (λ (a b : List Bool). a ++ b) (ap (bits_of 5) same)
      (print-codes 4 _ 24 (narrow n) (narrowed (take 24 v)) small.digits
      ∙ ap (code_bits 4) (ap₂ (λ (k : ℕ) (l : List ℕ). take k l) same plain
      ∙ halves n early late v (omega (arith, length-drop 1 s)) he hl ∙ ap (λ (l : List ℕ). take early v ++ take late l) later)
      ∙ code_bits_append 4 (take early v) (take late w))
      ∙ sym (append_assoc (bits_of 5 n) (code_bits 4 (take early v)) (code_bits 4 (take late w)))
      ∙ ap (λ (l : List Bool). l ++ code_bits 4 (take late w)) (sym early-bits)

  -- the others, after k bits that stand before them
  pub number-rest : (k late x y : ℕ) → k ≤ 8 → late ≤ 12 → CodesAfter 4 12 (x % 256) (take 12 (drop 13 s)) y
      → bits_of (k + 4 * late) (y / 2 ^ (48 - 4 * late)) ≡ bits_of k x ++ code_bits 4 (take late (drop 13 s))
  number-rest k late x y few twelve hy =
      let w : List ℕ = drop 13 s in
      first-codes 4 12 (48 - 4 * late) w late (x % 256) y twelve (omega (arith, length-drop 13 s)) (omega arith) hy k
      ∙ ap (λ (l : List Bool). l ++ code_bits 4 (take late w)) (low_bits k 8 x few)

-- ---- services

-- a lead of k bits, the number of services, and as many of them
pub services-run : (s : List ℕ) (used k lead x : ℕ) → 8 ≤ length s → used ≡ min (word s 0) 7
    → CodesAfter 3 7 (lead * 8 + word s 0 % 8) (take 7 (drop 1 s)) x
    → (seq (number k) (λ v. services)).print (lead, services_from s) ≡ bits_of (k + 3 + 3 * used) (x / 2 ^ (21 - 3 * used))
unfolding services services_from shaped seq element tested number
services-run s used k lead x long few hx =
    let n : ℕ = word s 0 in
    let v : List ℕ = drop 1 s in
    let codes : List Bool = code_bits 3 (take used v) in
    let full : length (take 7 v) ≡ 7 = length-take-le 7 v (omega (arith, length-drop 1 s)) in
    ap (λ (l : List Bool). bits_of k lead ++ (bits_of 3 n ++ l))
    (print-codes 3 _ 7 n (take 7 v) full
    ∙ ap (code_bits 3) (sym (take-used (take 7 v) n full few) ∙ take-take used 7 v (omega arith)))
    ∙ sym (append_assoc (bits_of k lead) (bits_of 3 n) codes)
    ∙ ap (λ (l : List Bool). l ++ codes) (sym (bits_of-join k 3 lead n))
    ∙ sym (first-codes 3 7 (21 - 3 * used) v used (lead * 8 + n % 8) x (omega arith) (omega (arith, length-drop 1 s)) (omega arith) hx
    (k + 3))

-- elements that are the bits of a lead, before the services and what follows them
pub services-led : (k lead : ℕ) (s : Services) {front : List Bool} (last : List Bool) → front ≡ bits_of k lead
    → front ++ (services.print s ++ last) ≡ (seq (number k) (λ v. services)).print (lead, s) ++ last
unfolding seq number
services-led k lead s last e = ap (λ (l : List Bool). l ++ (services.print s ++ last)) e ∙ sym (append_assoc (bits_of k lead) (services.print s) last)
