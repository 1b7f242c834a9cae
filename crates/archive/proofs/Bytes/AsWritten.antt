-- What is written for a well-formed archive reads back, and passes the check: an archive has one reading. Assumes nothing.
use mathlib.Core.Path.{◌≡◌, refl, sym, ap, ◌∙◌}
use mathlib.Core.Bool.{true}
use mathlib.Core.List.{List, [], ◌∷◌, ◌++◌, append_assoc}
use Prim.Native.Nat.{ℕ, ◌+◌, ◌*◌, ◌/◌}
use native.Mathlib.Nat.{add_assoc}
use native.Mathlib.Omega.{arith}
use lib.ListN.{length, get_or, take, drop, length-append}
use lib.Seq.{take_at, drop_at, get_or-append-add}
use borrow.Author.Tests.{eq-eqb}
use Rattle.bits.specs.Bits.{Bytes}
use Rattle.bits.proofs.Tests.{both}
use Rattle.archive.specs.Model.{Held, Archive, header_width, entry_width, header_bytes, entry_bytes}
use Rattle.archive.specs.Model.{contents_of, bodies_of, bytes_of, body_size, sizes, length_of}
use Rattle.archive.specs.Filing.{well_formed}
use Rattle.archive.specs.Reading.{number2, number3, count_of, size_at, held_at, held_from, reading, is_archive}
use Rattle.archive.specs.declared.contents.Entry.{Entry}
use Rattle.archive.proofs.Model.Bodies.{Fits}
use Rattle.archive.proofs.Model.Rules.{AllFit, and-fit, all_fit, formed}
use Rattle.archive.proofs.Bytes.AsRead.{written_as-read}

-- the byte at k after a front that ends at `at`
seam : (b p q : List ℕ) (at k : ℕ) → b ≡ p ++ q → length p ≡ at → get_or b (at + k) 0 ≡ get_or q k 0
seam b p q at k e l = rw (e, ← l) (get_or-append-add p q k 0)

-- the part x between p and q
pub part_of : (b p x q : List ℕ) (off n : ℕ) → b ≡ p ++ (x ++ q) → length p ≡ off → length x ≡ n → take n (drop off b) ≡ x
part_of b p x q off n e l m = rw (e, drop_at p (x ++ q) off l) (take_at x q n m)

held_back : (b : List ℕ) (h : Held) (at off : ℕ) (p q p' q' : List ℕ) → Fits h
    → b ≡ p ++ (entry_bytes h.entry ++ q) → length p ≡ at → b ≡ p' ++ (h.body ++ q') → length p' ≡ off → held_at b at off ≡ h
unfolding entry_bytes
held_back b h at off p q p' q' f e l e' l' =
    let x = h.entry in
    let g : (k : ℕ) → get_or b (at + k) 0 ≡ get_or (entry_bytes x ++ q) k 0 = λ k. seam b p (entry_bytes x ++ q) at k e l in
    let z : at ≡ at + 0 = omega arith in
    let g₀ : get_or b at 0 ≡ x.key.network / 65536 = ap (λ (j : ℕ). get_or b j 0) z ∙ g 0 in
    let n : number3 b at ≡ x.key.network = omega (arith, g₀, g 1, g 2, f.entry.key.network) in
    let s₁ : get_or b (at + 3 + 1) 0 ≡ get_or (entry_bytes x ++ q) 4 0 = ap (λ (j : ℕ). get_or b j 0) (add_assoc at 3 1) ∙ g 4 in
    let s₂ : get_or b (at + 3 + 2) 0 ≡ get_or (entry_bytes x ++ q) 5 0 = ap (λ (j : ℕ). get_or b j 0) (add_assoc at 3 2) ∙ g 5 in
    let s : number3 b (at + 3) ≡ x.key.ssi = omega (arith, g 3, s₁, s₂, f.entry.key.ssi) in
    let t₁ : get_or b (at + 7 + 1) 0 ≡ get_or (entry_bytes x ++ q) 8 0 = ap (λ (j : ℕ). get_or b j 0) (add_assoc at 7 1) ∙ g 8 in
    let t : number2 b (at + 7) ≡ x.bits.0 = omega (arith, g 7, t₁, f.entry.bits) in
    let u₁ : get_or b (at + 9 + 1) 0 ≡ get_or (entry_bytes x ++ q) 10 0 = ap (λ (j : ℕ). get_or b j 0) (add_assoc at 9 1) ∙ g 10 in
    let u : number2 b (at + 9) ≡ x.day = omega (arith, g 9, u₁, f.entry.day) in
    let d : take (size_at b at) (drop off b) ≡ h.body =
    ap (λ (j : ℕ). take ((j + 7) / 8) (drop off b)) t ∙ part_of b p' h.body q' off (body_size h) e' l' f.full
    in
    λ i. record { entry = record { key = record { network = n i; ssi = s i; part = g 6 i }; bits = record { 0 = t i }; day = u i }; body = d i }

length-entry : (e : Entry) → length (entry_bytes e) ≡ entry_width
unfolding entry_bytes
length-entry e = refl

-- p stands before the contents that are left, q between them and the bodies that are left
held_from-back : (hs : List Held) (b p q : List ℕ) (at off : ℕ) → AllFit hs → b ≡ p ++ (contents_of hs ++ (q ++ bodies_of hs))
    → length p ≡ at → length p + length (contents_of hs) + length q ≡ off → held_from b (length hs) at off ≡ hs
unfolding held_from
held_from-back [] b p q at off f e l m = refl
held_from-back (h ∷ hs) b p q at off (and-fit x xs) e l m =
    let w = length-entry h.entry in
    let n = length-append (entry_bytes h.entry) (contents_of hs) in
    let here : held_at b at off ≡ h =
    held_back b h at off p (contents_of hs ++ (q ++ bodies_of (h ∷ hs))) (p ++ (contents_of (h ∷ hs) ++ q)) (bodies_of hs) x
    (e ∙ simp append_assoc) l (e ∙ simp append_assoc) (simp length-append (omega arith))
    in
    let there : held_from b (length hs) (at + entry_width) (off + body_size h) ≡ hs =
    held_from-back hs b (p ++ entry_bytes h.entry) (q ++ h.body) (at + entry_width) (off + body_size h) xs
    (e ∙ simp append_assoc) (simp length-append (omega arith)) (simp length-append (omega (arith, x.full)))
    in
    let same : size_at b at ≡ body_size h = ap body_size here in
    λ i. here i ∷ (ap (λ (k : ℕ). held_from b (length hs) (at + entry_width) (off + k)) same ∙ there) i

pub length-contents : (hs : List Held) → length (contents_of hs) ≡ entry_width * length hs
length-contents [] = refl
length-contents (h ∷ hs) = omega (arith, length-append (entry_bytes h.entry) (contents_of hs), length-entry h.entry, length-contents hs)

pub length-bodies : (hs : List Held) → AllFit hs → length (bodies_of hs) ≡ sizes hs
length-bodies [] f = refl
length-bodies (h ∷ hs) (and-fit x xs) = length-append h.body (bodies_of hs) ∙ (λ i. x.full i + length-bodies hs xs i)

pub length-header : (home count : ℕ) → length (header_bytes home count) ≡ header_width
unfolding header_bytes
length-header home count = refl

all-fits : (a : Archive) → well_formed a ≡ true → AllFit a.held
all-fits a w =
    let f = formed a w in
    all_fit a.home 0 a.held f.home f.rules

-- the length is header, contents and bodies, and nothing else
pub length-written : (a : Archive) → well_formed a ≡ true → length (bytes_of a) ≡ length_of a
length-written a w =
    simp length-append
    (omega (arith, length-header a.home (length a.held), length-contents a.held, length-bodies a.held (all-fits a w)))

-- what is written for a well-formed archive reads as that archive
pub read-as_written : (a : Archive) → well_formed a ≡ true → reading (bytes_of a) ≡ a
unfolding reading header_bytes
read-as_written a w =
    let f = formed a w in
    let b = bytes_of a in
    let h : number3 b 0 ≡ a.home = omega (arith, f.home) in
    let c : count_of b ≡ length a.held = omega (arith, f.few) in
    let d : held_from b (length a.held) header_width (header_width + entry_width * length a.held) ≡ a.held =
    held_from-back a.held b (header_bytes a.home (length a.held)) [] header_width (header_width + entry_width * length a.held)
    (all-fits a w) refl refl (omega (arith, length-contents a.held))
    in
    λ i. record { home = h i; held = (ap (λ (k : ℕ). held_from b k header_width (header_width + entry_width * k)) c ∙ d) i }

-- no two well-formed archives have the same bytes
pub one-reading : (a a' : Archive) → well_formed a ≡ true → well_formed a' ≡ true → bytes_of a ≡ bytes_of a' → a ≡ a'
one-reading a a' w w' e = sym (read-as_written a w) ∙ ap reading e ∙ read-as_written a' w'

-- exactly the bytes of a well-formed archive pass
pub passes : (a : Archive) → well_formed a ≡ true → is_archive (bytes_of a) ≡ true
unfolding is_archive
passes a w = rw (read-as_written a w, w) (eq-eqb _ _ (sym (length-written a w)))

pub passed : (b : List ℕ) → Bytes b → is_archive b ≡ true → (well_formed (reading b) ≡ true) × (bytes_of (reading b) ≡ b)
unfolding is_archive
passed b y ok = ((both (well_formed (reading b)) _ ok).0, written_as-read b y ok)
