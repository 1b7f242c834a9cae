-- Bytes that pass the check are laid as document 01 says, and are read as one archive. Assumes nothing.
use mathlib.Core.Path.{◌≡◌, refl, sym, ap, ◌∙◌, subst}
use mathlib.Core.Logic.{◌↔◌}
use mathlib.Core.Bool.{true}
use mathlib.Core.List.{List, [], ◌∷◌}
use Prim.Native.Nat.{ℕ, zero, suc, ◌+◌, ◌*◌, ◌/◌}
use native.Mathlib.Omega.{arith}
use lib.ListN.{length, take, drop}
use lib.Dec.{eqb}
use borrow.Author.Tests.{eq-eqb}
use Rattle.bits.specs.Bits.{Bytes}
use Rattle.bits.proofs.Tests.{both}
use Rattle.archive.specs.Model.{Held, Archive, sizes, length_of, bytes_of}
use Rattle.archive.specs.Filing.{well_formed}
use Rattle.archive.specs.Reading.{count_of, size_at, held_at, held_from, bodies_at, held_in, reading, is_archive}
use Rattle.archive.proofs.Bytes.Walking.{length-held_from}
use Rattle.archive.proofs.Bytes.Checking.{sound}
use Rattle.archive.proofs.Bytes.AsWritten as writing
use Rattle.promises.specs.Archive as archive
use Rattle.promises.specs.Archive.{WellFormed, Laid, IsArchive}
use Rattle.promises.proofs.Archive.Forming.{formed-says, formed-is}

-- ---- the bytes

laid-reads : (b : List ℕ) (at off : ℕ) (hs : List Held) → Laid b at off hs → held_from b (length hs) at off ≡ hs
unfolding held_from
laid-reads b at off [] l = refl
laid-reads b at off (h ∷ hs) (e, body, more) =
    let size : size_at b at ≡ (h.entry.bits.0 + 7) / 8 = ap (λ (n : ℕ). (n + 7) / 8) (sym e.bits) in
    let here : held_at b at off ≡ h = λ i. record {
      entry = record {
        key = record { network = sym e.network i; ssi = sym e.ssi i; part = sym e.part i };
        bits = record { 0 = sym e.bits i };
        day = sym e.day i;
      };
      body = (ap (λ (n : ℕ). take n (drop off b)) size ∙ sym body) i;
    } in
    let there = laid-reads b (at + 11) (off + (h.entry.bits.0 + 7) / 8) hs more in
    λ i. here i ∷ (ap (λ (n : ℕ). held_from b (length hs) (at + 11) (off + n)) size ∙ there) i

pub laid-size : (b : List ℕ) (at off : ℕ) (hs : List Held) → Laid b at off hs → off + sizes hs ≡ length b
laid-size b at off [] l = omega (arith, l)
laid-size b at off (h ∷ hs) (e, body, more) = omega (arith, laid-size b (at + 11) (off + (h.entry.bits.0 + 7) / 8) hs more)

pub reads-laid : (b : List ℕ) (n at off : ℕ) → off + sizes (held_from b n at off) ≡ length b → Laid b at off (held_from b n at off)
unfolding held_from
reads-laid b zero at off e = omega (arith, e)
reads-laid b (suc n) at off e =
    (record { network = refl; ssi = refl; part = refl; bits = refl; day = refl }, refl, reads-laid b n (at + 11) (off + size_at b at) (omega (arith, e)))

pub archive-says : (b : List ℕ) → is_archive b ≡ true → IsArchive b
unfolding is_archive reading
archive-says b ok =
    let o = sound b ok in
    let n : length (held_in b) ≡ count_of b = length-held_from b (count_of b) 5 (bodies_at b) in
    record {
      archive = reading b;
      formed = formed-says (reading b) (both (well_formed (reading b)) (eqb (length_of (reading b)) (length b)) ok).0;
      home = refl;
      count = n;
      laid = subst (λ (k : ℕ). Laid b 5 (5 + 11 * k) (held_in b)) (sym n) (reads-laid b (count_of b) 5 (bodies_at b) o.whole);
    }

-- an archive that is laid so is the one that is read
pub read_as : (b : List ℕ) (a : Archive) → a.home ≡ archive.three_bytes b 0 → length a.held ≡ archive.two_bytes b 3
    → Laid b 5 (5 + 11 * length a.held) a.held → a ≡ reading b
unfolding reading
read_as b a home count laid =
    let hs = a.held in
    let e : held_in b ≡ hs = ap (λ (n : ℕ). held_from b n 5 (5 + 11 * n)) (sym count) ∙ laid-reads b 5 (5 + 11 * length hs) hs laid in
    λ i. record { home = home i; held = sym e i }

pub archive-read : (b : List ℕ) (k : IsArchive b) → k.archive ≡ reading b
archive-read b k = read_as b k.archive k.home k.count k.laid

pub archive-is : (b : List ℕ) → IsArchive b → is_archive b ≡ true
unfolding is_archive
archive-is b k =
    rw (sym (archive-read b k), formed-is k.archive k.formed)
    (eq-eqb _ _ (laid-size b 5 (5 + 11 * length k.archive.held) k.archive.held k.laid))

pub archive-bytes : (b : List ℕ) → Bytes b → IsArchive b ↔ ((a : Archive) × WellFormed a × (bytes_of a ≡ b))
archive-bytes b y = (
  λ k. let w = writing.passed b y (archive-is b k) in (reading b, formed-says (reading b) w.0, w.1),
  λ k. subst IsArchive k.2 (archive-says (bytes_of k.0) (writing.passes k.0 (formed-is k.0 k.1))),
)
