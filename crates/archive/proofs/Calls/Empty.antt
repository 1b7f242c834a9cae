-- The empty archive: what `empty` was given where it wrote, and what it wrote. Assumes nothing.
use Rattle.std.specs.Prelude.{Result, Ok}
use mathlib.Core.Path.{◌≡◌, refl, sym, ap, ◌∙◌}
use mathlib.Core.Bool.{true}
use mathlib.Core.List.{List}
use Prim.Native.Nat.{ℕ}
use native.Mathlib.Omega.{arith}
use lib.ListN.{length, take, drop}
use lib.Seq.{take_at}
use lib.Dec.{ltb, leb}
use borrow.Author.Tests.{ltb-true}
use Rattle.bits.proofs.Tests.{never, picked}
use Rattle.archive.specs.Model.{header_width, bytes_of}
use Rattle.archive.specs.Filing.{keeps_rules, well_formed}
use Rattle.archive.specs.Reading.{reading, is_archive}
use Rattle.archive.specs.Keeping.{leaves, empty_of, empty_is, empty_out}
use Rattle.archive.proofs.Model.Rules.{is-formed}
use Rattle.archive.proofs.Bytes.AsWritten.{length-written, read-as_written, passes}
use Rattle.archive.specs.declared.refusal.Refusal.{Refusal}

empty-formed : (home : ℕ) → ltb home 16777216 ≡ true → well_formed (empty_of home) ≡ true
unfolding keeps_rules
empty-formed home h = is-formed (empty_of home) (record { home = ltb-true home 16777216 h; few = omega arith; small = omega arith; rules = refl })

was-empty : (home room m : ℕ) → empty_is home room ≡ Ok m → (ltb home 16777216 ≡ true) × (m ≡ header_width)
unfolding empty_is
was-empty home room m e =
    let p = picked (ltb home 16777216) e (λ x. never cc) in
    let q = picked (leb header_width room) p.1 (λ x. never cc) in
    (p.0, cc q.1)

-- what `empty` writes is an archive that holds nothing
pub empty_holds : (home : ℕ) (out : List ℕ) (m : ℕ) → empty_is home (length out) ≡ Ok m
    → (is_archive (take m (empty_out home out)) ≡ true) × (reading (take m (empty_out home out)) ≡ empty_of home)
unfolding empty_out
empty_holds home out m e =
    let r = was-empty home (length out) m e in
    let f = empty-formed home r.0 in
    let w = bytes_of (empty_of home) in
    let l : length w ≡ m = length-written (empty_of home) f ∙ sym r.1 in
    let is : take m (empty_out home out) ≡ w = ap (λ (x : Result ℕ Refusal). take m (leaves x w out)) e ∙ take_at w (drop (length w) out) m l in
    (ap is_archive is ∙ passes (empty_of home) f, ap reading is ∙ read-as_written (empty_of home) f)
