-- The place that the search finds, and what is laid out around it, are those of the archive with the PDU put in. Assumes nothing.
use Rattle.std.specs.Prelude.{Ok}
use mathlib.Core.Path.{◌≡◌, refl, sym, ap, ◌∙◌, subst}
use mathlib.Core.List.{List}
use Prim.Native.Nat.{ℕ, ◌+◌, ◌-◌}
use native.Mathlib.Omega.{arith}
use lib.ListN.{length}
use Rattle.bits.specs.Bits as are
use Rattle.bits.proofs.Tests.{said-no, said-yes}
use Rattle.archive.specs.Model.{Held, Archive, rank, bytes_of, length_of, within_limits}
use Rattle.archive.specs.Reading.{held_in, reading}
use Rattle.archive.specs.Keeping.{over, put}
use Rattle.archive.specs.Inner.{entries_in, Within, filed_in, spliced, spliced_length}
use Rattle.archive.specs.declared.checking.Place.{Place}
use Rattle.archive.proofs.Bytes.Copied.{length-spliced, at_front}
use Rattle.archive.proofs.Bytes.Spliced.{place_in, within, new-count, new-length, new-bytes}
use Rattle.archive.proofs.Calls.Capture.{placed-over, placed-short, placed-whole}
use Rattle.archive.proofs.file.Goals.{After-count, After-find-place, After-spliced_length-size, After-within_limits}
use Rattle.archive.proofs.file.Goals as goal

-- the archive's bytes, the PDU to be held, and the archive with it
abbrev b-of : After-find-place → List ℕ
b-of c = c.args.archive.bytes.now

abbrev h-of : After-find-place → Held
h-of c = record { entry = c.args.entry; body = c.args.body.now }

abbrev filed : After-find-place → Archive
filed c = filed_in (b-of c) c.args.entry c.args.body.now

bytes : (c : After-find-place) → are.Bytes (b-of c)
bytes c = c.args.archive.fit

found : (c : After-find-place) → c.find-place.result ≡ place_in (b-of c) (rank (h-of c))
unfolding place_in
found c = c.find-place.ensures

inside : (c : After-find-place) → Within c.find-place.result (b-of c)
inside c = subst (λ (p : Place). Within p (b-of c)) (sym (found c))
    (within (b-of c) (bytes c) c.args.archive.passed (rank (h-of c)))

counted : (c : After-count) →
    let w = (goal.at.After-count c).After-find-place in
    c.count.result + 1 ≡ length (put (h-of w) (held_in (b-of w))) + entries_in c.find-place.result.entry
counted c =
    let w = (goal.at.After-count c).After-find-place in
    omega (
      arith,
      c.count.ensures.0,
      ap (λ (p : Place). entries_in p.entry) (found w),
      new-count (b-of w) (bytes w) c.args.archive.passed (rank (h-of w)) (h-of w) refl,
    )

sized : (c : After-spliced_length-size) → c.spliced_length-size.result ≡ length_of (filed (goal.at.After-spliced_length-size c).After-find-place)
sized c =
    let w = (goal.at.After-spliced_length-size c).After-find-place in
    c.spliced_length-size.ensures
    ∙ (λ i. spliced_length (b-of w) (found w i) (c.requires.1 i))
    ∙ new-length (b-of w) (bytes w) c.args.archive.passed (rank (h-of w)) (h-of w) refl

limits : (c : After-within_limits) →
    let f = filed (goal.at.After-within_limits c).After-find-place in
    c.within_limits.result ≡ within_limits (length f.held) (length_of f)
unfolding reading
limits c =
    let w = (goal.at.After-within_limits c).After-find-place in
    let n : c.count.result + 1 - c.entries.result ≡ length (put (h-of w) (held_in (b-of w))) = omega (arith, counted (goal.at.After-within_limits c).After-count) in
    c.within_limits.ensures ∙ (λ i. within_limits (n i) (sized (goal.at.After-within_limits c).After-spliced_length-size i))

pub spliced_length-size-requires : goal.spliced_length-size-requires
spliced_length-size-requires c =
    (inside (goal.at.spliced_length-size-requires c).After-find-place, omega (arith, c.requires.1, c.requires.0.bits))

pub returns-then-not-within_limits : goal.returns-then-not-within_limits
returns-then-not-within_limits c = record {
  value = rw c.plain.ensures (placed-over _ _ (said-no (limits (goal.at.returns-then-not-within_limits c).After-within_limits) c.if-not-within_limits.true));
  out_after = refl;
}

pub returns-then-out-size : goal.returns-then-out-size
returns-then-out-size c = record {
  value = rw c.plain-then-out-size.ensures (placed-short _ _ (omega (arith, sized (goal.at.returns-then-out-size c).After-spliced_length-size)));
  out_after = refl;
}

pub splice-requires : goal.splice-requires
splice-requires c = record {
  within = (inside (goal.at.splice-requires c).After-find-place, c.requires.0, omega (arith, c.count.ensures.1));
  body_in_bounds = omega (arith, c.spliced_length-size.ensures, c.if-out-size.false);
}

pub returns : goal.returns
unfolding reading
returns c =
    let w = (goal.at.returns c).After-find-place in
    let n : c.count.result + 1 - c.entries.result ≡ length (put (h-of w) (held_in (b-of w))) = omega (arith, counted (goal.at.returns c).After-count) in
    let x : List ℕ = spliced (b-of w) c.find-place.result (c.count.result + 1 - c.entries.result) c.args.entry c.args.body.now in
    let laid = at_front {s = x} c.splice.ensures in
    let e : x ≡ bytes_of (filed w) =
    (λ i. spliced (b-of w) (found w i) (n i) c.args.entry c.args.body.now)
    ∙ new-bytes (b-of w) (bytes w) c.args.archive.passed (rank (h-of w)) (h-of w) refl
    in
    let l : c.splice.result ≡ length_of (filed w) =
    laid.0 ∙ length-spliced (b-of w) c.find-place.result (c.count.result + 1 - c.entries.result) c.args.entry c.args.body.now (inside w)
    ∙ sym c.spliced_length-size.ensures ∙ sized (goal.at.returns c).After-spliced_length-size
    in record {
      value = ap (λ (k : ℕ). Ok k) l
          ∙ placed-whole _ _ (said-yes (limits (goal.at.returns c).After-within_limits) c.if-not-within_limits.false) (omega (arith, sized (goal.at.returns c).After-spliced_length-size, c.if-out-size.false));
      out_after = laid.1 ∙ ap (λ (k : List ℕ). over k c.args.out.now) e;
    }

pub overflow_sub-count : goal.overflow_sub-count
overflow_sub-count c = omega (arith, counted (goal.at.overflow_sub-count c).After-count)
