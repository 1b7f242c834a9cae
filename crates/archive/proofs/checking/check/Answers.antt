-- Entry by entry, what is left to check decides what the check says. Assumes nothing.
use Rattle.std.specs.Prelude.{Ok, Err}
use mathlib.Core.Path.{◌≡◌, sym, ap, ◌∙◌, subst}
use mathlib.Core.Bool.{Bool, true, false}
use mathlib.Core.List.{List}
use Prim.Native.Nat.{ℕ, suc, ◌+◌, ◌-◌, ◌*◌, ◌≤◌, ◌<◌}
use native.Mathlib.Nat.{add-sub_cancel_left}
use native.Mathlib.Omega.{arith}
use borrow.Author.Tests.{leb-true, eq-eqb, ne_eqb}
use lib.ListN.{length, take, drop}
use lib.Dec.{leb, eqb}
use Rattle.bits.specs.Bits.{guard}
use Rattle.bits.specs.Frame.{bytes_for}
use Rattle.bits.proofs.Tests.{both, said-no, said-yes}
use Rattle.archive.specs.Model.{Held, rank_of, header_width, entry_width, body_size, within_limits}
use Rattle.archive.specs.Reading.{number3, count_of, entry_at, held_at}
use Rattle.archive.specs.Refusals.{plain}
use Rattle.archive.specs.Checking.{check_is}
use Rattle.archive.specs.Inner.{agreement_is, may_follow, fault_is}
use Rattle.archive.specs.declared.contents.Entry.{Entry}
use Rattle.archive.proofs.Bytes.Walking.{home-is, home-small}
use Rattle.archive.proofs.Bytes.Checking.{too_short, over-limits, begins, follows-not, room_for}
use Rattle.archive.proofs.Bytes.Checking.{rest_is, rest-shapeless, rest-none, rest-bad, rest-next}
use Rattle.archive.proofs.Model.Checked.{agreed, faulty}
use Rattle.archive.proofs.checking.check.Goals.{After-body_agreement, After-bytes, After-entry_at-entry, After-loop-index, After-may_follow, At-loop-index, Else-not-may_follow, In-loop-index}
use Rattle.archive.proofs.checking.check.Goals as goal

-- the bytes, the home network, where the entry at hand stands, how many are left from it on, and the room behind the bodies so far
abbrev b-of : At-loop-index → List ℕ
b-of l = l.args.archive.now

abbrev home_of : At-loop-index → ℕ
home_of l = l.home-home.result

abbrev place : At-loop-index → ℕ
place l = header_width + entry_width * l.loop-index.index

abbrev left : At-loop-index → ℕ
left l = l.count-count.result - l.loop-index.index

abbrev room : At-loop-index → ℕ
room l = length (b-of l) - l.loop-index.off

-- the entry at hand and its body
abbrev here : At-loop-index → Held
here l = held_at (b-of l) (place l) l.loop-index.off

more : (c : In-loop-index) → 0 < left (goal.at.In-loop-index c).At-loop-index
more c = omega (arith, c.loop-index-test.true)

pub returns-then-size-lt-HEADER : goal.returns-then-size-lt-HEADER
returns-then-size-lt-HEADER c = rw c.plain.ensures (sym (too_short _ (omega arith)))

pub returns-then-not-within_limits : goal.returns-then-not-within_limits
returns-then-not-within_limits c =
    let b = c.args.archive.now in
    let e : within_limits c.count-count.result (length b) ≡ false = said-no c.within_limits.ensures c.if-not-within_limits.true in
    rw c.plain-then-not-within_limits.ensures (sym (over-limits b (rw c.count-count.ensures.0 at e)))

pub returns-then-size-off : goal.returns-then-size-off
returns-then-size-off c = rw c.plain-then-size-off.ensures (sym (too_short _ (omega arith)))

pub loop-index-init : goal.loop-index-init
loop-index-init c =
    let b = c.args.archive.now in
    let e : within_limits c.count-count.result (length b) ≡ true = said-yes c.within_limits.ensures c.if-not-within_limits.false in
    let h : c.home-home.result ≡ number3 b 0 = c.home-home.ensures ∙ home-is b (omega arith) in
    let all : c.count-count.result - 0 ≡ count_of b = omega (arith, c.count-count.ensures.0) in (
      omega arith,
      leb-true _ _ (both (leb c.count-count.result 512) (leb (length b) 65536) e).1,
      record { network = omega arith; ssi = omega arith; part = omega arith },
      rw (h, all, c.count-count.ensures.0) (begins b (λ i. (c.type_inv.archive i).fits) (rw c.count-count.ensures.0 at e)),
    )

may : (c : After-may_follow) →
    let l = (goal.at.After-may_follow c).At-loop-index in
    c.may_follow.result ≡ may_follow (entry_at (b-of l) (place l)) (rank_of c.loop-index.last) (room l)
may c =
    let l = (goal.at.After-may_follow c).At-loop-index in
    c.may_follow.ensures ∙ ap (λ (e : Entry). may_follow e (rank_of c.loop-index.last) (room l)) c.entry_at-entry.ensures.0

pub returns-then-not-may_follow : goal.returns-then-not-may_follow
returns-then-not-may_follow c =
    let at = goal.at.returns-then-not-may_follow c in
    rw c.plain-then-not-may_follow.ensures
    (sym (c.loop-index.invariant.3
    ∙ rest-shapeless _ _ _ _ _ _ _ (follows-not (b-of at.At-loop-index) _ _ _ _ (more at.In-loop-index) (said-no (may at.After-may_follow) c.if-not-may_follow.true))))

-- it may follow, and its body ends inside
followed : (c : Else-not-may_follow) →
    let l = (goal.at.Else-not-may_follow c).At-loop-index in
    may_follow (entry_at (b-of l) (place l)) (rank_of c.loop-index.last) (room l) ≡ true
followed c = said-yes (may (goal.at.Else-not-may_follow c).After-may_follow) c.if-not-may_follow.false

inside : (c : After-bytes) →
    let l = (goal.at.After-bytes c).At-loop-index in
    (c.bytes.result ≡ body_size (here l)) × (c.loop-index.off + c.bytes.result ≤ length (b-of l))
inside c =
    let l = (goal.at.After-bytes c).At-loop-index in
    let size = c.bytes.ensures ∙ ap (λ (e : Entry). bytes_for e.bits.0) c.entry_at-entry.ensures.0 in
    (size, omega (arith, size, room_for (entry_at (b-of l) (place l)) _ _ (followed (goal.at.After-bytes c).Else-not-may_follow), c.loop-index.invariant.0))

agreement : (c : After-body_agreement) →
    let l = (goal.at.After-body_agreement c).At-loop-index in
    c.body_agreement.result ≡ agreement_is (home_of l) (here l)
agreement c =
    let l = (goal.at.After-body_agreement c).At-loop-index in
    let off = c.loop-index.off in
    let n : off + c.bytes.result - off ≡ body_size (here l) = add-sub_cancel_left off c.bytes.result ∙ (inside (goal.at.After-body_agreement c).After-bytes).0 in
    c.body_agreement.ensures
    ∙ (λ i. agreement_is (home_of l) (record { entry = c.entry_at-entry.ensures.0 i; body = take (n i) (drop off (b-of l)) }))

-- its day is in two bytes
dated : (c : After-entry_at-entry) →
    let l = (goal.at.After-entry_at-entry c).At-loop-index in
    (entry_at (b-of l) (place l)).day < 65536
dated c = subst (λ (e : Entry). e.day < 65536) c.entry_at-entry.ensures.0 c.entry_at-entry.ensures.1.day

pub at_fault-requires : goal.at_fault-requires
at_fault-requires c = record {
  entries_in_bounds = (omega (arith, c.loop-index-test.true), (inside (goal.at.at_fault-requires c).After-bytes).1, c.loop-index.invariant.1);
  key_fits = c.entry_at-entry.ensures.1.key;
}

pub returns-in-Err : goal.returns-in-Err
returns-in-Err c =
    let at = goal.at.returns-in-Err c in
    let l = at.At-loop-index in
    let f = faulty (home_of l) (here l) (sym (agreement at.After-body_agreement) ∙ c.in-Err.is) in
    sym
    (c.loop-index.invariant.3
    ∙ rest-bad (b-of l) (home_of l) c.loop-index.index _ _ _ _ (more at.In-loop-index) (dated at.After-entry_at-entry) (followed at.Else-not-may_follow) f.0 f.1
    ∙ (λ i. fault_is (b-of l) (sym c.entry_at-entry.ensures.0 i).key (left l - 1) (place l + entry_width)
    (c.loop-index.off + sym (inside at.After-bytes).0 i) c.loop-index.index c.in-Err.place)
    ∙ sym c.at_fault.ensures)

pub loop-index-preserved : goal.loop-index-preserved
loop-index-preserved c =
    let at = goal.at.loop-index-preserved c in
    let l = at.At-loop-index in
    let b = b-of l in
    let small : home_of l < 16777216 = omega (arith, c.home-home.ensures, home-small b (λ i. (c.type_inv.archive i).fits)) in
    let yes = agreed (home_of l) (here l) (sym (agreement at.After-body_agreement) ∙ c.in_default.is) in
    let rank' : rank_of c.entry_at-entry.result.key ≡ rank_of (entry_at b (place l)).key = ap (λ (e : Entry). rank_of e.key) c.entry_at-entry.ensures.0 in
    let index : suc c.loop-index.index ≡ c.loop-index.index + 1 = omega arith in
    let next : place l + entry_width ≡ header_width + entry_width * (c.loop-index.index + 1) = omega arith in
    let n : left l - 1 ≡ c.count-count.result - (c.loop-index.index + 1) = omega arith in (
      (inside at.After-bytes).1,
      c.loop-index.invariant.1,
      c.entry_at-entry.ensures.1.key,
      c.loop-index.invariant.3
          ∙ rest-next b (home_of l) c.loop-index.index _ _ _ _ (more at.In-loop-index) (dated at.After-entry_at-entry) (followed at.Else-not-may_follow) small yes
          ∙ (λ i. rest_is b (home_of l) (index i) (sym rank' i) (n i) (next i) (c.loop-index.off + sym (inside at.After-bytes).0 i)),
    )

-- all are passed: the bodies end with the bytes, or not
ended : (c : After-loop-index) →
    let b = b-of (goal.at.After-loop-index c).At-loop-index in
    check_is b ≡ guard (eqb c.loop-index.off (length b)) (Err (plain 7)) (Ok tt)
ended c = c.loop-index.invariant.3 ∙ rest-none _ _ _ _ _ _ _ (omega (arith, c.loop-index-test.false))

pub returns-then-off-size : goal.returns-then-off-size
returns-then-off-size c =
    rw c.plain-then-off-size.ensures
    (sym (ended (goal.at.returns-then-off-size c).After-loop-index ∙ ap (λ (t : Bool). guard t (Err (plain 7)) (Ok tt)) (ne_eqb _ _ c.if-off-size.true)))

pub returns : goal.returns
returns c = sym (ended (goal.at.returns c).After-loop-index ∙ ap (λ (t : Bool). guard t (Err (plain 7)) (Ok tt)) (eq-eqb _ _ c.if-off-size.false))

pub overflow_add-end : goal.overflow_add-end
overflow_add-end c =
    omega (arith, (inside c).1)

pub slice_bounds-body_agreement-end : goal.slice_bounds-body_agreement-end
slice_bounds-body_agreement-end c =
    omega (arith, (inside c).1)
