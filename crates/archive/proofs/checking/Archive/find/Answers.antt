-- Entry by entry, the search from there on finds what the whole search finds. Assumes nothing.
use mathlib.Core.Path.{◌≡◌, refl, sym, ap, ◌∙◌}
use mathlib.Core.Bool.{true, false}
use mathlib.Core.List.{List}
use Prim.Native.Nat.{ℕ, ◌+◌, ◌-◌, ◌*◌, ◌<◌}
use native.Mathlib.Omega.{arith}
use lib.ListN.{length}
use lib.Dec.{ltb}
use borrow.Author.Tests.{ltb-true, ltb-false}
use Rattle.bits.specs.Frame.{bytes_for}
use Rattle.bits.proofs.Tests.{differ}
use Rattle.archive.specs.Model.{Held, rank_of, rank, header_width, entry_width, body_size, sizes}
use Rattle.archive.specs.Reading.{count_of, held_at, held_from, held_in, bodies_at}
use Rattle.archive.specs.Inner.{place_of, gap_at, seek}
use Rattle.archive.specs.declared.contents.Entry.{Entry}
use Rattle.archive.proofs.Model.Keys.{same_key_lem, is-same_key, same_rank, lt-ranks}
use Rattle.archive.proofs.Bytes.Walking.{sizes-next, seek-past, seek-held, seek_gap, seek-none}
use Rattle.archive.proofs.Bytes.Checking.{sound}
use Rattle.archive.proofs.checking.Archive.find.Goals.{After-bytes-off, After-eq, After-lt, At-loop-index, In-loop-index}
use Rattle.archive.proofs.checking.Archive.find.Goals as goal

pub loop-index-init : goal.loop-index-init
loop-index-init c =
    let s = sound c.args.self.bytes.now c.args.self.passed in
    let all : c.count-count.result - 0 ≡ count_of c.args.self.bytes.now = omega (arith, c.count-count.ensures.0) in
    rw (all, c.count-count.ensures.0) (s.whole, s.small, refl)

-- the bytes, where the entry at hand stands, how many are left from it on, and what it holds
abbrev b-of : At-loop-index → List ℕ
b-of c = c.args.self.bytes.now

abbrev place : At-loop-index → ℕ
place c = header_width + entry_width * c.loop-index.index

abbrev left : At-loop-index → ℕ
left c = c.count-count.result - c.loop-index.index

abbrev here : At-loop-index → Held
here c = held_at (b-of c) (place c) c.loop-index.off

more : (c : In-loop-index) → 0 < left (goal.at.In-loop-index c).At-loop-index
more c = omega (arith, c.loop-index-test.true)

pub entry-entry-requires : goal.entry-entry-requires
entry-entry-requires c = omega (arith, c.count-count.ensures.0, c.loop-index-test.true)

-- what the search for the key finds, by the entries that are left
left-to-find : (c : At-loop-index) →
    seek (rank_of c.args.key) header_width (bodies_at (b-of c)) (held_in (b-of c))
    ≡ seek (rank_of c.args.key) (place c) c.loop-index.off (held_from (b-of c) (left c) (place c) c.loop-index.off)
left-to-find c = c.loop-index.invariant.2

-- the key of the entry at hand, beside the key that is looked for
same : (c : After-eq) → c.eq.result ≡ true → rank (here (goal.at.After-eq c).At-loop-index) ≡ rank_of c.args.key
same c e =
    ap (λ (e : Entry). rank_of e.key) (sym c.entry-entry.ensures.0)
    ∙ ap rank_of (same_key_lem c.entry-entry.result.key c.args.key (sym c.eq.ensures ∙ e))

apart : (c : After-eq) → c.eq.result ≡ false → rank (here (goal.at.After-eq c).At-loop-index) ≡ rank_of c.args.key → ⊥
apart c n e =
    let k = same_rank c.entry-entry.result.key c.args.key c.entry-entry.ensures.1.key c.requires
    (ap (λ (e : Entry). rank_of e.key) c.entry-entry.ensures.0 ∙ e) in
    differ (sym (is-same_key _ _ k) ∙ sym c.eq.ensures ∙ n)

pub returns-then-eq : goal.returns-then-eq
returns-then-eq c =
    let at = goal.at.returns-then-eq c in
    let l = at.At-loop-index in
    sym
    (left-to-find l
    ∙ seek-held (b-of l) _ _ _ _ (more at.In-loop-index) (same at.After-eq c.if-eq.true)
    ∙ ap (λ (e : Entry). place_of (place l) c.loop-index.off e) (sym c.entry-entry.ensures.0))

above : (c : After-lt) → c.lt.result ≡ ltb (rank_of c.args.key) (rank (here (goal.at.After-lt c).At-loop-index))
above c =
    c.lt.ensures ∙ lt-ranks c.args.key c.entry-entry.result.key c.requires c.entry-entry.ensures.1.key
    ∙ ap (λ (e : Entry). ltb (rank_of c.args.key) (rank_of e.key)) c.entry-entry.ensures.0

pub returns-then-lt : goal.returns-then-lt
returns-then-lt c =
    let at = goal.at.returns-then-lt c in
    let l = at.At-loop-index in
    sym (left-to-find l ∙ seek_gap (b-of l) _ _ _ _ (more at.In-loop-index) (ltb-true _ _ (sym (above at.After-lt) ∙ c.if-lt.true)))

size : (c : After-bytes-off) → c.bytes-off.result ≡ body_size (here (goal.at.After-bytes-off c).At-loop-index)
size c = c.bytes-off.ensures ∙ ap (λ (e : Entry). bytes_for e.bits.0) c.entry-entry.ensures.0

-- the entries that are left, and their bodies, stand behind the one at hand and its body
behind : (c : After-bytes-off) →
    let l = (goal.at.After-bytes-off c).At-loop-index in
    c.loop-index.off + c.bytes-off.result + sizes (held_from (b-of l) (left l - 1) (place l + entry_width) (c.loop-index.off + c.bytes-off.result))
    ≡ length (b-of l)
behind c =
    let l = (goal.at.After-bytes-off c).At-loop-index in
    let next = sizes-next (b-of l) (left l) (place l) c.loop-index.off (more (goal.at.After-bytes-off c).In-loop-index) in
    rw (size c) (omega (arith, next, c.loop-index.invariant.0))

pub overflow_add-off : goal.overflow_add-off
overflow_add-off c = omega (arith, behind c, c.loop-index.invariant.1)

pub loop-index-preserved : goal.loop-index-preserved
loop-index-preserved c =
    let l = (goal.at.loop-index-preserved c).At-loop-index in
    let at : place l + entry_width ≡ header_width + entry_width * (c.loop-index.index + 1) = omega arith in
    let n : left l - 1 ≡ c.count-count.result - (c.loop-index.index + 1) = omega arith in
    let off = sym (size c) in
    let not-above = ltb-false _ _ (sym (above (goal.at.loop-index-preserved c).After-lt) ∙ c.if-lt.false) in
    let other = apart (goal.at.loop-index-preserved c).After-eq c.if-eq.false in
    let below : rank (here l) < rank_of c.args.key = omega (arith, not-above, other) in (
      (λ i. c.loop-index.off + c.bytes-off.result + sizes (held_from (b-of l) (sym n i) (sym at i) (c.loop-index.off + c.bytes-off.result))) ∙ behind c,
      c.loop-index.invariant.1,
      c.loop-index.invariant.2
          ∙ seek-past (b-of l) _ _ _ _ (more (goal.at.loop-index-preserved c).In-loop-index) below
          ∙ (λ i. seek (rank_of c.args.key) (at i) (c.loop-index.off + off i) (held_from (b-of l) (n i) (at i) (c.loop-index.off + off i))),
    )

pub returns : goal.returns
returns c =
    let l = (goal.at.returns c).At-loop-index in
    let all : c.loop-index.index ≡ c.count-count.result = omega arith in
    sym
    (left-to-find l ∙ seek-none _ _ _ _ _ (omega (arith, all))
    ∙ ap (λ (k : ℕ). gap_at (header_width + entry_width * k) c.loop-index.off) all)
