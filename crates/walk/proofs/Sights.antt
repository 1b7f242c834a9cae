-- Where the parts of a PDU end, as the windows at their places say. Assumes nothing.
use Rattle.std.specs.Prelude.{Ok}
use mathlib.Core.Path.{◌≡◌, refl, sym, ap, ◌∙◌, subst}
use mathlib.Core.Bool.{Bool, true, false, ◌&&◌}
use mathlib.Core.List.{List}
use Prim.Native.Nat.{ℕ, zero, suc, ◌+◌, ◌-◌, ◌*◌, ◌/◌, ◌%◌, ◌^◌, ◌≤◌, ◌<◌}
use native.Mathlib.Omega.{arith}
use borrow.Author.Tests.{leb-true, leb-false}
use lib.ListN.{length, take, drop, length-take}
use lib.Dec.{leb}
use lib.Pow.{field}
use Rattle.bits.specs.Bits.{bits, value}
use Rattle.bits.specs.Frame.{bits_in}
use Rattle.bits.specs.Element.{window_at}
use Rattle.bits.proofs.Tests.{both, picked}
use Rattle.bits.proofs.Bytes.{length-bits}
use Rattle.bits.proofs.Numbers.{value-take-fits}
use Rattle.bits.proofs.Windows.{window-part}
use Rattle.codec.specs.Codec.{Codec}
use Rattle.codec.specs.Parts.{absent, element}
use Rattle.codec.specs.Places.{places}
use Rattle.codec.specs.Reading.{got, read_at, reached}
use Rattle.codec.proofs.Reading.{read_at-absent}
use Rattle.grammar.specs.SiteSheet.{entries_of, range_type, range_refusal, digit_refusal, all_digits, length_refusal, between}
use Rattle.grammar.specs.Grammar.{identity, no_identity, zero_identity, ends_refusal, external, no_external}
use Rattle.grammar.specs.Zero.{zero_number}
use Rattle.grammar.specs.declared.record.Identity.{Identity}
use Rattle.grammar.specs.declared.site.ListKind.{ListKind}
use Rattle.grammar.specs.declared.site.ListKind.TheVariants as of
use Rattle.grammar.proofs.Codes.{entries_of_le, single, not-single, above-nine, not-nine}
use Rattle.grammar.proofs.Steps.{no_identity-at, no_external-at}
use Rattle.grammar.proofs.Windows as window
use Rattle.walk.specs.Inner.{Reached, pass, steps, range, coded, numbers, listed, lists, counted, identity_in, Ends, Empty}
use Rattle.walk.specs.Entries.{no_identities_empty}
use Rattle.walk.proofs.Passes.{pass-at, pass-untested, pass-places, pass-nothing, steps-count}
use Rattle.walk.proofs.Lists.{pass-external}
use Rattle.walk.proofs.Ranges.{range-by-place}
use Rattle.walk.proofs.Rows.{all-passing, steps_add}
use Rattle.walk.proofs.Aheads.{ends_as, ends-then, Holds, in_window, in-front, coded-ends, row_ends}

-- ---- an identity

pub bit_lt : (s : List ℕ) (at : ℕ) {b : ℕ} → b ≡ value (take 1 (drop at (bits s))) → b < 2
bit_lt s at is = rw is (value-take-fits 1 1 (drop at (bits s)) (omega arith))

identity_window : (s : List ℕ) (n at b : ℕ) → window_at s at / 2 ^ 32 % 2 ≡ b → at + 25 + 24 * b ≤ length (bits_in n s)
    → read_at identity (bits_in n s) at ≡ got (identity_in (window_at s at)) (at + 25 + 24 * b)
unfolding identity_in
identity_window s n at zero e h =
    let place : at + 25 ≡ at + 25 + 24 * 0 = omega arith in
    window.identity-plain s n at refl (omega arith) e ∙ rw (e, ← place)
identity_window s n at (suc zero) e h =
    let place : at + 49 ≡ at + 25 + 24 * 1 = omega arith in
    window.identity-wide s n at refl (omega arith) e (omega arith) ∙ rw (e, ← place)
identity_window s n at (suc (suc b)) e h = absurd (omega arith)

pub present_lt : (v : ℕ) {a : Identity} → a ≡ identity_in v → a.present < 2
unfolding identity_in
present_lt v e = let p : _ ≡ v / 2 ^ 32 % 2 = ap (λ (x : Identity). x.present) e in omega arith

-- by its present bit alone
pub identity-ends : {s : List ℕ} {at b : ℕ} → b ≡ value (take 1 (drop (at + 24) (bits s))) → Ends (pass identity) s at 49 (at + 25 + 24 * b)
identity-ends {s} {at} {b} is =
    let small = bit_lt s (at + 24) is in
    record {
      after = omega arith;
      near = omega arith;
      there = λ n few h.
          let room = length-take n (bits s) in
          pass-at identity (bits_in n s) at
          ∙ ap reached (identity_window s n at b (window-part s at 24 1 (omega arith) (omega (arith, length-bits s)) ∙ sym is) h);
    }

-- ---- a list of identities

pub range-ends : {s : List ℕ} {at p : ℕ} {a b : Identity} → a ≡ identity_in (window_at s at) → p ≡ at + 25 + 24 * a.present
    → b ≡ identity_in (window_at s p) → ends_refusal a b ≡ 0 → Ends (pass range) s at 4097 (p + 25 + 24 * b.present)
unfolding identity_in
range-ends {s} {at} {p} {a} {b} ea ep eb agree =
    let pa : a.present ≡ window_at s at / 2 ^ 32 % 2 = ap (λ (x : Identity). x.present) ea in
    let pb : b.present ≡ window_at s p / 2 ^ 32 % 2 = ap (λ (x : Identity). x.present) eb in
    record {
      after = omega arith;
      near = omega arith;
      there = λ n few h.
          let l : List Bool = bits_in n s in
          let first : read_at identity l at ≡ got a p = identity_window s n at a.present (sym pa) (omega arith) ∙ rw (ep, ea) in
          let second : read_at identity l p ≡ got b (p + 25 + 24 * b.present) = identity_window s n p b.present (sym pb) h ∙ rw eb in
          pass-at range l at ∙ ap reached (range-by-place l at) ∙ rw (first, second, agree);
    }

-- single entries
pub coded-single : (code : ℕ) (l : List Bool) (r : Reached) → (code ≡ 9 → ⊥) → pass (coded code) l r ≡ steps (pass identity l) (entries_of code) r
unfolding coded
coded-single code l r h =
    pass-untested _ _ _ _ _ (not-nine code h) ∙ pass-places identity no_identity zero_identity _ (no_identity-at _) 8 _ _ (entries_of_le code)

pub singles_end : {s : List ℕ} {at code m k end : ℕ} → code ≤ 8 → m ≤ k → Ends (λ l. steps (pass identity l) code) s at m end
    → Ends (pass (coded code)) s at k end
singles_end {code = code} few = ends_as (λ l r. coded-single code l r (λ e. omega arith) ∙ steps-count _ r (single code few).2)

-- a code that is not refused is at most the highest that is not
at_most : (high code : ℕ) {refusal : ℕ} → (high < code → refusal ≡ 3) → refusal ≡ 0 → code ≤ high
at_most high code {refusal} above e = go (leb code high) refl
  where
    go : (b : Bool) → leb code high ≡ b → code ≤ high
    go true h = leb-true code high h
    go false h = absurd (omega (arith, above (leb-false code high h)))

pub legal-code : (list : ListKind) (code : ℕ) → range_refusal list code ≡ 0 → code ≤ 9
legal-code list code = at_most 9 code (above-nine list code)

pub single-code : (code : ℕ) → range_refusal of.Numbers code ≡ 0 → code ≤ 8
single-code code = at_most 8 code (not-single code)

-- what may stand before affected users may stand before identities
pub users-code : (code : ℕ) → range_refusal of.Users code ≡ 0 → range_refusal of.Identities code ≡ 0
unfolding range_refusal range_type
users-code code e = go (leb code 8) refl
  where
    go : (b : Bool) → leb code 8 ≡ b → range_refusal of.Identities code ≡ 0
    go true h = (single code (leb-true code 8 h)).0
    go false h =
        let nine : code ≡ 9 = omega (arith, leb-false code 8 h, legal-code of.Users code e) in
        ap (range_refusal of.Identities) nine

-- a list, by the entries that its range type says
pub list-ends : {A : Type 0} (list : ListKind) (entries : ℕ → Codec (List A)) {s : List ℕ} {at code m end : ℕ} → Holds s at 4 code
    → range_refusal list code ≡ 0 → Ends (pass (entries code)) s (at + 4) m end → Ends (pass (listed list entries)) s at (4 + m) end
unfolding listed
list-ends list entries = coded-ends 4 (range_refusal list) entries

-- one of none
pub empty-list : {A : Type 0} {list : ListKind} {entries : ℕ → Codec (List A)} → Empty list entries → {s : List ℕ} {at code most : ℕ} → Holds s at 4 code
    → code ≡ 0 → 4 ≤ most → Ends (pass (listed list entries)) s at most (at + 4)
empty-list {list = list} {entries} none {s} {at} holds e room =
    ends_as (λ l r. refl) room (list-ends list entries {m = 0} holds (ap (range_refusal list) e ∙ none.legal) (record {
      after = omega arith;
      near = omega arith;
      there = λ n few i.
          let l : List Bool = bits_in n s in
          let here : Reached = Ok (record { at = at + 4 }) in
          ap (λ (code : ℕ). pass (entries code) l here) e ∙ pass-nothing (entries 0) none.value l (none.read l) here;
    }))

-- three whose range types, in one window, are 0
pub empty-lists : {A : Type 0} {list : ListKind} {entries : ℕ → Codec (List A)} → Empty list entries → {s : List ℕ} {at most : ℕ}
    → window_at s at / 2 ^ 45 ≡ 0 → 12 ≤ most → Ends (lists list entries) s at most (at + 12)
unfolding lists
empty-lists none {s} {at} e room =
    let place : at + 4 + 4 + 4 ≡ at + 12 = omega arith in
    subst (Ends (lists _ _) s at _) place
    (ends_as (λ l r. refl) room (ends-then (ends-then
    (empty-list no_identities_empty {most = 4} (in_window s at 0 4 at (omega arith) (omega arith) (omega arith) (omega (arith, e))) refl (omega arith))
    (empty-list none {most = 4} (in_window s at 4 4 (at + 4) refl (omega arith) (omega arith) (omega (arith, e))) refl (omega arith)))
    (empty-list none {most = 4} (in_window s at 8 4 (at + 4 + 4) (omega arith) (omega arith) (omega arith) (omega (arith, e))) refl (omega arith))))

-- ---- external numbers

pub within : (high v : ℕ) → between 1 high v ≡ 0 → (1 ≤ v) × (v ≤ high)
within high v e =
    let p = both (leb 1 v) (leb v high) (picked (leb 1 v && leb v high) e (λ f. omega arith)).0 in
    (leb-true 1 v p.0, leb-true v high p.1)

digits_are : (s : List ℕ) (at k size : ℕ) {v : ℕ} → 1 ≤ k → k ≤ 16 → size ≡ 4 * k → Holds s at size v → all_digits 16 v ≡ true
    → Ends (λ l. steps (pass (element 4 digit_refusal) l) k) s at size (at + size)
digits_are s at k size {v} one few e holds legal = row_ends digit_refusal 4 k 16 (omega arith) one few e holds (all-passing 16 v ∙ legal)

-- a count, and as many elements
pub counted-ends : (width most : ℕ) (c : Codec ℕ) {s : List ℕ} {at count m end : ℕ} → Holds s at width count → between 1 most count ≡ 0
    → Ends (λ l. steps (pass c l) count) s (at + width) m end → Ends (pass (counted width most c)) s at (width + m) end
unfolding counted
counted-ends width most c {count = count} holds legal r =
    coded-ends width (between 1 most) (places c absent most) holds legal
    (ends_as (λ l r. pass-places c absent 0 l (read_at-absent l) most count r (within most count legal).1) (omega arith) r)

number-ends : {s : List ℕ} {at count end m : ℕ} → Holds s at 5 count → length_refusal count ≡ 0
    → Ends (λ l. steps (pass (element 4 digit_refusal) l) count) s (at + 5) m end → Ends (pass external) s at (5 + m) end
number-ends holds legal r = ends_as pass-external (omega arith) (counted-ends 5 24 (element 4 digit_refusal) holds legal r)

module _ {s : List ℕ} {at count size : ℕ} (is : count ≡ window_at s at / 2 ^ 52) (counted : length_refusal count ≡ 0) (all : size ≡ 4 * count) where
  pub external-few : count ≤ 13 → all_digits 16 (window_at s at % 2 ^ 52 / 2 ^ (52 - size)) ≡ true → Ends (pass external) s at 4097 (at + 5 + size)
  external-few few legal =
      let some = (within 24 count counted).0 in
      let front : size + (52 - size) ≡ 52 = omega arith in
      let rest : 52 - size ≡ 57 - 5 - size = omega arith in
      ends_as (λ l r. refl) (omega arith)
      (number-ends (in-front s at 5 52 refl (omega arith) is) counted
      (digits_are s (at + 5) count size some (omega arith) all
      (in_window s at 5 size (at + 5) refl (omega arith) (omega arith)
      (ap (λ (j : ℕ). window_at s at % 2 ^ j / 2 ^ (52 - size)) (sym front) ∙ field (window_at s at) size (52 - size)
      ∙ ap (λ (j : ℕ). window_at s at / 2 ^ j % 2 ^ size) rest)) legal))

  pub external-many : 13 < count → all_digits 16 (window_at s at % 2 ^ 52) ≡ true → all_digits 16 (window_at s (at + 57) / 2 ^ (109 - size)) ≡ true
      → Ends (pass external) s at 4097 (at + 5 + size)
  external-many many legal more =
      let few = (within 24 count counted).1 in
      let k : ℕ = count - 13 in
      let whole-count : 13 + k ≡ count = omega arith in
      let place : at + 5 + 52 + (size - 52) ≡ at + 5 + size = omega arith in
      let next : at + 57 ≡ at + 5 + 52 = omega arith in
      let whole : window_at s at % 2 ^ 52 ≡ window_at s at / 2 ^ (57 - 5 - 52) % 2 ^ 52 = omega arith in
      let digits : Ends (λ l. steps (pass (element 4 digit_refusal) l) count) s (at + 5) 96 (at + 5 + 52 + (size - 52)) =
      ends_as (λ l r. sym (steps_add (pass (element 4 digit_refusal) l) 13 k r ∙ steps-count _ r whole-count)) (omega arith)
      (ends-then
      (digits_are s (at + 5) 13 52 (omega arith) (omega arith) refl (in_window s at 5 52 (at + 5) refl (omega arith) (omega arith) whole) legal)
      (digits_are s (at + 5 + 52) k (size - 52) (omega arith) (omega arith) (omega arith)
      (subst (λ (p : ℕ). Holds s p (size - 52) (window_at s (at + 57) / 2 ^ (109 - size))) next
      (in-front s (at + 57) (size - 52) (109 - size) (omega arith) (omega arith) refl)) more)) in
      subst (Ends (pass external) s at 4097) place
      (ends_as (λ l r. refl) (omega arith) (number-ends (in-front s at 5 52 refl (omega arith) is) counted digits))

pub numbers-each : (code : ℕ) (l : List Bool) (r : Reached) → pass (numbers code) l r ≡ steps (pass external l) (entries_of code) r
unfolding numbers
numbers-each code l r = pass-places external no_external zero_number l (no_external-at l) 8 (entries_of code) r (entries_of_le code)

pub numbers_end : (code : ℕ) {s : List ℕ} {at m end : ℕ} → range_refusal of.Numbers code ≡ 0 → Ends (λ l. steps (pass external l) code) s at m end
    → Ends (pass (numbers code)) s at m end
numbers_end code legal =
    ends_as (λ l r. numbers-each code l r ∙ steps-count _ r (single code (single-code code legal)).2) (omega arith)
