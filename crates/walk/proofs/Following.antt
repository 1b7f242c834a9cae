-- Where what follows the affected users ends, as the window at its place says, and where the whole PDU does. Assumes nothing.
use mathlib.Core.Path.{◌≡◌, refl, sym, ap, ◌∙◌, subst}
use mathlib.Core.Bool.{Bool, true, false, ◌&&◌}
use mathlib.Core.List.{List}
use Prim.Native.Nat.{ℕ, ◌+◌, ◌-◌, ◌*◌, ◌/◌, ◌%◌, ◌^◌, ◌≤◌}
use Rattle.std.specs.Prelude.{Option}
use native.Mathlib.Omega.{arith}
use borrow.Author.Tests.{eqb-true}
use lib.ListN.{length}
use lib.Dec.{eqb}
use lib.Pow.{field, shr-shr, mod-mod-pow}
use Rattle.bits.specs.Frame.{bits_in}
use Rattle.bits.specs.Element.{window_at}
use Rattle.bits.proofs.Tests.{both, picked}
use Rattle.codec.specs.Parts.{absent, element, only}
use Rattle.codec.specs.Places.{places}
use Rattle.codec.specs.Reading.{got, read_at}
use Rattle.codec.proofs.Reading.{read_at-absent}
use Rattle.codec.proofs.Onward.{element-got}
use Rattle.codec.proofs.Seen.{seen-legal}
use Rattle.grammar.specs.SiteSheet.{ss_type, pdu_type, kind_refusal, service_refusal, count_refusal}
use Rattle.grammar.specs.Grammar.{services, part_of}
use Rattle.grammar.specs.Rows.{form_of, part_in, figures_of, users_of, width_of, figures_in}
use Rattle.grammar.specs.declared.site.PduType.{PduType}
use Rattle.grammar.specs.declared.record.Figures.{Figures}
use Rattle.grammar.proofs.Rows.{no-lists, narrow, figures_seen}
use Rattle.grammar.proofs.Steps.{no_services-at, no_part-at}
use Rattle.walk.specs.Inner.{pass, passing, services_in, result_from, result_behind, result_in, Ends, Finds}
use Rattle.walk.proofs.Passes.{past}
use Rattle.walk.proofs.Lists.{pass-services}
use Rattle.walk.proofs.Results.{pdu-result}
use Rattle.walk.proofs.Aheads.{ends_as, Holds, in_window, in-front, row_ends}
use Rattle.walk.proofs.Sights.{within, counted-ends}

-- ---- services

services-end : {s : List ℕ} {at count list : ℕ} → Holds s at 3 count → count_refusal count ≡ 0 → Holds s (at + 3) (3 * count) list
    → passing service_refusal 3 7 list ≡ true → Ends (pass services) s at (3 + 3 * count) (at + 3 + 3 * count)
services-end {count = count} holds legal listed passes =
    let c = within 7 count legal in
    ends_as pass-services (omega arith) (counted-ends 3 7 (element 3 service_refusal) holds legal
    (row_ends service_refusal 3 count 7 (omega arith) c.0 c.1 refl listed passes))

-- behind k bits of a window
services-found : {s : List ℕ} {p width : ℕ} (at k : ℕ) → p ≡ at + k → k ≤ 33 → width ≡ services_in (window_at s at / 2 ^ (33 - k) % 2 ^ 24)
    → (width ≡ 0 → ⊥) → Ends (pass services) s p 24 (p + width)
unfolding services_in
services-found {s} {p} {width} at k here few is some =
    let w : ℕ = window_at s at in
    let x : ℕ = w / 2 ^ (33 - k) in
    let count : ℕ = x % 2 ^ 24 / 2 ^ 21 in
    let left : ℕ = 21 - 3 * count in
    let list : ℕ = x % 2 ^ 24 % 2 ^ 21 / 2 ^ left in
    let found = picked (eqb (count_refusal count) 0 && passing service_refusal 3 7 list) (sym is) (λ h. some (sym h)) in
    let test = both (eqb (count_refusal count) 0) (passing service_refusal 3 7 list) found.0 in
    let legal : count_refusal count ≡ 0 = eqb-true (count_refusal count) 0 test.0 in
    let c = within 7 count legal in
    let first : 33 - k + 21 ≡ 57 - k - 3 = omega arith in
    let counted : count ≡ w / 2 ^ (57 - k - 3) % 2 ^ 3 =
    field x 3 21 ∙ ap (λ (y : ℕ). y % 2 ^ 3) (shr-shr w (33 - k) 21) ∙ ap (λ (j : ℕ). w / 2 ^ j % 2 ^ 3) first in
    let size : 3 * count + left ≡ 21 = omega arith in
    let last : 33 - k + left ≡ 57 - (k + 3) - 3 * count = omega arith in
    let listed : list ≡ w / 2 ^ (57 - (k + 3) - 3 * count) % 2 ^ (3 * count) =
    ap (λ (y : ℕ). y / 2 ^ left) (mod-mod-pow x 3 21) ∙ ap (λ (j : ℕ). x % 2 ^ j / 2 ^ left) (sym size) ∙ field x (3 * count) left
    ∙ ap (λ (y : ℕ). y % 2 ^ (3 * count)) (shr-shr w (33 - k) left) ∙ ap (λ (j : ℕ). w / 2 ^ j % 2 ^ (3 * count)) last in
    let place : p + 3 + 3 * count ≡ p + width = omega (arith, found.1) in
    subst (Ends (pass services) s p 24) place
    (ends_as (λ l r. refl) (omega arith) (services-end (in_window s at k 3 p here (omega arith) (omega arith) counted) legal
    (in_window s at (k + 3) (3 * count) (p + 3) (omega arith) (omega arith) (omega arith) listed) test.1))

-- ---- what follows the affected users

module _ (t : Option PduType) (s : List ℕ) (at : ℕ) {f : Figures} (is : f ≡ figures_in t (window_at s at)) (legal : (figures_of t).fault f ≡ 0) where
  -- figures stand in the window at their place
  figures-there : (n : ℕ) → at + width_of t ≤ length (bits_in n s) → read_at (figures_of t) (bits_in n s) at ≡ got f (at + width_of t)
  figures-there n i = rw is (seen-legal (figures_seen s n at t i) (rw is at legal))

  pub figures_find : (form_of t).services ≡ false → Finds (λ l. result_from t l at) s at f.result (at + width_of t)
  unfolding result_from
  figures_find e = record {
    after = omega arith;
    there = λ n few i. rw (figures-there n i, e, no_services-at, no-lists t f e, no_part-at);
  }

  -- services follow them in the same window, and then lists
  pub listed_find : {width part m end : ℕ} → (form_of t).services ≡ true → width ≡ services_in (window_at s at / 2 ^ (33 - width_of t) % 2 ^ 24)
      → (width ≡ 0 → ⊥) → part ≡ part_in t f → Ends (pass (part_of part)) s (at + width_of t + width) m end
      → Finds (λ l. result_from t l at) s at f.result end
  unfolding result_from
  listed_find {width} {part} {m} {end} e wide some lists r =
      let listed = services-found at (width_of t) refl (omega (arith, narrow t)) wide some in
      let after = r.after in
      record {
        after = omega arith;
        there = λ n few i.
            let l : List Bool = bits_in n s in
            let here : ℕ = at + width_of t in
            rw (figures-there n (omega arith), e, ← lists)
            (past services l here (here + width) _ (listed.there n few (omega arith))
            ∙ past (part_of part) l (here + width) end _ (r.there n few i));
      }

-- the affected users before it
pub behind_finds : (t : Option PduType) {s : List ℕ} {m p result end : ℕ} → Ends (pass (users_of t)) s 11 m p
    → Finds (λ l. result_from t l p) s p result end → Finds (result_behind t) s 11 result end
unfolding result_behind
behind_finds t {s} {p = p} r f =
    let after = r.after in
    let later = f.after in
    record {
      after = omega arith;
      there = λ n few i.
          past (users_of t) (bits_in n s) 11 p _ (r.there n few (omega arith))
          ∙ f.there n few i;
    }

-- SS type and PDU type before that
pub pdu_finds : {s : List ℕ} {code result end : ℕ} → window_at s 0 / 2 ^ 51 ≡ ss_type → code ≡ window_at s 0 / 2 ^ 46 % 2 ^ 5 → kind_refusal code ≡ 0
    → Finds (result_behind (pdu_type code)) s 11 result end → Finds result_in s 0 result end
unfolding result_behind
pdu_finds {s} {code} marked is legal f =
    let after = f.after in
    record {
      after = omega arith;
      there = λ n few i.
          let l : List Bool = bits_in n s in
          let a = element-got 6 (only ss_type) l 0 ss_type 6 (in-front s 0 6 51 refl (omega arith) (sym marked) n (omega arith)) refl in
          let b = element-got 5 kind_refusal l 6 code 11 (in_window s 0 6 5 6 refl (omega arith) (omega arith) is n (omega arith)) legal in
          pdu-result l ∙ rw (a, b) (f.there n few i);
    }
