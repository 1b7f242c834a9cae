-- Each table is its row; and the figures of each type: where they stand in a window, as a run of bits, and when they are refused. Assumes nothing.
use mathlib.Core.Path.{◌≡◌, refl, sym, ap, ◌∙◌}
use mathlib.Core.Bool.{Bool, true, false, ◌&&◌}
use mathlib.Core.List.{List, ◌++◌, append-nil, append_assoc}
use Prim.Native.Nat.{ℕ, zero, suc, ◌+◌, ◌-◌, ◌*◌, ◌/◌, ◌%◌, ◌^◌, ◌≤◌, ◌<◌}
use Rattle.std.specs.Prelude.{Option, Some, None}
use native.Mathlib.Nat.{add-zero}
use native.Mathlib.Omega.{arith}
use lib.ListN.{length}
use borrow.Author.Tests.{leb-true, leb-false, le-leb, lt-ltb, le-ltb}
use lib.Dec.{leb, ltb}
use lib.Pow.{shr_mod}
use Rattle.bits.specs.Bits.{pick, bits_of}
use Rattle.bits.specs.Frame.{bits_in}
use Rattle.bits.specs.Element.{window_at}
use Rattle.bits.proofs.Numbers.{bits_of-join}
use Rattle.bits.proofs.Tests.{differ, both, by-test}
use Rattle.bits.proofs.Windows.{window_lt}
use Rattle.codec.specs.Codec.{Codec, first}
use Rattle.codec.specs.Parts.{number_fault, number, absent, element, seq, tested, shaped}
use Rattle.codec.specs.Reading.{Found, got, read_at}
use Rattle.codec.proofs.Windows.{number_in_window}
use Rattle.codec.proofs.Seen.{Seen, seen-number, seen-element, seen-absent, seen-seq, seen-shaped}
use Rattle.grammar.specs.SiteSheet.{asked_refusal, result_refusal, acknowledgement_refusal, definition_refusal, defined_refusal, distributed_refusal}
use Rattle.grammar.specs.SiteSheet.{cause_refusal, between}
use Rattle.grammar.specs.Grammar.{Three, none, to_figures, figures, rest_of, tables}
use Rattle.grammar.specs.Rows.{form_of, part_in, figures_of, rowed, width_of, figures_in, definition_in, user_definition_in}
use Rattle.grammar.specs.Rows.{definition_run, run_of}
use Rattle.grammar.specs.declared.site.PduType.{PduType}
use Rattle.grammar.specs.declared.site.PduType.TheVariants.{Define, DefineAck, DefineExternal, DefineUser, DefineUserAck, DefineExternalUser}
use Rattle.grammar.specs.declared.site.PduType.TheVariants.{Interrogate, InterrogateAck, CallBarred}
use Rattle.grammar.specs.declared.record.Figures.{Figures}

-- each table is its row
pub in_rows : (t : Option PduType) → rest_of t ≡ rowed t
unfolding tables form_of part_in
in_rows (Some Define) = refl
in_rows (Some DefineAck) = refl
in_rows (Some DefineExternal) = refl
in_rows (Some DefineUser) = refl
in_rows (Some DefineUserAck) = refl
in_rows (Some DefineExternalUser) = refl
in_rows (Some Interrogate) = refl
in_rows (Some InterrogateAck) = refl
in_rows (Some CallBarred) = refl
in_rows None = refl

-- without services there are no lists
pub no-lists : (t : Option PduType) (f : Figures) → (form_of t).services ≡ false → part_in t f ≡ 0
unfolding form_of part_in
no-lists (Some Define) f e = differ e
no-lists (Some DefineAck) f e = refl
no-lists (Some DefineExternal) f e = differ e
no-lists (Some DefineUser) f e = differ e
no-lists (Some DefineUserAck) f e = refl
no-lists (Some DefineExternalUser) f e = differ e
no-lists (Some Interrogate) f e = refl
no-lists (Some InterrogateAck) f e = differ e
no-lists (Some CallBarred) f e = refl
no-lists None f e = refl

-- ---- in the window at their place

pub narrow : (t : Option PduType) → width_of t ≤ 5
unfolding form_of
narrow (Some Define) = omega arith
narrow (Some DefineAck) = omega arith
narrow (Some DefineExternal) = omega arith
narrow (Some DefineUser) = omega arith
narrow (Some DefineUserAck) = omega arith
narrow (Some DefineExternalUser) = omega arith
narrow (Some Interrogate) = omega arith
narrow (Some InterrogateAck) = omega arith
narrow (Some CallBarred) = omega arith
narrow None = omega arith

seen_none : (l : List Bool) (at : ℕ) → Seen none l at (0, (0, 0)) at
unfolding none
seen_none l at = seen-seq _ (seen-absent l at) (seen-seq _ (seen-absent l at) (seen-absent l at))

seen-figures : {i d o : Codec Three} {l : List Bool} {at m p end : ℕ} {x y z : Three}
    → Seen i l at x m → Seen d l m y p → Seen o l p z end → Seen (figures i d o) l at (to_figures (x, (y, z))) end
unfolding figures
seen-figures h j k = seen-shaped _ _ _ _ _ refl (seen-seq _ h (seen-seq _ j k))

module _ (s : List ℕ) (n at : ℕ) where
  abbrev l : List Bool
  l = bits_in n s

  abbrev w : ℕ
  w = window_at s at

  -- the first of them is what the window begins with
  front : (width rest : ℕ) → width + rest ≡ 57 → 1 ≤ width → at + width ≤ length l → read_at (number width) l at ≡ got (w / 2 ^ rest) (at + width)
  front width rest size some there =
      let left : 57 - 0 - width ≡ rest = omega arith in
      number_in_window s n at 0 width at (at + width) (omega arith) refl some (omega arith) there
      ∙ ap {B = Found ℕ} (λ (x : ℕ). got x (at + width)) (ap (λ (j : ℕ). w / 2 ^ j % 2 ^ width) left ∙ shr_mod width rest (rw size (window_lt s at)))

  -- k bits on
  later : (k width end : ℕ) → end ≡ at + (k + width) → 1 ≤ width → k + width ≤ 57 → end ≤ length l
      → read_at (number width) l (at + k) ≡ got (w / 2 ^ (57 - k - width) % 2 ^ width) end
  later k width end e some inside there = number_in_window s n at k width (at + k) end refl (omega arith) some inside there

  seen-definition : at + 4 ≤ length l → Seen (figures_of (Some Define)) l at (definition_in w) (at + 4)
  seen-definition there =
      seen-figures (seen_none l at)
      (seen-seq _ (seen-number 1 (front 1 56 refl (omega arith) (omega arith)))
      (seen-seq _ (seen-element 1 (acknowledgement_refusal _) (later 1 1 (at + 2) (omega arith) (omega arith) (omega arith) (omega arith)))
      (seen-element 2 definition_refusal (later 2 2 (at + 4) (omega arith) (omega arith) (omega arith) there))))
      (seen_none l (at + 4))

  seen-user : at + 3 ≤ length l → Seen (figures_of (Some DefineUser)) l at (user_definition_in w) (at + 3)
  seen-user there =
      seen-figures (seen_none l at)
      (seen-seq _ (seen-absent l at)
      (seen-seq _ (seen-number 1 (front 1 56 refl (omega arith) (omega arith)))
      (seen-element 2 definition_refusal (later 1 2 (at + 3) (omega arith) (omega arith) (omega arith) there))))
      (seen_none l (at + 3))

  pub figures_seen : (t : Option PduType) → at + width_of t ≤ length l → Seen (figures_of t) l at (figures_in t w) (at + width_of t)
  unfolding figures_in form_of
  figures_seen (Some Define) there = seen-definition there
  figures_seen (Some DefineExternal) there = seen-definition there
  figures_seen (Some DefineUser) there = seen-user there
  figures_seen (Some DefineExternalUser) there = seen-user there
  figures_seen (Some InterrogateAck) there =
      seen-figures
      (seen-seq _ (seen-absent l at)
      (seen-seq _ (seen-element 3 result_refusal (front 3 54 refl (omega arith) (omega arith)))
      (seen-number 2 (later 3 2 (at + 5) (omega arith) (omega arith) (omega arith) there))))
      (seen_none l (at + 5)) (seen_none l (at + 5))
  figures_seen (Some Interrogate) there =
      let e = at + 2 in
      seen-figures (seen-seq _ (seen-element 2 asked_refusal (front 2 55 refl (omega arith) there)) (seen-seq _ (seen-absent l e) (seen-absent l e)))
      (seen_none l e) (seen_none l e)
  figures_seen (Some DefineAck) there =
      let e = at + 3 in
      seen-figures (seen_none l at) (seen_none l at)
      (seen-seq _ (seen-element 3 defined_refusal (front 3 54 refl (omega arith) there)) (seen-seq _ (seen-absent l e) (seen-absent l e)))
  figures_seen (Some DefineUserAck) there =
      let e = at + 3 in
      seen-figures (seen_none l at) (seen_none l at)
      (seen-seq _ (seen-absent l at) (seen-seq _ (seen-element 3 distributed_refusal (front 3 54 refl (omega arith) there)) (seen-absent l e)))
  figures_seen (Some CallBarred) there =
      seen-figures (seen_none l at) (seen_none l at)
      (seen-seq _ (seen-absent l at) (seen-seq _ (seen-absent l at) (seen-element 2 cause_refusal (front 2 55 refl (omega arith) there))))
  figures_seen None there = rw (add-zero at) (seen-figures (seen_none l at) (seen_none l at) (seen_none l at))

-- ---- as a run of bits

-- a definition's, behind k bits of what stands before it
defined-run : (k before : ℕ) (f : Figures)
    → bits_of (k + 1 + 2) (definition_run before f) ≡ bits_of k before ++ (bits_of 1 f.acknowledgement ++ bits_of 2 f.definition)
defined-run k before f =
    bits_of-join (k + 1) 2 (before * 2 ^ 1 + f.acknowledgement % 2 ^ 1) f.definition
    ∙ ap (λ (l : List Bool). l ++ bits_of 2 f.definition) (bits_of-join k 1 before f.acknowledgement)
    ∙ append_assoc (bits_of k before) (bits_of 1 f.acknowledgement) (bits_of 2 f.definition)

pub figures-print : (t : Option PduType) (f : Figures) → (figures_of t).print f ≡ bits_of (width_of t) (run_of t f)
unfolding figures none shaped seq absent element tested number form_of run_of bits_of
figures-print (Some Define) f = append-nil _ ∙ sym (defined-run 1 f.delivery f)
figures-print (Some DefineExternal) f = append-nil _ ∙ sym (defined-run 1 f.delivery f)
figures-print (Some DefineUser) f = append-nil _ ∙ sym (defined-run 0 0 f)
figures-print (Some DefineExternalUser) f = append-nil _ ∙ sym (defined-run 0 0 f)
figures-print (Some InterrogateAck) f = append-nil _ ∙ sym (bits_of-join 3 2 f.result f.status)
figures-print (Some Interrogate) f = append-nil _ ∙ append-nil _
figures-print (Some DefineAck) f = append-nil _
figures-print (Some DefineUserAck) f = append-nil _
figures-print (Some CallBarred) f = refl
figures-print None f = refl

-- ---- when they are refused

pub first-zero : (n : ℕ) → first n 0 ≡ n
first-zero zero = refl
first-zero (suc n) = refl

pub first_some : (n k : ℕ) → (n ≡ 0 → ⊥) → n ≡ first n k
first_some zero k h = absurd (h refl)
first_some (suc n) k h = refl

-- a value that is legal is no wider than its element
narrow-enough : (w v : ℕ) (legal : Bool) → (legal ≡ true → v < 2 ^ w) → first (number_fault w v) (pick legal 0 3) ≡ pick legal 0 3
narrow-enough w v true h = rw (lt-ltb v (2 ^ w) (h refl))
narrow-enough w v false h = by-test (λ (n : ℕ). first n 3 ≡ 3) (ltb v (2 ^ w)) refl refl

pub lone-fault : (w low high v : ℕ) → high < 2 ^ w → first (number_fault w v) (between low high v) ≡ between low high v
lone-fault w low high v h =
    narrow-enough w v (leb low v && leb v high) (λ e. omega (arith, leb-true v high (both (leb low v) (leb v high) e).1))

-- a number alone, by the greatest value that it has
pub number-most : (w most v : ℕ) → most + 1 ≡ 2 ^ w → number_fault w v ≡ pick (leb v most) 0 3
number-most w most v e = go (leb v most) refl
  where
    go : (t : Bool) → leb v most ≡ t → number_fault w v ≡ pick t 0 3
    go true h = rw (lt-ltb v (2 ^ w) (omega (arith, leb-true v most h)))
    go false h = rw (le-ltb v (2 ^ w) (omega (arith, leb-false v most h)))

-- acknowledgement of at most `most`, and definition type
acknowledged-fault : (most a d : ℕ) → most ≤ 1
    → first (first (number_fault 1 a) (between 0 most a)) (first (number_fault 2 d) (between 0 2 d)) ≡ pick (leb a most && leb d 2) 0 3
acknowledged-fault most a d h =
    let ack : first (number_fault 1 a) (between 0 most a) ≡ pick (leb a most) 0 3 = lone-fault 1 0 most a (omega arith) ∙ rw (le-leb 0 a (omega arith)) in
    let type : first (number_fault 2 d) (between 0 2 d) ≡ pick (leb d 2) 0 3 = lone-fault 2 0 2 d (omega arith) ∙ rw (le-leb 0 d (omega arith)) in
    rw (ack, type) (firsts (leb a most) (leb d 2))
  where
    firsts : (s t : Bool) → first (pick s 0 3) (pick t 0 3) ≡ pick (s && t) 0 3
    firsts true t = refl
    firsts false t = refl

module _ (f : Figures) where
  abbrev ack : ℕ
  ack = f.acknowledgement

  abbrev type : ℕ
  type = f.definition

  -- behind delivery
  abbrev rest : ℕ
  rest = first (first (number_fault 1 ack) (between 0 f.delivery ack)) (first (number_fault 2 type) (between 0 2 type))

  with-delivery : (t : Bool) → leb f.delivery 1 ≡ t → first (pick t 0 3) rest ≡ pick (t && (leb ack f.delivery && leb type 2)) 0 3
  with-delivery true h = acknowledged-fault f.delivery ack type (leb-true f.delivery 1 h)
  with-delivery false h = refl

  pub definition-fault : (figures_of (Some Define)).fault f ≡ pick (leb f.delivery 1 && (leb ack f.delivery && leb type 2)) 0 3
  unfolding figures none shaped seq absent element tested number
  definition-fault =
      first-zero _ ∙ ap (λ (n : ℕ). first n rest) (number-most 1 1 f.delivery refl) ∙ with-delivery (leb f.delivery 1) refl

  pub user-fault : (figures_of (Some DefineUser)).fault f ≡ pick (leb ack 1 && leb type 2) 0 3
  unfolding figures none shaped seq absent element tested number
  user-fault =
      let free : number_fault 1 ack ≡ first (number_fault 1 ack) (between 0 1 ack) =
      number-most 1 1 ack refl ∙ sym (lone-fault 1 0 1 ack (omega arith) ∙ rw (le-leb 0 ack (omega arith))) in
      first-zero _ ∙ ap (λ (n : ℕ). first n (first (number_fault 2 type) (between 0 2 type))) free ∙ acknowledged-fault 1 ack type (omega arith)

-- when each type's figures are refused
pub ruleset faults = (definition-fault, user-fault, lone-fault, number-most, first-zero, first_some)
