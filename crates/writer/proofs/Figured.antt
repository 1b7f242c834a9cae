-- Figures and services are one run of bits, with the lists behind it; without services the figures are all. Assumes nothing.
use mathlib.Core.Path.{◌≡◌, sym, ap, ap₂, ◌∙◌}
use mathlib.Core.Bool.{true, false}
use mathlib.Core.List.{List, ◌++◌, append-nil}
use Prim.Native.Nat.{ℕ, ◌+◌, ◌-◌, ◌/◌, ◌%◌, ◌^◌, ◌≤◌}
use Rattle.std.specs.Prelude.{Option}
use native.Mathlib.Omega.{arith}
use lib.ListN.{drop}
use lib.Seq.{drop_at}
use Rattle.bits.specs.Bits.{bits_of}
use Rattle.bits.proofs.Numbers.{length-bits_of, bits_of_add, bits_of_mod}
use Rattle.codec.specs.Parts.{number, seq}
use Rattle.grammar.specs.Grammar.{services, part_of, from_record}
use Rattle.grammar.specs.Rows.{form_of, part_in, figures_of, width_of, run_of}
use Rattle.grammar.specs.declared.site.PduType.{PduType}
use Rattle.grammar.proofs.Rows.{no-lists, narrow, figures-print}
use Rattle.grammar.proofs.Sizes.{size-no_services, size-no_part}
use Rattle.words.specs.RecordWords.{services_from, lists_from, figures_from, record_from}
use Rattle.writer.specs.Inner.{figured}
use Rattle.writer.proofs.Puts.{no_bits}
use Rattle.writer.proofs.Codes.{services-led}

-- of a number that is cut the low bits are the same
low_bits : (w k x : ℕ) → w ≤ k → bits_of w (x % 2 ^ k) ≡ bits_of w x
low_bits w k x h =
    let size : k - w + w ≡ k = omega arith in
    let last : (y : ℕ) → drop (k - w) (bits_of k y) ≡ bits_of w y =
    λ y. ap (λ (j : ℕ). drop (k - w) (bits_of j y)) (sym size) ∙ ap (drop (k - w)) (bits_of_add (k - w) w y)
    ∙ drop_at (bits_of (k - w) (y / 2 ^ w)) (bits_of w y) (k - w) (length-bits_of (k - w) (y / 2 ^ w)) in
    sym (last (x % 2 ^ k)) ∙ ap (drop (k - w)) (bits_of_mod k x) ∙ last x

module _ (t : Option PduType) (w : List ℕ) {width run : ℕ} (wide : width ≡ width_of t) (is : run ≡ run_of t (figures_from w)) where
  printed : (figures_of t).print (figures_from w) ≡ bits_of width run
  printed = figures-print t (figures_from w) ∙ ap₂ bits_of (sym wide) (sym is)

  pub lone-print : (form_of t).services ≡ false → (figured t).print (from_record (record_from w)).1.1 ≡ bits_of width run
  unfolding seq record_from
  lone-print e =
      rw (e, no-lists t (figures_from w) e, no_bits (services_from (drop 29 w)) size-no_services, no_bits (lists_from (drop 37 w)) size-no_part)
      (append-nil _ ∙ printed)

  pub listed-print : (form_of t).services ≡ true → (part : ℕ) → part ≡ part_in t (figures_from w)
      → (figured t).print (from_record (record_from w)).1.1
      ≡ (seq (number width) (λ x. services)).print (run % 32, services_from (drop 29 w)) ++ (part_of part).print (lists_from (drop 37 w))
  unfolding seq record_from
  listed-print e part of =
      rw (e, of) (services-led width (run % 32) (services_from (drop 29 w)) ((part_of (part_in t (figures_from w))).print (lists_from (drop 37 w)))
      (printed ∙ sym (low_bits width 5 run (omega (arith, narrow t)))))
