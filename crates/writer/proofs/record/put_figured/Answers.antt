-- The figures alone, or with services and lists behind them. Assumes nothing.
use mathlib.Core.Path.{◌≡◌, refl, sym, ap, ◌∙◌}
use mathlib.Core.List.{List, ◌++◌}
use native.Mathlib.Omega.{arith}
use borrow.Author.Tests.{not-true, not-false, eq-eqb}
use Prim.Native.Nat.{ℕ, ◌%◌}
use lib.ListN.{drop, length-drop}
use Rattle.std.specs.Prelude.{Option}
use Rattle.bits.specs.Bits.{bits_of}
use Rattle.codec.specs.Parts.{number, seq}
use Rattle.grammar.specs.Grammar.{services, part_of, from_record}
use Rattle.grammar.specs.Rows.{form_of, part_in, width_of, run_of}
use Rattle.grammar.specs.declared.figures.Form.{Form}
use Rattle.grammar.specs.declared.site.PduType.{PduType}
use Rattle.grammar.proofs.Rows.{narrow}
use Rattle.words.specs.RecordWords.{services_from, lists_from, figures_from, record_from}
use Rattle.words.proofs.Given.{figures-found}
use Rattle.tally.proofs.Words.{rest-of}
use Rattle.writer.specs.Inner.{figured}
use Rattle.writer.proofs.Puts.{left, right, join}
use Rattle.writer.proofs.Runs.{room-run, put_as-run}
use Rattle.writer.proofs.Figured.{lone-print, listed-print}
use Rattle.writer.proofs.record.put_figured.Goals.{After-figures_from-figures, After-figures_run-run, After-part_in, Else-not-form}
use Rattle.writer.proofs.record.put_figured.Goals.{Start, Then-not-form}
use Rattle.writer.proofs.record.put_figured.Goals as goal

abbrev start : After-figures_run-run → Start
start c = (goal.at.After-figures_run-run c).Start

abbrev kind : After-figures_run-run → Option PduType
kind c = (start c).args.kind

abbrev words : After-figures_run-run → List ℕ
words c = (start c).args.words.now

wide : (c : After-figures_run-run) → (start c).args.form.width ≡ width_of (kind c)
wide c = ap (λ (f : Form). f.width) (start c).requires.1

served : (c : After-figures_run-run) → (start c).args.form.services ≡ (form_of (kind c)).services
served c = ap (λ (f : Form). f.services) (start c).requires.1

-- the figures are those of the record
found : (c : After-figures_from-figures) → c.figures_from-figures.result ≡ figures_from c.args.words.now
found c = c.figures_from-figures.ensures ∙ figures-found _ (eq-eqb _ _ c.requires.0)

run : (c : After-figures_run-run) → c.figures_run-run.result ≡ run_of (kind c) (figures_from (words c))
run c = c.figures_run-run.ensures ∙ ap (run_of (kind c)) (found (goal.at.After-figures_run-run c).After-figures_from-figures)

alone : (c : Then-not-form) → let b = (goal.at.Then-not-form c).After-figures_run-run in
    (figured (kind b)).print (from_record (record_from (words b))).1.1 ≡ bits_of (start b).args.form.width c.figures_run-run.result
alone c =
    let b = (goal.at.Then-not-form c).After-figures_run-run in
    lone-print _ _ (wide b) (run b) (sym (served b) ∙ not-true (start b).args.form.services c.if-not-form.true)

pub put_run-requires : goal.put_run-requires
put_run-requires c =
    let b = (goal.at.put_run-requires c).After-figures_run-run in
    (omega (arith, wide b, narrow (kind b)), room-run _ _ (alone (goal.at.put_run-requires c).Then-not-form) (start b).requires.3)

pub returns-then-not-form : goal.returns-then-not-form
returns-then-not-form c = put_as-run _ _ (alone (goal.at.returns-then-not-form c).Then-not-form) c.put_run.ensures

listed : (c : Else-not-form) → let b = (goal.at.Else-not-form c).After-figures_run-run in
    (part : ℕ) → part ≡ part_in (kind b) (figures_from (words b))
    → (figured (kind b)).print (from_record (record_from (words b))).1.1
    ≡ (seq (number (start b).args.form.width) (λ x. services)).print (c.figures_run-run.result % 32, services_from (drop 29 (words b)))
    ++ (part_of part).print (lists_from (drop 37 (words b)))
listed c part of =
    let b = (goal.at.Else-not-form c).After-figures_run-run in
    listed-print _ _ (wide b) (run b) (sym (served b) ∙ not-false (start b).args.form.services c.if-not-form.false) part of

pub put_services-after_services-requires : goal.put_services-after_services-requires
put_services-after_services-requires c =
    let b = (goal.at.put_services-after_services-requires c).After-figures_run-run in
    let w = words b in
    rw rest-of (
      omega arith,
      omega (arith, wide b, narrow (kind b)),
      omega (arith, length-drop 29 w, (start b).requires.0),
      left (part_of (part_in (kind b) (figures_from w))) (lists_from (drop 37 w))
          (listed (goal.at.put_services-after_services-requires c).Else-not-form _ refl) (start b).requires.3,
    )

part : (c : After-part_in) → let b = (goal.at.After-part_in c).After-figures_run-run in
    c.part_in.result ≡ part_in (kind b) (figures_from (words b))
part c =
    let b = (goal.at.After-part_in c).After-figures_run-run in
    c.part_in.ensures ∙ ap (part_in (kind b)) (found (goal.at.After-part_in c).After-figures_from-figures)

pub put_part-requires : goal.put_part-requires
unfolding record_from
put_part-requires c =
    let at = goal.at.put_part-requires c in
    let b = start at.After-figures_run-run in
    rw rest-of (
      omega (arith, length-drop 37 b.args.words.now, b.requires.0),
      b.requires.2,
      right (listed at.Else-not-form _ (part at.After-part_in)) b.requires.3 (rw rest-of at c.put_services-after_services.ensures),
    )

pub returns : goal.returns
returns c =
    let at = goal.at.returns c in
    join (listed at.Else-not-form _ (part at.After-part_in)) (rw rest-of at c.put_services-after_services.ensures) (rw rest-of at c.put_part.ensures)
