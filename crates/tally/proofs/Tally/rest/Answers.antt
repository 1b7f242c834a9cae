-- Users, figures, services and lists: the table of a type is its row. Assumes nothing.
use mathlib.Core.Path.{◌≡◌, sym, ap, ◌∙◌, subst}
use mathlib.Core.List.{List}
use Prim.Native.Nat.{ℕ}
use Rattle.std.specs.Prelude.{Option}
use native.Mathlib.Omega.{arith}
use borrow.Author.Tests.{eq-eqb}
use lib.ListN.{drop, length-drop}
use Rattle.codec.specs.Parts.{seq}
use Rattle.grammar.specs.Grammar.{part_of}
use Rattle.grammar.specs.Rows.{part_in, figures_of, users_if, services_if, users_of, services_of, rowed}
use Rattle.grammar.specs.declared.site.PduType.{PduType}
use Rattle.grammar.specs.declared.figures.Form.{Form}
use Rattle.grammar.specs.declared.record.Figures.{Figures}
use Rattle.grammar.proofs.Rows.{in_rows}
use Rattle.words.specs.RecordWords.{identities_from, services_from, lists_from, figures_from, record_from}
use Rattle.words.proofs.Given.{figures-found}
use Rattle.tally.specs.Tally.{Tallies}
use Rattle.tally.specs.Inner.{Fits}
use Rattle.tally.proofs.Parts.{then, fits-first, fits_next, tallies_as, fits_as}
use Rattle.tally.proofs.Unused.{uncarried-identities, uncarried-services}
use Rattle.tally.proofs.Words.{rest-of}
use Rattle.tally.proofs.Tally.rest.Goals.{After-figures_from-figures, After-part_in, After-figures-after_figures, After-part_if-after_users}
use Rattle.tally.proofs.Tally.rest.Goals.{After-part_if-after_services, Start}
use Rattle.tally.proofs.Tally.rest.Goals as goal

abbrev start : After-figures_from-figures → Start
start c = (goal.at.After-figures_from-figures c).Start

abbrev kind : After-figures_from-figures → Option PduType
kind c = (start c).args.kind

abbrev words : After-figures_from-figures → List ℕ
words c = (start c).args.words.now

-- the figures are those of the record
found : (c : After-figures_from-figures) → c.figures_from-figures.result ≡ figures_from (words c)
found c = c.figures_from-figures.ensures ∙ figures-found (words c) (eq-eqb _ _ (start c).requires.0)

-- the row fits
fits : (c : After-figures_from-figures) → let w = words c in
    Fits (rowed (kind c)) (identities_from (drop 1 w), (figures_from w, (services_from (drop 29 w), lists_from (drop 37 w)))) (start c).args.self
unfolding record_from
fits c = fits_as (sym (in_rows (kind c))) (start c).requires.1

users-as : (c : After-figures_from-figures) → users_if c.form_of-form.result.users ≡ users_of (kind c)
users-as c = ap (λ (f : Form). users_if f.users) c.form_of-form.ensures

pub part_if-after_users-requires : goal.part_if-after_users-requires
part_if-after_users-requires c =
    let b = (goal.at.part_if-after_users-requires c).After-figures_from-figures in
    rw rest-of (omega (arith, length-drop 1 (words b), (start b).requires.0), uncarried-identities, fits_as (users-as b) (fits-first _ (fits b)))

users : (c : After-part_if-after_users) → let b = (goal.at.After-part_if-after_users c).After-figures_from-figures in
    Tallies (users_of (kind b)) (identities_from (drop 1 (words b))) (start b).args.self c.part_if-after_users.result
users c = tallies_as (users-as (goal.at.After-part_if-after_users c).After-figures_from-figures) (rw rest-of at c.part_if-after_users.ensures)

-- after the users
after-users : (c : After-part_if-after_users) → let b = (goal.at.After-part_if-after_users c).After-figures_from-figures in
    let t = kind b in let w = words b in
    Fits (seq (figures_of t) (λ f. seq (services_of t) (λ s. part_of (part_in t f))))
    (figures_from w, (services_from (drop 29 w), lists_from (drop 37 w)))
    c.part_if-after_users.result
after-users c = fits_next _ (fits (goal.at.After-part_if-after_users c).After-figures_from-figures) (users c)

pub figures-after_figures-requires : goal.figures-after_figures-requires
figures-after_figures-requires c =
    let b = (goal.at.figures-after_figures-requires c).After-figures_from-figures in (
      ap (λ (f : Form). f.width) c.form_of-form.ensures,
      subst (λ (f : Figures). Fits (figures_of (kind b)) f c.part_if-after_users.result) (sym (found b)) (fits-first _ (after-users c)),
    )

figures : (c : After-figures-after_figures) → let b = (goal.at.After-figures-after_figures c).After-figures_from-figures in
    Tallies (figures_of (kind b)) (figures_from (words b)) c.part_if-after_users.result c.figures-after_figures.result
figures c =
    let b = (goal.at.After-figures-after_figures c).After-figures_from-figures in
    subst (λ (f : Figures). Tallies (figures_of (kind b)) f c.part_if-after_users.result c.figures-after_figures.result) (found b)
    c.figures-after_figures.ensures

services-as : (c : After-figures_from-figures) → services_if c.form_of-form.result.services ≡ services_of (kind c)
services-as c = ap (λ (f : Form). services_if f.services) c.form_of-form.ensures

-- after the figures
after-figures : (c : After-figures-after_figures) → let b = (goal.at.After-figures-after_figures c).After-figures_from-figures in
    let t = kind b in let w = words b in
    Fits (seq (services_of t) (λ s. part_of (part_in t (figures_from w)))) (services_from (drop 29 w), lists_from (drop 37 w))
    c.figures-after_figures.result
after-figures c = fits_next _ (after-users (goal.at.After-figures-after_figures c).After-part_if-after_users) (figures c)

pub part_if-after_services-requires : goal.part_if-after_services-requires
part_if-after_services-requires c =
    let b = (goal.at.part_if-after_services-requires c).After-figures_from-figures in
    let h = after-figures (goal.at.part_if-after_services-requires c).After-figures-after_figures in
    rw rest-of (omega (arith, length-drop 29 (words b), (start b).requires.0), uncarried-services, fits_as (services-as b) (fits-first _ h))

services : (c : After-part_if-after_services) → let b = (goal.at.After-part_if-after_services c).After-figures_from-figures in
    Tallies (services_of (kind b)) (services_from (drop 29 (words b))) c.figures-after_figures.result c.part_if-after_services.result
services c =
    tallies_as (services-as (goal.at.After-part_if-after_services c).After-figures_from-figures) (rw rest-of at c.part_if-after_services.ensures)

part-as : (c : After-part_in) → let b = (goal.at.After-part_in c).After-figures_from-figures in
    part_of c.part_in.result ≡ part_of (part_in (kind b) (figures_from (words b)))
part-as c =
    let b = (goal.at.After-part_in c).After-figures_from-figures in
    ap part_of (c.part_in.ensures ∙ ap (part_in (kind b)) (found b))

pub part-requires : goal.part-requires
part-requires c =
    let at = goal.at.part-requires c in
    let b = at.After-figures_from-figures in
    let h = fits_next _ (after-figures at.After-figures-after_figures) (services at.After-part_if-after_services) in
    rw rest-of (omega (arith, length-drop 37 (words b), (start b).requires.0), fits_as (part-as at.After-part_in) h)

pub returns : goal.returns
unfolding record_from
returns c =
    let at = goal.at.returns c in
    tallies_as (sym (in_rows (kind at.After-figures_from-figures)))
    (then _ (users at.After-part_if-after_users) (then _ (figures at.After-figures-after_figures)
    (then _ (services at.After-part_if-after_services) (tallies_as (part-as at.After-part_in) (rw rest-of at c.part.ensures)))))
