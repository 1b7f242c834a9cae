-- Each list from its place on. Assumes nothing.
use mathlib.Core.Path.{sym, ap, ◌∙◌}
use lib.Seq.{drop-drop}
use Rattle.words.specs.Places.{restricted_at, exceptions_at, numbers_at, excepted_at}
use Rattle.words.specs.RecordWords.{identities_from, numbers_from, lists_from}
use Rattle.words.proofs.record.lists_from.Goals as goal

pub returns : goal.returns
unfolding lists_from
returns c =
    let a = c.args in
    let w = a.words.now in
    let r = c.read-2.ensures ∙ ap identities_from (sym (drop-drop restricted_at a.at w)) in
    let x = c.read-3.ensures ∙ ap identities_from (sym (drop-drop exceptions_at a.at w)) in
    let n = c.read-4.ensures ∙ ap numbers_from (sym (drop-drop numbers_at a.at w)) in
    let y = c.read-5.ensures ∙ ap numbers_from (sym (drop-drop excepted_at a.at w)) in
    λ i. record { groups = c.read.ensures i; restricted = r i; exceptions = x i; numbers = n i; excepted = y i }
