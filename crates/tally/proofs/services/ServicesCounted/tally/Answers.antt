-- The number of services, and as many services. Assumes nothing.
use mathlib.Core.Path.{◌≡◌, sym, ap, ◌∙◌}
use mathlib.Core.List.{List}
use Prim.Native.Nat.{ℕ}
use lib.ListN.{take, drop, length-drop}
use Rattle.codec.specs.Parts.{absent, element}
use Rattle.codec.specs.Places.{places}
use Rattle.grammar.specs.SiteSheet.{count_refusal, service_refusal}
use Rattle.grammar.specs.Grammar.{services}
use Rattle.words.specs.RecordWords.{word, entries_from, services_from}
use Rattle.words.proofs.Filling.{words-taken}
use Rattle.tally.proofs.Parts.{refusing, then, shape, fits-element, fits-first, fits_next, fits-shape, tallies_as, fits_as}
use Rattle.tally.proofs.Entries.{places-most}
use Rattle.tally.proofs.Unused.{uncarried-word}
use Rattle.tally.proofs.Words.{rest-of}
use native.Mathlib.Omega.{arith}
use Rattle.tally.proofs.services.ServicesCounted.tally.Goals.{After-min-used, Start}
use Rattle.tally.proofs.services.ServicesCounted.tally.Goals as goal

-- at most seven are used
most : (c : After-min-used) → let a = c.args in
    places (element 3 service_refusal) absent 7 c.min-used.result ≡ places (element 3 service_refusal) absent 7 (word a.words.now 0)
most c = ap (places (element 3 service_refusal) absent 7) c.min-used.ensures ∙ sym (places-most (element 3 service_refusal) absent 7 _)

pub element-after_count-requires : goal.element-after_count-requires
unfolding services services_from
element-after_count-requires c = (omega arith, fits-element 3 count_refusal (fits-first _ (fits-shape _ _ _ _ c.requires.1)))

-- the seven services as entries of a word each
entries : (c : Start) → entries_from (λ (v : List ℕ). word v 0) 1 7 (drop 1 c.args.words.now) ≡ take 7 (drop 1 c.args.words.now)
entries c = words-taken 7 _ (omega (arith, length-drop 1 c.args.words.now, c.requires.0))

pub entries-requires : goal.entries-requires
unfolding services services_from
entries-requires c =
    let e = refusing 3 count_refusal c.element-after_count.ensures c.between_refusal.ensures in
    let b = (goal.at.entries-requires c).Start in
    rw rest-of (
      omega (arith, length-drop 1 c.args.words.now, c.requires.0),
      omega (arith, c.min-used.ensures),
      uncarried-word,
      rw (entries b) (fits_as (most (goal.at.entries-requires c).After-min-used) (fits_next _ (fits-shape _ _ _ _ c.requires.1) e)),
    )

pub returns : goal.returns
unfolding services services_from
returns c =
    let e = refusing 3 count_refusal c.element-after_count.ensures c.between_refusal.ensures in
    let l = rw (rest-of, entries (goal.at.returns c).Start) at c.entries.ensures in
    shape _ _ _ _ (then _ e (tallies_as (most (goal.at.returns c).After-min-used) l))
