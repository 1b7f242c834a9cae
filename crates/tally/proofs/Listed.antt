-- A list is a range type with its entries, for identities of any kind and for external numbers. Assumes nothing.
use mathlib.Core.Path.{ap, ◌∙◌}
use mathlib.Core.List.{List}
use Prim.Native.Nat.{ℕ}
use lib.ListN.{drop}
use Rattle.codec.specs.Codec.{first}
use Rattle.codec.specs.Parts.{number_fault, number, element, seq, tested, shaped}
use Rattle.codec.specs.Places.{places}
use Rattle.grammar.specs.SiteSheet.{entries_of, range_refusal}
use Rattle.grammar.specs.Grammar.{identity, no_identity, range_ends, identities, external, no_external, externals}
use Rattle.grammar.specs.declared.record.Number.{Number}
use Rattle.grammar.specs.declared.site.ListKind.{ListKind}
use Rattle.grammar.specs.declared.site.ListKind.TheVariants as of
use Rattle.words.specs.RecordWords.{word, entries_from, identity_from, identities_from, number_from, numbers_from}
use Rattle.tally.specs.Tally.{Tallies}
use Rattle.tally.specs.Inner.{Fits, list_from, listing}
use Rattle.tally.specs.declared.Tally.{Tally}
use Rattle.tally.proofs.Parts.{first-zero}

module _ (w : List ℕ) {t : Tally} where
  module _ (k : ListKind) where
    pub identities-fit : Fits (identities k) (identities_from w) t
        → Fits (listing k identity no_identity range_ends) (list_from identity_from 3 w) t
    unfolding identities identities_from shaped seq element tested
    identities-fit h = record { short = h.short }

    pub identities_tallied : {r : Tally} → Tallies (listing k identity no_identity range_ends) (list_from identity_from 3 w) t r
        → Tallies (identities k) (identities_from w) t r
    unfolding identities identities_from shaped seq element tested
    identities_tallied h = record { clean = h.clean; refusal = h.refusal; bits = h.bits }

  -- of numbers nothing is asked together
  pub numbers-fit : Fits externals (numbers_from w) t
      → Fits (listing of.Numbers external no_external (λ code l. 0)) (list_from number_from 25 w) t
  unfolding externals numbers_from shaped seq element tested
  numbers-fit h = record { short = h.short }

  pub numbers_tallied : {r : Tally} → Tallies (listing of.Numbers external no_external (λ code l. 0)) (list_from number_from 25 w) t r
      → Tallies externals (numbers_from w) t r
  unfolding externals numbers_from shaped seq element tested number
  numbers_tallied h =
      let code : ℕ = word w 0 in
      let l : List Number = entries_from number_from 25 8 (drop 1 w) in
      record {
        clean = h.clean;
        refusal = h.refusal
            ∙ ap (λ (n : ℕ). first t.refusal (first (first (number_fault 4 code) (range_refusal of.Numbers code)) n))
            (first-zero ((places external no_external 8 (entries_of code)).fault l));
        bits = h.bits;
      }
