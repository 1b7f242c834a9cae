-- Lists of each kind are put alike, and those of a part as three. Assumes nothing.
use mathlib.Core.Path.{◌≡◌, refl, ap, ◌∙◌}
use mathlib.Core.Bool.{Bool}
use mathlib.Core.List.{List, [], ◌∷◌, ◌++◌, append-nil}
use Prim.Native.Nat.{ℕ}
use lib.ListN.{drop}
use Rattle.bits.specs.Lists.{Each}
use Rattle.codec.specs.Parts.{element, seq, tested, shaped}
use Rattle.grammar.specs.Grammar.{identity, no_identity, identities, external, no_external, externals, identity_part, number_part}
use Rattle.grammar.specs.declared.site.ListKind.{ListKind}
use Rattle.grammar.specs.declared.site.ListKind.TheVariants.{Identities}
use Rattle.grammar.proofs.Sizes.{size-no_identities, size-no_externals}
use Rattle.words.specs.RecordWords.{identity_from, identities_from, number_from, numbers_from, lists_from}
use Rattle.tally.specs.Inner.{list_from}
use Rattle.writer.specs.Inner.{listing, three}
use Rattle.writer.proofs.Puts.{no_bits}

-- what is so of everything is so of each
pub each-any : {A : Type 0} (l : List A) → Each (λ x. Unit {0}) l
each-any [] = tt
each-any (x ∷ l) = (tt, each-any l)

pub identities-print : (w : List ℕ) (k : ListKind) → (identities k).print (identities_from w) ≡ (listing identity no_identity).print
    (list_from identity_from 3 w)
unfolding identities identities_from shaped seq element tested
identities-print w k = refl

pub numbers-print : (w : List ℕ) → externals.print (numbers_from w) ≡ (listing external no_external).print (list_from number_from 25 w)
unfolding externals numbers_from shaped seq element tested
numbers-print w = refl

module _ (w : List ℕ) where
  pub identities-three : identity_part.print (lists_from w) ≡ (three identity no_identity).print
      (list_from identity_from 3 w, (list_from identity_from 3 (drop 25 w), list_from identity_from 3 (drop 50 w)))
  unfolding identity_part lists_from shaped seq
  identities-three =
      let last : List Bool = (listing identity no_identity).print (list_from identity_from 3 (drop 50 w)) in
      (λ i. identities-print w Identities i ++ (identities-print (drop 25 w) Identities i ++ (identities-print (drop 50 w) Identities i
      ++ (no_bits (numbers_from (drop 75 w)) size-no_externals i ++ no_bits (numbers_from (drop 276 w)) size-no_externals i))))
      ∙ ap (λ (l : List Bool). (listing identity no_identity).print (list_from identity_from 3 w)
      ++ ((listing identity no_identity).print (list_from identity_from 3 (drop 25 w)) ++ l)) (append-nil last)

  pub numbers-three : number_part.print (lists_from w) ≡ (three external no_external).print
      (list_from identity_from 3 w, (list_from number_from 25 (drop 75 w), list_from number_from 25 (drop 276 w)))
  unfolding number_part lists_from shaped seq
  numbers-three =
      λ i. identities-print w Identities i ++ (no_bits (identities_from (drop 25 w)) size-no_identities i
      ++ (no_bits (identities_from (drop 50 w)) size-no_identities i ++ (numbers-print (drop 75 w) i ++ numbers-print (drop 276 w) i)))
