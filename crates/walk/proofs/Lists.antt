-- Lists, external numbers and services as what stands in front and what that says. Assumes nothing.
use Rattle.std.specs.Prelude.{Option, Ok}
use mathlib.Core.Path.{◌≡◌, sym, ap, ◌∙◌}
use mathlib.Core.Bool.{Bool, true, false}
use mathlib.Core.List.{List}
use Rattle.bits.specs.Bits.{pick}
use Rattle.bits.specs.declared.Cursor.{Cursor}
use Rattle.codec.specs.Parts.{element}
use Rattle.codec.specs.Reading.{read_at, reached}
use Rattle.grammar.specs.SiteSheet.{digit_refusal, service_refusal}
use Rattle.grammar.specs.Grammar.{identities, no_identities, external, externals, services, no_services, identity_part, number_part}
use Rattle.grammar.specs.Rows.{form_of, users_if, users_of, services_if, services_of}
use Rattle.grammar.specs.declared.site.PduType.{PduType}
use Rattle.grammar.specs.declared.site.ListKind.{ListKind}
use Rattle.grammar.specs.declared.site.ListKind.TheVariants as of
use Rattle.grammar.proofs.Steps.{identity_part-at, number_part-at, identity_lists, number_lists, no_identities-at, no_services-at}
use Rattle.walk.specs.Inner.{Reached, pass, coded, numbers, listed, lists, counted}
use Rattle.walk.proofs.Passes.{pass-shaped, pass-three, carried}

module _ (l : List Bool) (r : Reached) where
  pub pass-identities : (list : ListKind) → pass (identities list) l r ≡ pass (listed list coded) l r
  unfolding identities listed coded
  pass-identities list = pass-shaped _ _ _ _ _ l r

  pub pass-externals : pass externals l r ≡ pass (listed of.Numbers numbers) l r
  unfolding externals listed numbers
  pass-externals = pass-shaped _ _ _ _ _ l r

  pub pass-external : pass external l r ≡ pass (counted 5 24 (element 4 digit_refusal)) l r
  unfolding external counted
  pass-external = pass-shaped _ _ _ _ _ l r

  pub pass-services : pass services l r ≡ pass (counted 3 7 (element 3 service_refusal)) l r
  unfolding services counted
  pass-services = pass-shaped _ _ _ _ _ l r

-- the lists of a part
module _ (l : List Bool) (r : Reached) where
  pub identity-part : pass identity_part l r ≡ lists of.Identities coded l r
  unfolding lists
  identity-part =
      pass-three identity_part (identities of.Identities) (identities of.Identities) (identities of.Identities) identity_lists l r (identity_part-at l)
      ∙ simp pass-identities

  pub number-part : pass number_part l r ≡ lists of.Numbers numbers l r
  unfolding lists
  number-part =
      pass-three number_part (identities of.Identities) externals externals number_lists l r (number_part-at l)
      ∙ simp (pass-identities, pass-externals)

-- ---- what a PDU of a type has, or not

module _ (t : Option PduType) {b : Bool} (l : List Bool) (at : Cursor) where
  pub users-passed : b ≡ (form_of t).users → pick b (reached (read_at (identities of.Users) l at.at)) (Ok at) ≡ reached (read_at (users_of t) l at.at)
  users-passed is =
      carried (identities of.Users) no_identities b l at (no_identities-at l at.at) ∙ ap (λ (b : Bool). reached (read_at (users_if b) l at.at)) is

  pub services-passed : b ≡ (form_of t).services → pick b (reached (read_at services l at.at)) (Ok at) ≡ reached (read_at (services_of t) l at.at)
  services-passed is = carried services no_services b l at (no_services-at l at.at) ∙ ap (λ (b : Bool). reached (read_at (services_if b) l at.at)) is
