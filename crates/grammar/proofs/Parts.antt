-- The tests of the grammar answer with 0, 3 and 4; and what every way to build a part keeps, the parts of a PDU have. Assumes nothing.
use mathlib.Core.Bool.{◌&&◌}
use mathlib.Core.List.{List}
use Prim.Native.Nat.{ℕ, zero, suc}
use Rattle.std.specs.Prelude.{Option, Some, None}
use lib.ListN.{get_or}
use lib.Dec.{leb, eqb}
use Rattle.bits.proofs.Tests.{by-test}
use Rattle.codec.specs.Codec.{Codec}
use Rattle.codec.specs.Parts.{number, element, seq, mark}
use Rattle.codec.specs.Places.{places}
use Rattle.codec.proofs.Kept.{Kept}
use Rattle.grammar.specs.SiteSheet.{ss_type, range_type, refusal_in, range_refusal, digit_of, refusal_of_digit, digit_refusal, service_of}
use Rattle.grammar.specs.SiteSheet.{refusal_of_service, service_refusal, pdu_type, between, reserved, entries_of}
use Rattle.grammar.specs.Grammar.{extension, identity, no_identity, zero_identity, ends_refusal, range_ends, identities, no_identities, external}
use Rattle.grammar.specs.Grammar.{no_external, externals, no_externals, services, no_services, identity_part, number_part, no_part, part_of}
use Rattle.grammar.specs.Grammar.{Three, none, figures, Five, Rest, rest_of, pdu}
use Rattle.grammar.specs.Rows.{form_of, part_in, figures_of}
use Rattle.grammar.specs.declared.site.RangeType.{RangeType}
use Rattle.grammar.specs.declared.site.RangeType.TheVariants.{Empty, Single, FirstAndLast}
use Rattle.grammar.specs.declared.site.ListKind.{ListKind}
use Rattle.grammar.specs.declared.site.ListKind.TheVariants as of
use Rattle.grammar.specs.declared.site.Digit.{Digit}
use Rattle.grammar.specs.declared.site.Service.{Service}
use Rattle.grammar.specs.declared.site.PduType.{PduType}
use Rattle.grammar.specs.declared.site.PduType.TheVariants.{Define, DefineAck, DefineExternal, DefineUser, DefineUserAck, DefineExternalUser}
use Rattle.grammar.specs.declared.site.PduType.TheVariants.{Interrogate, InterrogateAck, CallBarred}
use Rattle.grammar.specs.declared.record.Figures.{Figures}
use Rattle.grammar.specs.declared.record.Identity.{Identity}
use Rattle.grammar.specs.declared.record.Identities.{Identities}
use Rattle.grammar.specs.declared.record.Lists.{Lists}
use Rattle.grammar.specs.declared.record.Number.{Number}
use Rattle.grammar.specs.declared.record.Numbers.{Numbers}
use Rattle.grammar.specs.declared.record.Record.{Record}
use Rattle.grammar.specs.declared.record.Services.{Services}
use Rattle.grammar.proofs.Rows.{in_rows}

module _ (Code : ℕ → Type 0) (passed : Code 0) (three : Code 3) (four : Code 4) where
  -- ---- the tests: no refusal, 3 or 4

  code-between : (low high v : ℕ) → Code (between low high v)
  code-between low high v = by-test Code (leb low v && leb v high) passed three

  in_list : (list : ListKind) (t : Option RangeType) → Code (refusal_in list t)
  in_list of.Users (Some Empty) = three
  in_list of.Identities (Some Empty) = passed
  in_list of.Numbers (Some Empty) = passed
  in_list l (Some (Single n)) = passed
  in_list of.Users (Some FirstAndLast) = passed
  in_list of.Identities (Some FirstAndLast) = passed
  in_list of.Numbers (Some FirstAndLast) = three
  in_list l None = three

  code-range : (list : ListKind) (v : ℕ) → Code (range_refusal list v)
  unfolding range_refusal
  code-range list v = in_list list (range_type v)

  of-digit : (d : Option Digit) → Code (refusal_of_digit d)
  of-digit (Some d) = passed
  of-digit None = three

  code-digit : (v : ℕ) → Code (digit_refusal v)
  unfolding digit_refusal
  code-digit v = of-digit (digit_of v)

  of-service : (s : Option Service) → Code (refusal_of_service s)
  of-service (Some s) = passed
  of-service None = three

  code-service : (v : ℕ) → Code (service_refusal v)
  unfolding service_refusal
  code-service v = of-service (service_of v)

  code-reserved : (low high v : ℕ) → Code (reserved low high v)
  code-reserved low high v = by-test Code (leb low v && leb v high) three passed

  code-ends : (code : ℕ) (l : List Identity) → Code (range_ends code l)
  unfolding range_ends ends_refusal
  code-ends code l =
      let a = get_or l 0 zero_identity in
      let b = get_or l 1 zero_identity in
      by-test Code (eqb code 9) (by-test Code (eqb a.present b.present && eqb a.extension b.extension && leb a.ssi b.ssi) passed four) passed

  -- ---- the parts

  module _ {ℓ} (P : (A : Type 0) → Codec A → Type ℓ) (kept : Kept Code P) where
    -- one part after another, as the grammar sets them
    then : {A B : Type 0} {c : Codec A} {d : A → Codec B} → P A c → ((a : A) → P B (d a)) → P (A × B) (seq c d)
    then h k = kept.seq _ _ h k

    of-element : (w : ℕ) {test : ℕ → ℕ} → ((v : ℕ) → Code (test v)) → P ℕ (element w test)
    unfolding element
    of-element w h = kept.tested (number w) _ (λ v. 0) h (kept.number w)

    of_places : {A : Type 0} {c z : Codec A} → P A c → P A z → (m n : ℕ) → P (List A) (places c z m n)
    unfolding places
    of_places h k zero n = kept.nil
    of_places h k (suc m) zero = kept.cons _ _ k (of_places h k m zero)
    of_places h k (suc m) (suc n) = kept.cons _ _ h (of_places h k m n)

    of-identity : P Identity identity
    unfolding identity extension
    of-identity = kept.shaped _ _ _ _ _ (then (kept.number 24) (λ a. then (kept.number 1) (λ p. by-test (P ℕ) (eqb p 1) (kept.number 24) kept.absent)))

    of-no_identity : P Identity no_identity
    unfolding no_identity
    of-no_identity = kept.shaped _ _ _ _ _ (then kept.absent (λ a. then kept.absent (λ b. kept.absent)))

    pub of-identities : (list : ListKind) → P Identities (identities list)
    unfolding identities
    of-identities list =
        kept.shaped _ _ _ _ _ (then (of-element 4 (code-range list)) (λ code.
        kept.tested _ _ _ (code-ends code) (of_places of-identity of-no_identity 8 (entries_of code))))

    of-no_identities : P Identities no_identities
    unfolding no_identities
    of-no_identities = kept.shaped _ _ _ _ _ (then kept.absent (λ a. of_places of-no_identity of-no_identity 8 0))

    of-external : P Number external
    unfolding external
    of-external = kept.shaped _ _ _ _ _ (then (of-element 5 (code-between 1 24)) (λ n. of_places (of-element 4 code-digit) kept.absent 24 n))

    of-no_external : P Number no_external
    unfolding no_external
    of-no_external = kept.shaped _ _ _ _ _ (then kept.absent (λ a. of_places kept.absent kept.absent 24 0))

    of-externals : P Numbers externals
    unfolding externals
    of-externals = kept.shaped _ _ _ _ _ (then (of-element 4 (code-range of.Numbers)) (λ code. of_places of-external of-no_external 8 (entries_of code)))

    of-no_externals : P Numbers no_externals
    unfolding no_externals
    of-no_externals = kept.shaped _ _ _ _ _ (then kept.absent (λ a. of_places of-no_external of-no_external 8 0))

    of-services : P Services services
    unfolding services
    of-services = kept.shaped _ _ _ _ _ (then (of-element 3 (code-between 1 7)) (λ n. of_places (of-element 3 code-service) kept.absent 7 n))

    of-no_services : P Services no_services
    unfolding no_services
    of-no_services = kept.shaped _ _ _ _ _ (then kept.absent (λ a. of_places kept.absent kept.absent 7 0))

    five : {g r x : Codec Identities} {n y : Codec Numbers} → P Identities g → P Identities r → P Identities x → P Numbers n → P Numbers y
        → P Five (seq g (λ p. seq r (λ q. seq x (λ s. seq n (λ t. y)))))
    five h i j k l = then h (λ p. then i (λ q. then j (λ s. then k (λ t. l))))

    of-no_part : P Lists no_part
    unfolding no_part
    of-no_part = kept.shaped _ _ _ _ _ (five of-no_identities of-no_identities of-no_identities of-no_externals of-no_externals)

    of_part : (part : ℕ) → P Lists (part_of part)
    unfolding identity_part number_part
    of_part part =
        let ids = of-identities of.Identities in
        by-test (P Lists) (eqb part 1) (kept.shaped _ _ _ _ _ (five ids ids ids of-no_externals of-no_externals))
        (by-test (P Lists) (eqb part 2) (kept.shaped _ _ _ _ _ (five ids of-no_identities of-no_identities of-externals of-externals)) of-no_part)

    of_none : P Three none
    unfolding none
    of_none = then kept.absent (λ a. then kept.absent (λ b. kept.absent))

    of_three : {i d o : Codec Three} → P Three i → P Three d → P Three o → P Figures (figures i d o)
    unfolding figures
    of_three h j k = kept.shaped _ _ _ _ _ (then h (λ x. then j (λ y. k)))

    of-definition : P Figures (figures_of (Some Define))
    of-definition =
        of_three of_none (then (kept.number 1) (λ delivery. then (of-element 1 (code-between 0 delivery)) (λ a. of-element 2 (code-between 0 2)))) of_none

    of-user_definition : P Figures (figures_of (Some DefineUser))
    of-user_definition = of_three of_none (then kept.absent (λ a. then (kept.number 1) (λ b. of-element 2 (code-between 0 2)))) of_none

    of-figures : (t : Option PduType) → P Figures (figures_of t)
    of-figures (Some Define) = of-definition
    of-figures (Some DefineExternal) = of-definition
    of-figures (Some DefineUser) = of-user_definition
    of-figures (Some DefineExternalUser) = of-user_definition
    of-figures (Some InterrogateAck) = of_three (then kept.absent (λ a. then (of-element 3 (code-reserved 5 5)) (λ b. kept.number 2))) of_none of_none
    of-figures (Some Interrogate) = of_three (then (of-element 2 (code-between 1 3)) (λ a. then kept.absent (λ b. kept.absent))) of_none of_none
    of-figures (Some DefineAck) = of_three of_none of_none (then (of-element 3 (code-reserved 5 5)) (λ a. then kept.absent (λ b. kept.absent)))
    of-figures (Some DefineUserAck) = of_three of_none of_none (then kept.absent (λ a. then (of-element 3 (code-reserved 2 5)) (λ b. kept.absent)))
    of-figures (Some CallBarred) = of_three of_none of_none (then kept.absent (λ a. then kept.absent (λ b. of-element 2 (code-between 0 2))))
    of-figures None = of_three of_none of_none of_none

    pub of-rest : (t : Option PduType) → P Rest (rest_of t)
    of-rest t =
        rw (in_rows t) (then (by-test (P Identities) (form_of t).users (of-identities of.Users) of-no_identities) (λ u.
        then (of-figures t) (λ f. then (by-test (P Services) (form_of t).services of-services of-no_services) (λ s. of_part (part_in t f)))))

    pub of-pdu : P Record pdu
    unfolding pdu mark
    of-pdu =
        kept.shaped _ _ _ _ _ (then (of-element 6 (λ v. by-test Code (eqb v ss_type) passed three)) (λ x.
        kept.shaped _ _ _ _ _ (then (of-element 5 (code-between 5 13)) (λ kind. of-rest (pdu_type kind)))))
