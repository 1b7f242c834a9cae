-- How long a part of a PDU can be: the sum of what its elements can be. Assumes nothing.
use mathlib.Core.List.{◌++◌}
use Prim.Native.Nat.{ℕ, ◌+◌, ◌≤◌}
use Rattle.std.specs.Prelude.{Option, Some, None}
use native.Mathlib.Omega.{arith}
use lib.ListN.{length, length-append}
use lib.Dec.{leb, eqb}
use Rattle.bits.proofs.Tests.{by-test}
use Rattle.codec.specs.Codec.{Codec}
use Rattle.codec.specs.Parts.{absent, element, seq, shaped, mark, only}
use Rattle.codec.specs.Places.{places}
use Rattle.codec.proofs.Sizes.{Within, size_number, size-absent, size-more, size-seq, size-tested, size-element, size-shaped, size-places}
use Rattle.grammar.specs.SiteSheet.{ss_type, entries_of, range_refusal, digit_refusal, service_refusal, pdu_type, kind_refusal, result_refusal}
use Rattle.grammar.specs.SiteSheet.{asked_refusal, acknowledgement_refusal, definition_refusal, defined_part, defined_refusal, distributed_refusal}
use Rattle.grammar.specs.SiteSheet.{cause_refusal, count_refusal, length_refusal}
use Rattle.grammar.specs.Grammar.{extension, identity, no_identity, identities, no_identities, external, no_external, externals, no_externals}
use Rattle.grammar.specs.Grammar.{services, no_services, identity_part, number_part, no_part, part_of, Three, none, figures, rest_of, from_record, pdu}
use Rattle.grammar.specs.Rows.{form_of, users_of, services_of, part_in, figures_of, width_of, longest}
use Rattle.grammar.specs.declared.site.ListKind.{ListKind}
use Rattle.grammar.specs.declared.site.ListKind.TheVariants as of
use Rattle.grammar.specs.declared.site.PduType.{PduType}
use Rattle.grammar.specs.declared.site.PduType.TheVariants.{Define, DefineAck, DefineExternal, DefineUser, DefineUserAck, DefineExternalUser}
use Rattle.grammar.specs.declared.site.PduType.TheVariants.{Interrogate, InterrogateAck, CallBarred}
use Rattle.grammar.specs.declared.record.Identities.{Identities}
use Rattle.grammar.specs.declared.record.Numbers.{Numbers}
use Rattle.grammar.specs.declared.record.Figures.{Figures}
use Rattle.grammar.specs.declared.record.Record.{Record}
use Rattle.grammar.proofs.Rows.{in_rows}

size-extension : (present : ℕ) → Within 24 (extension present)
unfolding extension
size-extension present = by-test (Within _) (eqb present 1) (size_number 24) (size-more size-absent (omega arith))

size-identity : Within 49 identity
unfolding identity
size-identity = size-shaped _ _ _ _ _ (size-seq (size_number 24) (λ a. size-seq (size_number 1) size-extension))

pub size-no_identity : Within 0 no_identity
unfolding no_identity
size-no_identity = size-shaped _ _ _ _ _ (size-seq size-absent (λ a. size-seq size-absent (λ b. size-absent)))

size-identity_places : (n : ℕ) → Within 392 (places identity no_identity 8 n)
size-identity_places n = size-places identity no_identity 49 size-identity (size-more size-no_identity (omega arith)) 8 n

pub size-identities : (list : ListKind) → Within 396 (identities list)
unfolding identities
size-identities list =
    size-shaped _ _ _ _ _ (size-seq (size-element 4 (range_refusal list)) (λ code. size-tested _ _ _ (size-identity_places (entries_of code))))

pub size-no_identities : Within 0 no_identities
unfolding no_identities
size-no_identities = size-shaped _ _ _ _ _ (size-seq size-absent (λ a. size-places no_identity no_identity 0 size-no_identity size-no_identity 8 0))

size-external : Within 101 external
unfolding external
size-external =
    size-shaped _ _ _ _ _ (size-seq (size-element 5 length_refusal) (λ count.
    size-places (element 4 digit_refusal) absent 4 (size-element 4 digit_refusal) (size-more size-absent (omega arith)) 24 count))

pub size-no_external : Within 0 no_external
unfolding no_external
size-no_external = size-shaped _ _ _ _ _ (size-seq size-absent (λ a. size-places absent absent 0 size-absent size-absent 24 0))

pub size-externals : Within 812 externals
unfolding externals
size-externals =
    size-shaped _ _ _ _ _ (size-seq (size-element 4 (range_refusal of.Numbers)) (λ code.
    size-places external no_external 101 size-external (size-more size-no_external (omega arith)) 8 (entries_of code)))

pub size-no_externals : Within 0 no_externals
unfolding no_externals
size-no_externals = size-shaped _ _ _ _ _ (size-seq size-absent (λ a. size-places no_external no_external 0 size-no_external size-no_external 8 0))

pub size-services : Within 24 services
unfolding services
size-services =
    size-shaped _ _ _ _ _ (size-seq (size-element 3 count_refusal) (λ n.
    size-places (element 3 service_refusal) absent 3 (size-element 3 service_refusal) (size-more size-absent (omega arith)) 7 n))

pub size-no_services : Within 0 no_services
unfolding no_services
size-no_services = size-shaped _ _ _ _ _ (size-seq size-absent (λ a. size-places absent absent 0 size-absent size-absent 7 0))

-- five lists
size-lists : {a b c d e : ℕ} {g r x : Codec Identities} {n y : Codec Numbers}
    → Within a g → Within b r → Within c x → Within d n → Within e y
    → Within (a + (b + (c + (d + e)))) (seq g (λ p. seq r (λ q. seq x (λ s. seq n (λ t. y)))))
size-lists h i j k l = size-seq h (λ p. size-seq i (λ q. size-seq j (λ s. size-seq k (λ t. l))))

pub size-no_part : Within 0 no_part
unfolding no_part
size-no_part = size-shaped _ _ _ _ _ (size-lists size-no_identities size-no_identities size-no_identities size-no_externals size-no_externals)

size-identity_part : Within 1188 identity_part
unfolding identity_part
size-identity_part =
    size-shaped _ _ _ _ _
    (size-lists (size-identities of.Identities) (size-identities of.Identities) (size-identities of.Identities) size-no_externals size-no_externals)

size-number_part : Within 2020 number_part
unfolding number_part
size-number_part =
    size-shaped _ _ _ _ _ (size-lists (size-identities of.Identities) size-no_identities size-no_identities size-externals size-externals)

size-part : (part : ℕ) → Within 2020 (part_of part)
size-part part =
    by-test (Within _) (eqb part 1) (size-more size-identity_part (omega arith))
    (by-test (Within _) (eqb part 2) size-number_part (size-more size-no_part (omega arith)))

size-defined : (d : ℕ) → Within 1188 (part_of (defined_part 1 d))
unfolding defined_part
size-defined d = by-test (λ (part : ℕ). Within 1188 (part_of part)) (leb d 1) size-identity_part (size-more size-no_part (omega arith))

-- figures: three each of an interrogation, a definition and an outcome
size_none : Within 0 none
unfolding none
size_none = size-seq size-absent (λ a. size-seq size-absent (λ b. size-absent))

size-figures : {a b c : ℕ} {i d o : Codec Three} → Within a i → Within b d → Within c o → Within (a + (b + c)) (figures i d o)
unfolding figures
size-figures h j k = size-shaped _ _ _ _ _ (size-seq h (λ x. size-seq j (λ y. k)))

size-definition : Within 4 (figures_of (Some Define))
size-definition =
    size-figures size_none (size-seq (size_number 1) (λ d. size-seq (size-element 1 (acknowledgement_refusal d)) (λ a. size-element 2 definition_refusal)))
    size_none

size-user : Within 3 (figures_of (Some DefineUser))
size-user = size-figures size_none (size-seq size-absent (λ a. size-seq (size_number 1) (λ b. size-element 2 definition_refusal))) size_none

pub size-of-figures : (t : Option PduType) → Within (width_of t) (figures_of t)
unfolding form_of
size-of-figures (Some Define) = size-definition
size-of-figures (Some DefineExternal) = size-definition
size-of-figures (Some DefineUser) = size-user
size-of-figures (Some DefineExternalUser) = size-user
size-of-figures (Some InterrogateAck) =
    size-figures (size-seq size-absent (λ a. size-seq (size-element 3 result_refusal) (λ b. size_number 2))) size_none size_none
size-of-figures (Some Interrogate) = size-figures (size-seq (size-element 2 asked_refusal) (λ a. size-seq size-absent (λ b. size-absent))) size_none size_none
size-of-figures (Some DefineAck) = size-figures size_none size_none (size-seq (size-element 3 defined_refusal) (λ a. size-seq size-absent (λ b. size-absent)))
size-of-figures (Some DefineUserAck) = size-figures size_none size_none (size-seq size-absent (λ a. size-seq (size-element 3 distributed_refusal) (λ b. size-absent)))
size-of-figures (Some CallBarred) = size-figures size_none size_none (size-seq size-absent (λ a. size-seq size-absent (λ b. size-element 2 cause_refusal)))
size-of-figures None = size-figures size_none size_none size_none

-- a row: users, figures, services, lists
size-row : (t : Option PduType) {u s p : ℕ} → Within u (users_of t) → Within s (services_of t) → ((f : Figures) → Within p (part_of (part_in t f)))
    → Within (u + (width_of t + (s + p))) (rest_of t)
size-row t users services part = rw (in_rows t) (size-seq users (λ u. size-seq (size-of-figures t) (λ f. size-seq services (λ s. part f))))

size-users : Within 396 (identities of.Users)
size-users = size-identities of.Users

pub size-rest : (t : Option PduType) → Within (longest t) (rest_of t)
unfolding form_of part_in longest
size-rest (Some Define) = size-row (Some Define) size-users size-services (λ f. size-defined f.definition)
size-rest (Some DefineAck) = size-row (Some DefineAck) size-users size-no_services (λ f. size-no_part)
size-rest (Some DefineExternal) = size-row (Some DefineExternal) size-users size-services (λ f. size-part (defined_part 2 f.definition))
size-rest (Some DefineUser) = size-row (Some DefineUser) size-no_identities size-services (λ f. size-defined f.definition)
size-rest (Some DefineUserAck) = size-row (Some DefineUserAck) size-no_identities size-no_services (λ f. size-no_part)
size-rest (Some DefineExternalUser) = size-row (Some DefineExternalUser) size-no_identities size-services (λ f. size-defined f.definition)
size-rest (Some Interrogate) = size-row (Some Interrogate) size-users size-no_services (λ f. size-no_part)
size-rest (Some InterrogateAck) = size-row (Some InterrogateAck) size-users size-services (λ f. size-part f.result)
size-rest (Some CallBarred) = size-row (Some CallBarred) size-no_identities size-no_services (λ f. size-no_part)
size-rest None = size-row None size-no_identities size-no_services (λ f. size-no_part)

-- A PDU is at most as long as its type says, with SS type and PDU type before it.
pub pdu-length : (r : Record) → length (pdu.print r) ≤ 11 + longest (pdu_type r.kind)
unfolding pdu mark shaped seq
pdu-length r =
    let rest = (rest_of (pdu_type r.kind)).print (from_record r).1 in
    let kind = (element 5 kind_refusal).print r.kind in
    let ss = (element 6 (only ss_type)).print ss_type in
    omega (
      arith,
      length-append ss (kind ++ rest),
      length-append kind rest,
      (size-element 6 (only ss_type)).size ss_type,
      (size-element 5 kind_refusal).size r.kind,
      (size-rest (pdu_type r.kind)).size (from_record r).1,
    )

-- An INTERROGATE ACK is the longest, and has at most 2,456 bits.
no_longer : (t : Option PduType) → longest t ≤ 2445
unfolding longest
no_longer (Some Define) = omega arith
no_longer (Some DefineAck) = omega arith
no_longer (Some DefineExternal) = omega arith
no_longer (Some DefineUser) = omega arith
no_longer (Some DefineUserAck) = omega arith
no_longer (Some DefineExternalUser) = omega arith
no_longer (Some Interrogate) = omega arith
no_longer (Some InterrogateAck) = omega arith
no_longer (Some CallBarred) = omega arith
no_longer None = omega arith

pub pdu-size : (r : Record) → length (pdu.print r) ≤ 2456
pdu-size r = omega (arith, pdu-length r, no_longer (pdu_type r.kind))
