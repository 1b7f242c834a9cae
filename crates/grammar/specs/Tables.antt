-- Every code table over all values of its width, in plain values: what each code means, and the refusal number of each, 0 for none, by its
-- definition and as that element of every PDU that has it. Tables are those of EN 300 392-12-18, clause 5.3.2; the others are the site sheet's.
use Rattle.std.specs.Prelude.{◌≡◌, refl, Bool, true, false, List, [], ◌∷◌, ◌++◌, map, ℕ, ◌*◌, ◌^◌, length, drop, replicate, Some, None}
use Rattle.bits.specs.Bits.{bits_of}
use Rattle.bits.proofs.Table.{values}
use Rattle.codec.specs.Codec.{Outcome, ok, no}
use Rattle.codec.specs.Parts.{only}
use Rattle.codec.specs.Whole.{whole_parse}
use Rattle.grammar.specs.SiteSheet.{ss_type, range_type, row_of, range_refusal, digit_of, digit_refusal, all_digits, service_of, service_refusal, codes}
use Rattle.grammar.specs.SiteSheet.{pdu_type, kind_refusal, result_refusal, asked_refusal, acknowledgement_refusal, definition_refusal, defined_part}
use Rattle.grammar.specs.SiteSheet.{defined_refusal, distributed_refusal, cause_refusal, count_refusal, length_refusal}
use Rattle.grammar.specs.Grammar.{ends_refusal, network_of, pdu, grammar}
use Rattle.grammar.specs.Figures.{of_interrogation}
use Rattle.grammar.specs.Zero.{zero_identities, zero_numbers, zero_lists}
use Rattle.grammar.specs.ProfileRecords.{asking}
use Rattle.grammar.specs.Samples.{near, far, list, identity_lists, number_lists}
use Rattle.grammar.specs.Samples as a
use Rattle.grammar.specs.declared.site.RangeType.TheVariants.{Empty, Single, FirstAndLast}
use Rattle.grammar.specs.declared.site.ListKind.TheVariants as of
use Rattle.grammar.specs.declared.site.PduType.TheVariants.{Define, DefineAck, DefineExternal, DefineUser, DefineUserAck, DefineExternalUser}
use Rattle.grammar.specs.declared.site.PduType.TheVariants.{Interrogate, InterrogateAck, CallBarred}
use Rattle.grammar.specs.declared.site.Row.{Row}
use Rattle.grammar.specs.declared.site.Digit.TheVariants.{Decimal, Star, Hash, Plus}
use Rattle.grammar.specs.declared.site.Service.TheVariants.{All, Speech, CircuitData, ShortData}
use Rattle.grammar.specs.declared.record.Identities.{Identities}
use Rattle.grammar.specs.declared.record.Numbers.{Numbers}
use Rattle.grammar.specs.declared.record.Services.{Services}
use Rattle.grammar.specs.declared.record.Lists.{Lists}
use Rattle.grammar.specs.declared.record.Record.{Record}

-- ---- what is said of an element

-- the refusal numbers of all values of so many bits, in each of several PDUs
abbrev InEach : ℕ → List ℕ → (ℕ → List Record) → Type 0
InEach width refusals pdus =
    values (λ v. map (λ r. pdu.fault r) (pdus v)) 0 (2 ^ width) ≡ map (λ refusal. replicate (length (pdus 0)) refusal) refusals

-- and by the element's definition
abbrev Refuses : ℕ → List ℕ → (ℕ → ℕ) → (ℕ → List Record) → Type 0
Refuses width refusals code pdus = (values code 0 (2 ^ width) ≡ refusals) × InEach width refusals pdus

-- ---- PDUs that are legal but for one element

abbrev identities : ℕ → Identities
identities code = list code (replicate 8 (near 5))

-- numbers with one length, and one digit in all places
abbrev numbers : ℕ → ℕ → ℕ → Numbers
numbers code digits digit = a.numbers code (replicate 8 (record { length = record { 0 = digits }; digits = replicate 24 digit }))

abbrev user : Identities
user = identities 1

abbrev service : Services
service = a.services (0 ∷ [])

-- those with affected users
abbrev with_users : Identities → List Record
with_users users =
    a.define users 0 0 0 service zero_lists ∷ a.define_ack users 0 ∷ a.define_external users 0 0 0 service zero_lists
    ∷ a.interrogate users 1 ∷ a.interrogate_ack users 0 0 service zero_lists ∷ []

-- those with a definition type: for some affected users, and to an affected user
abbrev with_definition : ℕ → List Record
with_definition type =
    a.define user 0 0 type service zero_lists ∷ a.define_external user 0 0 type service zero_lists
    ∷ a.define_user 0 type service zero_lists ∷ a.define_external_user 0 type service zero_lists ∷ []

-- those with services
abbrev with_services : Services → List Record
with_services services =
    a.define user 0 0 0 services zero_lists ∷ a.define_external user 0 0 0 services zero_lists
    ∷ a.define_user 0 0 services zero_lists ∷ a.define_external_user 0 0 services zero_lists ∷ a.interrogate_ack user 0 0 services zero_lists ∷ []

-- those with the lists of an identity part, and of a number part
abbrev with_identity_part : Lists → List Record
with_identity_part lists =
    a.define user 0 0 0 service lists ∷ a.define_user 0 0 service lists ∷ a.define_external_user 0 0 service lists
    ∷ a.interrogate_ack user 1 0 service lists ∷ []

abbrev with_number_part : Lists → List Record
with_number_part lists = a.define_external user 0 0 0 service lists ∷ a.interrogate_ack user 2 0 service lists ∷ []

-- a list as closed user groups, restricted identities, exceptions, and as the groups of a number part
abbrev with_identities : Identities → List Record
with_identities l =
    with_identity_part (identity_lists l zero_identities zero_identities)
    ++ with_identity_part (identity_lists zero_identities l zero_identities)
    ++ with_identity_part (identity_lists zero_identities zero_identities l)
    ++ with_number_part (number_lists l zero_numbers zero_numbers)

-- as restricted numbers, and exceptions to them
abbrev with_numbers : Numbers → List Record
with_numbers l = with_number_part (number_lists zero_identities l zero_numbers) ++ with_number_part (number_lists zero_identities zero_numbers l)

-- ---- SS type, 6 bits: 18 alone

abbrev ss_types : List ℕ
ss_types = replicate 18 3 ++ (0 ∷ replicate 45 3)

abbrev refusal : Outcome Record → ℕ
refusal (ok r at left) = 0
refusal (no n at) = n

ss-types : (values (only ss_type) 0 64 ≡ ss_types) × (values (λ v. refusal (whole_parse pdu (bits_of 6 v ++ drop 6 (pdu.print asking)))) 0 64 ≡ ss_types)
unfolding grammar
ss-types = (refl, refl)

-- ---- PDU type, 5 bits, table 23

abbrev kinds : List ℕ
kinds =
    3 ∷ 3 ∷ 3 ∷ 3 ∷ 3  -- 0 to 4: refer to EN 300 392-9, no PDU here
    ∷ 0 ∷ 0 ∷ 0  -- 5 DEFINE, 6 DEFINE ACK, 7 DEFINE EXTERNAL
    ∷ 0 ∷ 0 ∷ 0  -- 8 DEFINE USER, 9 DEFINE USER ACK, 10 DEFINE USER EXTERNAL
    ∷ 0 ∷ 0  -- 11 INTERROGATE, 12 INTERROGATE ACK
    ∷ 0  -- 13 CALL BARRED
    ∷ 3 ∷ 3  -- 14 and 15: reserved
    ∷ 3 ∷ 3 ∷ 3 ∷ 3 ∷ 3 ∷ 3 ∷ 3 ∷ 3 ∷ 3 ∷ 3 ∷ 3 ∷ 3 ∷ 3 ∷ 3 ∷ 3 ∷ 3 ∷ []  -- 16 to 31: beyond the four bits that table 23 has

pdu-types : Refuses 5 kinds kind_refusal (λ v. a.pdu_of v user (of_interrogation 1 0 0) service zero_lists ∷ [])
unfolding grammar
pdu-types = (refl, refl)

-- which PDU each is
types_mean : values pdu_type 0 32 ≡
    None ∷ None ∷ None ∷ None ∷ None
    ∷ Some Define ∷ Some DefineAck ∷ Some DefineExternal ∷ Some DefineUser ∷ Some DefineUserAck ∷ Some DefineExternalUser
    ∷ Some Interrogate ∷ Some InterrogateAck ∷ Some CallBarred
    ∷ replicate 18 None
unfolding codes
types_mean = refl

-- ---- acknowledgement from affected users, 1 bit, table 19: not requested; requested

-- requested only where delivery (table 30) is requested too; in a PDU to the affected user itself it is free
acknowledgements :
    Refuses 1 (0 ∷ 3 ∷ []) (acknowledgement_refusal 0)
    (λ v. a.define user 0 v 0 service zero_lists ∷ a.define_external user 0 v 0 service zero_lists ∷ [])
    × Refuses 1 (0 ∷ 0 ∷ []) (acknowledgement_refusal 1)
    (λ v. a.define user 1 v 0 service zero_lists ∷ a.define_external user 1 v 0 service zero_lists ∷ [])
    × InEach 1 (0 ∷ 0 ∷ []) (λ v. a.define_user v 0 service zero_lists ∷ a.define_external_user v 0 service zero_lists ∷ [])
unfolding grammar
acknowledgements = ((refl, refl), (refl, refl), refl)

-- ---- definition type, 2 bits, table 28: addition; replacement; removal; reserved

definition-types : Refuses 2 (0 ∷ 0 ∷ 0 ∷ 3 ∷ []) definition_refusal with_definition
unfolding grammar
definition-types = (refl, refl)

-- the part whose lists each carries, of the identity and of the number part
lists-of-definitions : (values (defined_part 1) 0 4 ≡ 1 ∷ 1 ∷ 0 ∷ 0 ∷ []) × (values (defined_part 2) 0 4 ≡ 2 ∷ 2 ∷ 0 ∷ 0 ∷ [])
unfolding codes
lists-of-definitions = (refl, refl)

-- the lists follow addition and replacement only: 50 bits without, or 20 to an affected user; three range types of 4 bits more with them
lists-defined : values (λ v. map (λ r. length (pdu.print r)) (with_definition v)) 0 4 ≡
    (62 ∷ 62 ∷ 32 ∷ 32 ∷ [])
    ∷ (62 ∷ 62 ∷ 32 ∷ 32 ∷ [])
    ∷ (50 ∷ 50 ∷ 20 ∷ 20 ∷ [])
    ∷ (50 ∷ 50 ∷ 20 ∷ 20 ∷ []) ∷ []
unfolding grammar
lists-defined = refl

-- ---- definition result, 3 bits, table 27: 5 is reserved

abbrev defined_results : List ℕ
defined_results =
    0 ∷ 0 ∷ 0  -- request failed for any reason; accepted by SwMI; accepted, but definition values changed
    ∷ 0 ∷ 0 ∷ 3  -- user not authorized; unknown TETRA identity; reserved
    ∷ 0 ∷ 0 ∷ []  -- parameters not valid; insufficient information

definition-results : Refuses 3 defined_results defined_refusal (λ v. a.define_ack user v ∷ [])
unfolding grammar
definition-results = (refl, refl)

-- ---- distribution result, 3 bits, table 31: 2 to 5 are reserved

abbrev distributed_results : List ℕ
distributed_results =
    0 ∷ 0  -- request failed for any reason; successfully received
    ∷ 3 ∷ 3 ∷ 3 ∷ 3  -- reserved
    ∷ 0 ∷ 0 ∷ []  -- parameters not valid; insufficient information

distribution-results : Refuses 3 distributed_results distributed_refusal (λ v. a.define_user_ack v ∷ [])
unfolding grammar
distribution-results = (refl, refl)

-- ---- rejection cause, 2 bits, table 38: outside the allowed user group; service type; destination address; reserved

rejection_causes : Refuses 2 (0 ∷ 0 ∷ 0 ∷ 3 ∷ []) cause_refusal (λ v. a.call_barred v ∷ [])
unfolding grammar
rejection_causes = (refl, refl)

-- ---- interrogation result, 3 bits, table 35: 5 is reserved

abbrev results : List ℕ
results =
    0 ∷ 0 ∷ 0  -- request failed for any reason; accepted, TETRA identities provided; accepted, external numbers provided
    ∷ 0 ∷ 0 ∷ 3  -- user not authorized; unknown affected user identity; reserved
    ∷ 0 ∷ 0 ∷ []  -- parameters not valid; insufficient information

interrogation-results : Refuses 3 results result_refusal (λ v. a.interrogate_ack user v 0 service zero_lists ∷ [])
unfolding grammar
interrogation-results = (refl, refl)

-- the lists follow the results 1 and 2 only: 51 bits without, three range types of 4 bits more with them
lists_follow : values (λ v. length (pdu.print (a.interrogate_ack user v 0 service zero_lists))) 0 8 ≡
    51 ∷ 63 ∷ 63 ∷ 51 ∷ 51 ∷ 51 ∷ 51 ∷ 51 ∷ []
unfolding grammar
lists_follow = refl

-- ---- interrogation type, 2 bits, table 36: reserved; identities; external numbers; both

interrogation-types : Refuses 2 (3 ∷ 0 ∷ 0 ∷ 0 ∷ []) asked_refusal (λ v. a.interrogate user v ∷ [])
unfolding grammar
interrogation-types = (refl, refl)

-- ---- delivery status, 2 bits, table 29: not requested; pending; acknowledged; unknown

delivery_statuses : InEach 2 (0 ∷ 0 ∷ 0 ∷ 0 ∷ []) (λ v. a.interrogate_ack user 0 v service zero_lists ∷ [])
unfolding grammar
delivery_statuses = refl

-- ---- number of services, 3 bits, table 37: reserved; one to seven

numbers-of-services : Refuses 3 (3 ∷ 0 ∷ 0 ∷ 0 ∷ 0 ∷ 0 ∷ 0 ∷ 0 ∷ []) count_refusal (λ v. with_services (record { count = v; list = replicate 7 0 }))
unfolding grammar
numbers-of-services = (refl, refl)

-- ---- service, 3 bits, table 42

services_mean : values service_of 0 8 ≡
    Some All ∷ Some Speech ∷ Some CircuitData ∷ Some ShortData ∷ None ∷ None ∷ None ∷ None ∷ []
unfolding codes
services_mean = refl

services-refused : Refuses 3 (0 ∷ 0 ∷ 0 ∷ 0 ∷ 3 ∷ 3 ∷ 3 ∷ 3 ∷ []) service_refusal (λ v. with_services (a.services (v ∷ [])))
unfolding grammar
services-refused = (refl, refl)

-- ---- range type, 4 bits

range-types : values range_type 0 16 ≡
    Some Empty  -- 0: empty list
    ∷ Some (Single 1) ∷ Some (Single 2) ∷ Some (Single 3) ∷ Some (Single 4)  -- 1 to 8: the code
    ∷ Some (Single 5) ∷ Some (Single 6) ∷ Some (Single 7) ∷ Some (Single 8)
    ∷ Some FirstAndLast  -- 9: first and last of a range
    ∷ None ∷ None ∷ None ∷ None ∷ None ∷ None ∷ []  -- 10 to 15: refused
unfolding codes
range-types = refl

abbrev row : ℕ → Bool → Row
row entries refused = record { entries = entries; refused = refused }

range_rows : values row_of 0 16 ≡
    row 0 false
    ∷ row 1 false ∷ row 2 false ∷ row 3 false ∷ row 4 false ∷ row 5 false ∷ row 6 false ∷ row 7 false ∷ row 8 false
    ∷ row 2 false
    ∷ row 0 true ∷ row 0 true ∷ row 0 true ∷ row 0 true ∷ row 0 true ∷ row 0 true ∷ []
unfolding codes
range_rows = refl

-- affected users: 0 is refused
abbrev for_users : List ℕ
for_users = 3 ∷ 0 ∷ 0 ∷ 0 ∷ 0 ∷ 0 ∷ 0 ∷ 0 ∷ 0 ∷ 0 ∷ 3 ∷ 3 ∷ 3 ∷ 3 ∷ 3 ∷ 3 ∷ []

users-refused : Refuses 4 for_users (range_refusal of.Users) (λ v. with_users (identities v))
unfolding grammar
users-refused = (refl, refl)

-- closed user groups, restricted identities and exceptions to them
abbrev for_identities : List ℕ
for_identities = 0 ∷ 0 ∷ 0 ∷ 0 ∷ 0 ∷ 0 ∷ 0 ∷ 0 ∷ 0 ∷ 0 ∷ 3 ∷ 3 ∷ 3 ∷ 3 ∷ 3 ∷ 3 ∷ []

identities-refused : Refuses 4 for_identities (range_refusal of.Identities) (λ v. with_identities (identities v))
unfolding grammar
identities-refused = (refl, refl)

-- restricted external numbers and exceptions to them: 9 is refused
abbrev for_numbers : List ℕ
for_numbers = 0 ∷ 0 ∷ 0 ∷ 0 ∷ 0 ∷ 0 ∷ 0 ∷ 0 ∷ 0 ∷ 3 ∷ 3 ∷ 3 ∷ 3 ∷ 3 ∷ 3 ∷ 3 ∷ []

numbers-refused : Refuses 4 for_numbers (range_refusal of.Numbers) (λ v. with_numbers (numbers v 1 0))
unfolding grammar
numbers-refused = (refl, refl)

-- ---- length of an external number, 5 bits: 1 to 24 digits

abbrev lengths : List ℕ
lengths =
    3
    ∷ 0 ∷ 0 ∷ 0 ∷ 0 ∷ 0 ∷ 0 ∷ 0 ∷ 0 ∷ 0 ∷ 0 ∷ 0 ∷ 0 ∷ 0 ∷ 0 ∷ 0 ∷ 0 ∷ 0 ∷ 0 ∷ 0 ∷ 0 ∷ 0 ∷ 0 ∷ 0 ∷ 0
    ∷ 3 ∷ 3 ∷ 3 ∷ 3 ∷ 3 ∷ 3 ∷ 3 ∷ []

number-lengths : Refuses 5 lengths length_refusal (λ v. with_numbers (numbers 1 v 0))
unfolding grammar
number-lengths = (refl, refl)

-- ---- digit, 4 bits: 0 to 9, then *, # and +

digits_mean : values digit_of 0 16 ≡
    Some (Decimal 0) ∷ Some (Decimal 1) ∷ Some (Decimal 2) ∷ Some (Decimal 3) ∷ Some (Decimal 4)
    ∷ Some (Decimal 5) ∷ Some (Decimal 6) ∷ Some (Decimal 7) ∷ Some (Decimal 8) ∷ Some (Decimal 9)
    ∷ Some Star ∷ Some Hash ∷ Some Plus ∷ None ∷ None ∷ None ∷ []
unfolding codes
digits_mean = refl

digits-refused :
    Refuses 4 (0 ∷ 0 ∷ 0 ∷ 0 ∷ 0 ∷ 0 ∷ 0 ∷ 0 ∷ 0 ∷ 0 ∷ 0 ∷ 0 ∷ 0 ∷ 3 ∷ 3 ∷ 3 ∷ []) digit_refusal (λ v. with_numbers (numbers 1 24 v))
unfolding grammar
digits-refused = (refl, refl)

-- the same as a test of the second digit of two
digits-tested : values (λ v. all_digits 2 (16 * v)) 0 16 ≡
    true ∷ true ∷ true ∷ true ∷ true ∷ true ∷ true ∷ true ∷ true ∷ true ∷ true ∷ true ∷ true ∷ false ∷ false ∷ false ∷ []
unfolding codes
digits-tested = refl

-- ---- the two ends of a range: the same present bit and extension, the first SSI at most the last

range-ends : (ends_refusal (near 199) (near 199) ≡ 0) × (ends_refusal (near 200) (near 199) ≡ 4)
    × (ends_refusal (far 2 0) (far 2 16777215) ≡ 0) × (ends_refusal (far 2 100) (far 3 199) ≡ 4)
    × (ends_refusal (near 100) (far 0 199) ≡ 4) × (ends_refusal (far 0 100) (near 199) ≡ 4)
unfolding ends_refusal
range-ends = (refl, refl, refl, refl, refl, refl)

-- they are looked at in every list of identities, and only if its range type is 9
abbrev reversed : ℕ → Identities
reversed code = list code (near 200 ∷ replicate 7 (near 199))

reversed-refused :
    InEach 4 (3 ∷ 0 ∷ 0 ∷ 0 ∷ 0 ∷ 0 ∷ 0 ∷ 0 ∷ 0 ∷ 4 ∷ 3 ∷ 3 ∷ 3 ∷ 3 ∷ 3 ∷ 3 ∷ []) (λ v. with_users (reversed v))
    × InEach 4 (0 ∷ 0 ∷ 0 ∷ 0 ∷ 0 ∷ 0 ∷ 0 ∷ 0 ∷ 0 ∷ 4 ∷ 3 ∷ 3 ∷ 3 ∷ 3 ∷ 3 ∷ 3 ∷ []) (λ v. with_identities (reversed v))
unfolding grammar
reversed-refused = (refl, refl)

-- the network is the extension if that is present, 0 too, otherwise the one that a missing extension means
networks : (network_of 1 (near 5) ≡ 1) × (network_of 1 (far 2 5) ≡ 2) × (network_of 1 (far 0 5) ≡ 0)
unfolding network_of
networks = (refl, refl, refl)
