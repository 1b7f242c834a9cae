-- What legal BOC PDUs are, part by part: EN 300 392-12-18, tables 10 to 18, with the site sheet.
-- Each part is a codec: it is written, read and judged by the same description.
use Rattle.std.specs.Prelude.{refl, ◌&&◌, List, ℕ, length, get_or, leb, eqb, Option, Some, None}
use Rattle.bits.specs.Bits.{pick, bits_of, value}
use Rattle.codec.specs.Codec.{Codec}
use Rattle.codec.specs.Parts.{number, absent, element, seq, ◌>>=◌, ◌>>◌, tested, shaped, mark}
use Rattle.codec.specs.Places.{nil, cons, places}
use Rattle.grammar.specs.SiteSheet.{ss_type, entries_of, range_refusal, digit_refusal, service_refusal, codes}
use Rattle.grammar.specs.SiteSheet.{pdu_type, kind_refusal, asked_refusal, result_refusal, acknowledgement_refusal, definition_refusal, defined_part}
use Rattle.grammar.specs.SiteSheet.{defined_refusal, distributed_refusal, cause_refusal, count_refusal, length_refusal}
use Rattle.grammar.specs.declared.site.ListKind.{ListKind}
use Rattle.grammar.specs.declared.site.ListKind.TheVariants as of
use Rattle.grammar.specs.declared.site.PduType.{PduType}
use Rattle.grammar.specs.declared.site.PduType.TheVariants as type
use Rattle.grammar.specs.declared.record.Identity.{Identity}
use Rattle.grammar.specs.declared.record.Identities.{Identities}
use Rattle.grammar.specs.declared.record.Number.{Number}
use Rattle.grammar.specs.declared.record.Numbers.{Numbers}
use Rattle.grammar.specs.declared.record.Figures.{Figures}
use Rattle.grammar.specs.declared.record.Services.{Services}
use Rattle.grammar.specs.declared.record.Lists.{Lists}
use Rattle.grammar.specs.declared.record.Record.{Record}

-- ---- an identity: SSI, extension present, and the extension exactly if that is 1

unfoldable pub extension : ℕ → Codec ℕ
extension present = pick (eqb present 1) (number 24) absent

abbrev pub to_identity : ℕ × (ℕ × ℕ) → Identity
to_identity (ssi, (present, ext)) = record { ssi = ssi; present = present; extension = ext }

abbrev pub from_identity : Identity → ℕ × (ℕ × ℕ)
from_identity e = (e.ssi, (e.present, e.extension))

unfoldable pub identity : Codec Identity
identity =
    shaped (do
      number 24
      present ← number 1
      extension present)
    to_identity from_identity (λ a c f. refl) (λ e. refl)

-- an unused place
unfoldable pub no_identity : Codec Identity
no_identity = shaped (do absent; absent; absent) to_identity from_identity (λ a c f. refl) (λ e. refl)

abbrev pub zero_identity : Identity
zero_identity = record { ssi = 0; present = 0; extension = 0 }

-- the network of an identity: its extension if that is present, otherwise the one that a missing extension means
unfoldable pub network_of : ℕ → Identity → ℕ
network_of missing e = pick (eqb e.present 1) e.extension missing

-- ---- a list of identities: its range type, and as many entries as that says

-- the two ends of a range have the same present bit and extension, and are not reversed; otherwise 4
unfoldable pub ends_refusal : Identity → Identity → ℕ
ends_refusal a b = pick (eqb a.present b.present && eqb a.extension b.extension && leb a.ssi b.ssi) 0 4

unfoldable pub range_ends : ℕ → List Identity → ℕ
range_ends code l = pick (eqb code 9) (ends_refusal (get_or l 0 zero_identity) (get_or l 1 zero_identity)) 0

-- where the second end begins
abbrev pub second_end : List Identity → ℕ
second_end l = length (identity.print (get_or l 0 zero_identity))

abbrev pub to_identities : ℕ × List Identity → Identities
to_identities (code, entries) = record { code = code; entries = entries }

abbrev pub from_identities : Identities → ℕ × List Identity
from_identities l = (l.code, l.entries)

unfoldable pub identities : ListKind → Codec Identities
identities list =
    shaped (do
      code ← element 4 (range_refusal list)
      tested (places identity no_identity 8 (entries_of code)) (range_ends code) second_end)
    to_identities from_identities (λ a c f. refl) (λ l. refl)

-- a list that the PDU does not carry
unfoldable pub no_identities : Codec Identities
no_identities = shaped (do absent; places no_identity no_identity 8 0) to_identities from_identities (λ a c f. refl) (λ l. refl)

-- ---- an external number: its length, and as many digits; a list of them

abbrev pub to_number : ℕ × List ℕ → Number
to_number (length, digits) = record { length = record { 0 = length }; digits = digits }

abbrev pub from_number : Number → ℕ × List ℕ
from_number n = (n.length.0, n.digits)

unfoldable pub external : Codec Number
external =
    shaped (do
      length ← element 5 length_refusal
      places (element 4 digit_refusal) absent 24 length)
    to_number from_number (λ a c f. refl) (λ n. refl)

unfoldable pub no_external : Codec Number
no_external = shaped (do absent; places absent absent 24 0) to_number from_number (λ a c f. refl) (λ n. refl)

abbrev pub to_numbers : ℕ × List Number → Numbers
to_numbers (code, entries) = record { code = code; entries = entries }

abbrev pub from_numbers : Numbers → ℕ × List Number
from_numbers l = (l.code, l.entries)

unfoldable pub externals : Codec Numbers
externals =
    shaped (do
      code ← element 4 (range_refusal of.Numbers)
      places external no_external 8 (entries_of code))
    to_numbers from_numbers (λ a c f. refl) (λ l. refl)

unfoldable pub no_externals : Codec Numbers
no_externals = shaped (do absent; places no_external no_external 8 0) to_numbers from_numbers (λ a c f. refl) (λ l. refl)

-- ---- number of services, services (table 42)

abbrev pub to_services : ℕ × List ℕ → Services
to_services (count, list) = record { count = count; list = list }

abbrev pub from_services : Services → ℕ × List ℕ
from_services s = (s.count, s.list)

unfoldable pub services : Codec Services
services =
    shaped (do
      count ← element 3 count_refusal
      places (element 3 service_refusal) absent 7 count)
    to_services from_services (λ a c f. refl) (λ s. refl)

unfoldable pub no_services : Codec Services
no_services = shaped (do absent; places absent absent 7 0) to_services from_services (λ a c f. refl) (λ s. refl)

-- ---- the lists of a part: 1 identities, 2 external numbers, any other none

abbrev pub Five : Type 0
Five = Identities × (Identities × (Identities × (Numbers × Numbers)))

abbrev pub to_lists : Five → Lists
to_lists (groups, (restricted, (exceptions, (numbers, excepted)))) =
    record { groups = groups; restricted = restricted; exceptions = exceptions; numbers = numbers; excepted = excepted }

abbrev pub from_lists : Lists → Five
from_lists l = (l.groups, (l.restricted, (l.exceptions, (l.numbers, l.excepted))))

unfoldable pub identity_part : Codec Lists
identity_part =
    shaped (do
      identities of.Identities
      identities of.Identities
      identities of.Identities
      no_externals
      no_externals)
    to_lists from_lists (λ a c f. refl) (λ l. refl)

unfoldable pub number_part : Codec Lists
number_part =
    shaped (do
      identities of.Identities
      no_identities
      no_identities
      externals
      externals)
    to_lists from_lists (λ a c f. refl) (λ l. refl)

unfoldable pub no_part : Codec Lists
no_part =
    shaped (do
      no_identities
      no_identities
      no_identities
      no_externals
      no_externals)
    to_lists from_lists (λ a c f. refl) (λ l. refl)

abbrev pub part_of : ℕ → Codec Lists
part_of part = pick (eqb part 1) identity_part (pick (eqb part 2) number_part no_part)

-- ---- the figures of a PDU: those of an interrogation, of a definition and of an outcome, three each

abbrev pub Three : Type 0
Three = ℕ × (ℕ × ℕ)

unfoldable pub none : Codec Three
none = do absent; absent; absent

abbrev pub to_figures : Three × (Three × Three) → Figures
to_figures ((asked, (result, status)), ((delivery, (acknowledgement, definition)), (defined, (distributed, cause)))) = record {
  asked = asked;
  result = result;
  status = status;
  delivery = delivery;
  acknowledgement = acknowledgement;
  definition = definition;
  defined = defined;
  distributed = distributed;
  cause = cause;
}

abbrev pub from_figures : Figures → Three × (Three × Three)
from_figures f =
    ((f.asked, (f.result, f.status)), ((f.delivery, (f.acknowledgement, f.definition)), (f.defined, (f.distributed, f.cause))))

unfoldable pub figures : Codec Three → Codec Three → Codec Three → Codec Figures
figures interrogation definition outcome =
    shaped (do
      interrogation
      definition
      outcome)
    to_figures from_figures (λ a c f. refl) (λ f. refl)

abbrev pub interrogation_type : Codec Figures
interrogation_type = figures (do element 2 asked_refusal; absent; absent) none none

-- with the delivery status, of which every value is legal (table 29)
abbrev pub interrogation_result : Codec Figures
interrogation_result = figures (do absent; element 3 result_refusal; number 2) none none

-- delivery to affected users, acknowledgement from them, definition type
abbrev pub definition : Codec Figures
definition = figures none (do delivery ← number 1; element 1 (acknowledgement_refusal delivery); element 2 definition_refusal) none

-- the same in a PDU to the affected user itself: there is no delivery, and the acknowledgement is free
abbrev pub user_definition : Codec Figures
user_definition = figures none (do absent; number 1; element 2 definition_refusal) none

abbrev pub definition_result : Codec Figures
definition_result = figures none none (do element 3 defined_refusal; absent; absent)

abbrev pub distribution_result : Codec Figures
distribution_result = figures none none (do absent; element 3 distributed_refusal; absent)

abbrev pub rejection_cause : Codec Figures
rejection_cause = figures none none (do absent; absent; element 2 cause_refusal)

abbrev pub no_figures : Codec Figures
no_figures = figures none none none

-- ---- what follows the PDU type: affected users, figures, services, lists

abbrev pub Rest : Type 0
Rest = Identities × (Figures × (Services × Lists))

-- table 10
unfoldable pub define : Codec Rest
define = do
  identities of.Users
  f ← definition
  services
  part_of (defined_part 1 f.definition)

-- table 11
unfoldable pub define_ack : Codec Rest
define_ack = do
  identities of.Users
  definition_result
  no_services
  no_part

-- table 12
unfoldable pub define_external : Codec Rest
define_external = do
  identities of.Users
  f ← definition
  services
  part_of (defined_part 2 f.definition)

-- table 13
unfoldable pub define_user : Codec Rest
define_user = do
  no_identities
  f ← user_definition
  services
  part_of (defined_part 1 f.definition)

-- table 14
unfoldable pub define_user_ack : Codec Rest
define_user_ack = do
  no_identities
  distribution_result
  no_services
  no_part

-- table 15, whose lists have identities for entries, whatever their range types are called
unfoldable pub define_external_user : Codec Rest
define_external_user = do
  no_identities
  f ← user_definition
  services
  part_of (defined_part 1 f.definition)

-- table 16
unfoldable pub interrogate : Codec Rest
interrogate = do
  identities of.Users
  interrogation_type
  no_services
  no_part

-- table 17; the interrogation results that provide a part have its number
unfoldable pub interrogate_ack : Codec Rest
interrogate_ack = do
  identities of.Users
  f ← interrogation_result
  services
  part_of f.result

-- table 18
unfoldable pub call_barred : Codec Rest
call_barred = do
  no_identities
  rejection_cause
  no_services
  no_part

-- no PDU: nothing is carried
unfoldable pub no_pdu : Codec Rest
no_pdu = do
  no_identities
  no_figures
  no_services
  no_part

abbrev pub rest_of : Option PduType → Codec Rest
rest_of (Some type.Define) = define
rest_of (Some type.DefineAck) = define_ack
rest_of (Some type.DefineExternal) = define_external
rest_of (Some type.DefineUser) = define_user
rest_of (Some type.DefineUserAck) = define_user_ack
rest_of (Some type.DefineExternalUser) = define_external_user
rest_of (Some type.Interrogate) = interrogate
rest_of (Some type.InterrogateAck) = interrogate_ack
rest_of (Some type.CallBarred) = call_barred
rest_of None = no_pdu

-- ---- the PDU

abbrev pub to_record : ℕ × Rest → Record
to_record (kind, (affected, (figures, (services, lists)))) =
    record { kind = kind; affected = affected; figures = figures; services = services; lists = lists }

abbrev pub from_record : Record → ℕ × Rest
from_record r = (r.kind, (r.affected, (r.figures, (r.services, r.lists))))

-- the first affected user
abbrev pub user_of : Record → Identity
user_of r = get_or r.affected.entries 0 zero_identity

unfoldable pub pdu : Codec Record
pdu =
    mark 6 ss_type (shaped (do
      kind ← element 5 kind_refusal
      rest_of (pdu_type kind))
    to_record from_record (λ a c f. refl) (λ r. refl))

-- `unfolding grammar` opens all of it, part by part
unfoldable pub codecs : Unit {0}
unfolding mark shaped seq element tested number absent places cons nil bits_of value
codecs = tt

unfoldable pub entries : Unit {0}
unfolding extension identity no_identity ends_refusal range_ends identities no_identities external no_external externals no_externals
entries = tt

unfoldable pub tables : Unit {0}
unfolding define define_ack define_external define_user define_user_ack define_external_user interrogate interrogate_ack call_barred no_pdu
tables = tt

unfoldable pub grammar : Unit {0}
unfolding pdu tables none figures services no_services identity_part number_part no_part entries codecs codes
grammar = tt
