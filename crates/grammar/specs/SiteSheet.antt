-- The codes: what each means, or that it is refused. The site sheet stands in for EN 300 392-9; tables are those of EN 300 392-12-18.
use Rattle.std.specs.Prelude.{ℕ, zero, suc, ◌/◌, ◌%◌, Bool, true, false, ◌&&◌, eqb, leb, Option, Some, None}
use Rattle.bits.specs.Bits.{pick}
use Rattle.grammar.specs.declared.site.RangeType.{RangeType}
use Rattle.grammar.specs.declared.site.RangeType.TheVariants.{Empty, Single, FirstAndLast}
use Rattle.grammar.specs.declared.site.ListKind.{ListKind}
use Rattle.grammar.specs.declared.site.ListKind.TheVariants.{Users, Identities, Numbers}
use Rattle.grammar.specs.declared.site.Row.{Row}
use Rattle.grammar.specs.declared.site.Digit.{Digit}
use Rattle.grammar.specs.declared.site.Digit.TheVariants.{Decimal, Star, Hash, Plus}
use Rattle.grammar.specs.declared.site.Service.{Service}
use Rattle.grammar.specs.declared.site.Service.TheVariants.{All, Speech, CircuitData, ShortData}
use Rattle.grammar.specs.declared.site.PduType.{PduType}
use Rattle.grammar.specs.declared.site.PduType.TheVariants as pdu

-- the SS type of BOC, our stand-in until EN 300 392-9 is supplied
abbrev pub ss_type : ℕ
ss_type = 18

-- ---- range types

-- 0: empty list; 1 to 8: so many single entries; 9: first and last of a range; 10 to 15: refused
unfoldable pub range_type : ℕ → Option RangeType
range_type code = pick (eqb code 0) (Some Empty) (pick (leb code 8) (Some (Single code)) (pick (eqb code 9) (Some FirstAndLast) None))

-- how many entries follow, and whether the code is refused
abbrev pub row_of_type : Option RangeType → Row
row_of_type (Some Empty) = record { entries = 0; refused = false }
row_of_type (Some (Single n)) = record { entries = n; refused = false }
row_of_type (Some FirstAndLast) = record { entries = 2; refused = false }
row_of_type None = record { entries = 0; refused = true }

unfoldable pub row_of : ℕ → Row
row_of code = row_of_type (range_type code)

abbrev pub entries_of : ℕ → ℕ
entries_of code = (row_of code).entries

-- 0 is refused for affected users, 9 for external numbers
abbrev pub refusal_in : ListKind → Option RangeType → ℕ
refusal_in Users (Some Empty) = 3
refusal_in Identities (Some Empty) = 0
refusal_in Numbers (Some Empty) = 0
refusal_in l (Some (Single n)) = 0
refusal_in Users (Some FirstAndLast) = 0
refusal_in Identities (Some FirstAndLast) = 0
refusal_in Numbers (Some FirstAndLast) = 3
refusal_in l None = 3

unfoldable pub range_refusal : ListKind → ℕ → ℕ
range_refusal l code = refusal_in l (range_type code)

-- ---- digits: 0 to 9, then *, # and +

unfoldable pub digit_of : ℕ → Option Digit
digit_of d = pick (leb d 9) (Some (Decimal d)) (pick (eqb d 10) (Some Star) (pick (eqb d 11) (Some Hash) (pick (eqb d 12) (Some Plus) None)))

abbrev pub refusal_of_digit : Option Digit → ℕ
refusal_of_digit (Some d) = 0
refusal_of_digit None = 3

unfoldable pub digit_refusal : ℕ → ℕ
digit_refusal d = refusal_of_digit (digit_of d)

-- the k lowest digits of a number, of 4 bits each, are legal
unfoldable pub all_digits : ℕ → ℕ → Bool
all_digits zero w = true
all_digits (suc k) w = eqb (digit_refusal (w % 16)) 0 && all_digits k (w / 16)

-- ---- services: table 42

unfoldable pub service_of : ℕ → Option Service
service_of v =
    pick (eqb v 0) (Some All) (pick (eqb v 1) (Some Speech) (pick (eqb v 2) (Some CircuitData) (pick (eqb v 3) (Some ShortData) None)))

abbrev pub refusal_of_service : Option Service → ℕ
refusal_of_service (Some s) = 0
refusal_of_service None = 3

unfoldable pub service_refusal : ℕ → ℕ
service_refusal v = refusal_of_service (service_of v)

-- ---- the other elements

abbrev pub between : ℕ → ℕ → ℕ → ℕ
between low high v = pick (leb low v && leb v high) 0 3

-- from low to high are reserved
abbrev pub reserved : ℕ → ℕ → ℕ → ℕ
reserved low high v = pick (leb low v && leb v high) 3 0

-- PDU type, table 23: 5 to 13; 0 to 4, which are named there, have no PDU, and all others are reserved
unfoldable pub pdu_type : ℕ → Option PduType
pdu_type v =
    pick (eqb v 5) (Some pdu.Define) (pick (eqb v 6) (Some pdu.DefineAck) (pick (eqb v 7) (Some pdu.DefineExternal) (pick (eqb v 8) (Some pdu.DefineUser)
    (pick (eqb v 9) (Some pdu.DefineUserAck) (pick (eqb v 10) (Some pdu.DefineExternalUser) (pick (eqb v 11) (Some pdu.Interrogate)
    (pick (eqb v 12) (Some pdu.InterrogateAck) (pick (eqb v 13) (Some pdu.CallBarred) None))))))))

abbrev pub kind_refusal : ℕ → ℕ
kind_refusal = between 5 13

-- acknowledgement from affected users: requested (1) only where delivery to them is (1), note 3 of tables 10 and 12
abbrev pub acknowledgement_refusal : ℕ → ℕ → ℕ
acknowledgement_refusal delivery = between 0 delivery

-- definition type, table 28: addition, replacement, removal; 3 is reserved
abbrev pub definition_refusal : ℕ → ℕ
definition_refusal = between 0 2

-- the part whose lists a definition carries: its own for addition (0) and replacement (1), none for any other (note 4 of tables 10 and 12,
-- note 1 of 13 and 15)
unfoldable pub defined_part : ℕ → ℕ → ℕ
defined_part part definition = pick (leb definition 1) part 0

-- definition result, table 27: 5 is reserved
abbrev pub defined_refusal : ℕ → ℕ
defined_refusal = reserved 5 5

-- distribution result, table 31: 2 to 5 are reserved
abbrev pub distributed_refusal : ℕ → ℕ
distributed_refusal = reserved 2 5

-- interrogation result, table 35: 5 is reserved
abbrev pub result_refusal : ℕ → ℕ
result_refusal = reserved 5 5

-- interrogation type, table 36: 0 is reserved
abbrev pub asked_refusal : ℕ → ℕ
asked_refusal = between 1 3

-- rejection cause, table 38: 3 is reserved
abbrev pub cause_refusal : ℕ → ℕ
cause_refusal = between 0 2

-- number of services, table 37: 0 is reserved
abbrev pub count_refusal : ℕ → ℕ
count_refusal = between 1 7

-- length of an external number: 1 to 24 digits
abbrev pub length_refusal : ℕ → ℕ
length_refusal = between 1 24

-- `unfolding codes` opens all of it
unfoldable pub codes : Unit {0}
unfolding range_type row_of range_refusal digit_of digit_refusal all_digits service_of service_refusal pdu_type defined_part
codes = tt
