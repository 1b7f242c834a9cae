-- The barring rule: the first of six rules that applies. This section of document 01 decides over clause 5.5 of EN 300 392-12-18.
use Rattle.std.specs.Prelude.{ℕ, Bool, false, not, ◌&&◌, List, eqb, Option, Some, None}
use Rattle.bits.specs.Bits.{pick}
use Rattle.bits.specs.Lists.{some}
use Rattle.grammar.specs.declared.record.Identities.{Identities}
use Rattle.grammar.specs.declared.record.Lists.{Lists}
use Rattle.grammar.specs.declared.record.Record.{Record}
use Rattle.grammar.specs.SiteSheet.{codes}
use Rattle.grammar.specs.Grammar.{network_of, user_of}
use Rattle.rules.specs.Matching.{is_entry, in_range, identity_among, same, is_number, number_among, is_covering, covered}
use Rattle.rules.specs.declared.request.Destination.{Destination}
use Rattle.rules.specs.declared.request.Destination.TheVariants.{Identity, Number}
use Rattle.rules.specs.declared.request.User.{User}
use Rattle.rules.specs.declared.request.Request.{Request}
use Rattle.rules.specs.declared.Cause.{Cause}
use Rattle.rules.specs.declared.Cause.TheVariants.{OutsideGroup, RestrictedService, RestrictedAddress}

-- rejection causes, table 38: called party outside allowed user group; restricted service type; restricted destination address
abbrev pub cause_number : Cause → ℕ
cause_number OutsideGroup = 0
cause_number RestrictedService = 1
cause_number RestrictedAddress = 2

-- what a part says of a call: allowed, or barred with its cause
abbrev pub allowed : Option Cause
allowed = None

abbrev pub barred : Cause → Option Cause
barred = Some

-- ---- what the lists of a part say; `missing` is the network that a missing extension means

-- the destination is among the exceptions
unfoldable pub is_excepted : ℕ → Lists → Destination → List ℕ → Bool
is_excepted missing l (Identity u) digits = identity_among missing l.exceptions u
is_excepted missing l (Number length) digits = number_among l.excepted length.0 digits

-- the destination is among the restricted
unfoldable pub is_restricted : ℕ → Lists → Destination → List ℕ → Bool
is_restricted missing l (Identity u) digits = identity_among missing l.restricted u
is_restricted missing l (Number length) digits = number_among l.numbers length.0 digits

-- a list is empty if its range type is 0
abbrev pub is_empty : ℕ → Bool
is_empty code = eqb code 0

-- the call's group is in the list
abbrev pub in_groups : ℕ → Identities → Option User → Bool
in_groups missing groups (Some u) = identity_among missing groups u
in_groups missing groups None = false

-- the group list isn't empty, and either the call has no group or its group is not in the list
unfoldable pub is_outside : ℕ → Identities → Option User → Bool
is_outside missing groups group = not (is_empty groups.code) && not (in_groups missing groups group)

-- the range type of the restricted list
abbrev pub restricted_code : Lists → Destination → ℕ
restricted_code l (Identity u) = l.restricted.code
restricted_code l (Number length) = l.numbers.code

-- the group list and the restricted list are both empty
unfoldable pub both_empty : Lists → Destination → Bool
both_empty l destination = is_empty l.groups.code && is_empty (restricted_code l destination)

-- ---- the six rules, first that applies

unfoldable pub six_rules : ℕ → Record → Request → Option Cause
six_rules missing r q =
    pick (not (covered r.services q.service)) allowed  -- 1
    (pick (is_excepted missing r.lists q.destination q.digits) allowed  -- 2
    (pick (is_restricted missing r.lists q.destination q.digits) (barred RestrictedAddress)  -- 3
    (pick (is_outside missing r.lists.groups q.group) (barred OutsideGroup)  -- 4
    (pick (both_empty r.lists q.destination) (barred RestrictedService)  -- 5
    allowed))))  -- 6

-- the network that a missing extension of a group, a restricted or an excepted identity means: that of the PDU's affected user,
-- for whom alone a missing extension means the home network
abbrev pub missing_in : ℕ → Record → ℕ
missing_in home r = network_of home (user_of r)

unfoldable pub ruling : ℕ → Record → Request → Option Cause
ruling home r q = six_rules (missing_in home r) r q

-- `unfolding rules` opens all of it
unfoldable pub rules : Unit {0}
unfolding ruling six_rules is_excepted is_restricted is_outside both_empty covered is_covering identity_among is_entry in_range network_of codes
    number_among is_number same some
rules = tt
