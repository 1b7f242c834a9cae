-- How many words the parts of a record and of a request have, and where each part begins: after those before it.
use Rattle.std.specs.Prelude.{ℕ, ◌+◌, ◌*◌}

-- ---- widths

-- entries of a list, digits of a number, services
abbrev pub list_places : ℕ
list_places = 8

abbrev pub digit_places : ℕ
digit_places = 24

abbrev pub service_places : ℕ
service_places = 7

-- SSI, extension present, extension
abbrev pub identity_width : ℕ
identity_width = 3

-- range type and entries
abbrev pub identities_width : ℕ
identities_width = 1 + list_places * identity_width

-- length and digits
abbrev pub number_width : ℕ
number_width = 1 + digit_places

-- the words of all numbers of a list
abbrev pub entries_width : ℕ
entries_width = list_places * number_width

-- range type and entries
abbrev pub numbers_width : ℕ
numbers_width = 1 + entries_width

-- number of services and services
abbrev pub services_width : ℕ
services_width = 1 + service_places

-- network, SSI
abbrev pub user_width : ℕ
user_width = 2

-- ---- the five lists: groups first

abbrev pub restricted_at : ℕ
restricted_at = identities_width

abbrev pub exceptions_at : ℕ
exceptions_at = restricted_at + identities_width

abbrev pub numbers_at : ℕ
numbers_at = exceptions_at + identities_width

abbrev pub excepted_at : ℕ
excepted_at = numbers_at + numbers_width

abbrev pub lists_width : ℕ
lists_width = excepted_at + numbers_width

-- ---- a record: PDU type first

abbrev pub affected_at : ℕ
affected_at = 1

abbrev pub asked_at : ℕ
asked_at = affected_at + identities_width

abbrev pub result_at : ℕ
result_at = asked_at + 1

-- delivery status
abbrev pub status_at : ℕ
status_at = result_at + 1

abbrev pub services_at : ℕ
services_at = status_at + 1

abbrev pub lists_at : ℕ
lists_at = services_at + services_width

-- delivery to affected users, acknowledgement from them, definition type
abbrev pub delivery_at : ℕ
delivery_at = lists_at + lists_width

abbrev pub acknowledgement_at : ℕ
acknowledgement_at = delivery_at + 1

abbrev pub definition_at : ℕ
definition_at = acknowledgement_at + 1

-- definition result, distribution result, rejection cause
abbrev pub defined_at : ℕ
defined_at = definition_at + 1

abbrev pub distributed_at : ℕ
distributed_at = defined_at + 1

abbrev pub cause_at : ℕ
cause_at = distributed_at + 1

abbrev pub record_width : ℕ
record_width = cause_at + 1

-- where the lengths and digits of restricted numbers and of exceptions to them begin
abbrev pub number_entries_at : ℕ
number_entries_at = lists_at + numbers_at + 1

abbrev pub excepted_entries_at : ℕ
excepted_entries_at = lists_at + excepted_at + 1

-- ---- a request: user first

abbrev pub service_at : ℕ
service_at = user_width

-- the kind of destination
abbrev pub kind_at : ℕ
kind_at = service_at + 1

-- network and SSI of an identity
abbrev pub identity_at : ℕ
identity_at = kind_at + 1

-- length and digits of an external number
abbrev pub length_at : ℕ
length_at = identity_at + user_width

abbrev pub digits_at : ℕ
digits_at = length_at + 1

-- whether a group is given
abbrev pub given_at : ℕ
given_at = digits_at + digit_places

abbrev pub group_at : ℕ
group_at = given_at + 1

abbrev pub request_width : ℕ
request_width = group_at + user_width
