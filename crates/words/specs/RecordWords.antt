-- A record as words of 32 bits, in this order: PDU type; affected users; interrogation type, result, delivery status;
-- number of services and 7 services; groups, restricted, exceptions; restricted numbers and exceptions to them;
-- delivery to affected users, acknowledgement from them, definition type; definition result, distribution result, rejection cause.
use Rattle.std.specs.Prelude.{ℕ, zero, suc, min, Bool, List, [], ◌∷◌, ◌++◌, length, take, drop, get_or, eqb, Option, Some, None}
use Rattle.bits.specs.Bits.{pick}
use Rattle.grammar.specs.Zero.{zero_figures}
use Rattle.grammar.specs.declared.record.Identity.{Identity}
use Rattle.grammar.specs.declared.record.Identities.{Identities}
use Rattle.grammar.specs.declared.record.Number.{Number}
use Rattle.grammar.specs.declared.record.Numbers.{Numbers}
use Rattle.grammar.specs.declared.record.Figures.{Figures}
use Rattle.grammar.specs.declared.record.Services.{Services}
use Rattle.grammar.specs.declared.record.Lists.{Lists}
use Rattle.grammar.specs.declared.record.Record.{Record}
use Rattle.words.specs.Places.{list_places, digit_places, service_places, identity_width, number_width, restricted_at, exceptions_at, numbers_at}
use Rattle.words.specs.Places.{excepted_at, affected_at, asked_at, result_at, status_at, services_at, lists_at, delivery_at, acknowledgement_at, definition_at}
use Rattle.words.specs.Places.{defined_at, distributed_at, cause_at, record_width}

-- ---- to words

-- the words of each entry, one entry after the other
unfoldable pub in_turn : {A : Type 0} → (A → List ℕ) → List A → List ℕ
in_turn f [] = []
in_turn f (x ∷ xs) = f x ++ in_turn f xs

unfoldable pub identity_words : Identity → List ℕ
identity_words e = e.ssi ∷ e.present ∷ e.extension ∷ []

unfoldable pub identities_words : Identities → List ℕ
identities_words l = l.code ∷ in_turn identity_words l.entries

unfoldable pub number_words : Number → List ℕ
number_words e = e.length.0 ∷ e.digits

unfoldable pub numbers_words : Numbers → List ℕ
numbers_words l = l.code ∷ in_turn number_words l.entries

unfoldable pub services_words : Services → List ℕ
services_words l = l.count ∷ l.list

unfoldable pub lists_words : Lists → List ℕ
lists_words l =
    identities_words l.groups ++ (identities_words l.restricted ++ (identities_words l.exceptions
    ++ (numbers_words l.numbers ++ numbers_words l.excepted)))

unfoldable pub record_words : Record → List ℕ
record_words r =
    r.kind ∷ identities_words r.affected
    ++ (r.figures.asked ∷ r.figures.result ∷ r.figures.status ∷ services_words r.services
    ++ (lists_words r.lists
    ++ (r.figures.delivery ∷ r.figures.acknowledgement ∷ r.figures.definition
    ∷ r.figures.defined ∷ r.figures.distributed ∷ r.figures.cause ∷ [])))

-- ---- from words

abbrev pub word : List ℕ → ℕ → ℕ
word w i = get_or w i 0

-- so many entries of so many words each
unfoldable pub entries_from : {A : Type 0} → (List ℕ → A) → ℕ → ℕ → List ℕ → List A
entries_from f width zero w = []
entries_from f width (suc n) w = f w ∷ entries_from f width n (drop width w)

-- a length and a digit are bytes in a record; a wider word becomes 255, which is refused as either
abbrev pub narrow : ℕ → ℕ
narrow w = min w 255

unfoldable pub narrowed : List ℕ → List ℕ
narrowed [] = []
narrowed (w ∷ ws) = narrow w ∷ narrowed ws

unfoldable pub identity_from : List ℕ → Identity
identity_from w = record { ssi = word w 0; present = word w 1; extension = word w 2 }

unfoldable pub identities_from : List ℕ → Identities
identities_from w = record { code = word w 0; entries = entries_from identity_from identity_width list_places (drop 1 w) }

unfoldable pub number_from : List ℕ → Number
number_from w = record { length = record { 0 = narrow (word w 0) }; digits = narrowed (take digit_places (drop 1 w)) }

unfoldable pub numbers_from : List ℕ → Numbers
numbers_from w = record { code = word w 0; entries = entries_from number_from number_width list_places (drop 1 w) }

unfoldable pub services_from : List ℕ → Services
services_from w = record { count = word w 0; list = take service_places (drop 1 w) }

unfoldable pub lists_from : List ℕ → Lists
lists_from w = record {
  groups = identities_from w;
  restricted = identities_from (drop restricted_at w);
  exceptions = identities_from (drop exceptions_at w);
  numbers = numbers_from (drop numbers_at w);
  excepted = numbers_from (drop excepted_at w);
}

-- the figures have their places among the words of a whole record
unfoldable pub figures_from : List ℕ → Figures
figures_from w = record {
  asked = word w asked_at;
  result = word w result_at;
  status = word w status_at;
  delivery = word w delivery_at;
  acknowledgement = word w acknowledgement_at;
  definition = word w definition_at;
  defined = word w defined_at;
  distributed = word w distributed_at;
  cause = word w cause_at;
}

unfoldable pub record_from : List ℕ → Record
record_from w = record {
  kind = word w 0;
  affected = identities_from (drop affected_at w);
  figures = figures_from w;
  services = services_from (drop services_at w);
  lists = lists_from (drop lists_at w);
}

-- ---- a slice of words: as many as a record has are one; another number of them gives no record and is left alone

abbrev pub are_record : ℕ → Bool
are_record words = eqb words record_width

unfoldable pub put_record : Record → List ℕ → List ℕ
put_record r words = pick (are_record (length words)) (record_words r) words

unfoldable pub given_record : List ℕ → Option Record
given_record words = pick (are_record (length words)) (Some (record_from words)) None

-- the figures of as many words as a record has, otherwise zeros
unfoldable pub given_figures : List ℕ → Figures
given_figures words = pick (are_record (length words)) (figures_from words) zero_figures

-- `unfolding records` opens all of it
unfoldable pub into_words : Unit {0}
unfolding in_turn identity_words identities_words number_words numbers_words services_words lists_words record_words
into_words = tt

unfoldable pub out_of_words : Unit {0}
unfolding entries_from narrowed identity_from identities_from number_from numbers_from services_from lists_from figures_from record_from
out_of_words = tt

unfoldable pub records : Unit {0}
unfolding into_words out_of_words
records = tt
