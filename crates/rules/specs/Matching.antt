-- When a list names a user, an external number or a service. `missing` is the network that a missing extension means.
use Rattle.std.specs.Prelude.{ℕ, Bool, true, false, ◌&&◌, ◌||◌, List, [], ◌∷◌, take, get_or, eqb, leb, Option, Some, None}
use Rattle.bits.specs.Lists.{some}
use Rattle.grammar.specs.SiteSheet.{range_type, entries_of}
use Rattle.grammar.specs.Grammar.{zero_identity, network_of}
use Rattle.grammar.specs.declared.site.RangeType.{RangeType}
use Rattle.grammar.specs.declared.site.RangeType.TheVariants.{Empty, Single, FirstAndLast}
use Rattle.grammar.specs.declared.record.Identity.{Identity}
use Rattle.grammar.specs.declared.record.Identities.{Identities}
use Rattle.grammar.specs.declared.record.Number.{Number}
use Rattle.grammar.specs.declared.record.Numbers.{Numbers}
use Rattle.grammar.specs.declared.record.Services.{Services}
use Rattle.rules.specs.declared.request.User.{User}

-- ---- identities

-- a single entry is this user
unfoldable pub is_entry : ℕ → User → Identity → Bool
is_entry missing u e = eqb (network_of missing e) u.network && eqb e.ssi u.ssi

-- a range includes both ends; they are of one network, the first's
unfoldable pub in_range : ℕ → User → Identity → Identity → Bool
in_range missing u first last = eqb (network_of missing first) u.network && leb first.ssi u.ssi && leb u.ssi last.ssi

-- by the site sheet's meaning of the range type
abbrev pub among_entries : ℕ → List Identity → User → Option RangeType → Bool
among_entries missing entries u (Some Empty) = false
among_entries missing entries u (Some (Single n)) = some (is_entry missing u) (take n entries)
among_entries missing entries u (Some FirstAndLast) = in_range missing u (get_or entries 0 zero_identity) (get_or entries 1 zero_identity)
among_entries missing entries u None = false

unfoldable pub identity_among : ℕ → Identities → User → Bool
identity_among missing list u = among_entries missing list.entries u (range_type list.code)

-- ---- external numbers

-- the digits of two numbers are equal
unfoldable pub same : List ℕ → List ℕ → Bool
same [] [] = true
same [] (b ∷ t) = false
same (a ∷ s) [] = false
same (a ∷ s) (b ∷ t) = eqb a b && same s t

-- numbers match if all digits and the length are equal
unfoldable pub is_number : ℕ → List ℕ → Number → Bool
is_number length digits e = eqb e.length.0 length && same (take length e.digits) (take length digits)

unfoldable pub number_among : Numbers → ℕ → List ℕ → Bool
number_among list length digits = some (is_number length digits) (take (entries_of list.code) list.entries)

-- ---- services

-- 0 is all applicable services (table 42)
unfoldable pub is_covering : ℕ → ℕ → Bool
is_covering service s = eqb s 0 || eqb s service

-- the part lists service 0 or this service
unfoldable pub covered : Services → ℕ → Bool
covered services service = some (is_covering service) (take services.count services.list)
