-- When a request is in its range; otherwise the answer is 9.
use Rattle.std.specs.Prelude.{ℕ, Bool, true, ◌&&◌, take, drop, eqb, leb, ltb, Option, Some, None}
use Rattle.bits.specs.Bits.{pick}
use Rattle.bits.specs.Lists.{every}
use Rattle.grammar.specs.SiteSheet.{digit_of, digit_refusal}
use Rattle.rules.specs.declared.request.User.{User}
use Rattle.rules.specs.declared.request.Destination.{Destination}
use Rattle.rules.specs.declared.request.Destination.TheVariants.{Identity, Number}
use Rattle.rules.specs.declared.request.Request.{Request}

-- networks and SSIs are below 16,777,216
unfoldable pub is_user : User → Bool
is_user u = ltb u.network 16777216 && ltb u.ssi 16777216

-- a service 1 to 3
unfoldable pub is_service : ℕ → Bool
is_service service = leb 1 service && leb service 3

-- an identity, or an external number of 1 to 24 digits
unfoldable pub is_destination : Destination → Bool
is_destination (Identity u) = is_user u
is_destination (Number length) = leb 1 length.0 && leb length.0 24

-- a group or none
unfoldable pub is_group : Option User → Bool
is_group (Some u) = is_user u
is_group None = true

-- how many digit places the destination uses: an identity uses none
unfoldable pub digits_used : Destination → ℕ
digits_used (Identity u) = 0
digits_used (Number length) = length.0

-- a legal digit, and a place that is not used
unfoldable pub is_digit : ℕ → Bool
is_digit d = eqb (digit_refusal d) 0

unfoldable pub is_unused : ℕ → Bool
is_unused d = eqb d 0

-- 9 for a request out of its range, 0 for any other
unfoldable pub request_refusal : Request → ℕ
request_refusal r =
    pick (is_user r.user
    && is_service r.service
    && is_destination r.destination
    && is_group r.group
    && every is_digit (take (digits_used r.destination) r.digits)
    && every is_unused (drop (digits_used r.destination) r.digits))
    0 9

-- `unfolding requests` opens all of it
unfoldable pub requests : Unit {0}
unfolding request_refusal is_user is_service is_destination is_group digits_used is_digit is_unused every digit_refusal digit_of
requests = tt
