-- What private functions give.
use Rattle.std.specs.Prelude.{ℕ, Bool, ◌&&◌, List, take, drop}
use Rattle.bits.specs.Lists.{every}
use Rattle.grammar.specs.declared.record.Identities.{Identities}
use Rattle.grammar.specs.declared.record.Numbers.{Numbers}
use Rattle.rules.specs.Request.{is_user, is_service, is_destination, is_group, digits_used, is_digit, is_unused}
use Rattle.rules.specs.Matching.{identity_among, number_among}
use Rattle.rules.specs.declared.request.Destination.{Destination}
use Rattle.rules.specs.declared.request.Destination.TheVariants.{Identity, Number}
use Rattle.rules.specs.declared.request.Request.{Request}

-- each part of a request is in its range
unfoldable pub is_in_range : Request → Bool
is_in_range r =
    is_user r.user
    && is_service r.service
    && is_destination r.destination
    && is_group r.group
    && every is_digit (take (digits_used r.destination) r.digits)
    && every is_unused (drop (digits_used r.destination) r.digits)

-- the destination is among these identities, or among these numbers
unfoldable pub destination_among : ℕ → Identities → Numbers → Destination → List ℕ → Bool
destination_among missing identities numbers (Identity u) digits = identity_among missing identities u
destination_among missing identities numbers (Number length) digits = number_among numbers length.0 digits
