-- A request as words of 32 bits, in this order: the user's network and SSI; service; kind of destination (1 identity, 2 number), network,
-- SSI, length, 24 digits; group given (0 or 1), its network and SSI. Words that the request does not use are zero.
use Rattle.std.specs.Prelude.{ℕ, ◌+◌, List, [], ◌∷◌, ◌++◌, Bool, ◌&&◌, ◌||◌, length, take, drop, eqb, Option, Some, None}
use Rattle.bits.specs.Bits.{pick}
use Rattle.rules.specs.declared.request.User.{User}
use Rattle.rules.specs.declared.request.Destination.{Destination}
use Rattle.rules.specs.declared.request.Destination.TheVariants.{Identity, Number}
use Rattle.rules.specs.declared.request.Request.{Request}
use Rattle.words.specs.Places.{digit_places, service_at, kind_at, identity_at, length_at, digits_at, given_at, group_at, request_width}
use Rattle.words.specs.RecordWords.{word, narrow, narrowed}

-- ---- from words

-- an identity has no length, a number neither network nor SSI; the digits are the request's own rule
unfoldable pub are_destination : List ℕ → Bool
are_destination w =
    eqb (word w kind_at) 1 && eqb (word w length_at) 0
    || eqb (word w kind_at) 2 && (eqb (word w identity_at) 0 && eqb (word w (identity_at + 1)) 0)

unfoldable pub are_group : List ℕ → Bool
are_group w = eqb (word w given_at) 1 || eqb (word w given_at) 0 && (eqb (word w group_at) 0 && eqb (word w (group_at + 1)) 0)

unfoldable pub are_request : List ℕ → Bool
are_request w = are_destination w && are_group w

abbrev pub user_from : List ℕ → ℕ → User
user_from w at = record { network = word w at; ssi = word w (at + 1) }

unfoldable pub destination_from : List ℕ → Destination
destination_from w = pick (eqb (word w kind_at) 1) (Identity (user_from w identity_at)) (Number (record { 0 = narrow (word w length_at) }))

unfoldable pub group_from : List ℕ → Option User
group_from w = pick (eqb (word w given_at) 1) (Some (user_from w group_at)) None

unfoldable pub request_from : List ℕ → Request
request_from w = record {
  user = user_from w 0;
  service = word w service_at;
  destination = destination_from w;
  digits = narrowed (take digit_places (drop digits_at w));
  group = group_from w;
}

-- as many words as a request has, and they are a request's
abbrev pub is_request : List ℕ → Bool
is_request words = eqb (length words) request_width && are_request words

unfoldable pub given_request : List ℕ → Option Request
given_request words = pick (is_request words) (Some (request_from words)) None

-- ---- to words

abbrev pub user_words : User → List ℕ
user_words u = u.network ∷ u.ssi ∷ []

unfoldable pub destination_words : Destination → List ℕ
destination_words (Identity u) = 1 ∷ user_words u ++ (0 ∷ [])
destination_words (Number length) = 2 ∷ 0 ∷ 0 ∷ length.0 ∷ []

unfoldable pub group_words : Option User → List ℕ
group_words (Some u) = 1 ∷ user_words u
group_words None = 0 ∷ 0 ∷ 0 ∷ []

unfoldable pub request_words : Request → List ℕ
request_words q = user_words q.user ++ (q.service ∷ destination_words q.destination ++ (q.digits ++ group_words q.group))

-- `unfolding requests` opens all of it
unfoldable pub requests : Unit {0}
unfolding are_destination are_group are_request destination_from group_from request_from narrowed destination_words group_words request_words
requests = tt
