-- A request's words are a request's and read back as that request, and words that are a request's are written again as they were.
-- Assumes nothing.
use mathlib.Core.Path.{◌≡◌, refl, ap, ◌∙◌}
use mathlib.Core.Bool.{true, ◌&&◌}
use mathlib.Core.List.{List, [], ◌∷◌, ◌++◌}
use Prim.Native.Nat.{ℕ, suc, ◌+◌, ◌-◌, ◌<◌}
use native.Mathlib.Omega.{arith}
use lib.ListN.{length, take, drop, length-append}
use lib.Seq.{take_all, take_at}
use lib.Dec.{eqb}
use Rattle.bits.specs.Bits.{Bytes}
use Rattle.bits.proofs.Tests.{both}
use Rattle.rules.specs.declared.request.Request.{Request}
use Rattle.words.specs.Places.{digit_places, service_at, kind_at, identity_at, length_at, digits_at, given_at, group_at, request_width}
use Rattle.words.specs.RecordWords.{word, narrowed}
use Rattle.words.specs.RequestWords.{are_destination, are_group, are_request, destination_from, group_from, request_from, destination_words}
use Rattle.words.specs.RequestWords.{group_words, request_words}
use Rattle.words.specs.Sized.{SizedRequest}
use Rattle.words.proofs.Layouts.{drop-after, word_after, spelt-word, spelt-then, narrowed_bytes}
use Rattle.words.proofs.RequestParts.{destination-long, destination-back, are-destination, destination-forth, group-long, group-back}
use Rattle.words.proofs.RequestParts.{are-group, group-forth}

module _ (q : Request) (f : SizedRequest q) where
  pub request-long : length (request_words q) ≡ request_width
  unfolding request_words
  request-long = simp length-append (omega (arith, destination-long q.destination, f.digits, group-long q.group))

  last_words : (k : ℕ) → word (request_words q) (given_at + k) ≡ word (group_words q.group) k
  unfolding request_words
  last_words k =
      let front = q.user.network ∷ q.user.ssi ∷ q.service ∷ destination_words q.destination in
      let g = group_words q.group in
      let z : given_at + k ≡ digits_at + (digit_places + k) = omega arith in
      ap (word (request_words q)) z
      ∙ word_after front (q.digits ++ g) digits_at (digit_places + k) (ap (λ (n : ℕ). suc (suc (suc n))) (destination-long q.destination))
      ∙ word_after q.digits g digit_places k f.digits

  pub request-back : request_from (request_words q) ≡ q
  unfolding request_words request_from
  request-back =
      let d = destination_words q.destination in
      let g = group_words q.group in
      let digits =
      ap (λ (s : List ℕ). narrowed (take digit_places s)) (drop-after d (q.digits ++ g) (digits_at - kind_at) 0 (destination-long q.destination))
      ∙ ap narrowed (take_at q.digits g digit_places f.digits) ∙ narrowed_bytes q.digits f.bytes
      in
      λ i. record {
        user = q.user;
        service = q.service;
        destination = destination-back q.user.network q.user.ssi q.service (q.digits ++ g) q.destination f.used i;
        digits = digits i;
        group = group-back (request_words q) q.group last_words i;
      }

  pub request_are : are_request (request_words q) ≡ true
  unfolding request_words are_request
  request_are =
      let d = are-destination q.user.network q.user.ssi q.service (q.digits ++ group_words q.group) q.destination in
      λ i. d i && are-group (request_words q) q.group last_words i

-- a number's length and its digits have to be bytes
pub request-forth : (w : List ℕ) → length w ≡ request_width → are_request w ≡ true → word w length_at < 256 → Bytes (take digit_places (drop digits_at w))
    → request_words (request_from w) ≡ w
unfolding request_words request_from are_request are_destination are_group destination_from group_from
request-forth w h are u b =
    let a = both (are_destination w) (are_group w) are in
    let one : (at : ℕ) → at < request_width → word w at ∷ [] ≡ take 1 (drop at w) = λ at k. spelt-word w at (omega arith) in
    let destination =
    destination-forth (word w kind_at) (word w identity_at) (word w (identity_at + 1)) (word w length_at) u (eqb (word w kind_at) 1) refl a.0
    ∙ spelt-then w kind_at 1 3 (one kind_at (omega arith))
    (spelt-then w identity_at 1 2 (one identity_at (omega arith))
    (spelt-then w (identity_at + 1) 1 1 (one (identity_at + 1) (omega arith)) (one length_at (omega arith))))
    in
    let group =
    group-forth (word w given_at) (word w group_at) (word w (group_at + 1)) a.1
    ∙ spelt-then w given_at 1 2 (one given_at (omega arith))
    (spelt-then w group_at 1 1 (one group_at (omega arith)) (one (group_at + 1) (omega arith)))
    in
    spelt-then w 0 1 (request_width - 1) (one 0 (omega arith))
    (spelt-then w 1 1 (request_width - service_at) (one 1 (omega arith))
    (spelt-then w service_at 1 (request_width - kind_at) (one service_at (omega arith))
    (spelt-then w kind_at (digits_at - kind_at) (request_width - digits_at) destination
    (spelt-then w digits_at digit_places (request_width - given_at) (narrowed_bytes (take digit_places (drop digits_at w)) b) group))))
    ∙ take_all request_width w (omega arith)
