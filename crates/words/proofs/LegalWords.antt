-- Words that are read as a legal record, or as a request in its range, are exactly its words. Assumes nothing.
use mathlib.Core.Path.{◌≡◌, refl, sym, ◌∙◌}
use mathlib.Core.Bool.{Bool, true, false, ◌&&◌, ◌||◌}
use mathlib.Core.List.{List, [], ◌∷◌}
use Prim.Native.Nat.{ℕ, zero, suc, ◌+◌, ◌*◌, ◌<◌}
use native.Mathlib.Omega.{arith}
use borrow.Author.Tests.{eqb-true, leb-true}
use lib.ListN.{length, take, drop}
use lib.Seq.{take-add, drop-drop}
use lib.Dec.{eqb, leb}
use Rattle.bits.specs.Bits.{pick, Bytes}
use Rattle.bits.specs.Lists.{every, Each}
use Rattle.bits.proofs.Bytes.{bytes_append}
use Rattle.bits.proofs.Tests.{both, picked}
use Rattle.codec.specs.Codec.{Legal}
use Rattle.grammar.specs.SiteSheet.{digit_refusal}
use Rattle.grammar.specs.Grammar.{pdu}
use Rattle.grammar.proofs.Codes.{digit-refusal}
use Rattle.rules.specs.Request.{is_destination, digits_used, is_digit, is_unused}
use Rattle.rules.specs.declared.request.Destination.TheVariants.{Identity, Number}
use Rattle.words.specs.Places.{list_places, digit_places, number_width, numbers_at, excepted_at, lists_at, record_width, number_entries_at}
use Rattle.words.specs.Places.{excepted_entries_at, kind_at, identity_at, length_at, digits_at, request_width}
use Rattle.words.specs.RecordWords.{word, entries_from, narrow, narrowed, number_from, numbers_from, lists_from, record_words, record_from}
use Rattle.words.specs.RequestWords.{are_destination, are_group, are_request, user_from, destination_from, request_words, request_from}
use Rattle.words.proofs.RecordInverse.{record-forth}
use Rattle.words.proofs.RequestParts.{no_length}
use Rattle.words.proofs.RequestInverse.{request-forth}
use Rattle.words.proofs.LegalRecords.{Small, SmallNumber, numbers-small}

-- what is narrowed to less than 255 is a byte
narrowed-small : (s : List ℕ) → Each Small (narrowed s) → Bytes s
unfolding narrowed
narrowed-small [] h i = omega arith
narrowed-small (x ∷ s) (h, t) zero = omega arith
narrowed-small (x ∷ s) (h, t) (suc i) = narrowed-small s t i

-- ---- records

number-bytes : (w : List ℕ) → SmallNumber (number_from w) → Bytes (take number_width w)
unfolding number_from narrowed
number-bytes [] h = narrowed-small [] tt
number-bytes (x ∷ w) h = narrowed-small (x ∷ take digit_places w) h.small

entries-bytes : (count : ℕ) (w : List ℕ) → Each SmallNumber (entries_from number_from number_width count w) → Bytes (take (number_width * count) w)
unfolding entries_from
entries-bytes zero w h = λ i. omega arith
entries-bytes (suc c) w (h, t) =
    let n = number_width in
    let z : n * suc c ≡ n + n * c = omega arith in
    rw (z, take-add n (n * c) w) (bytes_append (take n w) (take (n * c) (drop n w)) (number-bytes w h) (entries-bytes c (drop n w) t))

pub legal_words : (w : List ℕ) → length w ≡ record_width → Legal pdu (record_from w) → record_words (record_from w) ≡ w
unfolding record_from lists_from numbers_from
legal_words w l h =
    let k = numbers-small (record_from w) h in
    record-forth w l
    (entries-bytes list_places (drop number_entries_at w) (rw (drop-drop numbers_at lists_at w, drop-drop 1 (lists_at + numbers_at) w) at k.0))
    (entries-bytes list_places (drop excepted_entries_at w) (rw (drop-drop excepted_at lists_at w, drop-drop 1 (lists_at + excepted_at) w) at k.1))

-- ---- requests

digit-small : (d : ℕ) → is_digit d ≡ true → Small d
unfolding is_digit
digit-small d h =
    let few = picked (leb d 12) (sym (digit-refusal d) ∙ eqb-true (digit_refusal d) 0 h) (λ x. omega arith) in
    omega (arith, leb-true d 12 few.0)

digits-small : (u : ℕ) (s : List ℕ) → every is_digit (take u s) ≡ true → every is_unused (drop u s) ≡ true → Each Small s
unfolding every is_unused
digits-small u [] p q = tt
digits-small zero (x ∷ s) p q =
    let k = both (eqb x 0) (every is_unused s) q in
    (omega (arith, eqb-true x 0 k.0), digits-small zero s refl k.1)
digits-small (suc u) (x ∷ s) p q =
    let k = both (is_digit x) (every is_digit (take u s)) p in
    (digit-small x k.0, digits-small u s k.1 q)

-- the word for the length is a number's, or an identity's zero
module _ (w : List ℕ) where
  abbrev kind : ℕ
  kind = word w kind_at

  abbrev used : ℕ
  used = word w length_at

  abbrev unnamed : Bool
  unnamed = eqb (word w identity_at) 0 && eqb (word w (identity_at + 1)) 0

  length_byte : are_destination w ≡ true → is_destination (destination_from w) ≡ true → used < 256
  unfolding are_destination destination_from is_destination
  length_byte = go (eqb kind 1) refl
    where
      go : (p : Bool) → eqb kind 1 ≡ p → p && eqb used 0 || eqb kind 2 && unnamed ≡ true
          → is_destination (pick p (Identity (user_from w identity_at)) (Number (record { 0 = narrow used }))) ≡ true → used < 256
      go true k e h = omega (arith, no_length kind used unnamed (eqb-true kind 1 k) e)
      go false k e h =
          let few = both (leb 1 (narrow used)) (leb (narrow used) 24) h in
          omega (arith, leb-true (narrow used) 24 few.1)

pub ranged_words : (w : List ℕ) → length w ≡ request_width → are_request w ≡ true
    → let q = request_from w in
    is_destination q.destination ≡ true → every is_digit (take (digits_used q.destination) q.digits) ≡ true
    → every is_unused (drop (digits_used q.destination) q.digits) ≡ true → request_words q ≡ w
unfolding request_from are_request
ranged_words w l are d p q =
    let s = digits-small (digits_used (destination_from w)) (narrowed (take digit_places (drop digits_at w))) p q in
    request-forth w l are (length_byte w (both (are_destination w) (are_group w) are).0 d) (narrowed-small (take digit_places (drop digits_at w)) s)
