-- The words of lists and services read back as those, and words are written again as they were. Assumes nothing.
use mathlib.Core.Path.{◌≡◌, refl, ap, ◌∙◌}
use mathlib.Core.List.{List, [], ◌∷◌, ◌++◌}
use Prim.Native.Nat.{ℕ, suc, ◌-◌, ◌≤◌}
use native.Mathlib.Omega.{arith}
use lib.ListN.{length, take, drop, length-drop}
use lib.Seq.{take-add, take_at, get_or-take}
use Rattle.bits.specs.Bits.{Bytes}
use Rattle.bits.proofs.Bytes.{bytes-parts}
use Rattle.bits.specs.Lists.{Each}
use Rattle.grammar.specs.declared.record.Identity.{Identity}
use Rattle.grammar.specs.declared.record.Identities.{Identities}
use Rattle.grammar.specs.declared.record.Numbers.{Numbers}
use Rattle.grammar.specs.declared.record.Services.{Services}
use Rattle.words.specs.Places.{list_places, digit_places, service_places, identity_width, identities_width, number_width, entries_width}
use Rattle.words.specs.Places.{numbers_width, services_width}
use Rattle.words.specs.RecordWords.{word, narrow, narrowed, identity_words, identities_words, number_words, numbers_words, services_words}
use Rattle.words.specs.RecordWords.{identity_from, identities_from, number_from, numbers_from, services_from}
use Rattle.words.specs.Sized.{SizedNumber, SizedNumbers, SizedIdentities}
use Rattle.words.proofs.Layouts.{spelt-word, spelt-then, narrowed_bytes, Layout, entries-long, entries-back, entries-forth}

-- ---- an identity, a number

identity : Layout identity_width identity_words identity_from (λ e. Unit) (λ w. Unit)
unfolding identity_words identity_from
identity = record {
  long = λ e f. refl;
  back = λ e rest f. refl;
  forth = λ w h b.
      spelt-then w 0 1 2 (spelt-word w 0 (omega arith))
      (spelt-then w 1 1 1 (spelt-word w 1 (omega arith)) (spelt-word w 2 (omega arith)));
}

number : Layout number_width number_words number_from SizedNumber Bytes
unfolding number_words number_from
number = record {
  long = λ e f. ap suc f.digits;
  back = λ e rest f.
      let l : narrow e.length.0 ≡ e.length.0 = omega (arith, f.bytes 0) in
      let d = ap narrowed (take_at e.digits rest digit_places f.digits) ∙ narrowed_bytes e.digits (λ i. f.bytes (suc i)) in
      λ i. record { length = record { 0 = l i }; digits = d i };
  forth = λ w h b.
      let p = bytes-parts (take 1 w) (take digit_places (drop 1 w)) (rw (take-add 1 digit_places w) at b) in
      let l : narrow (word w 0) ≡ word w 0 = omega (arith, get_or-take 1 w 0 0 (omega arith), p.0 0) in
      let d = narrowed_bytes (take digit_places (drop 1 w)) p.1 in
      (λ i. l i ∷ d i) ∙ spelt-then w 0 1 digit_places (spelt-word w 0 (omega arith)) refl;
}

-- ---- lists of them, and services

all_units : (xs : List Identity) → Each (λ e. Unit) xs
all_units [] = tt
all_units (x ∷ xs) = (tt, all_units xs)

module _ (l : Identities) (f : SizedIdentities l) where
  pub identities-long : length (identities_words l) ≡ identities_width
  unfolding identities_words
  identities-long = ap suc (entries-long identity list_places l.entries f (all_units l.entries))

  pub identities-back : (rest : List ℕ) → identities_from (identities_words l ++ rest) ≡ l
  unfolding identities_words identities_from
  identities-back rest = λ i. record { code = l.code; entries = entries-back identity list_places l.entries rest f (all_units l.entries) i }

module _ (l : Numbers) (f : SizedNumbers l) where
  pub numbers-long : length (numbers_words l) ≡ numbers_width
  unfolding numbers_words
  numbers-long = ap suc (entries-long number list_places l.entries f.0 f.1)

  pub numbers-back : (rest : List ℕ) → numbers_from (numbers_words l ++ rest) ≡ l
  unfolding numbers_words numbers_from
  numbers-back rest = λ i. record { code = l.code; entries = entries-back number list_places l.entries rest f.0 f.1 i }

module _ (w : List ℕ) where
  pub identities-forth : identities_width ≤ length w → identities_words (identities_from w) ≡ take identities_width w
  unfolding identities_words identities_from
  identities-forth h =
      spelt-then w 0 1 (identities_width - 1) (spelt-word w 0 (omega arith))
      (entries-forth identity (λ s t b. (tt, tt)) list_places (drop 1 w) (omega (arith, length-drop 1 w)) tt)

  pub numbers-forth : numbers_width ≤ length w → Bytes (take entries_width (drop 1 w)) → numbers_words (numbers_from w) ≡ take numbers_width w
  unfolding numbers_words numbers_from
  numbers-forth h b =
      spelt-then w 0 1 entries_width (spelt-word w 0 (omega arith))
      (entries-forth number bytes-parts list_places (drop 1 w) (omega (arith, length-drop 1 w)) b)

pub services-back : (l : Services) (rest : List ℕ) → length l.list ≡ service_places → services_from (services_words l ++ rest) ≡ l
unfolding services_words services_from
services-back l rest f = λ i. record { count = l.count; list = take_at l.list rest service_places f i }

pub services-forth : (w : List ℕ) → services_width ≤ length w → services_words (services_from w) ≡ take services_width w
unfolding services_words services_from
services-forth w h = spelt-then w 0 1 service_places (spelt-word w 0 (omega arith)) refl
