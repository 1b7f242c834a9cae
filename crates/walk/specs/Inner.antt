-- What the walk's own functions say: where a part of a PDU leaves reading, and the answer where the last part ends.
use Rattle.std.specs.Prelude.{◌≡◌, Bool, true, ◌&&◌, List, ℕ, zero, suc, ◌+◌, ◌-◌, ◌*◌, ◌/◌, ◌%◌, ◌^◌, ◌≤◌, length, ltb, eqb, Some, Option, Result, Ok, Err}
use Rattle.bits.specs.Bits.{pick}
use Rattle.bits.specs.Frame.{bits_in}
use Rattle.bits.specs.Element.{window_at}
use Rattle.bits.specs.declared.Cursor.{Cursor}
use Rattle.codec.specs.Codec.{Codec}
use Rattle.codec.specs.Parts.{absent, element, seq, tested}
use Rattle.codec.specs.Places.{places}
use Rattle.codec.specs.Reading.{Found, got, and_next, read_at, reached}
use Rattle.codec.specs.declared.Stop.{Stop}
use Rattle.grammar.specs.SiteSheet.{entries_of, range_refusal, between, count_refusal, service_refusal, definition_refusal, pdu_type, defined_part}
use Rattle.grammar.specs.Grammar.{identity, no_identity, zero_identity, external, no_external, range_ends, second_end, part_of, pdu}
use Rattle.grammar.specs.Rows.{form_of, part_in, figures_of, users_of, services_of}
use Rattle.grammar.specs.declared.site.PduType.{PduType}
use Rattle.grammar.specs.declared.site.ListKind.{ListKind}
use Rattle.grammar.specs.declared.site.ListKind.TheVariants as of
use Rattle.grammar.specs.declared.record.Identity.{Identity}
use Rattle.grammar.specs.declared.record.Number.{Number}
use Rattle.grammar.specs.declared.record.Figures.{Figures}
use Rattle.walk.specs.Walk.{refusing}
use Rattle.walk.specs.declared.Head.{Head}
use Rattle.walk.specs.declared.Refusal.{Refusal}
use Rattle.walk.specs.declared.exact.Pdu.{Pdu}
use Rattle.walk.specs.declared.exact.Steering.{Steering}

-- a PDU's own bits
abbrev pub bits_of : Pdu → List Bool
bits_of pdu = bits_in pdu.length.0 pdu.bytes.now

-- where reading stands: at a cursor, or stopped
abbrev pub Reached : Type 0
Reached = Result Cursor Stop

-- the part c of the bits l, passed from where reading stands
unfoldable pub pass : {A : Type 0} → Codec A → List Bool → Reached → Reached
pass c l (Ok at) = reached (read_at c l at.at)
pass c l (Err e) = Err e

-- so many passes
unfoldable pub steps : (Reached → Reached) → ℕ → Reached → Reached
steps f zero r = r
steps f (suc k) r = steps f k (f r)

-- the identities that a range type says
unfoldable pub coded : ℕ → Codec (List Identity)
coded code = tested (places identity no_identity 8 (entries_of code)) (range_ends code) second_end

-- the external numbers that a range type says
unfoldable pub numbers : ℕ → Codec (List Number)
numbers code = places external no_external 8 (entries_of code)

-- a list: its range type, and the entries that it says
unfoldable pub listed : {A : Type 0} → ListKind → (ℕ → Codec (List A)) → Codec (ℕ × List A)
listed list entries = seq (element 4 (range_refusal list)) entries

-- the lists of a part: one of identities, and two of such entries
unfoldable pub lists : {A : Type 0} → ListKind → (ℕ → Codec (List A)) → List Bool → Reached → Reached
lists list entries l r = pass (listed list entries) l (pass (listed list entries) l (pass (listed of.Identities coded) l r))

-- range type 0 stands before no entries
pub record Empty {A : Type 0} (list : ListKind) (entries : ℕ → Codec (List A)) : Type 0 where
  pub legal : range_refusal list 0 ≡ 0
  pub value : List A
  pub read : (l : List Bool) (at : ℕ) → read_at (entries 0) l at ≡ got value at

-- a number from 1 on, and as many elements
unfoldable pub counted : ℕ → ℕ → Codec ℕ → Codec (ℕ × List ℕ)
counted width most c = seq (element width (between 1 most)) (places c absent most)

-- the two ends of a range, under their rule
unfoldable pub range : Codec (List Identity)
range = tested (places identity no_identity 8 2) (range_ends 9) second_end

-- ---- the head of an accepted PDU stands in its first 64 bits

-- an identity in the window at its place
unfoldable pub identity_in : ℕ → Identity
identity_in v = record { ssi = v / 2 ^ 33; present = v / 2 ^ 32 % 2; extension = pick (eqb (v / 2 ^ 32 % 2) 1) (v / 2 ^ 8 % 2 ^ 24) 0 }

-- the type of the PDU
abbrev pub type_in : List ℕ → Option PduType
type_in s = pdu_type (window_at s 0 / 2 ^ 46 % 2 ^ 5)

unfoldable pub head_in : List ℕ → ℕ → Head
head_in s result = record {
  kind = window_at s 0 / 2 ^ 46 % 2 ^ 5;
  code = pick (form_of (type_in s)).users (window_at s 0 / 2 ^ 42 % 2 ^ 4) 0;
  user = pick (form_of (type_in s)).users (identity_in (window_at s 15)) zero_identity;
  result = result;
}

-- the answer where reading ends, with the interrogation result: 5 if bits are left
unfoldable pub ended_is : List ℕ → ℕ → Result (ℕ × Cursor) Stop → Result Head Refusal
ended_is s n (Ok (result, end)) = pick (ltb end.at n) (refusing 5 (Some end.at)) (Ok (head_in s result))
ended_is s n (Err e) = refusing e.number (Some e.at)

-- ---- the figures, and the interrogation result among them

-- figures read at a place, and what they steer: the interrogation result, and the part whose lists follow
unfoldable pub steered_from : Option PduType → List Bool → ℕ → Found Steering
steered_from t l at = and_next (read_at (figures_of t) l at) (λ f p. got (record { result = f.result; part = part_in t f }) p)

-- a definition type read at a place, and what it steers
unfoldable pub defined_by : ℕ → List Bool → ℕ → Found Steering
defined_by part l at = and_next (read_at (element 2 definition_refusal) l at) (λ d p. got (record { result = 0; part = defined_part part d }) p)

-- the same for the figures of a definition of a part
unfoldable pub defined_from : Codec Figures → ℕ → List Bool → ℕ → Found Steering
defined_from c part l at = and_next (read_at c l at) (λ f p. got (record { result = f.result; part = defined_part part f.definition }) p)

-- what follows the affected users, read at a place, and the interrogation result in it
unfoldable pub result_from : Option PduType → List Bool → ℕ → Found ℕ
result_from t l at = and_next (read_at (figures_of t) l at) (λ f p. and_next (read_at (services_of t) l p) (λ s q.
    and_next (read_at (part_of (part_in t f)) l q) (λ lists end. got f.result end)))

-- the same from the affected users on, which begin at bit 11
unfoldable pub result_behind : Option PduType → List Bool → Found ℕ
result_behind t l = and_next (read_at (users_of t) l 11) (λ affected p. result_from t l p)

-- the interrogation result of the PDU l
unfoldable pub result_in : List Bool → Found ℕ
result_in l = and_next (read_at pdu l 0) (λ r p. got r.figures.result p)

-- ---- ahead of the end: bits after it are zeros, and whatever is found counts only if it lies inside the PDU

-- k elements of w bits in one number, the last of them first, pass if none is refused
unfoldable pub passing : (ℕ → ℕ) → ℕ → ℕ → ℕ → Bool
passing refuse w zero v = true
passing refuse w (suc k) v = eqb (refuse (v % 2 ^ w)) 0 && passing refuse w k (v / 2 ^ w)

-- number of services and services in 24 bits: their width, or 0 if one of them is refused
unfoldable pub services_in : ℕ → ℕ
services_in v =
    pick (eqb (count_refusal (v / 2 ^ 21)) 0 && passing service_refusal 3 7 (v % 2 ^ 21 / 2 ^ (21 - 3 * (v / 2 ^ 21)))) (3 + 3 * (v / 2 ^ 21)) 0

-- a part of a PDU in the bytes s that begins at a place ends at another, at most so many bits on, if that is inside the PDU
pub record Ends (part : List Bool → Reached → Reached) (s : List ℕ) (at most end : ℕ) : Type 0 where
  pub after : at ≤ end
  pub near : end ≤ at + most
  pub there : (n : ℕ) → n ≤ 4096 → end ≤ length (bits_in n s) → part (bits_in n s) (Ok (record { at = at })) ≡ Ok (record { at = end })

-- the same where the interrogation result is found
pub record Finds (found : List Bool → Found ℕ) (s : List ℕ) (at result end : ℕ) : Type 0 where
  pub after : at ≤ end
  pub there : (n : ℕ) → n ≤ 4096 → end ≤ length (bits_in n s) → found (bits_in n s) ≡ got result end
