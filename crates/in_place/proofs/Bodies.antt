-- The parts of an INTERROGATE ACK with one affected user, each with the value that its record has. Assumes nothing.
use mathlib.Core.Path.{◌≡◌, ap, ◌∙◌, subst}
use mathlib.Core.Bool.{Bool}
use mathlib.Core.List.{List}
use Prim.Native.Nat.{ℕ, ◌+◌, ◌*◌}
use Rattle.std.specs.Prelude.{Some}
use native.Mathlib.Omega.{arith}
use lib.ListN.{length, take, drop}
use Rattle.bits.specs.Bits.{bits, value}
use Rattle.bits.proofs.Numbers.{length-bits_of}
use Rattle.codec.specs.Codec.{Codec}
use Rattle.codec.specs.Parts.{tested}
use Rattle.codec.specs.Places.{places}
use Rattle.codec.proofs.Reading.{read_at-legal}
use Rattle.codec.proofs.Filling.{places-rest}
use Rattle.grammar.specs.SiteSheet.{ss_type, range_type, row_of, entries_of, range_refusal, pdu_type, kind_refusal}
use Rattle.grammar.specs.Grammar.{identity, no_identity, zero_identity, range_ends, second_end, identities, services, externals, no_identities}
use Rattle.grammar.specs.Grammar.{identity_part, number_part, part_of, interrogation_result, interrogate_ack, rest_of, pdu, from_record}
use Rattle.grammar.specs.Rows.{form_of, run_of}
use Rattle.grammar.specs.declared.record.Figures.{Figures}
use Rattle.grammar.specs.declared.record.Identities.{Identities}
use Rattle.grammar.specs.declared.record.Lists.{Lists}
use Rattle.grammar.specs.declared.record.Record.{Record}
use Rattle.grammar.specs.declared.site.ListKind.TheVariants as of
use Rattle.grammar.specs.declared.site.PduType.TheVariants as type
use Rattle.grammar.proofs.Rows.{figures-print}
use Rattle.grammar.proofs.Steps.{no_identity-at, no_identities-at}
use Rattle.reader.specs.Inner.{Read}
use Rattle.rules.specs.declared.request.Destination.{Destination}
use Rattle.rules.specs.declared.request.Destination.TheVariants.{Identity, Number}
use Rattle.barring.specs.Decide.{part_for}
use Rattle.in_place.proofs.Skipping.{identity-end}
use Rattle.in_place.proofs.Splits.{read-once, split-seq, split-shaped, split-tested, split-headed, split-mark, split-cons}

-- ---- where the affected user ends

module _ (s : List ℕ) {l : Identities} {end : ℕ} (r : Read (identities of.Users) (bits s) 11 l end) (one : l.code ≡ 1) where
  entries : Read (places identity no_identity 8 1) (bits s) 15 l.entries end
  unfolding identities row_of range_type
  entries =
      let h = split-headed 4 (range_refusal of.Users) (λ n. tested (places identity no_identity 8 (entries_of n)) (range_ends n) second_end)
      (split-shaped _ _ _ _ _ r) in
      rw one at (split-tested _ _ _ h.rest).0

  users-end : {b : ℕ} → b ≡ value (take 1 (drop 39 (bits s))) → end ≡ 40 + 24 * b
  unfolding places
  users-end is =
      let x = split-cons identity (places identity no_identity 7 0) entries in
      let none = places-rest identity no_identity (bits s) zero_identity (no_identity-at (bits s)) 7 x.middle in
      let end_is : end ≡ x.middle = cc (x.then.same, none) in
      end_is ∙ identity-end s 15 x.first is

-- ---- what follows the PDU type

-- services and lists, behind the affected user and the figures
pub record Parts (s : List ℕ) (r : Record) (end : ℕ) : Type 0 where
  pub services-at : ℕ
  pub lists_at : ℕ
  pub served : Read services (bits s) services-at r.services lists_at
  pub listed : Read (part_of r.figures.result) (bits s) lists_at r.lists end
  pub place : (b : ℕ) → b ≡ value (take 1 (drop 39 (bits s))) → services-at ≡ 45 + 24 * b

figures-end : (s : List ℕ) {at end : ℕ} {f : Figures} → Read interrogation_result (bits s) at f end → end ≡ at + 5
unfolding form_of
figures-end s {at} {end} {f} r =
    (read_at-legal interrogation_result (bits s) at f end r.same).1
    ∙ ap (λ (n : ℕ). at + n) (ap length (figures-print (Some type.InterrogateAck) f) ∙ length-bits_of 5 (run_of (Some type.InterrogateAck) f))

module _ (s : List ℕ) (r : Record) {end : ℕ} (x : Read pdu (bits s) 0 r end) (kind : r.kind ≡ 12) (one : r.affected.code ≡ 1) where
  rest : Read interrogate_ack (bits s) 11 (from_record r).1 end
  unfolding pdu pdu_type
  rest =
      let h = split-headed 5 kind_refusal (λ k. rest_of (pdu_type k)) (split-shaped _ _ _ _ _ (split-mark 6 ss_type _ x)) in
      rw kind at h.rest

  pub parts : Parts s r end
  unfolding interrogate_ack
  parts =
      let u = split-seq (identities of.Users) _ rest in
      let f = split-seq interrogation_result _ u.then in
      let v = split-seq services _ f.then in
      record {
        services-at = f.middle;
        lists_at = v.middle;
        served = v.first;
        listed = v.then;
        place = λ b is. figures-end s f.first ∙ omega (arith, users-end s u.first one is);
      }

-- ---- the lists of a part

-- the groups, then the restricted and the exceptions, of identities or of numbers
pub record PartLists {A : Type 0} (c : Codec A) (s : List Bool) (at : ℕ) (g : Identities) (r x : A) : Type 0 where
  pub restricted-at : ℕ
  pub exceptions-at : ℕ
  pub end : ℕ
  pub groups : Read (identities of.Identities) s at g restricted-at
  pub restricted : Read c s restricted-at r exceptions-at
  pub exceptions : Read c s exceptions-at x end

pub identity-lists : {s : List Bool} {at end result : ℕ} {l : Lists} → result ≡ 1 → Read (part_of result) s at l end
    → PartLists (identities of.Identities) s at l.groups l.restricted l.exceptions
unfolding identity_part
identity-lists e r =
    let g = split-seq _ _ (split-shaped _ _ _ _ _ (rw e at r)) in
    let t = split-seq _ _ g.then in
    let x = split-seq _ _ t.then in
    record {
      restricted-at = g.middle;
      exceptions-at = t.middle;
      end = x.middle;
      groups = g.first;
      restricted = t.first;
      exceptions = x.first;
    }

-- a list that is not carried ends where it begins
nowhere : {s : List Bool} {at end : ℕ} {l : Identities} → Read no_identities s at l end → end ≡ at
nowhere {s} {at} r = (read-once r (record { same = no_identities-at s at })).1

pub number-lists : {s : List Bool} {at end result : ℕ} {l : Lists} → result ≡ 2 → Read (part_of result) s at l end
    → PartLists externals s at l.groups l.numbers l.excepted
unfolding number_part
number-lists {s} {at} {end} {l = l} e r =
    let g = split-seq _ _ (split-shaped _ _ _ _ _ (rw e at r)) in
    let t = split-seq _ _ g.then in
    let x = split-seq _ _ t.then in
    let n = split-seq _ _ x.then in
    let p : x.middle ≡ g.middle = nowhere x.first ∙ nowhere t.first in
    record {
      restricted-at = g.middle;
      exceptions-at = n.middle;
      end = end;
      groups = g.first;
      restricted = subst (λ (k : ℕ). Read externals s k l.numbers n.middle) p n.first;
      exceptions = n.then;
    }

-- either begins with the groups
pub record Grouped (s : List Bool) (at : ℕ) (l : Lists) : Type 0 where
  pub end : ℕ
  pub groups : Read (identities of.Identities) s at l.groups end

pub grouped : (d : Destination) {s : List Bool} {at end result : ℕ} {l : Lists} → result ≡ part_for d → Read (part_of result) s at l end
    → Grouped s at l
unfolding part_for
grouped (Identity u) e r = let x = identity-lists e r in record { end = x.restricted-at; groups = x.groups }
grouped (Number n) e r = let x = number-lists e r in record { end = x.restricted-at; groups = x.groups }
