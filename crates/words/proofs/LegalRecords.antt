-- A legal record is as its struct holds it: every list as long as its array, and the lengths and digits of numbers bytes below 255. Assumes nothing.
use mathlib.Core.Path.{◌≡◌, subst}
use mathlib.Core.Bool.{Bool, true, false}
use mathlib.Core.List.{List, [], ◌∷◌}
use Prim.Native.Nat.{ℕ, zero, suc, ◌<◌}
use Rattle.std.specs.Prelude.{Option}
use native.Mathlib.Omega.{arith}
use lib.ListN.{length}
use lib.Dec.{eqb}
use Rattle.bits.specs.Bits.{pick, Bytes}
use Rattle.bits.specs.Lists.{Each}
use Rattle.codec.specs.Codec.{Codec, Legal}
use Rattle.codec.specs.Parts.{absent, seq}
use Rattle.codec.proofs.Legality.{legal-seq, legal-shaped, legal-tested, legal-mark, legal-element, legal-absent, legal-places, legal-length}
use Rattle.grammar.specs.SiteSheet.{entries_of, pdu_type}
use Rattle.grammar.specs.Grammar.{identities, no_identities, external, no_external, externals, no_externals, services, no_services, identity_part}
use Rattle.grammar.specs.Grammar.{number_part, no_part, Rest, rest_of, from_lists, from_record, pdu}
use Rattle.grammar.specs.Rows.{form_of, part_in, rowed}
use Rattle.grammar.specs.declared.site.ListKind.{ListKind}
use Rattle.grammar.specs.declared.site.ListKind.TheVariants.{Users}
use Rattle.grammar.specs.declared.site.PduType.{PduType}
use Rattle.grammar.specs.declared.record.Identities.{Identities}
use Rattle.grammar.specs.declared.record.Number.{Number}
use Rattle.grammar.specs.declared.record.Numbers.{Numbers}
use Rattle.grammar.specs.declared.record.Services.{Services}
use Rattle.grammar.specs.declared.record.Lists.{Lists}
use Rattle.grammar.specs.declared.record.Record.{Record}
use Rattle.grammar.proofs.Rows.{in_rows}
use Rattle.words.specs.Sized.{SizedIdentities, SizedNumber, SizedNumbers, SizedLists, SizedRecord}

-- less than 255, which a word becomes that is wider than a byte
abbrev pub Small : ℕ → Type 0
Small d = d < 255

small_bytes : (s : List ℕ) → Each Small s → Bytes s
small_bytes [] e i = omega arith
small_bytes (x ∷ s) (h, t) zero = omega arith
small_bytes (x ∷ s) (h, t) (suc i) = small_bytes s t i

small-absent : (d : ℕ) → Legal absent d → Small d
small-absent d h = omega (arith, legal-absent d h)

-- ---- a number, and the lists

-- 24 digits, and they and their number are small
pub record SmallNumber (e : Number) : Type 0 where
  pub digits : length e.digits ≡ 24
  pub small : Each Small (e.length.0 ∷ e.digits)

external-small : (e : Number) → Legal external e → SmallNumber e
unfolding external
external-small e h =
    let p = legal-seq _ _ _ (legal-shaped _ _ _ _ _ _ h) in
    let l : e.length.0 < 32 = legal-element _ _ _ p.0 in
    let d = legal-places Small (λ d k. let s : d < 16 = legal-element _ _ _ k in omega arith) small-absent 24 e.length.0 e.digits p.1 in
    record { digits = d.0; small = (omega arith, d.1) }

no_external-small : (e : Number) → Legal no_external e → SmallNumber e
unfolding no_external
no_external-small e h =
    let p = legal-seq _ _ _ (legal-shaped _ _ _ _ _ _ h) in
    let d = legal-places Small small-absent small-absent 24 0 e.digits p.1 in
    record { digits = d.0; small = (small-absent _ p.0, d.1) }

abbrev SmallNumbers : Numbers → Type 0
SmallNumbers l = (length l.entries ≡ 8) × Each SmallNumber l.entries

externals-small : (l : Numbers) → Legal externals l → SmallNumbers l
unfolding externals
externals-small l h = legal-places SmallNumber external-small no_external-small 8 (entries_of l.code) l.entries
    (legal-seq _ _ _ (legal-shaped _ _ _ _ _ _ h)).1

no_externals-small : (l : Numbers) → Legal no_externals l → SmallNumbers l
unfolding no_externals
no_externals-small l h = legal-places SmallNumber no_external-small no_external-small 8 0 l.entries (legal-seq _ _ _ (legal-shaped _ _ _ _ _ _ h)).1

numbers-sized : (l : Numbers) → SmallNumbers l → SizedNumbers l
numbers-sized l h = (h.0, go l.entries h.1)
  where
    go : (s : List Number) → Each SmallNumber s → Each SizedNumber s
    go [] e = tt
    go (e ∷ s) (h, t) = (record { digits = h.digits; bytes = small_bytes (e.length.0 ∷ e.digits) h.small }, go s t)

identities-sized : (k : ListKind) (l : Identities) → Legal (identities k) l → SizedIdentities l
unfolding identities
identities-sized k l h =
    legal-length _ _ 8 (entries_of l.code) l.entries (legal-tested _ _ _ _ (legal-seq _ _ _ (legal-shaped _ _ _ _ _ _ h)).1)

no_identities-sized : (l : Identities) → Legal no_identities l → SizedIdentities l
unfolding no_identities
no_identities-sized l h = legal-length _ _ 8 0 l.entries (legal-seq _ _ _ (legal-shaped _ _ _ _ _ _ h)).1

services-sized : (s : Services) → Legal services s → length s.list ≡ 7
unfolding services
services-sized s h = legal-length _ _ 7 s.count s.list (legal-seq _ _ _ (legal-shaped _ _ _ _ _ _ h)).1

no_services-sized : (s : Services) → Legal no_services s → length s.list ≡ 7
unfolding no_services
no_services-sized s h = legal-length _ _ 7 0 s.list (legal-seq _ _ _ (legal-shaped _ _ _ _ _ _ h)).1

-- ---- the five lists, by the part

record SmallLists (l : Lists) : Type 0 where
  pub sized : SizedLists l
  pub numbers : SmallNumbers l.numbers
  pub excepted : SmallNumbers l.excepted

-- each list by a part whose legal values are sized, or small
lists-small : {g r x : Codec Identities} {n y : Codec Numbers} → ((l : Identities) → Legal g l → SizedIdentities l)
    → ((l : Identities) → Legal r l → SizedIdentities l) → ((l : Identities) → Legal x l → SizedIdentities l)
    → ((l : Numbers) → Legal n l → SmallNumbers l) → ((l : Numbers) → Legal y l → SmallNumbers l)
    → (l : Lists) → Legal (seq g (λ a. seq r (λ b. seq x (λ c. seq n (λ d. y))))) (from_lists l) → SmallLists l
lists-small groups restricted exceptions numbers excepted l h =
    let g = legal-seq _ _ _ h in
    let r = legal-seq _ _ _ g.1 in
    let x = legal-seq _ _ _ r.1 in
    let n = legal-seq _ _ _ x.1 in
    let s : SmallNumbers l.numbers = numbers _ n.0 in
    let t : SmallNumbers l.excepted = excepted _ n.1 in
    record {
      sized = record {
        groups = groups _ g.0;
        restricted = restricted _ r.0;
        exceptions = exceptions _ x.0;
        numbers = numbers-sized l.numbers s;
        excepted = numbers-sized l.excepted t;
      };
      numbers = s;
      excepted = t;
    }

no_part-small : (l : Lists) → Legal no_part l → SmallLists l
unfolding no_part
no_part-small l h = lists-small no_identities-sized no_identities-sized no_identities-sized no_externals-small no_externals-small l (legal-shaped _ _ _ _ _ _ h)

part_small : (one two : Bool) (l : Lists) → Legal (pick one identity_part (pick two number_part no_part)) l → SmallLists l
unfolding identity_part number_part
part_small true two l h =
    lists-small (identities-sized _) (identities-sized _) (identities-sized _) no_externals-small no_externals-small l (legal-shaped _ _ _ _ _ _ h)
part_small false true l h =
    lists-small (identities-sized _) no_identities-sized no_identities-sized externals-small externals-small l (legal-shaped _ _ _ _ _ _ h)
part_small false false l h = no_part-small l h

-- ---- the record

record SmallRest (q : Rest) : Type 0 where
  pub affected : SizedIdentities q.0
  pub services : length q.1.1.0.list ≡ 7
  pub lists : SmallLists q.1.1.1

users-sized : (carried : Bool) (l : Identities) → Legal (pick carried (identities Users) no_identities) l → SizedIdentities l
users-sized true l h = identities-sized Users l h
users-sized false l h = no_identities-sized l h

all-services-sized : (carried : Bool) (s : Services) → Legal (pick carried services no_services) s → length s.list ≡ 7
all-services-sized true s h = services-sized s h
all-services-sized false s h = no_services-sized s h

-- by its row
row_small : (t : Option PduType) (q : Rest) → Legal (rowed t) q → SmallRest q
row_small t q h =
    let u = legal-seq _ _ _ h in
    let s = legal-seq _ _ _ (legal-seq _ _ _ u.1).1 in
    let part = part_in t q.1.0 in
    record {
      affected = users-sized (form_of t).users q.0 u.0;
      services = all-services-sized (form_of t).services q.1.1.0 s.0;
      lists = part_small (eqb part 1) (eqb part 2) q.1.1.1 s.1;
    }

module _ (r : Record) (h : Legal pdu r) where
  rest : SmallRest (from_record r).1
  unfolding pdu
  rest =
      let t = pdu_type r.kind in
      let l : Legal (rest_of t) (from_record r).1 = (legal-seq _ _ _ (legal-shaped _ _ _ _ _ _ (legal-mark _ _ _ _ h))).1 in
      row_small t (from_record r).1 (subst (λ (c : Codec Rest). Legal c (from_record r).1) (in_rows t) l)

  pub record-sized : SizedRecord r
  record-sized = record { affected = rest.affected; services = rest.services; lists = rest.lists.sized }

  pub numbers-small : Each SmallNumber r.lists.numbers.entries × Each SmallNumber r.lists.excepted.entries
  numbers-small = (rest.lists.numbers.1, rest.lists.excepted.1)
