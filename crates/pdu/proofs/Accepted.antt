-- What is accepted is framed and legal, and the numbers of its first affected user have 24 bits. Assumes nothing.
use mathlib.Core.Path.{◌≡◌, subst}
use mathlib.Core.Bool.{Bool, true, false}
use mathlib.Core.List.{List, [], ◌∷◌}
use Prim.Native.Nat.{ℕ, ◌^◌, ◌<◌}
use native.Mathlib.Omega.{arith}
use lib.ListN.{get_or}
use lib.Dec.{eqb}
use Rattle.std.specs.Prelude.{Ok}
use Rattle.bits.specs.Frame.{Framed}
use Rattle.bits.specs.Lists.{Each}
use Rattle.bits.proofs.Tests.{by-test}
use Rattle.codec.specs.Codec.{Codec, Legal}
use Rattle.codec.proofs.Legality.{legal-seq, legal-shaped, legal-tested, legal-mark, legal-number, legal-absent, legal-places}
use Rattle.grammar.specs.SiteSheet.{entries_of, pdu_type}
use Rattle.grammar.specs.Grammar.{extension, identity, no_identity, zero_identity, identities, no_identities, Rest, from_record, pdu}
use Rattle.grammar.specs.Rows.{form_of, users_if, rowed}
use Rattle.grammar.specs.declared.record.Identity.{Identity}
use Rattle.grammar.specs.declared.record.Identities.{Identities}
use Rattle.grammar.specs.declared.record.Record.{Record}
use Rattle.grammar.proofs.Rows.{in_rows}
use Rattle.reader.specs.Read.{answer_of, found_in, read_is}
use Rattle.reader.proofs.Walked.{with-found}
use Rattle.pdu.specs.Accepted.{accepted_as}
use Rattle.pdu.proofs.RoundTrip as trip

module _ (s : List ℕ) (n : ℕ) (e : answer_of (read_is s n) ≡ Ok tt) where
  with-record : read_is s n ≡ accepted_as (found_in (read_is s n))
  with-record = with-found (read_is s n) e

  pub accepted-framed : Framed s n
  accepted-framed = trip.accepted-framed s n (found_in (read_is s n)) with-record

  pub accepted-legal : Legal pdu (found_in (read_is s n))
  accepted-legal = trip.accepted-legal s n (found_in (read_is s n)) with-record

-- ---- an identity's numbers have 24 bits

record Small (e : Identity) : Type 0 where
  pub ssi : e.ssi < 2 ^ 24
  pub extension : e.extension < 2 ^ 24

identity-small : (e : Identity) → Legal identity e → Small e
unfolding identity extension
identity-small e h =
    let p = legal-seq _ _ _ (legal-shaped _ _ _ _ _ _ h) in
    let fits = by-test (λ (c : Codec ℕ). Legal c e.extension → e.extension < 2 ^ 24) (eqb e.present 1)
    (legal-number 24 e.extension) (λ l. omega (arith, legal-absent e.extension l)) in
    record { ssi = legal-number 24 e.ssi p.0; extension = fits (legal-seq _ _ _ p.1).1 }

unused-small : (e : Identity) → Legal no_identity e → Small e
unfolding no_identity
unused-small e h =
    let p = legal-seq _ _ _ (legal-shaped _ _ _ _ _ _ h) in
    record { ssi = omega (arith, legal-absent e.ssi p.0); extension = omega (arith, legal-absent e.extension (legal-seq _ _ _ p.1).1) }

first_small : (l : List Identity) → Each Small l → Small (get_or l 0 zero_identity)
first_small [] h = record { ssi = omega arith; extension = omega arith }
first_small (e ∷ l) (h, t) = h

-- what follows the PDU type of a legal record is legal by its row
pub row-legal : (r : Record) → Legal pdu r → Legal (rowed (pdu_type r.kind)) (from_record r).1
unfolding pdu
row-legal r h =
    subst (λ (c : Codec Rest). Legal c (from_record r).1) (in_rows (pdu_type r.kind))
    (legal-seq _ _ _ (legal-shaped _ _ _ _ _ _ (legal-mark _ _ _ _ h))).1

-- an affected user, or none
listed_small : (users : Bool) (l : Identities) → Legal (users_if users) l → Small (get_or l.entries 0 zero_identity)
unfolding identities no_identities
listed_small true l h =
    let k = legal-tested _ _ _ _ (legal-seq _ _ _ (legal-shaped _ _ _ _ _ _ h)).1 in
    first_small l.entries (legal-places Small identity-small unused-small 8 (entries_of l.code) l.entries k).1
listed_small false l h =
    let k = (legal-seq _ _ _ (legal-shaped _ _ _ _ _ _ h)).1 in
    first_small l.entries (legal-places Small unused-small unused-small 8 0 l.entries k).1

users-small : (r : Record) → Legal pdu r → Small (get_or r.affected.entries 0 zero_identity)
users-small r h = listed_small (form_of (pdu_type r.kind)).users r.affected (legal-seq _ _ _ (row-legal r h)).0

pub accepted-small : (s : List ℕ) (n : ℕ) → answer_of (read_is s n) ≡ Ok tt
    → ((get_or (found_in (read_is s n)).affected.entries 0 zero_identity).ssi < 16777216)
    × ((get_or (found_in (read_is s n)).affected.entries 0 zero_identity).extension < 16777216)
accepted-small s n e =
    let k = users-small (found_in (read_is s n)) (accepted-legal s n e) in
    (k.ssi, k.extension)
