-- A legal PDU is the framed writing of a legal record; a body agrees with its entry if that has the key it is filed under. Assumes nothing.
use mathlib.Core.Path.{◌≡◌, refl, sym, ap, ◌∙◌, subst}
use mathlib.Core.Logic.{◌↔◌}
use mathlib.Core.Bool.{Bool, true, false}
use mathlib.Core.List.{List}
use Prim.Native.Nat.{ℕ}
use lib.Dec.{eqb}
use borrow.Author.Tests.{eqb-true, eqb-false, eq-eqb, ne_eqb}
use Rattle.std.specs.Prelude.{Result, Ok}
use Rattle.bits.specs.Bits.{pick}
use Rattle.bits.proofs.Frames.{framed_is}
use Rattle.codec.proofs.Whole.{whole-reads}
use Rattle.grammar.specs.Grammar.{pdu, network_of}
use Rattle.grammar.specs.declared.record.Identity.{Identity}
use Rattle.grammar.specs.declared.record.Record.{Record}
use Rattle.walk.specs.declared.Refusal.{Refusal}
use Rattle.reader.specs.Read.{refusal_of, answer_of, found_in, read_is}
use Rattle.pdu.specs.Accepted.{accepted_as}
use Rattle.pdu.proofs.Accepted.{accepted-framed, accepted-legal}
use Rattle.judging.specs.Judge.{may_hold}
use Rattle.archive.specs.Model.{Held}
use Rattle.archive.specs.Filing.{filed_key, body_agrees}
use Rattle.archive.specs.Keeping.{held_for}
use Rattle.archive.specs.declared.contents.Key.{Key}
use Rattle.archive.proofs.Model.Bodies as bodies
use Rattle.promises.specs.Held.{Holdable, may_be-held}
use Rattle.promises.specs.Archive.{LegalPdu, NetworkOf, affected_user, Agrees}
use Rattle.promises.proofs.Demand1.Reading as reading-kept

-- ---- a legal PDU

pub legal-read : (s : List ℕ) (n : ℕ) (r : Record) → LegalPdu s n r → read_is s n ≡ accepted_as r
unfolding read_is
legal-read s n r l = rw (framed_is s n l.framed, l.bits, whole-reads pdu r l.legal)

pub read-legal : (s : List ℕ) (n : ℕ) → answer_of (read_is s n) ≡ Ok tt → LegalPdu s n (found_in (read_is s n))
read-legal s n e = record {
  framed = accepted-framed s n e;
  legal = accepted-legal s n e;
  bits = ((reading-kept.promise).success s n (ap (λ (a : Result Unit Refusal). (refusal_of a).number) e)).2;
}

pub legal : (s : List ℕ) (n : ℕ) (r : Record) → (read_is s n ≡ accepted_as r) ↔ LegalPdu s n r
legal s n r = (
  λ e. subst (λ (x : Record). LegalPdu s n x) (ap found_in e) (read-legal s n (ap answer_of e)),
  legal-read s n r,
)

-- ---- a body and its entry

network-says : (home : ℕ) (u : Identity) {network : ℕ} → network ≡ network_of home u → NetworkOf home u network
unfolding network_of
network-says home u e = record {
  extended = λ p. e ∙ ap (λ (t : Bool). pick t u.extension home) (eq-eqb _ _ p);
  otherwise = λ p. e ∙ ap (λ (t : Bool). pick t u.extension home) (ne_eqb _ _ p);
}

network-is : (home : ℕ) (u : Identity) (network : ℕ) → NetworkOf home u network → network ≡ network_of home u
unfolding network_of
network-is home u network k = go (eqb u.present 1) refl
  where
    go : (t : Bool) → eqb u.present 1 ≡ t → network ≡ pick t u.extension home
    go true e = k.extended (eqb-true _ _ e)
    go false e = k.otherwise (eqb-false _ _ e)

pub agrees-says : (home : ℕ) (h : Held) → body_agrees home h ≡ true → (r : Record) × Agrees home h r
agrees-says home h e =
    let g = bodies.agrees-says home h e in
    let r = found_in (read_is h.body h.entry.bits.0) in (
      r,
      record {
        body = read-legal h.body h.entry.bits.0 g.accepted;
        accepting = (may_be-held r).0 g.may;
        part = ap (λ (x : Key). x.part) g.key;
        ssi = ap (λ (x : Key). x.ssi) g.key;
        network = network-says home (affected_user r) (ap (λ (x : Key). x.network) g.key);
      },
    )

-- the entry with which a body agrees has the key that it is filed under
pub agreed-key : (home : ℕ) (h : Held) (r : Record) → Agrees home h r → h.entry.key ≡ filed_key home r
agreed-key home h r g =
    let w = network-is home (affected_user r) h.entry.key.network g.network in
    λ i. record { network = w i; ssi = g.ssi i; part = g.part i }

-- and a legal PDU that may be held agrees with that
pub filed-agrees : (home : ℕ) (s : List ℕ) (n day : ℕ) → answer_of (read_is s n) ≡ Ok tt → Holdable (found_in (read_is s n))
    → Agrees home (held_for home s n day) (found_in (read_is s n))
filed-agrees home s n day a m = record {
  body = read-legal s n a;
  accepting = m;
  part = refl;
  ssi = refl;
  network = network-says home (affected_user (found_in (read_is s n))) refl;
}

pub agrees-is : (home : ℕ) (h : Held) → (r : Record) × Agrees home h r → body_agrees home h ≡ true
agrees-is home h (r, g) =
    let n = h.entry.bits.0 in
    let e = legal-read h.body n r g.body in
    let f : r ≡ found_in (read_is h.body n) = sym (ap found_in e) in
    bodies.agrees-is home h (record {
      accepted = ap answer_of e;
      may = subst (λ (x : Record). may_hold x ≡ true) f ((may_be-held r).1 g.accepting);
      key = subst (λ (x : Record). h.entry.key ≡ filed_key home x) f (agreed-key home h r g);
    })
