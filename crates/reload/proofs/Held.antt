-- What an archive holds is an INTERROGATE ACK, so the PDU that puts it back is legal wherever its lists stand. Assumes nothing.
use Rattle.std.specs.Prelude.{Some}
use mathlib.Core.Path.{◌≡◌}
use mathlib.Core.Bool.{true, ◌&&◌}
use mathlib.Core.List.{List}
use Prim.Native.Nat.{ℕ}
use borrow.Author.Tests.{eqb-true}
use lib.Dec.{eqb, leb}
use Rattle.bits.proofs.Tests.{both}
use Rattle.codec.specs.Codec.{Legal}
use Rattle.grammar.specs.Grammar.{pdu}
use Rattle.grammar.specs.declared.record.Record.{Record}
use Rattle.pdu.proofs.Accepted.{accepted-legal}
use Rattle.archive.specs.Model.{Held}
use Rattle.archive.specs.Reading.{reading, is_archive}
use Rattle.archive.specs.Restoring.{lookup}
use Rattle.archive.specs.declared.contents.Key.{Key}
use Rattle.archive.proofs.Model.Found.{held-agrees}
use Rattle.reload.specs.Define.{is_definition, define_of, stands}
use Rattle.reload.specs.Reload.{record_of}
use Rattle.reload.specs.declared.Definition.{Definition}
use Rattle.reload.specs.declared.Target.{Target}
use Rattle.reload.proofs.Standing.{define-legal}

module _ (b : List ℕ) (a : is_archive b ≡ true) (k : Key) {h : Held} (e : lookup k (reading b).held ≡ Some h) where
  pub held-defined : (t : Target) (d : Definition) → is_definition d ≡ true → stands t d.definition (record_of h).lists ≡ true
      → Legal pdu (define_of t d (record_of h))
  held-defined t d asked fits =
      let held = held-agrees b a k e in
      let r : Record = record_of h in
      let p = both (eqb r.kind 12) (leb 1 r.figures.result && (leb r.figures.result 2 && eqb r.affected.code 1)) held.may in
      define-legal t d r (accepted-legal h.body h.entry.bits.0 held.accepted) (eqb-true r.kind 12 p.0) asked fits
