-- What is refused in writing: 3 or 4, before the buffer is looked at. Assumes nothing.
use mathlib.Core.Bool.{◌&&◌}
use mathlib.Core.List.{List, [], ◌∷◌}
use Prim.Native.Nat.{ℕ, ◌^◌}
use lib.Dec.{ltb}
use Rattle.bits.proofs.Tests.{by-test}
use Rattle.codec.specs.Codec.{Codec, first}
use Rattle.codec.specs.Parts.{is_zero, number, absent, seq, tested, shaped}
use Rattle.codec.specs.Places.{nil, cons}
use Rattle.codec.proofs.Kept.{Kept}
use Rattle.grammar.specs.SiteSheet.{kind_refusal}
use Rattle.grammar.specs.Grammar.{pdu}
use Rattle.grammar.proofs.Parts.{of-pdu}
use Rattle.writer.specs.Write.{record_refusal}
use Rattle.grammar.specs.declared.record.Record.{Record}

-- no refusal, 3 or 4
pub data ThreeOrFour : ℕ → Type 0 where
  none : ThreeOrFour 0
  three : ThreeOrFour 3
  four : ThreeOrFour 4

firstly : {m n : ℕ} → ThreeOrFour m → ThreeOrFour n → ThreeOrFour (first m n)
firstly none k = k
firstly three k = three
firstly four k = four

-- every fault of the part is one of these
abbrev Within : (A : Type 0) → Codec A → Type 0
Within A c = (a : A) → ThreeOrFour (c.fault a)

within-cons : {A : Type 0} (c : Codec A) (d : Codec (List A)) → Within A c → Within (List A) d → Within (List A) (cons c d)
unfolding cons
within-cons c d h k [] = none
within-cons c d h k (a ∷ t) = firstly (h a) (k t)

within : Kept ThreeOrFour Within
unfolding number absent tested seq nil shaped
within = record {
  number = λ w v. by-test ThreeOrFour (ltb v (2 ^ w)) none three;
  absent = λ v. none;
  tested = λ c test into codes h a. firstly (h a) (codes a);
  seq = λ c d h k p. firstly (h p.0) (k p.0 p.1);
  nil = λ l. none;
  cons = within-cons;
  shaped = λ c to from there back h b. h (from b);
}

-- a record is refused with 3 or 4, and nothing else
pub refused-with : (r : Record) → ThreeOrFour (record_refusal r)
unfolding record_refusal
refused-with r = by-test ThreeOrFour (is_zero (kind_refusal r.kind) && pdu.clean r) (of-pdu ThreeOrFour none three four Within within r) three
