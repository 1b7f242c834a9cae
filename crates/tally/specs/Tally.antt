-- What the words of a record come to before anything is stored.
use Rattle.std.specs.Prelude.{◌≡◌, true, false, ◌&&◌, List, ℕ, ◌+◌, length}
use Rattle.codec.specs.Codec.{Codec, first}
use Rattle.grammar.specs.Grammar.{pdu}
use Rattle.words.specs.RecordWords.{are_record, record_from}
use Rattle.tally.specs.declared.Tally.{Tally}

-- what a record comes to before its first part
abbrev pub nothing : Tally
nothing = record { clean = true; refusal = 0; bits = 0 }

-- and what it comes to with the part a of c: all is zero that must be, the first refusal, the length
pub record Tallies {A : Type 0} (c : Codec A) (a : A) (before after : Tally) : Type 0 where
  pub clean : after.clean ≡ before.clean && c.clean a
  pub refusal : after.refusal ≡ first before.refusal (c.fault a)
  pub bits : after.bits ≡ before.bits + length (c.print a)

-- what words come to: those of a record to what its PDU does; any others are not clean, and have no refusal and no length
pub record TalliesWords (words : List ℕ) (t : Tally) : Type 0 where
  pub of-record : are_record (length words) ≡ true → Tallies pdu (record_from words) nothing t
  pub of_others : are_record (length words) ≡ false → t ≡ record { clean = false; refusal = 0; bits = 0 }
