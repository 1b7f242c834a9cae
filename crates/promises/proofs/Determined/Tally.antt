-- The public function of `tally` has one possible outcome.
use mathlib.Core.Path.{◌≡◌, refl}
use mathlib.Core.Bool.{Bool, true, false, ◌&&◌}
use mathlib.Core.List.{List}
use Prim.Native.Nat.{ℕ, ◌+◌}
use lib.ListN.{length}
use Rattle.bits.specs.Bits.{pick}
use Rattle.codec.specs.Codec.{first}
use Rattle.grammar.specs.Grammar.{pdu}
use Rattle.words.specs.RecordWords.{are_record, record_from}
use Rattle.tally.specs.Tally.{TalliesWords}
use Rattle.tally.specs.declared.Tally.{Tally}
use Rattle.tally.proofs as tally
use Rattle.promises.specs.Determined.{Determined, by_equations}

-- of a record's words, and of others
abbrev counted : List ℕ → Tally
counted words =
    let r = record_from words in
    record { clean = true && pdu.clean r; refusal = first 0 (pdu.fault r); bits = 0 + length (pdu.print r) }

abbrev none : Tally
none = record { clean = false; refusal = 0; bits = 0 }

outcome : {words : List ℕ} {t : Tally} → TalliesWords words t → t ≡ pick (are_record (length words)) (counted words) none
outcome {words} {t} p = go (are_record (length words)) refl
  where
    go : (b : Bool) → are_record (length words) ≡ b → t ≡ pick b (counted words) none
    go true e = let h = p.of-record e in λ i. record { clean = h.clean i; refusal = h.refusal i; bits = h.bits i }
    go false e = p.of_others e

pub tally_words_determined : Determined tally.tally_words.Kinds.ps tally.tally_words.Kinds.r tally.tally_words.Reads.Learnt
tally_words_determined = by_equations (λ κs a x v p. (outcome p, refl))
