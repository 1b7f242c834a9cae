-- What a private function gives and leaves: the PDU that puts back a body that stands in an archive's bytes.
use Rattle.std.specs.Prelude.{List, ℕ, take, drop, Result}
use Rattle.bits.specs.Frame.{bytes_for, pack}
use Rattle.bits.specs.declared.BitCount.{BitCount}
use Rattle.grammar.specs.Grammar.{pdu}
use Rattle.grammar.specs.declared.record.Record.{Record}
use Rattle.reader.specs.Read.{found_in, read_is}
use Rattle.archive.specs.declared.refusal.Refusal.{Refusal}
use Rattle.reload.specs.Define.{define_of}
use Rattle.reload.specs.Reload.{redefined, reloads}
use Rattle.reload.specs.declared.Definition.{Definition}
use Rattle.reload.specs.declared.Target.{Target}

-- the record of the body of n bits at a place
abbrev pub part_at : List ℕ → ℕ → ℕ → Record
part_at b at n = found_in (read_is (take (bytes_for n) (drop at b)) n)

abbrev pub reloaded_from : Target → List ℕ → ℕ → ℕ → Definition → List ℕ → Result BitCount Refusal
reloaded_from t b at n d out = redefined t d (part_at b at n) out

abbrev pub reloaded_out : Target → List ℕ → ℕ → ℕ → Definition → List ℕ → List ℕ
reloaded_out t b at n d out = reloads (reloaded_from t b at n d out) (pack (pdu.print (define_of t d (part_at b at n)))) out
