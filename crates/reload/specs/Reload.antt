-- What `reload` answers, and what it leaves in the lent buffer: 9, 7, 11, 12, 8.
use Rattle.std.specs.Prelude.{◌&&◌, List, [], ℕ, Option, None, Some, Result, Ok, Err}
use Rattle.bits.specs.Bits.{guard}
use Rattle.bits.specs.Frame.{pack}
use Rattle.bits.specs.declared.BitCount.{BitCount}
use Rattle.grammar.specs.Grammar.{pdu}
use Rattle.grammar.specs.declared.record.Record.{Record}
use Rattle.reader.specs.Read.{found_in, read_is}
use Rattle.writer.specs.Write.{write_is}
use Rattle.archive.specs.Model.{Held, in_range}
use Rattle.archive.specs.Reading.{reading}
use Rattle.archive.specs.Refusals.{plain}
use Rattle.archive.specs.Checking.{check_is, if_archive}
use Rattle.archive.specs.Keeping.{over}
use Rattle.archive.specs.Restoring.{lookup}
use Rattle.archive.specs.declared.contents.Key.{Key}
use Rattle.archive.specs.declared.refusal.Refusal.{Refusal}
use Rattle.reload.specs.Define.{is_definition, define_of, stands}
use Rattle.reload.specs.declared.Definition.{Definition}
use Rattle.reload.specs.declared.Target.{Target}

-- document 01's number of an answer, 0 for success, with its entry and its place
abbrev pub reloaded_refusal : Result BitCount Refusal → Refusal
reloaded_refusal (Ok n) = plain 0
reloaded_refusal (Err f) = f

-- the record of a held PDU
abbrev pub record_of : Held → Record
record_of h = found_in (read_is h.body h.entry.bits.0)

-- what writing answers, as the answer of a reload
abbrev pub as_written : Result BitCount ℕ → Result BitCount Refusal
as_written (Ok n) = Ok n
as_written (Err k) = Err (plain k)

-- of a part: 12 where a list that is not empty has no place in the PDU; then what writing it answers
abbrev pub redefined : Target → Definition → Record → List ℕ → Result BitCount Refusal
redefined t d part out = guard (stands t d.definition part.lists) (Err (plain 12)) (as_written (write_is (define_of t d part) out))

-- 11 for a part that is not held
abbrev pub reloaded : Target → Definition → Option Held → List ℕ → Result BitCount Refusal
reloaded t d None out = Err (plain 11)
reloaded t d (Some h) out = redefined t d (record_of h) out

unfoldable pub reload_is : Target → List ℕ → Key → Definition → List ℕ → Result BitCount Refusal
reload_is t b k d out =
    guard (in_range k && is_definition d) (Err (plain 9))
    (if_archive (check_is b) Err
    (reloaded t d (lookup k (reading b).held) out))

-- the bytes of the PDU
abbrev pub define_bytes : Target → Definition → Option Held → List ℕ
define_bytes t d None = []
define_bytes t d (Some h) = pack (pdu.print (define_of t d (record_of h)))

-- a refusal changes no byte
abbrev pub reloads : Result BitCount Refusal → List ℕ → List ℕ → List ℕ
reloads (Ok n) w out = over w out
reloads (Err f) w out = out

unfoldable pub reload_out : Target → List ℕ → Key → Definition → List ℕ → List ℕ
reload_out t b k d out = reloads (reload_is t b k d out) (define_bytes t d (lookup k (reading b).held)) out
