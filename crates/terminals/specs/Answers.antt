-- What a line is answered with, and what it leaves in the table and in the lent buffer. In order: NoTable, NoLine, BadValue, SurplusField, NoRoom.
use Rattle.std.specs.Prelude.{List, ◌++◌, Option, Some, None, Result, Ok, Err, ℕ, length, drop, leb}
use Rattle.bits.specs.Bits.{guard}
use Rattle.terminals.specs.Profiles.{is_table, settles, set_line}
use Rattle.terminals.specs.Reading.{text_of}
use Rattle.terminals.specs.Lines.{line_of}
use Rattle.terminals.specs.declared.Refusal.{Refusal}
use Rattle.terminals.specs.declared.Refusal.TheVariants.{NoRoom, NoTable, NoLine}
use Rattle.terminals.specs.declared.lines.Line.{Line}
use Rattle.terminals.specs.declared.lines.Line.TheVariants.{Read, Set}

-- ---- the read form: NoRoom if the lent buffer is too short

unfoldable pub read_is : List ℕ → ℕ → Result ℕ Refusal
read_is t room = guard (leb (length (text_of t)) room) (Err NoRoom) (Ok (length (text_of t)))

-- the text first, and the buffer's own bytes after it
unfoldable pub read_out : List ℕ → List ℕ → List ℕ
read_out t out = guard (leb (length (text_of t)) (length out)) out (text_of t ++ drop (length (text_of t)) out)

-- ---- any line: NoTable for what is no table, NoLine for what is no line

abbrev pub answered : Option Line → List ℕ → ℕ → Result ℕ Refusal
answered None t room = Err NoLine
answered (Some (Set f)) t room = settles f
answered (Some Read) t room = read_is t room

unfoldable pub line_is : List ℕ → List ℕ → ℕ → Result ℕ Refusal
line_is s t room = guard (is_table t) (Err NoTable) (answered (line_of s) t room)

-- a set line changes the table
abbrev pub changed : Option Line → List ℕ → List ℕ
changed None t = t
changed (Some (Set f)) t = set_line f t
changed (Some Read) t = t

unfoldable pub table_after : List ℕ → List ℕ → List ℕ
table_after s t = guard (is_table t) t (changed (line_of s) t)

-- the read form writes
abbrev pub written : Option Line → List ℕ → List ℕ → List ℕ
written None t out = out
written (Some (Set f)) t out = out
written (Some Read) t out = read_out t out

unfoldable pub out_after : List ℕ → List ℕ → List ℕ → List ℕ
out_after s t out = guard (is_table t) out (written (line_of s) t out)
