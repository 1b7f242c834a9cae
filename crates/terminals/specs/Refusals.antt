-- Refusals and their numbers (document 02, request 2026-10).
use Rattle.std.specs.Prelude.{ℕ}
use Rattle.terminals.specs.declared.Refusal.{Refusal}
use Rattle.terminals.specs.declared.Refusal.TheVariants.{NoRoom, NoTable, NoLine, BadValue, SurplusField}

-- no room for the text; no table; no line; a value that is none of its field's; a third field that its layer does not take, or a fourth
abbrev pub refusal_number : Refusal → ℕ
refusal_number NoRoom = 8
refusal_number NoTable = 9
refusal_number NoLine = 15
refusal_number BadValue = 16
refusal_number SurplusField = 17
