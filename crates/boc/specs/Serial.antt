-- What the calls for terminals return: 0 or the number of the refusal. A line leaves a length behind its pointer, which a refusal leaves alone.
use Rattle.std.specs.Prelude.{List, Result, Ok, Err, ℕ, length}
use Rattle.terminals.specs.Refusals.{refusal_number}
use Rattle.terminals.specs.Answers.{line_is}
use Rattle.terminals.specs.declared.Refusal.{Refusal}

abbrev pub returned : {A : Type 0} → Result A Refusal → ℕ
returned (Ok x) = 0
returned (Err refusal) = refusal_number refusal

abbrev pub line_answer : List ℕ → List ℕ → List ℕ → Result ℕ Refusal
line_answer s table out = line_is s table (length out)

abbrev pub line_length : Result ℕ Refusal → ℕ → ℕ
line_length (Ok n) old = n
line_length (Err refusal) old = old
