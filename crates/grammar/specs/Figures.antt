-- The figures of an interrogation, of a definition and of an outcome; the others are zero.
use Rattle.std.specs.Prelude.{ℕ}
use Rattle.grammar.specs.Grammar.{to_figures}
use Rattle.grammar.specs.declared.record.Figures.{Figures}

-- interrogation type, interrogation result, delivery status
abbrev pub of_interrogation : ℕ → ℕ → ℕ → Figures
of_interrogation asked result status = to_figures ((asked, (result, status)), ((0, (0, 0)), (0, (0, 0))))

-- delivery, acknowledgement, definition type
abbrev pub of_definition : ℕ → ℕ → ℕ → Figures
of_definition delivery acknowledgement definition = to_figures ((0, (0, 0)), ((delivery, (acknowledgement, definition)), (0, (0, 0))))

-- definition result, distribution result, rejection cause
abbrev pub of_outcome : ℕ → ℕ → ℕ → Figures
of_outcome defined distributed cause = to_figures ((0, (0, 0)), ((0, (0, 0)), (defined, (distributed, cause))))
