-- What a rule says as a decision, and the numbers of a decision.
use Rattle.std.specs.Prelude.{ℕ, Option, Some, None, Result, Ok, Err}
use Rattle.rules.specs.Rule.{cause_number}
use Rattle.rules.specs.declared.Cause.{Cause}
use Rattle.archive.specs.Refusals.{plain}
use Rattle.archive.specs.declared.refusal.Refusal.{Refusal}
use Rattle.barring.specs.declared.Decision.{Decision}
use Rattle.barring.specs.declared.Decision.TheVariants.{Allowed, Barred, NotHeld}

-- a rule allows or bars; "not held" and refusals come from elsewhere
abbrev pub decision_of : Option Cause → Decision
decision_of None = Allowed
decision_of (Some cause) = Barred cause

-- document 01's number of an answer, 0 for a decision, with its entry and its place
abbrev pub decided_refusal : Result Decision Refusal → Refusal
decided_refusal (Ok d) = plain 0
decided_refusal (Err f) = f

-- the decision as a number: 0 to 2 barred with that cause (table 38), 3 allowed, 4 not held; 0 beside a refusal, where it says nothing
abbrev pub verdict_of : Result Decision Refusal → ℕ
verdict_of (Ok Allowed) = 3
verdict_of (Ok (Barred cause)) = cause_number cause
verdict_of (Ok NotHeld) = 4
verdict_of (Err f) = 0
