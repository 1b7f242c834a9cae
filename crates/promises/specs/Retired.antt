-- Refusal 10, for a PDU type that the standard names and that was not read, is met no more (document 02, request 2026-06): no call gives it, for
-- any input. Each promise says so by the numbers of its call's table.
use Rattle.std.specs.Prelude.{◌≡◌, List, ℕ, length}
use Rattle.reload.specs.Reload.{reload_is}
use Rattle.reload.specs.declared.Definition.{Definition}
use Rattle.reload.specs.declared.Target.{Target}
use Rattle.archive.specs.declared.contents.Key.{Key}
use Rattle.boc.specs.Calls.{read_number, write_number, empty_number, told_number, capture_answer, contents_answer, restore_answer}
use Rattle.boc.specs.Calls.{entry_answer, decide_answer}

-- Proved in proofs/Retired.antt.
pub record Promise : Type 0 where
  pub read : (s : List ℕ) (n : ℕ) (words : List ℕ) → read_number s n (length words) ≡ 10 → ⊥
  pub write : (words out : List ℕ) → write_number words out ≡ 10 → ⊥
  pub empty : (home : ℕ) (out : List ℕ) → empty_number home out ≡ 10 → ⊥
  pub capture : (b s : List ℕ) (n day : ℕ) (out : List ℕ) → told_number (capture_answer b s n day out) ≡ 10 → ⊥
  pub entry : (b : List ℕ) (index : ℕ) (key : List ℕ) → told_number (entry_answer b index (length key)) ≡ 10 → ⊥
  pub restore : (b : List ℕ) (network ssi part : ℕ) (out : List ℕ) → told_number (restore_answer b network ssi part out) ≡ 10 → ⊥
  -- boc_reload and boc_reload_external
  pub reload : (t : Target) (b : List ℕ) (key : Key) (d : Definition) (out : List ℕ) → told_number (reload_is t b key d out) ≡ 10 → ⊥
  pub decide : (b words : List ℕ) → told_number (decide_answer b words) ≡ 10 → ⊥
  pub contents : (b out : List ℕ) → told_number (contents_answer b out) ≡ 10 → ⊥
