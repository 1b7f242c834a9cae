-- No call's table has the number 10. Assumes nothing.
use mathlib.Core.Path.{◌≡◌, refl, sym, ◌∙◌, subst}
use mathlib.Core.Bool.{false}
use mathlib.Core.List.{List}
use Prim.Native.Nat.{ℕ}
use Rattle.bits.proofs.Tests.{differ}
use Rattle.promises.specs.Answers.{is_one_of, OneOf, Exactly}
use Rattle.promises.specs.Retired.{Promise}
use Rattle.promises.proofs.Calls.{read_kept, write_kept, empty-kept, capture-kept, entry_kept, restore-kept, reload-kept, decide-kept, contents-kept}

-- a table whose list of numbers does not have 10
unlisted {ℓ} : {A : Type 0} {number : A → ℕ} {answer : A} {numbers : List ℕ} {Given : A → Type ℓ} → Exactly number answer numbers Given
    → is_one_of numbers 10 ≡ false → number answer ≡ 10 → ⊥
unlisted {numbers = numbers} table without e = differ (sym (subst (OneOf numbers) e table.listed) ∙ without)

pub promise : Promise
promise = record {
  read = λ s n words. unlisted (read_kept s n words 0).table refl;
  write = λ words out. unlisted (write_kept words out 0).table refl;
  empty = λ home out. unlisted (empty-kept home out 0).table refl;
  capture = λ b s n day out. unlisted (capture-kept b s n day out 0 0 0).table refl;
  entry = λ b index key. unlisted (entry_kept b index key 0 0 0 0).table refl;
  restore = λ b network ssi part out. unlisted (restore-kept b network ssi part out 0 0 0 0).table refl;
  reload = λ t b key d out. unlisted (reload-kept t b key d out 0 0 0).table refl;
  decide = λ b words. unlisted (decide-kept b words 0 0 0).table refl;
  contents = λ b out. unlisted (contents-kept b out 0 0 0).table refl;
}
