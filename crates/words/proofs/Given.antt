-- Words are given as a record or a request exactly if they are one's, and then it and its figures are theirs. Assumes nothing.
use mathlib.Core.Path.{◌≡◌, refl}
use mathlib.Core.Bool.{Bool, true, false}
use mathlib.Core.List.{List}
use Prim.Native.Nat.{ℕ}
use lib.ListN.{length}
use Rattle.std.specs.Prelude.{Some, None}
use Rattle.bits.specs.Bits.{pick}
use Rattle.bits.proofs.Tests.{never, picked}
use Rattle.rules.specs.declared.request.Request.{Request}
use Rattle.words.specs.RecordWords.{figures_from, record_from, are_record, given_record, given_figures}
use Rattle.words.specs.RequestWords.{request_from, is_request, given_request}

module _ (w : List ℕ) where
  pub record-found : are_record (length w) ≡ true → given_record w ≡ Some (record_from w)
  unfolding given_record
  record-found e = rw e

  pub figures-found : are_record (length w) ≡ true → given_figures w ≡ figures_from w
  unfolding given_figures
  figures-found e = rw e

  pub request-asked : {q : Request} → given_request w ≡ Some q → (is_request w ≡ true) × (q ≡ request_from w)
  unfolding given_request
  request-asked e = let k = picked (is_request w) e (λ x. never cc) in (k.0, cc k.1)

  pub not-request : given_request w ≡ None → is_request w ≡ false
  unfolding given_request
  not-request = go (is_request w)
    where
      go : (t : Bool) → pick t (Some (request_from w)) None ≡ None → t ≡ false
      go true e = never cc
      go false e = refl
