-- The count, then the services as they are. Assumes nothing.
use mathlib.Core.Path.{◌≡◌, sym, ap, ◌∙◌}
use Prim.Native.Nat.{ℕ, ◌+◌, ◌-◌}
use native.Mathlib.Omega.{arith}
use lib.ListN.{take, drop}
use lib.Seq.{drop-drop}
use Rattle.words.specs.Places.{service_places}
use Rattle.words.specs.RecordWords.{services_from}
use Rattle.words.proofs.Filling.{first_word}
use Rattle.words.proofs.record.ServicesStored.read.Goals as goal

pub returns : goal.returns
unfolding services_from
returns c =
    let a = c.args in
    let w = a.words.now in
    let first : ℕ = a.at + 1 in
    let many : first + service_places - first ≡ service_places = omega arith in
    let l =
    c.copy_from_slice.ensures.after
    ∙ ap (λ (k : ℕ). take k (drop first w)) many
    ∙ ap (take service_places) (sym (drop-drop 1 a.at w))
    in
    λ i. record { count = first_word w a.at i; list = l i }
