-- What `map_err` and `map` give, as functions of what they are called on. Assumes nothing.
use Rattle.std.specs.Prelude.{Result, Ok, Err, Option, Some, None}
use Rattle.std.specs.Result.{MatchResult, IsErrAnd}
use Rattle.std.specs.Option.{MatchOption, IsSomeAnd, option_map}
use Rattle.std.proofs.lemmas.Result.{err_from_is_err_and}
use mathlib.Core.Path.{◌≡◌, refl, ap, ◌∙◌}
use Rattle.bits.proofs.Tests.{never}

-- the same answer with another error
abbrev pub refused_as : {T E F : Type 0} → (E → F) → Result T E → Result T F
refused_as g (Ok x) = Ok x
refused_as g (Err e) = Err (g e)

pub map_err-is : {T E F : Type 0} (g : E → F) (P : E → F → Type 0) → ((e : E) (f : F) → P e f → f ≡ g e)
    → (r : Result T E) {q : Result T F} → MatchResult r (λ x. q ≡ Ok x) (λ e. IsErrAnd q (P e)) → q ≡ refused_as g r
map_err-is g P same (Ok x) m = m
map_err-is g P same (Err e) {q} m =
    let p = err_from_is_err_and q m in
    p.1 ∙ ap (λ f. Err f) (same e p.0 p.2)

pub map-is : {A B : Type 0} (g : A → B) (P : A → B → Type 0) → ((a : A) (b : B) → P a b → b ≡ g a)
    → (o : Option A) {q : Option B} → MatchOption o (q ≡ None) (λ a. IsSomeAnd q (P a)) → q ≡ option_map g o
map-is g P same None m = m
map-is g P same (Some a) {q = None} m = absurd m
map-is g P same (Some a) {q = Some b} m = ap (λ b. Some b) (same a b m)

pub ok-was : {T E F : Type 0} (g : E → F) (r : Result T E) {x : T} → refused_as g r ≡ Ok x → r ≡ Ok x
ok-was g (Ok y) {x} e = let s : y ≡ x = cc in ap (λ x. Ok x) s
ok-was g (Err f) e = never cc

pub err-was : {T E F : Type 0} (g : E → F) (r : Result T E) {f : F} → refused_as g r ≡ Err f → (e : E) × (r ≡ Err e) × (g e ≡ f)
err-was g (Ok y) e = never cc
err-was g (Err x) {f} e = (x, refl, cc)
