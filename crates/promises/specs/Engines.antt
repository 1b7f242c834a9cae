-- Two engines decide: one reads the part that judges into a record, the other walks its bits in the archive (document 02, request 2026-14).
-- They give the same answer on every archive and request, refused ones too, and leave the same behind every pointer.
use Rattle.std.specs.Prelude.{◌≡◌, List, ℕ}
use contract.Lifetimes.{Lfts}
use denote.Triple.Clauses.{Lasts}
use borrow.Fn.Kinds.{ParamKind, ResultKind, Dens, res_t, ended_of, Out}
use Rattle.promises.specs.Determined.{Allows}

-- Two functions with the parameters ps and the result r, by their contracts: an outcome of the one and an outcome of the other, for the same
-- arguments, are equal in their answers and in the last contents of all memory that was lent to be changed.
module _ {n : ℕ} (ps : List (ParamKind n)) (r : ResultKind n) (one other : Out n ps r) where
  pub record Agree : Type 0 where
    pub same : (κs : Lfts n) (a : Dens κs ps) (x y : (res_t r κs).Denot) (v w : Lasts (ended_of n ps r) κs a)
        → Allows ps r one κs a x v → Allows ps r other κs a y w → (x ≡ y) × (v ≡ w)
