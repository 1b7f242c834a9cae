-- A statement leaves one possible answer and one possible content of the lent memory, for any input, refused ones too.
use Rattle.std.specs.Prelude.{◌≡◌, List, ℕ}
use Rattle.std.proofs.Common.{sym, ◌∙◌}
use contract.Lifetimes.{Lfts}
use denote.Triple.Clauses.{Lasts, at_exit}
use borrow.Fn.Kinds.{ParamKind, ResultKind, Dens, res_t, ended_of, Out}

-- A function with the parameters ps and the result r, whose contract says something of its arguments, its answer and its parameters at exit.
module _ {n : ℕ} (ps : List (ParamKind n)) (r : ResultKind n) (says : Out n ps r) where
  -- it says so of this answer and these last contents of all memory that was lent to be changed
  abbrev pub Allows : (κs : Lfts n) (a : Dens κs ps) → (res_t r κs).Denot → Lasts (ended_of n ps r) κs a → Type 0
  Allows κs a answer last = says κs a answer (at_exit (ended_of n ps r) κs a last)

  -- two outcomes that it allows for the same arguments are equal
  pub record Determined : Type 0 where
    pub same : (κs : Lfts n) (a : Dens κs ps) (x y : (res_t r κs).Denot) (v w : Lasts (ended_of n ps r) κs a)
        → Allows κs a x v → Allows κs a y w → (x ≡ y) × (v ≡ w)

-- they are, where the contract equates the answer and the memory with something
pub by_equations : {n : ℕ} {ps : List (ParamKind n)} {r : ResultKind n} {says : Out n ps r}
    {f : (κs : Lfts n) → Dens κs ps → (res_t r κs).Denot} {g : (κs : Lfts n) (a : Dens κs ps) → Lasts (ended_of n ps r) κs a}
    → ((κs : Lfts n) (a : Dens κs ps) (x : (res_t r κs).Denot) (v : Lasts (ended_of n ps r) κs a) → Allows ps r says κs a x v → (x ≡ f κs a) × (v ≡ g κs a))
    → Determined ps r says
by_equations e = record {
  same = λ κs a x y v w p q.
      let m = e κs a x v p in
      let k = e κs a y w q in
      (m.0 ∙ sym k.0, m.1 ∙ sym k.1);
}
