-- What the table of a reload says is what the call tests: what may be asked for, and whether the lists of a part stand. Assumes nothing.
use mathlib.Core.Path.{◌≡◌, refl}
use mathlib.Core.Bool.{Bool, true, false, ◌&&◌}
use Prim.Native.Nat.{ℕ, ◌≤◌}
use native.Mathlib.Omega.{arith}
use lib.Dec.{leb, eqb}
use borrow.Author.Tests.{eqb-true, eq-eqb, leb-true, leb-false, le-leb}
use Rattle.bits.specs.Bits.{pick}
use Rattle.bits.proofs.Tests.{never, both, both⁻¹}
use Rattle.grammar.specs.SiteSheet.{defined_part}
use Rattle.grammar.specs.declared.record.Lists.{Lists}
use Rattle.reload.specs.Define.{is_definition, part_for, no_identities, no_numbers, stands_in, stands}
use Rattle.reload.specs.declared.Definition.{Definition}
use Rattle.reload.specs.declared.Target.{Target}
use Rattle.reload.specs.declared.Target.TheVariants.{Define, DefineExternal}
use Rattle.promises.specs.Demand1.Reload.{Asked, Empty, NoNumbers, Stands}

pub asked_is : (d : Definition) → Asked d → is_definition d ≡ true
unfolding is_definition
asked_is d a = both⁻¹ (le-leb _ _ a.definition) (both⁻¹ (le-leb _ _ a.delivery) (only (leb d.acknowledgement d.delivery) refl))
  where
    only : (t : Bool) → leb d.acknowledgement d.delivery ≡ t → t ≡ true
    only true e = refl
    only false e =
        let less = leb-false d.acknowledgement d.delivery e in
        let one : d.acknowledgement ≡ 1 = omega (arith, a.acknowledgement) in
        absurd (omega (arith, a.with-delivery one))

pub is-asked : (d : Definition) → is_definition d ≡ true → Asked d
unfolding is_definition
is-asked d e =
    let p = both (leb d.definition 2) (leb d.delivery 1 && leb d.acknowledgement d.delivery) e in
    let q = both (leb d.delivery 1) (leb d.acknowledgement d.delivery) p.1 in
    let v = leb-true d.delivery 1 q.0 in
    let a = leb-true d.acknowledgement d.delivery q.1 in
    record { definition = leb-true d.definition 2 p.0; delivery = v; acknowledgement = omega arith; with-delivery = λ one. omega arith }

module _ (l : Lists) where
  identities_are : Empty l.restricted × Empty l.exceptions → no_identities l ≡ true
  identities_are z = both⁻¹ (eq-eqb _ _ z.0) (eq-eqb _ _ z.1)

  are-identities : no_identities l ≡ true → Empty l.restricted × Empty l.exceptions
  are-identities e = let p = both (eqb l.restricted.code 0) (eqb l.exceptions.code 0) e in (eqb-true _ _ p.0, eqb-true _ _ p.1)

  numbers_are : NoNumbers l.numbers × NoNumbers l.excepted → no_numbers l ≡ true
  numbers_are z = both⁻¹ (eq-eqb _ _ z.0) (eq-eqb _ _ z.1)

  are-numbers : no_numbers l ≡ true → NoNumbers l.numbers × NoNumbers l.excepted
  are-numbers e = let p = both (eqb l.numbers.code 0) (eqb l.excepted.code 0) e in (eqb-true _ _ p.0, eqb-true _ _ p.1)

  -- under removal no list has a place
  all_are : Empty l.groups × (Empty l.restricted × Empty l.exceptions) × (NoNumbers l.numbers × NoNumbers l.excepted)
      → eqb l.groups.code 0 && (no_identities l && no_numbers l) ≡ true
  all_are z = both⁻¹ (eq-eqb _ _ z.0) (both⁻¹ (identities_are z.1) (numbers_are z.2))

  are_all : eqb l.groups.code 0 && (no_identities l && no_numbers l) ≡ true
      → Empty l.groups × (Empty l.restricted × Empty l.exceptions) × (NoNumbers l.numbers × NoNumbers l.excepted)
  are_all e =
      let p = both (eqb l.groups.code 0) (no_identities l && no_numbers l) e in
      let q = both (no_identities l) (no_numbers l) p.1 in
      (eqb-true _ _ p.0, are-identities q.0, are-numbers q.1)

  -- addition and replacement have places for the lists of the part, removal for none
  abbrev by : (t : Target) (few : Bool) → Bool
  by t few = stands_in (pick few (part_for t) 0) l

  stands_by : (t : Target) (definition : ℕ) → definition ≤ 2 → Stands t definition l → (few : Bool) → leb definition 1 ≡ few → by t few ≡ true
  unfolding stands_in
  stands_by t definition low s false e = all_are (s.removal (omega (arith, leb-false definition 1 e)))
  stands_by Define definition low s true e = numbers_are (s.define refl)
  stands_by DefineExternal definition low s true e = identities_are (s.external refl)

  by-stands : (t : Target) (definition : ℕ) (few : Bool) → leb definition 1 ≡ few → by t few ≡ true → Stands t definition l
  unfolding stands_in
  by-stands t definition false e h =
      let z = are_all h in
      record { define = λ is. z.2; external = λ is. z.1; removal = λ two. z }
  by-stands Define definition true e h = record {
    define = λ is. are-numbers h;
    external = λ is. never cc;
    removal = λ two. absurd (omega (arith, leb-true definition 1 e));
  }
  by-stands DefineExternal definition true e h = record {
    define = λ is. never cc;
    external = λ is. are-identities h;
    removal = λ two. absurd (omega (arith, leb-true definition 1 e));
  }

pub stands-is : (t : Target) (definition : ℕ) (l : Lists) → definition ≤ 2 → Stands t definition l → stands t definition l ≡ true
unfolding defined_part
stands-is t definition l low s = stands_by l t definition low s (leb definition 1) refl

pub is-standing : (t : Target) (definition : ℕ) (l : Lists) → stands t definition l ≡ true → Stands t definition l
unfolding defined_part
is-standing t definition l e = by-stands l t definition (leb definition 1) refl e
