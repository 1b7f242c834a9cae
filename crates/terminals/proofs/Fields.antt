-- What the fields of a set line that is not refused say. Assumes nothing.
use mathlib.Core.Path.{◌≡◌, refl, sym, ap, ◌∙◌}
use mathlib.Core.Bool.{Bool, true, false, not}
use Rattle.std.proofs.lemmas.Bool.{false≢true}
use Prim.Native.Nat.{ℕ, ◌+◌, ◌≤◌, ◌<◌}
use native.Mathlib.Omega.{arith}
use borrow.Author.Tests.{leb-true, ltb-true}
use lib.Dec.{leb, ltb}
use Rattle.std.specs.Prelude.{Option, Some, None, is_some, Result, Ok, Err}
use Rattle.std.proofs.lemmas.Option.{same_Some}
use Rattle.bits.specs.Bits.{guard}
use Rattle.bits.proofs.Tests.{both, never}
use Rattle.terminals.specs.Layers.{layer_at}
use Rattle.terminals.specs.Profiles.{is_among, is_value, takes, fields_refusal}
use Rattle.terminals.specs.declared.Refusal.{Refusal}
use Rattle.terminals.specs.declared.Refusal.TheVariants.{BadValue, SurplusField}
use Rattle.terminals.specs.declared.layers.Layer.{Layer}
use Rattle.terminals.specs.declared.lines.Fields.{Fields}

-- each test passes
pub record Settled (f : Fields) : Type 0 where
  pub profile : f.profile ≤ 3
  pub layer : f.layer ≤ 4
  pub value : is_value (layer_at f.layer) f.third ≡ true
  pub taken : takes (layer_at f.layer) f.third ≡ true
  pub no-fourth : f.fourth ≡ false

pub settled : (f : Fields) → fields_refusal f ≡ Ok tt → Settled f
unfolding fields_refusal
settled f = go (leb f.profile 3) refl (leb f.layer 4) refl (is_value (layer_at f.layer) f.third) refl
    (takes (layer_at f.layer) f.third) refl f.fourth refl
  where
    go : (p : Bool) → leb f.profile 3 ≡ p → (l : Bool) → leb f.layer 4 ≡ l → (v : Bool) → is_value (layer_at f.layer) f.third ≡ v
        → (t : Bool) → takes (layer_at f.layer) f.third ≡ t → (o : Bool) → f.fourth ≡ o
        → guard {A = Result (Unit {0}) Refusal} p (Err BadValue)
        (guard l (Err BadValue) (guard v (Err BadValue) (guard t (Err SurplusField) (guard (not o) (Err SurplusField) (Ok tt)))))
        ≡ Ok tt
        → Settled f
    go true ep true el true ev true et false eo e = record {
      profile = leb-true f.profile 3 ep;
      layer = leb-true f.layer 4 el;
      value = ev;
      taken = et;
      no-fourth = eo;
    }
    go false ep l el v ev t et o eo e = never cc
    go true ep false el v ev t et o eo e = never cc
    go true ep true el false ev t et o eo e = never cc
    go true ep true el true ev false et o eo e = never cc
    go true ep true el true ev true et true eo e = never cc

-- a value of its layer
pub record Value (row : Layer) (x : ℕ) : Type 0 where
  pub first : ℕ
  pub named : row.first ≡ Some first
  pub low : first ≤ x
  pub high : x < first + row.count

pub value_of : (row : Layer) (third : Option ℕ) {x : ℕ} → third ≡ Some x → is_value row third ≡ true → takes row third ≡ true → Value row x
value_of row None {x} e v t = never cc
value_of row (Some y) {x} e v t = go row.first refl t v
  where
    same : y ≡ x
    same = same_Some y x e

    go : (o : Option ℕ) → row.first ≡ o → is_some o ≡ true → is_among o row.count y ≡ true → Value row x
    go None n t v = never cc
    go (Some first) n t v =
        let k = both (leb first y) (ltb y (first + row.count)) v in
        record {
          first = first;
          named = n;
          low = omega (arith, same, leb-true first y k.0);
          high = omega (arith, same, ltb-true y (first + row.count) k.1);
        }

-- a layer without values has no third field then
pub not_taken : (row : Layer) (third : Option ℕ) → row.first ≡ None → takes row third ≡ true → third ≡ None
not_taken row None e t = refl
not_taken row (Some x) e t = absurd (false≢true (sym (ap is_some e) ∙ t))
