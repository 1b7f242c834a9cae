-- The table, a byte with a profile for each place; the default; and what a set line changes (document 02, request 2026-10).
use Rattle.std.specs.Prelude.{Bool, true, false, not, ◌&&◌, List, [], ◌∷◌, Option, Some, None, is_some, Result, Ok, Err, is_ok}
use Rattle.std.specs.Prelude.{ℕ, ◌+◌, length, replicate, eqb, leb, ltb}
use Rattle.std.specs.List.{list_all}
use Rattle.bits.specs.Bits.{pick, guard}
use Rattle.terminals.specs.Layers.{layer_at, places}
use Rattle.terminals.specs.declared.Refusal.{Refusal}
use Rattle.terminals.specs.declared.Refusal.TheVariants.{NoTable, BadValue, SurplusField}
use Rattle.terminals.specs.declared.layers.Layer.{Layer}
use Rattle.terminals.specs.declared.layers.Place.{Place}
use Rattle.terminals.specs.declared.lines.Fields.{Fields}

-- ---- the table

-- profiles are 0 MT only, 1 TE only, 2 both, 3 neither (clause 6.17.39)
unfoldable pub are_profiles : List ℕ → Bool
are_profiles t = list_all (λ v. leb v 3) t

-- a profile for each of the 269 places
unfoldable pub is_table : List ℕ → Bool
is_table t = eqb (length t) 269 && are_profiles t

-- the default: "both"
abbrev pub both : ℕ
both = 2

-- ---- reset: refused for a table of another length

unfoldable pub reset_is : ℕ → Result (Unit {0}) Refusal
reset_is n = guard (eqb n 269) (Err NoTable) (Ok tt)

unfoldable pub reset_out : List ℕ → List ℕ
reset_out t = guard (eqb (length t) 269) t (replicate 269 both)

-- ---- a set line

-- a value is one of so many from the first on, where there are any
abbrev pub is_among : Option ℕ → ℕ → ℕ → Bool
is_among (Some first) n t = leb first t && ltb t (first + n)
is_among None n t = true

-- a third field that its layer takes is one of its values
abbrev pub is_value : Layer → Option ℕ → Bool
is_value row None = true
is_value row (Some t) = is_among row.first row.count t

-- a layer without values takes no third field
abbrev pub takes : Layer → Option ℕ → Bool
takes row None = true
takes row (Some t) = is_some row.first

-- BadValue for a value of one of the first three fields, then SurplusField for a third field that its layer does not take, or for any fourth
unfoldable pub fields_refusal : Fields → Result (Unit {0}) Refusal
fields_refusal f =
    guard (leb f.profile 3) (Err BadValue)
    (guard (leb f.layer 4) (Err BadValue)
    (guard (is_value (layer_at f.layer) f.third) (Err BadValue)
    (guard (takes (layer_at f.layer) f.third) (Err SurplusField)
    (guard (not f.fourth) (Err SurplusField) (Ok tt)))))

-- without a third field a line names all places of its layer, otherwise the one of that value
abbrev pub names_third : Option ℕ → Option ℕ → Bool
names_third None q = true
names_third (Some t) (Some u) = eqb t u
names_third (Some t) None = false

unfoldable pub names : Fields → Place → Bool
names f p = eqb f.layer p.layer && names_third f.third p.third

-- the profile in each place that the line names, all others as they were
unfoldable pub set_in : Fields → List Place → List ℕ → List ℕ
set_in f [] t = t
set_in f (p ∷ ps) [] = []
set_in f (p ∷ ps) (v ∷ t) = pick (names f p) f.profile v ∷ set_in f ps t

-- a set line that is not refused writes no text
abbrev pub without_text : Result (Unit {0}) Refusal → Result ℕ Refusal
without_text (Ok done) = Ok 0
without_text (Err refusal) = Err refusal

unfoldable pub settles : Fields → Result ℕ Refusal
settles f = without_text (fields_refusal f)

-- a refused line changes no place
unfoldable pub set_line : Fields → List ℕ → List ℕ
set_line f t = guard (is_ok (fields_refusal f)) t (set_in f places t)
