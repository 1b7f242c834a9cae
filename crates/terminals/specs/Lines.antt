-- The lines: what the bytes of each are, and what it says (document 02, request 2026-10; clause 6.14.4.2).
use Rattle.std.specs.Prelude.{◌≡◌, Bool, true, false, List, [], ◌∷◌, ◌++◌, Option, Some, None, option_map, ℕ, ◌+◌, ◌≤◌, length, take, drop, eqb}
use Rattle.std.specs.List.{list_all}
use Rattle.std.specs.Str.{bytes_eq}
use Rattle.bits.specs.Bits.{pick, guard}
use Rattle.text.specs.Field.{is_digit, number_of, field_at}
use Rattle.terminals.specs.declared.lines.Fields.{Fields}
use Rattle.terminals.specs.declared.lines.Line.{Line}
use Rattle.terminals.specs.declared.lines.Line.TheVariants.{Read, Set}

-- ---- the grammar

-- `AT+CTSP=`
abbrev pub set_word : List ℕ
set_word = 65 ∷ 84 ∷ 43 ∷ 67 ∷ 84 ∷ 83 ∷ 80 ∷ 61 ∷ []

-- `AT+CTSP?` CR
abbrev pub read_line : List ℕ
read_line = 65 ∷ 84 ∷ 43 ∷ 67 ∷ 84 ∷ 83 ∷ 80 ∷ 63 ∷ 13 ∷ []

-- bytes that are decimal digits
unfoldable pub are_digits : List ℕ → Bool
are_digits s = list_all is_digit s

-- a field: 1 to 3 decimal digits
pub record IsField (d : List ℕ) : Type 0 where
  pub digits : are_digits d ≡ true
  pub least : 1 ≤ length d
  pub most : length d ≤ 3

abbrev pub fields_of : ℕ → ℕ → Option ℕ → Bool → Fields
fields_of profile layer third fourth = record { profile = profile; layer = layer; third = third; fourth = fourth }

-- what a line says: the read form, or `AT+CTSP=`, 2 to 4 fields parted by commas, CR
pub data Says : List ℕ → Line → Type 0 where
  asks : Says read_line Read
  two : (a b : List ℕ) → IsField a → IsField b
      → Says (set_word ++ (a ++ (44 ∷ b ++ (13 ∷ [])))) (Set (fields_of (number_of a) (number_of b) None false))
  three : (a b c : List ℕ) → IsField a → IsField b → IsField c
      → Says (set_word ++ (a ++ (44 ∷ b ++ (44 ∷ c ++ (13 ∷ []))))) (Set (fields_of (number_of a) (number_of b) (Some (number_of c)) false))
  four : (a b c d : List ℕ) → IsField a → IsField b → IsField c → IsField d
      → Says (set_word ++ (a ++ (44 ∷ b ++ (44 ∷ c ++ (44 ∷ d ++ (13 ∷ [])))))) (Set (fields_of (number_of a) (number_of b) (Some (number_of c)) true))

-- ---- a line read, field after field; Says l exactly if l is read so (promises)

-- a comma stands at a place
abbrev pub starts_comma : List ℕ → Bool
starts_comma [] = false
starts_comma (b ∷ s) = eqb b 44

-- a CR stands at a place, and nothing after it
unfoldable pub ends_at : List ℕ → ℕ → Bool
ends_at s at = bytes_eq (drop at s) (13 ∷ [])

-- the field after a comma
unfoldable pub next_field : List ℕ → ℕ → Option (ℕ × ℕ)
next_field s at = guard (starts_comma (drop at s)) None (field_at s (at + 1) 3)

-- goes on with a field's number and the place after it
abbrev pub with_field : Option (ℕ × ℕ) → (ℕ → ℕ → Option Fields) → Option Fields
with_field None go = None
with_field (Some p) go = go p.0 p.1

unfoldable pub last_from : List ℕ → Fields → ℕ → Option Fields
last_from s f at = guard (ends_at s at) None (Some f)

unfoldable pub third_from : List ℕ → ℕ → ℕ → ℕ → Option Fields
third_from s profile layer at =
    with_field (next_field s at) (λ third at'.
    pick (ends_at s at') (Some (fields_of profile layer (Some third) false))
    (with_field (next_field s at') (λ fourth end. last_from s (fields_of profile layer (Some third) true) end)))

unfoldable pub set_from : List ℕ → Option Fields
set_from s =
    with_field (field_at s 8 3) (λ profile at.
    with_field (next_field s at) (λ layer at'.
    pick (ends_at s at') (Some (fields_of profile layer None false)) (third_from s profile layer at')))

unfoldable pub line_of : List ℕ → Option Line
line_of s = pick (bytes_eq s read_line) (Some Read) (guard (bytes_eq (take 8 s) set_word) None (option_map Set (set_from s)))
