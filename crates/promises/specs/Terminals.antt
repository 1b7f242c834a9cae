-- Terminals on the serial port (document 02, request 2026-10; EN 300 392-5, clauses 6.14.4, 6.17.28 and 6.17.39 to 6.17.41): which lines are
-- which, what the two calls return and leave, and that the text of the read form puts a table back.
use Rattle.std.specs.Prelude.{◌≡◌, ◌↔◌, true, false, List, [], ◌∷◌, ◌++◌, Option, Some, None, ℕ, ◌+◌, ◌≤◌, ◌<◌, length, get_or, drop, replicate, eqb}
use Rattle.bits.specs.Bits.{pick}
use Rattle.text.specs.Decimal.{decimal}
use Rattle.terminals.specs.Lines.{set_word, fields_of, Says}
use Rattle.terminals.specs.Profiles.{reset_is, reset_out}
use Rattle.terminals.specs.Reading.{text_of}
use Rattle.terminals.specs.Answers.{table_after, out_after}
use Rattle.terminals.specs.declared.lines.Fields.{Fields}
use Rattle.terminals.specs.declared.lines.Line.{Line}
use Rattle.terminals.specs.declared.lines.Line.TheVariants.{Read, Set}
use Rattle.boc.specs.Serial.{returned, line_answer, line_length}
use Rattle.promises.specs.Answers.{Exactly}

-- ---- the table

-- 269 profiles of 0 to 3
pub record IsTable (t : List ℕ) : Type 0 where
  pub whole : length t ≡ 269
  pub profiles : (i : ℕ) → get_or t i 0 ≤ 3

-- the place at an index: its layer 1, and its layer 2 or PID
pub data Place : ℕ → ℕ → Option ℕ → Type 0 where
  -- CC: voice and data
  in_cc : (x : ℕ) → x < 2 → Place x 0 (Some x)
  -- MM: registration to energy saving
  in_mm : (x : ℕ) → x < 5 → Place (2 + x) 1 (Some (10 + x))
  -- SDS: status and types 1 to 4
  in_sds : (x : ℕ) → x < 5 → Place (7 + x) 2 (Some (20 + x))
  -- SDS-TL: the PIDs
  in_sds_tl : (x : ℕ) → x < 256 → Place (12 + x) 3 (Some x)
  -- Packet Data: one place, without a third field
  in-packet-data : Place 268 4 None

-- ---- a set line's fields

-- 16: a profile over 3, a layer over 4, a third field that is no value of its layer
pub data BadValue (f : Fields) : Type 0 where
  profile : 3 < f.profile → BadValue f
  layer : 4 < f.layer → BadValue f
  third : (x : ℕ) → f.layer ≤ 3 → f.third ≡ Some x → ((i : ℕ) → Place i f.layer (Some x) → ⊥) → BadValue f

-- 17: a third field for Packet Data, or any fourth
pub data BadCount (f : Fields) : Type 0 where
  third : (x : ℕ) → f.layer ≡ 4 → f.third ≡ Some x → BadCount f
  fourth : f.fourth ≡ true → BadCount f

-- the line names a place: by its layer alone, or by its third field too
pub data Names (f : Fields) : ℕ → Option ℕ → Type 0 where
  all : (third : Option ℕ) → f.third ≡ None → Names f f.layer third
  one : (x : ℕ) → f.third ≡ Some x → Names f f.layer (Some x)

-- ---- the calls

-- the table of refusals, in its order
pub data Gives (s t : List ℕ) (room : ℕ) : ℕ → Type 0 where
  -- 9: no table
  no_table : (IsTable t → ⊥) → Gives s t room 9
  -- 15: no line
  no_line : IsTable t → ((l : Line) → Says s l → ⊥) → Gives s t room 15
  value : (f : Fields) → IsTable t → Says s (Set f) → BadValue f → Gives s t room 16
  count : (f : Fields) → IsTable t → Says s (Set f) → (BadValue f → ⊥) → BadCount f → Gives s t room 17
  -- 8: the read form's buffer is short
  no_room : IsTable t → Says s Read → room < length (text_of t) → Gives s t room 8
  sets : (f : Fields) → IsTable t → Says s (Set f) → (BadValue f → ⊥) → (BadCount f → ⊥) → Gives s t room 0
  reads : IsTable t → Says s Read → length (text_of t) ≤ room → Gives s t room 0

-- boc_terminal_reset
pub record Reset (t : List ℕ) : Type 0 where
  pub taken : length t ≡ 269 → (returned (reset_is (length t)) ≡ 0) × (reset_out t ≡ replicate 269 2)
  pub refused : (length t ≡ 269 → ⊥) → (returned (reset_is (length t)) ≡ 9) × (reset_out t ≡ t)

-- boc_terminal_line: each number exactly then;
pub record OnLine (s t out : List ℕ) (old : ℕ) : Type 0 where
  pub table : Exactly (λ k. k) (returned (line_answer s t out)) (0 ∷ 9 ∷ 15 ∷ 16 ∷ 17 ∷ 8 ∷ []) (Gives s t (length out))
  -- a set line changes exactly the places that it names, to its profile, and writes nothing;
  pub set : (f : Fields) → Says s (Set f) → returned (line_answer s t out) ≡ 0
      → (line_length (line_answer s t out) old ≡ 0) × (out_after s t out ≡ out) × (length (table_after s t) ≡ 269)
      × ((i l : ℕ) (third : Option ℕ) → Place i l third
      → (Names f l third → get_or (table_after s t) i 0 ≡ f.profile)
      × ((Names f l third → ⊥) → get_or (table_after s t) i 0 ≡ get_or t i 0))
  -- the read form changes no place, and writes the text; bytes after it stay;
  pub read : Says s Read → returned (line_answer s t out) ≡ 0
      → (line_length (line_answer s t out) old ≡ length (text_of t)) × (out_after s t out ≡ text_of t ++ drop (length (text_of t)) out)
      × (table_after s t ≡ t)
  -- a refused line changes nothing.
  pub refusal : (returned (line_answer s t out) ≡ 0 → ⊥)
      → (table_after s t ≡ t) × (out_after s t out ≡ out) × (line_length (line_answer s t out) old ≡ old)

-- ---- lines one after another

unfoldable pub after_all : List (List ℕ) → List ℕ → List ℕ
after_all [] t = t
after_all (s ∷ ss) t = after_all ss (table_after s t)

-- a line among others
pub data Among (s : List ℕ) : List (List ℕ) → Type 0 where
  here : {ss : List (List ℕ)} → Among s (s ∷ ss)
  there : {r : List ℕ} {ss : List (List ℕ)} → Among s ss → Among s (r ∷ ss)

-- lines that set one place of a layer each, and none is left out; in any order
pub record ByPlace (profile l : ℕ) (ss : List (List ℕ)) : Type 0 where
  pub each : (s : List ℕ) → Among s ss → (i : ℕ) × (x : ℕ) × Place i l (Some x) × Says s (Set (fields_of profile l (Some x) false))
  pub all : (i x : ℕ) → Place i l (Some x) → (s : List ℕ) × Among s ss × Says s (Set (fields_of profile l (Some x) false))

-- ---- the text

-- a place of the text by its index, rising: `profile,layer1[,third]` CR LF
unfoldable pub third_text : Option ℕ → List ℕ
third_text None = []
third_text (Some x) = 44 ∷ decimal x

pub data Line-of (t : List ℕ) (i : ℕ) : List ℕ → Type 0 where
  spelt : (l : ℕ) (third : Option ℕ) → Place i l third
      → Line-of t i (decimal (get_or t i 0) ++ (44 ∷ decimal l ++ (third_text third ++ (13 ∷ 10 ∷ []))))

-- the lines of the places off "both" from an index on, each once, rising
pub data Lines-from (t : List ℕ) : ℕ → List ℕ → Type 0 where
  end : Lines-from t 269 []
  default : {i : ℕ} {s : List ℕ} → i < 269 → get_or t i 0 ≡ 2 → Lines-from t (i + 1) s → Lines-from t i s
  off : {i : ℕ} {w s : List ℕ} → i < 269 → (get_or t i 0 ≡ 2 → ⊥) → Line-of t i w → Lines-from t (i + 1) s → Lines-from t i (w ++ s)

-- `+CTSP: ` before the first
abbrev pub first : List ℕ → List ℕ
first [] = []
first (b ∷ s) = 43 ∷ 67 ∷ 84 ∷ 83 ∷ 80 ∷ 58 ∷ 32 ∷ b ∷ s

-- the text cut at each LF, which leaves a CR at the end of each piece
unfoldable pub pieces : List ℕ → List ℕ → List (List ℕ)
pieces before [] = []
pieces before (b ∷ s) = pick (eqb b 10) (before ∷ pieces [] s) (pieces (before ++ (b ∷ [])) s)

-- `AT+CTSP=` before each
unfoldable pub as_set_lines : List (List ℕ) → List (List ℕ)
as_set_lines [] = []
as_set_lines (w ∷ ws) = (set_word ++ w) ∷ as_set_lines ws

-- the set lines of a text: without `+CTSP: `, cut at each LF
abbrev pub set_lines : List ℕ → List (List ℕ)
set_lines text = as_set_lines (pieces [] (drop 7 text))

-- Proved in proofs/Terminals.antt.
pub record Promise : Type 0 where
  -- no line means two things
  pub one-reading : (s : List ℕ) (l m : Line) → Says s l → Says s m → l ≡ m
  -- every index is one place
  pub places : (i : ℕ) → i < 269 → (l : ℕ) × (third : Option ℕ) × Place i l third
  pub resets : (t : List ℕ) → Reset t
  pub lines : (s t out : List ℕ) (old : ℕ) → OnLine s t out old
  -- a line without a third field is as good as the lines for each place of its layer, in any order
  pub whole-layer : (s t : List ℕ) (ss : List (List ℕ)) (profile l : ℕ) → IsTable t → profile ≤ 3 → l ≤ 3
      → Says s (Set (fields_of profile l None false)) → ByPlace profile l ss → after_all ss t ≡ table_after s t
  -- the text names each place off "both" once, rising; it is nothing exactly if there is none
  pub text : (t : List ℕ) → IsTable t → (s : List ℕ) × Lines-from t 0 s × (text_of t ≡ first s)
  pub nothing : (t : List ℕ) → IsTable t → (text_of t ≡ []) ↔ ((i : ℕ) → i < 269 → get_or t i 0 ≡ 2)
  -- it has at most 2,300 bytes
  pub short : (t : List ℕ) → IsTable t → length (text_of t) ≤ 2300
  -- it puts the table back: reset, then a set line for each line of the text
  pub put_back : (t lent : List ℕ) → IsTable t → length lent ≡ 269 → after_all (set_lines (text_of t)) (reset_out lent) ≡ t
