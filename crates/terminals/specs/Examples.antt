-- Worked cases that antt computes: lines and their answers on either side of each refusal, and the texts of tables.
use Rattle.std.specs.Prelude.{◌≡◌, refl, true, false, List, [], ◌∷◌, ◌++◌, ℕ, length, replicate, set, Some, None, Result, Ok, Err}
use Rattle.text.specs.Decimal.{digits, decimal, item}
use Rattle.text.specs.Field.{is_digit, run, number_from, field_of, field_at}
use Rattle.terminals.specs.Layers.{layer_at, values, places}
use Rattle.terminals.specs.Lines.{fields_of, ends_at, next_field, last_from, third_from, set_from, line_of}
use Rattle.terminals.specs.Profiles.{are_profiles, is_table, reset_is, reset_out, fields_refusal, names, set_in, settles, set_line}
use Rattle.terminals.specs.Reading.{place_text, line_text, lines_text, text_of}
use Rattle.terminals.specs.Answers.{read_is, read_out, line_is, table_after, out_after}
use Rattle.terminals.specs.Refusals.{refusal_number}
use Rattle.terminals.specs.declared.Refusal.{Refusal}
use Rattle.terminals.specs.declared.Refusal.TheVariants.{NoRoom, NoTable}
use Rattle.terminals.specs.declared.lines.Line.TheVariants.{Read, Set}

-- `unfolding calls` opens all that a line's answer is made of
unfoldable pub calls : Unit {0}
unfolding digits decimal is_digit run number_from field_of field_at layer_at values places ends_at next_field last_from third_from set_from line_of
    are_profiles is_table reset_is reset_out fields_refusal names set_in settles set_line item place_text line_text lines_text text_of
    read_is read_out line_is table_after out_after
calls = tt

-- every place at "both"
abbrev pub fresh : List ℕ
fresh = replicate 269 2

-- a buffer of so many bytes
abbrev pub lent : ℕ → List ℕ
lent n = replicate n 0

-- ---- lines

-- `AT+CTSP=3,4` CR
two_fields : line_of (65 ∷ 84 ∷ 43 ∷ 67 ∷ 84 ∷ 83 ∷ 80 ∷ 61 ∷ 51 ∷ 44 ∷ 52 ∷ 13 ∷ []) ≡ Some (Set (fields_of 3 4 None false))
unfolding calls
two_fields = refl

-- `AT+CTSP=002,03,255` CR
three-fields : line_of (65 ∷ 84 ∷ 43 ∷ 67 ∷ 84 ∷ 83 ∷ 80 ∷ 61 ∷ 48 ∷ 48 ∷ 50 ∷ 44 ∷ 48 ∷ 51 ∷ 44 ∷ 50 ∷ 53 ∷ 53 ∷ 13 ∷ [])
    ≡ Some (Set (fields_of 2 3 (Some 255) false))
unfolding calls
three-fields = refl

-- `AT+CTSP=0,1,10,999` CR
four-fields : line_of (65 ∷ 84 ∷ 43 ∷ 67 ∷ 84 ∷ 83 ∷ 80 ∷ 61 ∷ 48 ∷ 44 ∷ 49 ∷ 44 ∷ 49 ∷ 48 ∷ 44 ∷ 57 ∷ 57 ∷ 57 ∷ 13 ∷ [])
    ≡ Some (Set (fields_of 0 1 (Some 10) true))
unfolding calls
four-fields = refl

-- `AT+CTSP=000,000` CR
zeros : line_of (65 ∷ 84 ∷ 43 ∷ 67 ∷ 84 ∷ 83 ∷ 80 ∷ 61 ∷ 48 ∷ 48 ∷ 48 ∷ 44 ∷ 48 ∷ 48 ∷ 48 ∷ 13 ∷ []) ≡ Some (Set (fields_of 0 0 None false))
unfolding calls
zeros = refl

-- `AT+CTSP?` CR
asked : line_of (65 ∷ 84 ∷ 43 ∷ 67 ∷ 84 ∷ 83 ∷ 80 ∷ 63 ∷ 13 ∷ []) ≡ Some Read
unfolding calls
asked = refl

-- no line: each is a line but for one thing

-- no CR
no_cr : line_of (65 ∷ 84 ∷ 43 ∷ 67 ∷ 84 ∷ 83 ∷ 80 ∷ 61 ∷ 51 ∷ 44 ∷ 52 ∷ []) ≡ None
unfolding calls
no_cr = refl

-- something after the CR
lf-after : line_of (65 ∷ 84 ∷ 43 ∷ 67 ∷ 84 ∷ 83 ∷ 80 ∷ 61 ∷ 51 ∷ 44 ∷ 52 ∷ 13 ∷ 10 ∷ []) ≡ None
unfolding calls
lf-after = refl

-- something after the CR of the read form
asked_lf : line_of (65 ∷ 84 ∷ 43 ∷ 67 ∷ 84 ∷ 83 ∷ 80 ∷ 63 ∷ 13 ∷ 10 ∷ []) ≡ None
unfolding calls
asked_lf = refl

-- one field
one_field : line_of (65 ∷ 84 ∷ 43 ∷ 67 ∷ 84 ∷ 83 ∷ 80 ∷ 61 ∷ 51 ∷ 13 ∷ []) ≡ None
unfolding calls
one_field = refl

-- five fields
five-fields : line_of (65 ∷ 84 ∷ 43 ∷ 67 ∷ 84 ∷ 83 ∷ 80 ∷ 61 ∷ 51 ∷ 44 ∷ 49 ∷ 44 ∷ 49 ∷ 48 ∷ 44 ∷ 49 ∷ 44 ∷ 49 ∷ 13 ∷ []) ≡ None
unfolding calls
five-fields = refl

-- a field of four digits
four-digits : line_of (65 ∷ 84 ∷ 43 ∷ 67 ∷ 84 ∷ 83 ∷ 80 ∷ 61 ∷ 51 ∷ 44 ∷ 48 ∷ 48 ∷ 48 ∷ 52 ∷ 13 ∷ []) ≡ None
unfolding calls
four-digits = refl

-- a field without a digit
empty-field : line_of (65 ∷ 84 ∷ 43 ∷ 67 ∷ 84 ∷ 83 ∷ 80 ∷ 61 ∷ 51 ∷ 44 ∷ 13 ∷ []) ≡ None
unfolding calls
empty-field = refl

-- a space after the comma
space : line_of (65 ∷ 84 ∷ 43 ∷ 67 ∷ 84 ∷ 83 ∷ 80 ∷ 61 ∷ 51 ∷ 44 ∷ 32 ∷ 52 ∷ 13 ∷ []) ≡ None
unfolding calls
space = refl

-- another word
lower_case : line_of (97 ∷ 116 ∷ 43 ∷ 67 ∷ 84 ∷ 83 ∷ 80 ∷ 61 ∷ 51 ∷ 44 ∷ 52 ∷ 13 ∷ []) ≡ None
unfolding calls
lower_case = refl

-- the test form
test_form : line_of (65 ∷ 84 ∷ 43 ∷ 67 ∷ 84 ∷ 83 ∷ 80 ∷ 61 ∷ 63 ∷ 13 ∷ []) ≡ None
unfolding calls
test_form = refl

-- ---- refusals: 16 for a value, then 17, on either side of each limit

-- the number of a line's answer, 0 for a success
abbrev numbered : Result ℕ Refusal → ℕ
numbered (Ok n) = 0
numbered (Err refusal) = refusal_number refusal

-- on a fresh table, with no room to write
abbrev answer : List ℕ → ℕ
answer s = numbered (line_is s fresh 0)

-- profiles 0 to 3: `0,0`, `3,0`, `4,0`, `999,0`
profiles : answer (65 ∷ 84 ∷ 43 ∷ 67 ∷ 84 ∷ 83 ∷ 80 ∷ 61 ∷ 48 ∷ 44 ∷ 48 ∷ 13 ∷ [])
    ∷ answer (65 ∷ 84 ∷ 43 ∷ 67 ∷ 84 ∷ 83 ∷ 80 ∷ 61 ∷ 51 ∷ 44 ∷ 48 ∷ 13 ∷ [])
    ∷ answer (65 ∷ 84 ∷ 43 ∷ 67 ∷ 84 ∷ 83 ∷ 80 ∷ 61 ∷ 52 ∷ 44 ∷ 48 ∷ 13 ∷ [])
    ∷ answer (65 ∷ 84 ∷ 43 ∷ 67 ∷ 84 ∷ 83 ∷ 80 ∷ 61 ∷ 57 ∷ 57 ∷ 57 ∷ 44 ∷ 48 ∷ 13 ∷ [])
    ∷ [] ≡ 0 ∷ 0 ∷ 16 ∷ 16 ∷ []
unfolding calls
profiles = refl

-- layers 0 to 4: `2,4`, `2,5`
layers : answer (65 ∷ 84 ∷ 43 ∷ 67 ∷ 84 ∷ 83 ∷ 80 ∷ 61 ∷ 50 ∷ 44 ∷ 52 ∷ 13 ∷ [])
    ∷ answer (65 ∷ 84 ∷ 43 ∷ 67 ∷ 84 ∷ 83 ∷ 80 ∷ 61 ∷ 50 ∷ 44 ∷ 53 ∷ 13 ∷ [])
    ∷ [] ≡ 0 ∷ 16 ∷ []
unfolding calls
layers = refl

-- CC has 0 and 1: `0,0,0`, `0,0,1`, `0,0,2`
cc-values : answer (65 ∷ 84 ∷ 43 ∷ 67 ∷ 84 ∷ 83 ∷ 80 ∷ 61 ∷ 48 ∷ 44 ∷ 48 ∷ 44 ∷ 48 ∷ 13 ∷ [])
    ∷ answer (65 ∷ 84 ∷ 43 ∷ 67 ∷ 84 ∷ 83 ∷ 80 ∷ 61 ∷ 48 ∷ 44 ∷ 48 ∷ 44 ∷ 49 ∷ 13 ∷ [])
    ∷ answer (65 ∷ 84 ∷ 43 ∷ 67 ∷ 84 ∷ 83 ∷ 80 ∷ 61 ∷ 48 ∷ 44 ∷ 48 ∷ 44 ∷ 50 ∷ 13 ∷ [])
    ∷ [] ≡ 0 ∷ 0 ∷ 16 ∷ []
unfolding calls
cc-values = refl

-- MM has 10 to 14: `0,1,9`, `0,1,10`, `0,1,14`, `0,1,15`
mm-values : answer (65 ∷ 84 ∷ 43 ∷ 67 ∷ 84 ∷ 83 ∷ 80 ∷ 61 ∷ 48 ∷ 44 ∷ 49 ∷ 44 ∷ 57 ∷ 13 ∷ [])
    ∷ answer (65 ∷ 84 ∷ 43 ∷ 67 ∷ 84 ∷ 83 ∷ 80 ∷ 61 ∷ 48 ∷ 44 ∷ 49 ∷ 44 ∷ 49 ∷ 48 ∷ 13 ∷ [])
    ∷ answer (65 ∷ 84 ∷ 43 ∷ 67 ∷ 84 ∷ 83 ∷ 80 ∷ 61 ∷ 48 ∷ 44 ∷ 49 ∷ 44 ∷ 49 ∷ 52 ∷ 13 ∷ [])
    ∷ answer (65 ∷ 84 ∷ 43 ∷ 67 ∷ 84 ∷ 83 ∷ 80 ∷ 61 ∷ 48 ∷ 44 ∷ 49 ∷ 44 ∷ 49 ∷ 53 ∷ 13 ∷ [])
    ∷ [] ≡ 16 ∷ 0 ∷ 0 ∷ 16 ∷ []
unfolding calls
mm-values = refl

-- SDS has 20 to 24: `0,2,19`, `0,2,20`, `0,2,24`, `0,2,25`
sds-values : answer (65 ∷ 84 ∷ 43 ∷ 67 ∷ 84 ∷ 83 ∷ 80 ∷ 61 ∷ 48 ∷ 44 ∷ 50 ∷ 44 ∷ 49 ∷ 57 ∷ 13 ∷ [])
    ∷ answer (65 ∷ 84 ∷ 43 ∷ 67 ∷ 84 ∷ 83 ∷ 80 ∷ 61 ∷ 48 ∷ 44 ∷ 50 ∷ 44 ∷ 50 ∷ 48 ∷ 13 ∷ [])
    ∷ answer (65 ∷ 84 ∷ 43 ∷ 67 ∷ 84 ∷ 83 ∷ 80 ∷ 61 ∷ 48 ∷ 44 ∷ 50 ∷ 44 ∷ 50 ∷ 52 ∷ 13 ∷ [])
    ∷ answer (65 ∷ 84 ∷ 43 ∷ 67 ∷ 84 ∷ 83 ∷ 80 ∷ 61 ∷ 48 ∷ 44 ∷ 50 ∷ 44 ∷ 50 ∷ 53 ∷ 13 ∷ [])
    ∷ [] ≡ 16 ∷ 0 ∷ 0 ∷ 16 ∷ []
unfolding calls
sds-values = refl

-- PIDs are 0 to 255: `0,3,0`, `0,3,255`, `0,3,256`
pids : answer (65 ∷ 84 ∷ 43 ∷ 67 ∷ 84 ∷ 83 ∷ 80 ∷ 61 ∷ 48 ∷ 44 ∷ 51 ∷ 44 ∷ 48 ∷ 13 ∷ [])
    ∷ answer (65 ∷ 84 ∷ 43 ∷ 67 ∷ 84 ∷ 83 ∷ 80 ∷ 61 ∷ 48 ∷ 44 ∷ 51 ∷ 44 ∷ 50 ∷ 53 ∷ 53 ∷ 13 ∷ [])
    ∷ answer (65 ∷ 84 ∷ 43 ∷ 67 ∷ 84 ∷ 83 ∷ 80 ∷ 61 ∷ 48 ∷ 44 ∷ 51 ∷ 44 ∷ 50 ∷ 53 ∷ 54 ∷ 13 ∷ [])
    ∷ [] ≡ 0 ∷ 0 ∷ 16 ∷ []
unfolding calls
pids = refl

-- Packet Data takes no third field, 30 and 31 neither: `0,4`, `0,4,0`, `0,4,30`, `0,4,31`
packet-data : answer (65 ∷ 84 ∷ 43 ∷ 67 ∷ 84 ∷ 83 ∷ 80 ∷ 61 ∷ 48 ∷ 44 ∷ 52 ∷ 13 ∷ [])
    ∷ answer (65 ∷ 84 ∷ 43 ∷ 67 ∷ 84 ∷ 83 ∷ 80 ∷ 61 ∷ 48 ∷ 44 ∷ 52 ∷ 44 ∷ 48 ∷ 13 ∷ [])
    ∷ answer (65 ∷ 84 ∷ 43 ∷ 67 ∷ 84 ∷ 83 ∷ 80 ∷ 61 ∷ 48 ∷ 44 ∷ 52 ∷ 44 ∷ 51 ∷ 48 ∷ 13 ∷ [])
    ∷ answer (65 ∷ 84 ∷ 43 ∷ 67 ∷ 84 ∷ 83 ∷ 80 ∷ 61 ∷ 48 ∷ 44 ∷ 52 ∷ 44 ∷ 51 ∷ 49 ∷ 13 ∷ [])
    ∷ [] ≡ 0 ∷ 17 ∷ 17 ∷ 17 ∷ []
unfolding calls
packet-data = refl

-- any fourth field is 17, after 16 for the first three: `0,1,10,0`, `0,4,0,0`, `4,1,10,0`, `0,5,10,0`, `0,1,15,0`, `0,1,10,999`
fourth : answer (65 ∷ 84 ∷ 43 ∷ 67 ∷ 84 ∷ 83 ∷ 80 ∷ 61 ∷ 48 ∷ 44 ∷ 49 ∷ 44 ∷ 49 ∷ 48 ∷ 44 ∷ 48 ∷ 13 ∷ [])
    ∷ answer (65 ∷ 84 ∷ 43 ∷ 67 ∷ 84 ∷ 83 ∷ 80 ∷ 61 ∷ 48 ∷ 44 ∷ 52 ∷ 44 ∷ 48 ∷ 44 ∷ 48 ∷ 13 ∷ [])
    ∷ answer (65 ∷ 84 ∷ 43 ∷ 67 ∷ 84 ∷ 83 ∷ 80 ∷ 61 ∷ 52 ∷ 44 ∷ 49 ∷ 44 ∷ 49 ∷ 48 ∷ 44 ∷ 48 ∷ 13 ∷ [])
    ∷ answer (65 ∷ 84 ∷ 43 ∷ 67 ∷ 84 ∷ 83 ∷ 80 ∷ 61 ∷ 48 ∷ 44 ∷ 53 ∷ 44 ∷ 49 ∷ 48 ∷ 44 ∷ 48 ∷ 13 ∷ [])
    ∷ answer (65 ∷ 84 ∷ 43 ∷ 67 ∷ 84 ∷ 83 ∷ 80 ∷ 61 ∷ 48 ∷ 44 ∷ 49 ∷ 44 ∷ 49 ∷ 53 ∷ 44 ∷ 48 ∷ 13 ∷ [])
    ∷ answer (65 ∷ 84 ∷ 43 ∷ 67 ∷ 84 ∷ 83 ∷ 80 ∷ 61 ∷ 48 ∷ 44 ∷ 49 ∷ 44 ∷ 49 ∷ 48 ∷ 44 ∷ 57 ∷ 57 ∷ 57 ∷ 13 ∷ [])
    ∷ [] ≡ 17 ∷ 17 ∷ 16 ∷ 16 ∷ 16 ∷ 17 ∷ []
unfolding calls
fourth = refl

-- what is no table gives 9 before all else: 268 and 270 places, a byte of 4; with a table a bad line gives 15
tables : numbered (line_is [] (replicate 268 2) 0) ∷ numbered (line_is [] (replicate 270 2) 0) ∷ numbered (line_is [] (set fresh 268 4) 0)
    ∷ numbered (line_is [] (set fresh 268 3) 0) ∷ [] ≡ 9 ∷ 9 ∷ 9 ∷ 15 ∷ []
unfolding calls
tables = refl

reset-lengths : reset_is 268 ∷ reset_is 269 ∷ reset_is 270 ∷ [] ≡ Err NoTable ∷ Ok tt ∷ Err NoTable ∷ []
unfolding calls
reset-lengths = refl

-- any bytes are reset
reset_any : reset_out (replicate 269 255) ≡ fresh
unfolding calls
reset_any = refl

-- ---- what a set line changes

-- `AT+CTSP=0,0,0` sets the first place
voice : table_after (65 ∷ 84 ∷ 43 ∷ 67 ∷ 84 ∷ 83 ∷ 80 ∷ 61 ∷ 48 ∷ 44 ∷ 48 ∷ 44 ∷ 48 ∷ 13 ∷ []) fresh ≡ 0 ∷ replicate 268 2
unfolding calls
voice = refl

-- `AT+CTSP=1,3,255` sets PID 255, the last but one
last_pid : table_after (65 ∷ 84 ∷ 43 ∷ 67 ∷ 84 ∷ 83 ∷ 80 ∷ 61 ∷ 49 ∷ 44 ∷ 51 ∷ 44 ∷ 50 ∷ 53 ∷ 53 ∷ 13 ∷ []) fresh ≡ replicate 267 2 ++ (1 ∷ 2 ∷ [])
unfolding calls
last_pid = refl

-- `AT+CTSP=3,1` sets the five places of MM
all_mm : table_after (65 ∷ 84 ∷ 43 ∷ 67 ∷ 84 ∷ 83 ∷ 80 ∷ 61 ∷ 51 ∷ 44 ∷ 49 ∷ 13 ∷ []) fresh ≡ 2 ∷ 2 ∷ 3 ∷ 3 ∷ 3 ∷ 3 ∷ 3 ∷ replicate 262 2
unfolding calls
all_mm = refl

-- `AT+CTSP=0,3` sets all PIDs
all-pids : table_after (65 ∷ 84 ∷ 43 ∷ 67 ∷ 84 ∷ 83 ∷ 80 ∷ 61 ∷ 48 ∷ 44 ∷ 51 ∷ 13 ∷ []) fresh ≡ replicate 12 2 ++ (replicate 256 0 ++ (2 ∷ []))
unfolding calls
all-pids = refl

-- `AT+CTSP=1,4` sets the last place
packet : table_after (65 ∷ 84 ∷ 43 ∷ 67 ∷ 84 ∷ 83 ∷ 80 ∷ 61 ∷ 49 ∷ 44 ∷ 52 ∷ 13 ∷ []) fresh ≡ replicate 268 2 ++ (1 ∷ [])
unfolding calls
packet = refl

-- `AT+CTSP=0,1,15` is refused and changes nothing
refused : table_after (65 ∷ 84 ∷ 43 ∷ 67 ∷ 84 ∷ 83 ∷ 80 ∷ 61 ∷ 48 ∷ 44 ∷ 49 ∷ 44 ∷ 49 ∷ 53 ∷ 13 ∷ []) fresh ≡ fresh
unfolding calls
refused = refl

-- ---- the read form

-- nothing off the default: no text, and no room needed
nothing : line_is (65 ∷ 84 ∷ 43 ∷ 67 ∷ 84 ∷ 83 ∷ 80 ∷ 63 ∷ 13 ∷ []) fresh 0 ≡ Ok 0
unfolding calls
nothing = refl

-- voice at 0, PID 255 at 1, Packet Data at 3
abbrev pub some : List ℕ
some = 0 ∷ replicate 266 2 ++ (1 ∷ 3 ∷ [])

-- `+CTSP: 0,0,0`, `1,3,255` and `3,4`, each with CR LF; 28 bytes, the buffer's own after them
text-some : out_after (65 ∷ 84 ∷ 43 ∷ 67 ∷ 84 ∷ 83 ∷ 80 ∷ 63 ∷ 13 ∷ []) some (lent 29)
    ≡ 43 ∷ 67 ∷ 84 ∷ 83 ∷ 80 ∷ 58 ∷ 32 ∷ 48 ∷ 44 ∷ 48 ∷ 44 ∷ 48 ∷ 13 ∷ 10 ∷ 49 ∷ 44 ∷ 51 ∷ 44 ∷ 50 ∷ 53 ∷ 53 ∷ 13 ∷ 10 ∷ 51 ∷ 44 ∷ 52 ∷ 13 ∷ 10 ∷ 0
    ∷ []
unfolding calls
text-some = refl

-- 28 bytes are enough, 27 are not and stay as they were
room-some : line_is (65 ∷ 84 ∷ 43 ∷ 67 ∷ 84 ∷ 83 ∷ 80 ∷ 63 ∷ 13 ∷ []) some 28 ∷ line_is (65 ∷ 84 ∷ 43 ∷ 67 ∷ 84 ∷ 83 ∷ 80 ∷ 63 ∷ 13 ∷ []) some 27 ∷ []
    ≡ Ok 28 ∷ Err NoRoom ∷ []
unfolding calls
room-some = refl

short-stays : out_after (65 ∷ 84 ∷ 43 ∷ 67 ∷ 84 ∷ 83 ∷ 80 ∷ 63 ∷ 13 ∷ []) some (lent 27) ≡ lent 27
unfolding calls
short-stays = refl

-- every place off the default: the longest text
longest : length (text_of (replicate 269 3)) ≡ 2300
unfolding calls
longest = refl
