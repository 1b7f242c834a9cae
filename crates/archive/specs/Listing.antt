-- The text that lists an archive, in ASCII: a line for the header, and a line for each PDU held (document 01, the program `contents`).
use Rattle.std.specs.Prelude.{List, [], ◌∷◌, ◌++◌, ℕ, length, leb, Result, Ok, Err, Option, Some, None}
use Rattle.bits.specs.Bits.{guard}
use Rattle.text.specs.Decimal.{item}
use Rattle.archive.specs.Model.{Held, Archive}
use Rattle.archive.specs.Reading.{reading}
use Rattle.archive.specs.Refusals.{plain}
use Rattle.archive.specs.Checking.{check_is, if_archive}
use Rattle.archive.specs.Keeping.{over, leaves}
use Rattle.archive.specs.declared.contents.Entry.{Entry}
use Rattle.archive.specs.declared.listing.Reported.{Reported}
use Rattle.archive.specs.declared.refusal.Refusal.{Refusal}

-- ---- words

-- `home `
abbrev pub home_word : List ℕ
home_word = 104 ∷ 111 ∷ 109 ∷ 101 ∷ 32 ∷ []

-- ` entries `
abbrev pub entries_word : List ℕ
entries_word = 32 ∷ 101 ∷ 110 ∷ 116 ∷ 114 ∷ 105 ∷ 101 ∷ 115 ∷ 32 ∷ []

-- a space
abbrev pub space : List ℕ
space = 32 ∷ []

-- ` part `
abbrev pub part_word : List ℕ
part_word = 32 ∷ 112 ∷ 97 ∷ 114 ∷ 116 ∷ 32 ∷ []

-- ` bits `
abbrev pub bits_word : List ℕ
bits_word = 32 ∷ 98 ∷ 105 ∷ 116 ∷ 115 ∷ 32 ∷ []

-- ` day `
abbrev pub day_word : List ℕ
day_word = 32 ∷ 100 ∷ 97 ∷ 121 ∷ 32 ∷ []

-- `entry `
abbrev pub entry_word : List ℕ
entry_word = 101 ∷ 110 ∷ 116 ∷ 114 ∷ 121 ∷ 32 ∷ []

-- ` bit `
abbrev pub bit_word : List ℕ
bit_word = 32 ∷ 98 ∷ 105 ∷ 116 ∷ 32 ∷ []

-- LF
abbrev pub line_end : List ℕ
line_end = 10 ∷ []

-- ---- lines

-- a line of two numbers, each after its word
unfoldable pub two_items : List ℕ → ℕ → List ℕ → ℕ → List ℕ
two_items word n other m = word ++ (item n other ++ item m line_end)

-- `home H entries N`
unfoldable pub first_line : ℕ → ℕ → List ℕ
first_line home count = two_items home_word home entries_word count

-- `NETWORK SSI part P bits B day D`
unfoldable pub line : Entry → List ℕ
line e =
    item e.key.network space
    ++ (item e.key.ssi part_word ++ (item e.key.part bits_word ++ (item e.bits.0 day_word ++ item e.day line_end)))

unfoldable pub lines : List Held → List ℕ
lines [] = []
lines (h ∷ hs) = line h.entry ++ lines hs

unfoldable pub listing : Archive → List ℕ
listing a = first_line a.home (length a.held) ++ lines a.held

-- ---- list: 7, then 8 if the lent buffer is too short

unfoldable pub list_is : List ℕ → ℕ → Result ℕ Refusal
list_is b room =
    if_archive (check_is b) Err
    (guard (leb (length (listing (reading b))) room) (Err (plain 8))
    (Ok (length (listing (reading b)))))

unfoldable pub list_out : List ℕ → List ℕ → List ℕ
list_out b out = leaves (list_is b (length out)) (listing (reading b)) out

-- ---- report: what the program `contents` prints, and what it tells on standard error

-- `refused 7` and a line end
abbrev pub refused_line : List ℕ
refused_line = 114 ∷ 101 ∷ 102 ∷ 117 ∷ 115 ∷ 101 ∷ 100 ∷ 32 ∷ 55 ∷ line_end

-- printed: the listing of an archive; `refused 7` for what is none
unfoldable pub report_of : List ℕ → List ℕ
report_of b = if_archive (check_is b) (λ f. refused_line) (listing (reading b))

-- told: where a body is at fault, `entry I` or `entry I bit P`; otherwise nothing
unfoldable pub fault_text : Option ℕ → Option ℕ → List ℕ
fault_text None p = []
fault_text (Some i) None = entry_word ++ item i line_end
fault_text (Some i) (Some p) = two_items entry_word i bit_word p

unfoldable pub told_of : List ℕ → List ℕ
told_of b = if_archive (check_is b) (λ f. fault_text f.entry f.place) []

-- a text's length if the lent buffer has room for it, otherwise 0
abbrev pub length_within : List ℕ → ℕ → ℕ
length_within w room = guard (leb (length w) room) 0 (length w)

-- a text at the front of the lent buffer if that has room for it, otherwise the buffer as it was
abbrev pub text_within : List ℕ → List ℕ → List ℕ
text_within w out = guard (leb (length w) (length out)) out (over w out)

unfoldable pub report_is : List ℕ → ℕ → ℕ → Reported
report_is b room more = record { printed = length_within (report_of b) room; told = length_within (told_of b) more }

unfoldable pub report_out : List ℕ → List ℕ → List ℕ
report_out b out = text_within (report_of b) out

unfoldable pub told_out : List ℕ → List ℕ → List ℕ
told_out b out = text_within (told_of b) out
