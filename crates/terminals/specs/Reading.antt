-- The text of the read form (clause 6.14.4.4): the places off the default, rising, each on a line.
use Rattle.std.specs.Prelude.{List, [], ◌∷◌, ◌++◌, Option, Some, None, ℕ, eqb}
use Rattle.bits.specs.Bits.{pick}
use Rattle.text.specs.Decimal.{item}
use Rattle.terminals.specs.Layers.{places}
use Rattle.terminals.specs.Profiles.{both}
use Rattle.terminals.specs.declared.layers.Place.{Place}

-- `+CTSP: `
abbrev pub lead : List ℕ
lead = 43 ∷ 67 ∷ 84 ∷ 83 ∷ 80 ∷ 58 ∷ 32 ∷ []

abbrev pub comma : List ℕ
comma = 44 ∷ []

-- CR LF
abbrev pub line_end : List ℕ
line_end = 13 ∷ 10 ∷ []

-- layer and third field
unfoldable pub place_text : ℕ → Option ℕ → List ℕ
place_text l None = item l line_end
place_text l (Some t) = item l comma ++ item t line_end

-- the line of a place off the default: `profile,layer1[,third]` CR LF
unfoldable pub line_text : ℕ → Place → List ℕ
line_text v p = pick (eqb v both) [] (item v comma ++ place_text p.layer p.third)

unfoldable pub lines_text : List Place → List ℕ → List ℕ
lines_text [] t = []
lines_text (p ∷ ps) [] = []
lines_text (p ∷ ps) (v ∷ t) = line_text v p ++ lines_text ps t

-- the first line has the command's name before it; nothing if there is none
abbrev pub led : List ℕ → List ℕ
led [] = []
led (b ∷ s) = lead ++ (b ∷ s)

unfoldable pub text_of : List ℕ → List ℕ
text_of t = led (lines_text places t)
