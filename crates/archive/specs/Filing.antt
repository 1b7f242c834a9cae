-- Under which key a PDU is filed, and which archives keep the rules.
use Rattle.std.specs.Prelude.{Bool, true, false, ◌&&◌, List, [], ◌∷◌, ℕ, length, ltb, eqb, is_ok, Option, Some, None}
use Rattle.bits.specs.Bits.{pick}
use Rattle.grammar.specs.Grammar.{network_of, user_of}
use Rattle.grammar.specs.declared.record.Record.{Record}
use Rattle.reader.specs.Read.{found_in, read_is}
use Rattle.judging.specs.Judge.{may_hold}
use Rattle.archive.specs.Model.{Held, Archive, rank, is_day, length_of, within_limits}
use Rattle.archive.specs.declared.contents.Key.{Key}

-- a user's network is the extension if present, otherwise the home network; results 1 and 2 are parts 1 and 2: identities, numbers
abbrev pub filed_key : ℕ → Record → Key
filed_key home r = record { network = network_of home (user_of r); ssi = (user_of r).ssi; part = r.figures.result }

unfoldable pub filing_of : ℕ → Record → Option Key
filing_of home r = pick (may_hold r) (Some (filed_key home r)) None

-- ---- an archive that keeps the rules

-- network, SSI and part agree
abbrev pub same_key : Key → Key → Bool
same_key a b = eqb a.network b.network && (eqb a.ssi b.ssi && eqb a.part b.part)

abbrev pub agrees : Option Key → Key → Bool
agrees (Some a) k = same_key a k
agrees None k = false

-- the body is a legal PDU that is filed under its entry's key, whatever the day
unfoldable pub body_agrees : ℕ → Held → Bool
body_agrees home h =
    is_ok (read_is h.body h.entry.bits.0)
    && agrees (filing_of home (found_in (read_is h.body h.entry.bits.0))) h.entry.key

-- entries rise strictly, from above a rank on, each has a day, and each body agrees with its entry
unfoldable pub keeps_rules : ℕ → ℕ → List Held → Bool
keeps_rules home last [] = true
keeps_rules home last (h ∷ hs) = ltb last (rank h) && (is_day h.entry.day && (body_agrees home h && keeps_rules home (rank h) hs))

unfoldable pub well_formed : Archive → Bool
well_formed a = ltb a.home 16777216 && (within_limits (length a.held) (length_of a) && keeps_rules a.home 0 a.held)
