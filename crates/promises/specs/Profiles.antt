-- The profiles of document 01, P1 to P14, as one list that antt computes: home network 1, user 1/5, no extensions. With them visitor 2/5
-- with A's lists, P15 and P16 (document 02, request 2026-04).
use Rattle.std.specs.Prelude.{◌≡◌, refl, List, [], ◌∷◌, ℕ, replicate, None, Ok, Option}
use Rattle.bits.specs.Frame.{bytes_for}
use Rattle.grammar.specs.Grammar.{grammar}
use Rattle.grammar.specs.ProfileRecords.{A, B, C, asking, visitor_a}
use Rattle.grammar.specs.declared.record.Record.{Record}
use Rattle.writer.specs.Write.{record_refusal, write_refusal, write_is}
use Rattle.rules.specs.Rule.{ruling, rules, allowed, barred}
use Rattle.rules.specs.ProfileCalls.{speech, circuit_data, short_data, visitor_speech, group500}
use Rattle.rules.specs.declared.request.Request.{Request}
use Rattle.rules.specs.declared.Cause.{Cause}
use Rattle.rules.specs.declared.Cause.TheVariants.{OutsideGroup, RestrictedService, RestrictedAddress}

pub data Case : Type 0 where
  -- the part gives the call this answer
  decides : Record → Request → Option Cause → Case
  -- the record is written as so many bits, in so many bytes
  measures : Record → ℕ → ℕ → Case

abbrev pub Holds : Case → Type 0
Holds (decides r q d) = ruling 1 r q ≡ d
Holds (measures r bits bytes) = (write_is r (replicate bytes 0) ≡ Ok (record { 0 = bits })) × (bytes_for bits ≡ bytes)

abbrev pub All : List Case → Type 0
All [] = Unit {0}
All (c ∷ l) = Holds c × All l

pub profiles : All (
    decides A (speech 1 100 None) (barred RestrictedAddress)  -- P1
    ∷ decides A (speech 1 199 None) (barred RestrictedAddress)  -- P2
    ∷ decides A (speech 1 200 None) allowed  -- P3
    ∷ decides A (speech 1 99 None) allowed  -- P4
    ∷ decides A (speech 1 150 None) allowed  -- P5
    ∷ decides A (circuit_data 1 100 None) allowed  -- P6
    ∷ decides A (speech 2 100 None) allowed  -- P7
    ∷ decides B (short_data 1 8 None) (barred RestrictedService)  -- P8
    ∷ decides B (short_data 1 7 None) allowed  -- P9
    ∷ decides C (speech 1 9 group500) allowed  -- P10
    ∷ decides C (speech 1 9 None) (barred OutsideGroup)  -- P11
    ∷ decides C (speech 1 8 group500) (barred RestrictedAddress)  -- P12
    ∷ measures A 138 18  -- P13
    ∷ measures asking 42 6  -- P14
    ∷ decides visitor_a (visitor_speech 2 100 None) (barred RestrictedAddress)  -- P15
    ∷ decides visitor_a (visitor_speech 1 100 None) allowed  -- P16
    ∷ [])
unfolding grammar rules record_refusal write_refusal write_is
profiles =
    (refl, (refl, (refl, (refl, (refl, (refl, (refl, (refl, (refl, (refl, (refl, (refl, ((refl, refl), ((refl, refl), (refl, (refl, tt))))))))))))))))
