-- A history of offered PDUs: each is captured into a buffer that is lent for it; after a refusal one goes on with the old archive.
use Rattle.std.specs.Prelude.{Bool, true, false, List, [], ◌∷◌, ℕ, length, take, Result, Ok, Err, Option, Some}
use Rattle.reader.specs.Read.{read_is, found_in}
use Rattle.archive.specs.Filing.{filed_key, same_key}
use Rattle.archive.specs.Reading.{reading}
use Rattle.archive.specs.Keeping.{capture_is, capture_out}
use Rattle.archive.specs.declared.contents.Key.{Key}
use Rattle.archive.specs.declared.refusal.Refusal.{Refusal}

-- an offered PDU, its bit length, its day, and the buffer lent for its capture
pub record Offer : Type 0 where
  pub pdu : List ℕ
  pub bits : ℕ
  pub day : ℕ
  pub lent : List ℕ

-- the archive to go on with: what was written, or the old one
abbrev pub kept_of : Result ℕ Refusal → List ℕ → List ℕ → List ℕ
kept_of (Ok n) old out = take n out
kept_of (Err f) old out = old

abbrev pub answer_to : List ℕ → Offer → Result ℕ Refusal
answer_to b o = capture_is b o.pdu o.bits o.day (length o.lent)

unfoldable pub after : List ℕ → Offer → List ℕ
after b o = kept_of (answer_to b o) b (capture_out b o.pdu o.bits o.day o.lent)

unfoldable pub after_all : List ℕ → List Offer → List ℕ
after_all b [] = b
after_all b (o ∷ os) = after_all (after b o) os

-- ---- the last PDU accepted for a user and part

-- the key under which an offer is filed
abbrev pub offered_for : List ℕ → Offer → Key
offered_for b o = filed_key (reading b).home (found_in (read_is o.pdu o.bits))

-- an accepted offer for that user and part is the last; any other offer leaves it
abbrev pub latest : Result ℕ Refusal → Bool → Offer → Option Offer → Option Offer
latest (Ok n) true o last = Some o
latest (Ok n) false o last = last
latest (Err f) same o last = last

unfoldable pub last_accepted : Key → List ℕ → Option Offer → List Offer → Option Offer
last_accepted k b last [] = last
last_accepted k b last (o ∷ os) = last_accepted k (after b o) (latest (answer_to b o) (same_key (offered_for b o) k) o last) os
