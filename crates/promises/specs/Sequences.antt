-- Demand 3 as C meets it: boc_empty, then boc_capture any number of times; boc_restore gives the last PDU for which boc_capture gave 0, for
-- that user and part, and its day, boc_reload and boc_reload_external put its part back, and boc_decide decides by it, or says 4, not held.
use Rattle.std.specs.Prelude.{◌≡◌, ◌&&◌, List, [], ◌∷◌, ℕ, ◌≤◌, ◌<◌, length, take, eqb, Option, None, Some, Ok}
use Rattle.bits.specs.Bits.{pick}
use Rattle.bits.specs.Frame.{bytes_for, pack}
use Rattle.grammar.specs.Grammar.{pdu}
use Rattle.reader.specs.Read.{found_in, read_is}
use Rattle.rules.specs.Rule.{ruling}
use Rattle.archive.specs.Filing.{same_key}
use Rattle.archive.specs.Keeping.{over, empty_out, capture_out}
use Rattle.archive.specs.Restoring.{restore_out}
use Rattle.archive.specs.History.{Offer, offered_for}
use Rattle.archive.specs.declared.contents.Key.{Key}
use Rattle.reload.specs.Define.{define_of}
use Rattle.reload.specs.Reload.{redefined, reload_is, reloads, reload_out}
use Rattle.reload.specs.declared.Definition.{Definition}
use Rattle.reload.specs.declared.Target.{Target}
use Rattle.words.specs.RequestWords.{request_from}
use Rattle.barring.specs.Decide.{key_for}
use Rattle.barring.specs.Decision.{decision_of, verdict_of}
use Rattle.boc.specs.Calls.{empty_number, empty_length, told_number, stored_length, capture_answer}
use Rattle.boc.specs.Calls.{restored_length, restored_day, key_of, restore_answer, reloaded_length}
use Rattle.boc.specs.Calls.{decided_verdict, decide_answer}
use Rattle.promises.specs.Archive.{Ranged}
use Rattle.promises.specs.Demand1.Reload.{Asked}

-- a call of boc_capture: the PDU, its bits, its day and the buffer; and the number behind the pointer before it
pub record Call : Type 0 where
  pub offer : Offer
  pub old : ℕ

-- what it returns
abbrev pub returned : List ℕ → Call → ℕ
returned b c = told_number (capture_answer b c.offer.pdu c.offer.bits c.offer.day c.offer.lent)

-- after 0 one goes on with the first bytes of the buffer, as many as the pointer says; after any other number with the old archive
unfoldable pub gone_on : List ℕ → Call → List ℕ
gone_on b c =
    let o = c.offer in
    pick (eqb (returned b c) 0)
    (take (stored_length (capture_answer b o.pdu o.bits o.day o.lent) c.old) (capture_out b o.pdu o.bits o.day o.lent)) b

unfoldable pub gone_on_all : List ℕ → List Call → List ℕ
gone_on_all b [] = b
gone_on_all b (c ∷ cs) = gone_on_all (gone_on b c) cs

-- the last PDU for which 0 was returned, of those that name the user and part
unfoldable pub last_zero : Key → List ℕ → Option Offer → List Call → Option Offer
last_zero k b last [] = last
last_zero k b last (c ∷ cs) =
    last_zero k (gone_on b c) (pick (eqb (returned b c) 0 && same_key (offered_for b c.offer) k) (Some c.offer) last) cs

-- what boc_empty left: as many bytes of the buffer as the pointer says
abbrev pub begun : ℕ → List ℕ → ℕ → List ℕ
begun home lent old = take (empty_length home lent old) (empty_out home lent)

-- From a boc_empty that returned 0, and for any calls; proved in proofs/Sequences.antt.
pub record Promise (home : ℕ) (lent : List ℕ) (old : ℕ) (calls : List Call) : Type 0 where
  -- boc_restore gives 0, the bits, the day and the bytes of the last PDU, if the buffer has room for them,
  pub restores_the-last : empty_number home lent ≡ 0 → let b = gone_on_all (begun home lent old) calls in
      (network ssi part : ℕ) → network < 16777216 → ssi < 16777216 → 1 ≤ part → part ≤ 2 → (out : List ℕ) (bits day : ℕ)
      → (o : Offer) → last_zero (key_of network ssi part) (begun home lent old) None calls ≡ Some o → bytes_for o.bits ≤ length out
      → let answer = restore_answer b network ssi part out in (told_number answer ≡ 0) × (restored_length answer bits ≡ o.bits)
      × (restored_day answer day ≡ o.day)
      × (restore_out b (key_of network ssi part) out ≡ over o.pdu out)
  -- or 11, and changes nothing.
  pub restores-nothing_else : empty_number home lent ≡ 0 → let b = gone_on_all (begun home lent old) calls in
      (network ssi part : ℕ) → network < 16777216 → ssi < 16777216 → 1 ≤ part → part ≤ 2 → (out : List ℕ) (bits day : ℕ)
      → last_zero (key_of network ssi part) (begun home lent old) None calls ≡ None
      → let answer = restore_answer b network ssi part out in
      (told_number answer ≡ 11) × (restored_length answer bits ≡ bits) × (restored_day answer day ≡ day)
      × (restore_out b (key_of network ssi part) out ≡ out)
  -- boc_reload and boc_reload_external answer by the record of that same PDU, and leave the DEFINE or DEFINE EXTERNAL that puts it back,
  pub reloads_the-last : empty_number home lent ≡ 0 → let b = gone_on_all (begun home lent old) calls in
      (t : Target) (k : Key) (d : Definition) → Ranged k → Asked d → (out : List ℕ) (o : Offer) → last_zero k (begun home lent old) None calls ≡ Some o
      → let part = found_in (read_is o.pdu o.bits) in
      (reload_is t b k d out ≡ redefined t d part out)
      × (reload_out t b k d out ≡ reloads (redefined t d part out) (pack (pdu.print (define_of t d part))) out)
  -- or give 11, and change nothing.
  pub reloads-nothing_else : empty_number home lent ≡ 0 → let b = gone_on_all (begun home lent old) calls in
      (t : Target) (k : Key) (d : Definition) → Ranged k → Asked d → (out : List ℕ) (bits : ℕ) → last_zero k (begun home lent old) None calls ≡ None
      → let answer = reload_is t b k d out in
      (told_number answer ≡ 11) × (reloaded_length answer bits ≡ bits) × (reload_out t b k d out ≡ out)
  -- Where boc_decide returns 0, the decision is the number of what the barring rule says by the record of that same PDU,
  pub decides-by_the-last : empty_number home lent ≡ 0 → let b = gone_on_all (begun home lent old) calls in
      (words : List ℕ) (before : ℕ) → told_number (decide_answer b words) ≡ 0 → let q = request_from words in
      (o : Offer) → last_zero (key_for q) (begun home lent old) None calls ≡ Some o
      → decided_verdict (decide_answer b words) before ≡ verdict_of (Ok (decision_of (ruling home (found_in (read_is o.pdu o.bits)) q)))
  -- or 4, and nothing else.
  pub decides-by-nothing_else : empty_number home lent ≡ 0 → let b = gone_on_all (begun home lent old) calls in
      (words : List ℕ) (before : ℕ) → told_number (decide_answer b words) ≡ 0 → let q = request_from words in
      last_zero (key_for q) (begun home lent old) None calls ≡ None
      → decided_verdict (decide_answer b words) before ≡ 4
