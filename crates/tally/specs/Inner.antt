-- Counting part by part: what each part needs, and what words come to that the PDU does not carry.
use Rattle.std.specs.Prelude.{◌≡◌, Bool, ◌&&◌, List, [], ℕ, ◌+◌, ◌*◌, ◌/◌, ◌^◌, ◌≤◌, ◌<◌, length, take, drop, leb}
use Rattle.bits.specs.Lists.{every}
use Rattle.codec.specs.Codec.{Codec, Legal}
use Rattle.codec.specs.Parts.{element, seq, tested}
use Rattle.codec.specs.Places.{places}
use Rattle.grammar.specs.SiteSheet.{entries_of, range_refusal}
use Rattle.grammar.specs.declared.site.ListKind.{ListKind}
use Rattle.grammar.specs.declared.record.Identity.{Identity}
use Rattle.words.specs.RecordWords.{word, entries_from, identity_from}
use Rattle.tally.specs.declared.Tally.{Tally}

-- after what is counted, the part's own length fits: no PDU is longer than 4,096 bits
pub record Fits {A : Type 0} (c : Codec A) (a : A) (t : Tally) : Type 0 where
  pub short : t.bits + length (c.print a) ≤ 4096

-- whether no number of a list is above the greatest that it may be
unfoldable pub none_above : ℕ → List ℕ → Bool
none_above most = every (λ d. leb d most)

-- words that the PDU does not carry are to be zero, and add nothing
pub record Skips (words : List ℕ) (before after : Tally) : Type 0 where
  pub clean : after.clean ≡ before.clean && none_above 0 words
  pub refusal : after.refusal ≡ before.refusal
  pub bits : after.bits ≡ before.bits

-- an identity among words that is not refused, with this present bit, and with no extension if that is 0
pub record Plain (present : ℕ) (e : Identity) : Type 0 where
  pub ssi : e.ssi / 2 ^ 24 ≡ 0
  pub same : e.present ≡ present
  pub extension : e.extension / 2 ^ (24 * present) ≡ 0

-- the first n are so
pub record AllPlain (n present : ℕ) (words : List ℕ) : Type 0 where
  pub bit : present ≤ 1
  pub each : (k : ℕ) → k < n → Plain present (identity_from (drop (3 * k) words))

-- an entry that is legal, of so many bits
pub record Wide {A : Type 0} (c : Codec A) (width : ℕ) (a : A) : Type 0 where
  pub legal : Legal c a
  pub size : length (c.print a) ≡ width

-- the first n entries of k words each are so
pub record Alike {A : Type 0} (c : Codec A) (f : List ℕ → A) (k n width : ℕ) (words : List ℕ) : Type 0 where
  pub each : (i : ℕ) → i < n → Wide c width (f (drop (k * i) words))

-- among words: a range type, and eight entries of so many words each
abbrev pub list_from : {A : Type 0} → (List ℕ → A) → ℕ → List ℕ → ℕ × List A
list_from f k w = (word w 0, entries_from f k 8 (drop 1 w))

-- as a part: of the entries the PDU carries as many as the range type says, and there is a test of them
abbrev pub listing : {A : Type 0} → ListKind → Codec A → Codec A → (ℕ → List A → ℕ) → Codec (ℕ × List A)
listing list used unused test =
    seq (element 4 (range_refusal list)) (λ code. tested (places used unused 8 (entries_of code)) (test code) (λ l. 0))

-- of the value a the PDU carries nothing, and its words are all zero or it is not clean
pub record Absent {A : Type 0} (c : Codec A) (a : A) (words : List ℕ) : Type 0 where
  pub clean : c.clean a ≡ none_above 0 words
  pub faultless : c.fault a ≡ 0
  pub empty : c.print a ≡ []

-- so is each value that is read from n words
abbrev pub Uncarried : {A : Type 0} → ℕ → Codec A → (List ℕ → A) → Type 0
Uncarried n c from = (w : List ℕ) → n ≤ length w → Absent c (from w) (take n w)
