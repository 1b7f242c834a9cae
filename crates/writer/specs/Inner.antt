-- Writing part by part: what each store needs and what it leaves.
use Rattle.std.specs.Prelude.{◌≡◌, Bool, List, [], ◌∷◌, ◌++◌, ℕ, ◌+◌, ◌-◌, ◌*◌, ◌≤◌, length, take, Option}
use Rattle.bits.specs.Bits.{bits, bits_of}
use Rattle.bits.specs.Lists.{Each}
use Rattle.codec.specs.Codec.{Codec}
use Rattle.codec.specs.Parts.{number, seq}
use Rattle.codec.specs.Places.{places}
use Rattle.grammar.specs.SiteSheet.{entries_of}
use Rattle.grammar.specs.Grammar.{identity, no_identity, part_of}
use Rattle.grammar.specs.Rows.{part_in, figures_of, services_of}
use Rattle.grammar.specs.declared.site.PduType.{PduType}
use Rattle.grammar.specs.declared.record.Identity.{Identity}
use Rattle.grammar.specs.declared.record.Figures.{Figures}
use Rattle.grammar.specs.declared.record.Services.{Services}
use Rattle.grammar.specs.declared.record.Lists.{Lists}
use Rattle.words.proofs.LegalRecords.{SmallNumber}

-- the buffer has room for the part a of c at a place, and no PDU is longer than 4,096 bits
pub record Room {A : Type 0} (c : Codec A) (a : A) (out : List ℕ) (at : ℕ) : Type 0 where
  pub short : at + length (c.print a) ≤ 4096
  pub fits : at + length (c.print a) ≤ 8 * length out

-- the part a of c stands at a place, after the bits that stood before it, and the next place is the one after it
pub record Puts {A : Type 0} (c : Codec A) (a : A) (before after : List ℕ) (at end : ℕ) : Type 0 where
  pub there : take end (bits after) ≡ take at (bits before) ++ c.print a
  pub next : end ≡ at + length (c.print a)
  pub kept : length after ≡ length before

-- a range type and its entries, of which the PDU carries as many as it says
abbrev pub listing : {A : Type 0} → Codec A → Codec A → Codec (ℕ × List A)
listing used unused = seq (number 4) (λ code. places used unused 8 (entries_of code))

-- the groups, and two lists of entries
abbrev pub three : {A : Type 0} → Codec A → Codec A → Codec ((ℕ × List Identity) × ((ℕ × List A) × (ℕ × List A)))
three used unused = seq (listing identity no_identity) (λ g. seq (listing used unused) (λ r. listing used unused))

-- no length and no digit is 255, which stands for a word that is wider than a byte
abbrev pub Small : Lists → Type 0
Small l = Each SmallNumber l.numbers.entries × Each SmallNumber l.excepted.entries

-- the bits of codes, w each
unfoldable pub code_bits : ℕ → List ℕ → List Bool
code_bits w [] = []
code_bits w (d ∷ l) = bits_of w d ++ code_bits w l

-- a number that is another with n codes of w bits after it, whatever the width of that one
abbrev pub CodesAfter : ℕ → ℕ → ℕ → List ℕ → ℕ → Type 0
CodesAfter w n start codes run = (v : ℕ) → bits_of (v + w * n) run ≡ bits_of v start ++ code_bits w codes

-- a number of w bits that is the part a of c, after another number, whatever the width of that one
abbrev pub RunAfter : {A : Type 0} → Codec A → A → ℕ → ℕ → ℕ → Type 0
RunAfter c a lead w run = (k : ℕ) → bits_of (k + w) run ≡ bits_of k lead ++ c.print a

-- up to eight bits before a place are the last of a number
abbrev pub Ended : List ℕ → ℕ → ℕ → Type 0
Ended out at last = (k : ℕ) → k ≤ 8 → take at (bits out) ≡ take (at - k) (bits out) ++ bits_of k last

-- what follows the affected users in a PDU of a type
abbrev pub figured : Option PduType → Codec (Figures × (Services × Lists))
figured t = seq (figures_of t) (λ f. seq (services_of t) (λ s. part_of (part_in t f)))
