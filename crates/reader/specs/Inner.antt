-- What storing a part of a PDU that is known to be legal needs, and what it leaves among the lent words.
use Rattle.std.specs.Prelude.{◌≡◌, Bool, List, [], ◌∷◌, ◌++◌, ℕ, ◌-◌, ◌*◌, ◌/◌, ◌%◌, ◌^◌, ◌≤◌, length, replicate}
use Rattle.bits.specs.Bits.{bits, pick}
use Rattle.bits.proofs.Table.{values}
use Rattle.codec.specs.Codec.{Codec}
use Rattle.codec.specs.Parts.{number, seq}
use Rattle.codec.specs.Places.{places}
use Rattle.codec.specs.Reading.{got, read_at}
use Rattle.grammar.specs.SiteSheet.{entries_of}
use Rattle.grammar.specs.Grammar.{services, no_services, part_of, Rest}
use Rattle.grammar.specs.declared.record.Figures.{Figures}
use Rattle.grammar.specs.declared.record.Services.{Services}
use Rattle.grammar.specs.declared.record.Lists.{Lists}
use Rattle.words.specs.RecordWords.{in_turn, identities_words, services_words, lists_words}

-- two of a part, and their words
abbrev pub twice : {A : Type 0} → Codec A → Codec (A × A)
twice c = seq c (λ a. c)

abbrev pub twice_words : {A : Type 0} → (A → List ℕ) → A × A → List ℕ
twice_words f (a, b) = f a ++ f b

-- a range type and its entries, whatever tests there are; and their words
abbrev pub ranged : {A : Type 0} → Codec A → Codec A → Codec (ℕ × List A)
ranged c z = seq (number 4) (λ code. places c z 8 (entries_of code))

abbrev pub ranged_words : {A : Type 0} → (A → List ℕ) → ℕ × List A → List ℕ
ranged_words f (code, l) = code ∷ in_turn f l

-- services, if they are carried, and the lists of a part; and their words
abbrev pub listed : Bool → ℕ → Codec (Services × Lists)
listed served part = seq (pick served services no_services) (λ s. part_of part)

abbrev pub listed_words : Services × Lists → List ℕ
listed_words (s, l) = services_words s ++ lists_words l

-- the figures of an interrogation, of a definition and of an outcome, as words
abbrev pub interrogation_words : Figures → List ℕ
interrogation_words f = f.asked ∷ f.result ∷ f.status ∷ []

abbrev pub definition_words : Figures → List ℕ
definition_words f = f.delivery ∷ f.acknowledgement ∷ f.definition ∷ []

abbrev pub outcome_words : Figures → List ℕ
outcome_words f = f.defined ∷ f.distributed ∷ f.cause ∷ []

-- what follows the PDU type, as words: figures of a definition and of an outcome come last
abbrev pub rest_words : Rest → List ℕ
rest_words (u, (f, (s, l))) =
    identities_words u ++ (interrogation_words f ++ (services_words s ++ (lists_words l ++ (definition_words f ++ outcome_words f))))

-- the part c at a place is the value v, up to `end`
pub record Read {A : Type 0} (c : Codec A) (s : List Bool) (at : ℕ) (v : A) (end : ℕ) : Type 0 where
  pub same : read_at c s at ≡ got v end

-- the part c is read at a place: some value, up to some place
pub record Reads {A : Type 0} (c : Codec A) (s : List Bool) (at : ℕ) : Type 0 where
  pub value : A
  pub end : ℕ
  pub read : Read c s at value end

-- c can be stored: the PDU has at most 512 bytes, the words are n, and c is read at a place
pub record Fillable {A : Type 0} (c : Codec A) (s : List ℕ) (at : ℕ) (words : List ℕ) (n : ℕ) : Type 0 where
  pub few : length s ≤ 512
  pub room : length words ≡ n
  pub reads : Reads c (bits s) at

-- c reads a value from `at` to `end`, and the words are those of that value
pub record Fills {A : Type 0} (c : Codec A) (f : A → List ℕ) (s : List Bool) (at : ℕ) (words : List ℕ) (end : ℕ) : Type 0 where
  pub value : A
  pub read : Read c s at value end
  pub same : words ≡ f value

-- nothing of a PDU is read as z, and its value is n zeros as words
pub record Zeros {A : Type 0} (z : Codec A) (f : A → List ℕ) (n : ℕ) : Type 0 where
  pub value : A
  pub read : (s : List Bool) (at : ℕ) → read_at z s at ≡ got value at
  pub words : f value ≡ replicate n 0

-- ---- several numbers from one window

-- the `used` bits after the first `skip` of a window's 57, and zeros after them: `whole` bits, below those that were skipped
unfoldable pub held_in : ℕ → ℕ → ℕ → ℕ → ℕ
held_in window skip whole used = window / 2 ^ (57 - skip - used) * 2 ^ (whole - used)

-- so many numbers of so many bits each, the last the lowest of a run
unfoldable pub codes_in : ℕ → ℕ → ℕ → List ℕ
codes_in count width run = values (λ i. run / 2 ^ (width * (count - 1 - i)) % 2 ^ width) 0 count
