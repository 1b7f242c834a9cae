-- One description of a part of a PDU: how it is written, how it is read, which values are legal, and why those agree.
use Rattle.std.specs.Prelude.{◌≡◌, Bool, true, List, ◌++◌, ℕ, zero, suc, ◌+◌, length}

-- What reading finds: a value, the place after it and the bits from there on; or a refusal number and the bit place at fault.
pub data Outcome (A : Type 0) : Type 0 where
  ok : A → ℕ → List Bool → Outcome A
  no : ℕ → ℕ → Outcome A

-- go on with what was read, or pass the refusal on
abbrev pub and_then : {A B : Type 0} → Outcome A → (A → ℕ → List Bool → Outcome B) → Outcome B
and_then (ok a at s) k = k a at s
and_then (no n at) k = no n at

-- the first of two refusal numbers, where 0 is none
abbrev pub first : ℕ → ℕ → ℕ
first zero n = n
first (suc m) n = suc m

-- What is right of an outcome of reading s at a place: a value that was read is legal, and written it gives the bits that were read.
abbrev pub Faithful : {A : Type 0} (clean : A → Bool) (fault : A → ℕ) (print : A → List Bool) (at : ℕ) (s : List Bool) → Outcome A → Type 0
Faithful clean fault print at s (ok a at' r) = (clean a ≡ true) × (fault a ≡ 0) × (s ≡ print a ++ r) × (at' ≡ at + length (print a))
Faithful clean fault print at s (no n p) = Unit {0}

-- A part of a PDU whose values are of the type A.
pub record Codec (A : Type 0) : Type 0 where
  -- what the PDU does not carry is zero
  pub clean : A → Bool
  -- the number of the first refusal in reading order, 0 for none
  pub fault : A → ℕ
  -- the bits that are written
  pub print : A → List Bool
  -- what is read, from a place and the bits from there on
  pub parse : ℕ → List Bool → Outcome A
  -- reading what was written of a legal value gives that value, whatever stands behind it
  pub reads : (a : A) → clean a ≡ true → fault a ≡ 0 → (at : ℕ) (r : List Bool)
      → parse at (print a ++ r) ≡ ok a (at + length (print a)) r
  -- whatever is read is legal, and is written as the bits that were read
  pub sound : (at : ℕ) (s : List Bool) → Faithful clean fault print at s (parse at s)

-- A value that may be written, and that reading gives: what is not carried is zero, and no element is refused.
pub record Legal {A : Type 0} (c : Codec A) (a : A) : Type 0 where
  pub clean : c.clean a ≡ true
  pub faultless : c.fault a ≡ 0
