-- Reading at a place of a PDU's own bits: what a reader that goes part by part follows.
use Rattle.std.specs.Prelude.{Bool, ◌&&◌, List, ℕ, zero, suc, Result, Ok, Err, drop, leb}
use Rattle.bits.specs.Bits.{pick}
use Rattle.bits.specs.Frame.{bits_in}
use Rattle.codec.specs.Codec.{Outcome, ok, no, Codec}
use Rattle.codec.specs.Parts.{number}
use Rattle.bits.specs.declared.Cursor.{Cursor}
use Rattle.codec.specs.declared.Stop.{Stop}

-- a value and the place after it, or a refusal number and its place
pub data Found (A : Type 0) : Type 0 where
  got : A → ℕ → Found A
  refused : ℕ → ℕ → Found A

abbrev pub and_next : {A B : Type 0} → Found A → (A → ℕ → Found B) → Found B
and_next (got a at) k = k a at
and_next (refused n at) k = refused n at

-- refused with n at a place, unless n is 0
abbrev pub unless_at : {A : Type 0} → ℕ → ℕ → Found A → Found A
unless_at zero at o = o
unless_at (suc n) at o = refused (suc n) at

abbrev pub answer : {A : Type 0} → Outcome A → Found A
answer (ok a at r) = got a at
answer (no n at) = refused n at

-- the part c, read at a place of s
unfoldable pub read_at : {A : Type 0} → Codec A → List Bool → ℕ → Found A
read_at c s at = answer (c.parse at (drop at s))

-- ---- a reader's result

-- a value and the cursor after it, or where reading stops
abbrev pub said : {A : Type 0} → Found A → Result (A × Cursor) Stop
said (got a at) = Ok (a, record { at = at })
said (refused n p) = Err (record { number = n; at = p })

-- the same without the value
abbrev pub reached : {A : Type 0} → Found A → Result Cursor Stop
reached (got a at) = Ok (record { at = at })
reached (refused n p) = Err (record { number = n; at = p })

-- ---- from one reader to the next

-- reading goes on from where it stands; a refusal is passed on
unfoldable pub resume : {A : Type 0} → Result Cursor Stop → (ℕ → Found A) → Found A
resume (Ok c) f = f c.at
resume (Err e) f = refused e.number e.at

-- the number of w bits at a place of the n bits in s; no element has none, or more than 32
unfoldable pub element_of : List ℕ → ℕ → ℕ → ℕ → Found ℕ
element_of s n w at = pick (leb 1 w && leb w 32) (read_at (number w) (bits_in n s) at) (refused 2 at)

-- a number that was read from a cursor on, under a refusal number
unfoldable pub tested_is : Result Cursor Stop → Result (ℕ × Cursor) Stop → ℕ → Result (ℕ × Cursor) Stop
tested_is (Ok c) (Ok read) zero = Ok read
tested_is (Ok c) (Ok read) (suc n) = Err (record { number = suc n; at = c.at })
tested_is (Ok c) (Err e) k = Err e
tested_is (Err e) read k = Err e
