-- What owning a record tells of it: every list is as long as its array, and the lengths and digits of numbers are bytes. Assumes nothing.
use mathlib.Core.List.{List, [], ◌∷◌}
use Prim.Native.Nat.{ℕ, zero, suc, ◌<◌}
use native.Mathlib.Omega.{arith}
use mir.Val.{Val}
use base.Fml.{Fml}
use denote.Array.{each}
use denote.Builtin.{u8}
use denote.Shadow.{shadow}
use denote.Laws.{Is}
use denote.Struct.Declared.{row}
use Rattle.bits.specs.Bits.{Bytes}
use Rattle.bits.specs.Lists.{Each}
use Rattle.grammar.specs.declared.record.Record.{Record}
use Rattle.grammar.specs.declared.record.Lists.{Lists}
use Rattle.grammar.specs.declared.record.Number.{Number}
use Rattle.grammar.specs.declared.record.Numbers.{Numbers}
use Rattle.grammar.specs.contracts.record.Record as record-type
use Rattle.grammar.specs.contracts.record.Lists as lists-type
use Rattle.grammar.specs.contracts.record.Number as number-type
use Rattle.grammar.specs.contracts.record.Numbers as numbers-type
use Rattle.grammar.proofs.Arrays.{identities-length, numbers-length, services-length, digits-length}
use Rattle.words.specs.Sized.{SizedNumber, SizedNumbers, SizedLists, SizedRecord}

-- what is told of each element of an array is so of all
all : {A : Type 0} (P : A → Type 0) (f : A → List Val → Fml) → ((x : A) (u : List Val) → shadow (f x u) → P x)
    → (xs : List A) (us : List Val) → shadow (each A f xs us) → Each P xs
all P f h [] us t = tt
all P f h (x ∷ xs) [] t = absurd t
all P f h (x ∷ xs) (u ∷ us) t = (h x (u ∷ []) t.0, all P f h xs us t.1)

bytes : (s : List ℕ) → Each (λ (b : ℕ). b < 256) s → Bytes s
bytes [] e i = omega arith
bytes (x ∷ s) (h, t) zero = h
bytes (x ∷ s) (h, t) (suc i) = bytes s t i

module _ (x : Number) (vs : List Val) (t : Is (row number-type.the_type) x vs) where
  sized-number : SizedNumber x
  sized-number = record {
    digits = digits-length x vs t;
    bytes = bytes (x.length.0 ∷ x.digits) (
      t.1.1.0.1.1.0.1,
      all (λ (b : ℕ). b < 256) u8.own_val (λ v u h. h.1) x.digits _
          t.1.1.1.0.1.1,
    );
  }

module _ (x : Numbers) (vs : List Val) (t : Is (row numbers-type.the_type) x vs) where
  sized-numbers : SizedNumbers x
  sized-numbers = (numbers-length x vs t, all SizedNumber (row number-type.the_type).own_val (λ e u h. sized-number e u h) x.entries _ t.1.1.1.0.1.1)

module _ (x : Lists) (vs : List Val) (t : Is (row lists-type.the_type) x vs) where
  sized-lists : SizedLists x
  sized-lists = record {
    groups = identities-length x.groups _ t.1.1.0;
    restricted = identities-length x.restricted _ t.1.1.1.0;
    exceptions = identities-length x.exceptions _ t.1.1.1.1.0;
    numbers = sized-numbers x.numbers _ t.1.1.1.1.1.0;
    excepted = sized-numbers x.excepted _ t.1.1.1.1.1.1.0;
  }

pub sized-record : (x : Record) (vs : List Val) → Is (row record-type.the_type) x vs → SizedRecord x
sized-record x vs t = record {
  affected = identities-length x.affected _ t.1.1.1.0;
  services = services-length x.services _ t.1.1.1.1.1.0;
  lists = sized-lists x.lists _ t.1.1.1.1.1.1.0;
}
