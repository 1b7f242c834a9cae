-- A list by its range type: what its entries say, it says. Assumes nothing.
use mathlib.Core.Path.{◌≡◌, refl, sym, ap, ◌∙◌, subst}
use mathlib.Core.Bool.{Bool, true, false}
use mathlib.Core.List.{List, [], ◌∷◌}
use Prim.Native.Nat.{ℕ, zero, suc, ◌+◌, ◌≤◌}
use native.Mathlib.Omega.{arith}
use lib.ListN.{length, take, get_or}
use lib.Dec.{leb}
use borrow.Author.Tests.{ne_eqb, le-leb, leb-true, leb-false}
use Rattle.std.proofs.Common.{Option, Some, None}
use Rattle.bits.specs.Bits.{bits}
use Rattle.bits.specs.Lists.{some}
use Rattle.codec.specs.Codec.{Codec}
use Rattle.codec.specs.Parts.{number, tested}
use Rattle.codec.specs.Places.{places}
use Rattle.grammar.specs.SiteSheet.{range_type, row_of, entries_of, range_refusal}
use Rattle.grammar.specs.Grammar.{identity, no_identity, zero_identity, range_ends, second_end, identities, external, no_external, externals}
use Rattle.grammar.specs.declared.record.Identities.{Identities}
use Rattle.grammar.specs.declared.record.Number.{Number}
use Rattle.grammar.specs.declared.site.ListKind.TheVariants as of
use Rattle.grammar.proofs.Codes.{single}
use Rattle.walk.proofs.Sights.{legal-code, single-code}
use Rattle.reader.specs.Inner.{Read, Reads}
use Rattle.rules.specs.Matching.{is_entry, in_range, identity_among, is_number, number_among}
use Rattle.rules.specs.declared.request.User.{User}
use Rattle.rules.specs.Rule.{is_empty, in_groups}
use Rattle.in_place.specs.Inner.{Says, Sees, seen}
use Rattle.in_place.specs.declared.Passed.{Passed}
use Rattle.in_place.specs.declared.Seen.{Seen}
use Rattle.in_place.proofs.Splits.{read-once, says_is, Headed, split-headed, split-shaped, split-tested}

-- what is said of the entries of a list, by its range type, is said of the list
pub list_seen : {A L : Type 0} (whole : Codec L) {entries : Codec (List A)} (of-list : L → List A) (code : L → ℕ)
    {says : List A → Bool} {test : L → Bool}
    {s : List Bool} {start at end n : ℕ} {l : L} {passed : Passed} → Read whole s start l end → Read entries s at (of-list l) end → n ≡ code l
    → Says entries says s at passed.has passed.end → says (of-list l) ≡ test l → Sees whole test code s start (seen passed n)
list_seen whole of-list code {l = l} r e is p t =
    let o = says_is p e in
    record { value = l; read = rw (← o.1) at r; has = o.0 ∙ t; empty = ap is_empty is }

-- nothing is found where nothing is looked for
none-some : {A : Type 0} (l : List A) → some (λ a. false) l ≡ false
unfolding some
none-some [] = refl
none-some (a ∷ l) = none-some l

-- single entries have what the list has
singles-among : (missing : ℕ) (u : User) (l : Identities) (n : ℕ) → n ≤ 8 → n ≡ l.code
    → some (is_entry missing u) (take n l.entries) ≡ identity_among missing l u
unfolding identity_among range_type some
singles-among missing u l zero h e = rw (← e)
singles-among missing u l (suc k) h e = rw (← e, ne_eqb (suc k) 0 (λ z. omega arith), le-leb (suc k) 8 h)

-- no range type has more than eight
of-nine : entries_of 9 ≤ 8
unfolding row_of range_type
of-nine = omega arith

few-of : (code : ℕ) → code ≤ 9 → entries_of code ≤ 8
few-of code h = go (leb code 8) refl
  where
    go : (t : Bool) → leb code 8 ≡ t → entries_of code ≤ 8
    go true e = let few = leb-true code 8 e in rw (single code few).2 few
    go false e = let nine : code ≡ 9 = omega (arith, leb-false code 8 e) in rw nine of-nine

module _ (s : List ℕ) (start : ℕ) (r : Reads (identities of.Identities) (bits s) start) where
  parts : Headed 4 (range_refusal of.Identities) (λ n. tested (places identity no_identity 8 (entries_of n)) (range_ends n) second_end) (bits s) start
      r.value.code r.value.entries r.end
  unfolding identities
  parts = split-headed 4 (range_refusal of.Identities) (λ n. tested (places identity no_identity 8 (entries_of n)) (range_ends n) second_end)
      (split-shaped _ _ _ _ _ r.read)

  pub list-head : Reads (number 4) (bits s) start
  list-head = record { value = _; end = _; read = parts.head }

  -- by the range type that is read
  module _ {n at : ℕ} (f : Read (number 4) (bits s) start n at) where
    is : (n ≡ r.value.code) × (at ≡ start + 4)
    is = read-once f parts.head

    pub code-legal : n ≤ 9
    code-legal = rw is.0 (legal-code of.Identities r.value.code parts.legal)

    entries-read : {m : ℕ} → m ≡ entries_of n → Read (places identity no_identity 8 m) (bits s) at r.value.entries r.end
    entries-read e = rw (e, is.0, is.1) (split-tested _ _ _ parts.rest).0

    pub few-entries : {m : ℕ} → m ≡ entries_of n → m ≤ 8
    few-entries e = rw e (few-of n code-legal)

    pub entries-reads : {m : ℕ} → m ≡ entries_of n → Reads (places identity no_identity 8 m) (bits s) at
    entries-reads e = record { value = _; end = _; read = entries-read e }

    two : n ≡ 9 → 2 ≡ entries_of n
    unfolding range_type row_of
    two e = rw e

    pub range-reads : n ≡ 9 → Reads (places identity no_identity 8 2) (bits s) at
    range-reads e = entries-reads (two e)

    pub singles-reads : n ≤ 8 → Reads (places identity no_identity 8 n) (bits s) at
    singles-reads few = entries-reads (sym (single n few).2)

    pub over : {m : ℕ} {passed : Passed} → m ≡ entries_of n
        → Says (places identity no_identity 8 m) (λ l. some (λ e. false) (take m l)) (bits s) at passed.has passed.end
        → Sees (identities of.Identities) (λ l. false) (λ l. l.code) (bits s) start (seen passed n)
    over {m} e p =
        list_seen (identities of.Identities) (λ l. l.entries) (λ l. l.code) r.read (entries-read e) is.0 p (none-some (take m r.value.entries))

    module _ (missing : ℕ) (u : User) where
      abbrev SeenAs : Passed → Type 0
      SeenAs passed = Sees (identities of.Identities) (λ l. identity_among missing l u) (λ l. l.code) (bits s) start (seen passed n)

      pub range_seen : {passed : Passed} → n ≡ 9
          → Says (places identity no_identity 8 2) (λ l. in_range missing u (get_or l 0 zero_identity) (get_or l 1 zero_identity)) (bits s) at
          passed.has passed.end
          → SeenAs passed
      unfolding identity_among range_type
      range_seen e p =
          let nine : r.value.code ≡ 9 = sym is.0 ∙ e in
          list_seen (identities of.Identities) (λ l. l.entries) (λ l. l.code) r.read (entries-read (two e)) is.0 p (rw nine)

      pub singles_seen : {passed : Passed} → n ≤ 8
          → Says (places identity no_identity 8 n) (λ l. some (is_entry missing u) (take n l)) (bits s) at passed.has passed.end → SeenAs passed
      singles_seen few p =
          list_seen (identities of.Identities) (λ l. l.entries) (λ l. l.code) r.read (entries-read (sym (single n few).2)) is.0 p
          (singles-among missing u r.value n few is.0)

-- ---- the call's group

module _ (missing : ℕ) {s : List Bool} {start : ℕ} {group : Option User} {answer : Seen} where
  pub group_seen : {u : User} → group ≡ Some u → Sees (identities of.Identities) (λ l. identity_among missing l u) (λ l. l.code) s start answer
      → Sees (identities of.Identities) (λ l. in_groups missing l group) (λ l. l.code) s start answer
  group_seen e p = record { value = p.value; read = p.read; has = rw e p.has; empty = p.empty }

  pub no-group_seen : group ≡ None → Sees (identities of.Identities) (λ l. false) (λ l. l.code) s start answer
      → Sees (identities of.Identities) (λ l. in_groups missing l group) (λ l. l.code) s start answer
  no-group_seen e p = record { value = p.value; read = p.read; has = rw e p.has; empty = p.empty }

-- ---- a list of numbers: its range type is how many entries it has

module _ (s : List ℕ) (start : ℕ) (r : Reads externals (bits s) start) where
  numbers-parts : Headed 4 (range_refusal of.Numbers) (λ n. places external no_external 8 (entries_of n)) (bits s) start r.value.code
      r.value.entries r.end
  unfolding externals
  numbers-parts = split-headed 4 (range_refusal of.Numbers) (λ n. places external no_external 8 (entries_of n)) (split-shaped _ _ _ _ _ r.read)

  pub numbers-head : Reads (number 4) (bits s) start
  numbers-head = record { value = _; end = _; read = numbers-parts.head }

  module _ {n at : ℕ} (f : Read (number 4) (bits s) start n at) where
    numbered : (n ≡ r.value.code) × (at ≡ start + 4)
    numbered = read-once f numbers-parts.head

    pub numbers-few : n ≤ 8
    numbers-few = rw numbered.0 (single-code r.value.code numbers-parts.legal)

    -- as many as it says
    counted : entries_of r.value.code ≡ n
    counted = (single r.value.code (single-code r.value.code numbers-parts.legal)).2 ∙ sym numbered.0

    entries_are : Read (places external no_external 8 n) (bits s) at r.value.entries r.end
    entries_are = rw (numbered.1, ← counted) numbers-parts.rest

    pub numbers-reads : Reads (places external no_external 8 n) (bits s) at
    numbers-reads = record { value = _; end = _; read = entries_are }

    pub numbers_seen : (number : Number) {passed : Passed}
        → Says (places external no_external 8 n) (λ l. some (is_number number.length.0 number.digits) (take n l)) (bits s) at passed.has passed.end
        → Sees externals (λ l. number_among l number.length.0 number.digits) (λ l. l.code) (bits s) start (seen passed n)
    unfolding number_among
    numbers_seen number p =
        list_seen externals (λ l. l.entries) (λ l. l.code) r.read entries_are numbered.0 p (rw counted)
