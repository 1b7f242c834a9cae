-- The head of an accepted PDU stands in its first 64 bits. Assumes nothing.
use mathlib.Core.Path.{◌≡◌, refl, sym, ap, ◌∙◌}
use mathlib.Core.Bool.{Bool, true, false}
use mathlib.Core.List.{List, ◌∷◌}
use Prim.Native.Nat.{ℕ, zero, suc, ◌+◌, ◌/◌, ◌%◌, ◌^◌, ◌≤◌}
use Rattle.std.specs.Prelude.{Some, None, Option}
use native.Mathlib.Omega.{arith}
use borrow.Author.Tests.{eqb-false}
use lib.ListN.{get_or}
use lib.Dec.{eqb, leb}
use lib.Pow.{shr_mod}
use Rattle.bits.specs.Bits.{pick}
use Rattle.bits.specs.Frame.{bits_in}
use Rattle.bits.specs.Element.{window_at}
use Rattle.bits.proofs.Tests.{never}
use Rattle.bits.proofs.Windows.{window_lt}
use Rattle.codec.specs.Codec.{Codec}
use Rattle.codec.specs.Parts.{number, absent, tested, element, only}
use Rattle.codec.specs.Places.{places}
use Rattle.codec.specs.Reading.{got, and_next, unless_at, read_at}
use Rattle.codec.proofs.Reading.{read_at-absent, read_at-tested}
use Rattle.grammar.specs.SiteSheet.{ss_type, range_type, row_of_type, row_of, entries_of, refusal_in, range_refusal, pdu_type, kind_refusal}
use Rattle.grammar.specs.Grammar.{extension, identity, no_identity, zero_identity, range_ends, second_end, identities, no_identities, part_of, Rest, rest_of, to_record, pdu}
use Rattle.grammar.specs.Rows.{form_of, part_in, figures_of, users_of, services_of}
use Rattle.grammar.specs.Zero.{zero_identities}
use Rattle.grammar.specs.declared.site.PduType.{PduType}
use Rattle.grammar.specs.declared.record.Identity.{Identity}
use Rattle.grammar.specs.declared.record.Identities.{Identities}
use Rattle.grammar.specs.declared.record.Record.{Record}
use Rattle.grammar.specs.declared.site.ListKind.TheVariants as of
use Rattle.grammar.specs.declared.site.RangeType.TheVariants.{Empty, Single, FirstAndLast}
use Rattle.grammar.proofs.Steps.{identity-at, identities-at, no_identities-at}
use Rattle.walk.specs.Walk.{head_of}
use Rattle.walk.specs.Inner.{identity_in, head_in}
use Rattle.walk.specs.declared.Head.{Head}
use Rattle.walk.proofs.Numbers.{both_found, number_is_lem, element-says}
use Rattle.walk.proofs.Ranges.{places-first}
use Rattle.walk.proofs.Results.{rest_at, pdu_at}

-- affected users are at least one
some-user : (code : ℕ) → range_refusal of.Users code ≡ 0 → 1 ≤ entries_of code
unfolding range_refusal row_of range_type
some-user code = go (eqb code 0) (leb code 8) (eqb code 9) refl
  where
    go : (a b c : Bool) → eqb code 0 ≡ a → refusal_in of.Users (pick a (Some Empty) (pick b (Some (Single code)) (pick c (Some FirstAndLast) None))) ≡ 0
        → 1 ≤ (row_of_type (pick a (Some Empty) (pick b (Some (Single code)) (pick c (Some FirstAndLast) None)))).entries
    go true b c e h = absurd (omega arith)
    go false true c e h = omega (arith, eqb-false code 0 e)
    go false false true e h = omega arith
    go false false false e h = absurd (omega arith)

-- the first of some entries stands where they begin
first_entry : {A P : Type 0} (c z : Codec A) (l : List Bool) (m k at : ℕ) (d : A) {t : List A} {q : ℕ} → 1 ≤ k → read_at (places c z (suc m) k) l at
    ≡ got t q
    → ((p : ℕ) → read_at c l at ≡ got (get_or t 0 d) p → P) → P
first_entry c z l m zero at d h e f = absurd (omega arith)
first_entry c z l m (suc k) at d {t} h e f =
    both_found (read_at c l at) _ (sym (places-first c z l m k at) ∙ e) (λ a p g i. both_found (read_at (places c z m k) l p) _ i (λ r y j x.
    let same : a ∷ r ≡ t = cc in f p (g ∙ ap (λ (t : List _). got (get_or t 0 d) p) same)))

module _ (s : List ℕ) (n : ℕ) where
  -- an identity that was read is the one in the window at its place
  identity-is : (at : ℕ) {u : Identity} {q : ℕ} → read_at identity (bits_in n s) at ≡ got u q → u ≡ identity_in (window_at s at)
  unfolding extension identity_in
  identity-is at {u} {q} e =
      both_found (read_at (number 24) l at) _ (sym (identity-at l at) ∙ e) (λ ssi p f g.
      let x = number_is_lem s n at 0 24 f (omega arith) (omega arith) (omega arith) in
      both_found (read_at (number 1) l p) _ g (λ present p' f' g'.
      let y = number_is_lem s n at 24 1 f' (omega (arith, x.1)) (omega arith) (omega arith) in
      both_found (read_at (extension present) l p') _ g' (λ ext p'' f'' g''.
      let high : ssi ≡ window_at s at / 2 ^ 33 = x.0 ∙ shr_mod 24 33 (window_lt s at) in
      let is : u ≡ record { ssi = ssi; present = present; extension = ext } = cc in
      is ∙ ap₃ high y.0 (go (eqb present 1) f'' (omega (arith, x.1, y.1))
      ∙ ap (λ (b : ℕ). pick (eqb b 1) (window_at s at / 2 ^ 8 % 2 ^ 24) 0) y.0))))
    where
      l : List Bool
      l = bits_in n s

      ap₃ : {a b c x y z : ℕ} → a ≡ x → b ≡ y → c ≡ z → ◌≡◌ {A = Identity} (record { ssi = a; present = b; extension = c })
          (record { ssi = x; present = y; extension = z })
      ap₃ f g h = rw (f, g, h)

      go : (t : Bool) {ext p q : ℕ} → read_at (pick t (number 24) absent) l p ≡ got ext q → p ≡ at + 25 → ext
          ≡ pick t (window_at s at / 2 ^ 8 % 2 ^ 24) 0
      go true f h = (number_is_lem s n at 25 24 f h (omega arith) (omega arith)).0
      go false {ext} {p} f h = let g = read_at-absent l p in cc

  -- the range type of the affected users, and the first of them
  users_are : {a : Identities} {q : ℕ} → read_at (identities of.Users) (bits_in n s) 11 ≡ got a q
      → (a.code ≡ window_at s 0 / 2 ^ 42 % 2 ^ 4) × (get_or a.entries 0 zero_identity ≡ identity_in (window_at s 15))
  users_are {a} e =
      both_found (read_at (element 4 (range_refusal of.Users)) l 11) _ (sym (identities-at l 11 of.Users) ∙ e) (λ code p f g.
      let h = element-says 4 (range_refusal of.Users) l 11 f in
      let x = number_is_lem s n 0 11 4 h.0 refl (omega arith) (omega arith) in
      both_found (read_at (tested (places identity no_identity 8 (entries_of code)) (range_ends code) second_end) l p) _ g (λ entries p' f' g'.
      both_found (read_at (places identity no_identity 8 (entries_of code)) l p) _
      (sym (read_at-tested (places identity no_identity 8 (entries_of code)) (range_ends code) second_end l p) ∙ f') (λ t p'' f'' g''.
      first_entry identity no_identity l 7 (entries_of code) p zero_identity (some-user code h.1) f'' (λ y i.
      let there : p ≡ 15 = x.1 in
      let kept : t ≡ entries = untested (range_ends code t) (p + second_end t) t entries p'' p' g'' in
      let is : a ≡ record { code = code; entries = entries } = cc in (
        ap (λ (a : Identities). a.code) is ∙ x.0,
        ap (λ (a : Identities). get_or a.entries 0 zero_identity) is ∙ ap (λ (t : List Identity). get_or t 0 zero_identity) (sym kept)
            ∙ identity-is p i ∙ ap (λ (p : ℕ). identity_in (window_at s p)) there,
      )))))
    where
      l : List Bool
      l = bits_in n s

      untested : (k p : ℕ) (t u : List Identity) (x y : ℕ) → unless_at k p (got t x) ≡ got u y → t ≡ u
      untested zero p t u x y e = cc
      untested (suc k) p t u x y e = never cc

  -- where there are none
  heads-none : {a : Identities} {q : ℕ} → read_at no_identities (bits_in n s) 11 ≡ got a q → a ≡ zero_identities
  heads-none e = let f = no_identities-at (bits_in n s) 11 in cc

  -- code and first user of a PDU of a type
  users-of : (users : Bool) {a : Identities} {q : ℕ} → read_at (pick users (identities of.Users) no_identities) (bits_in n s) 11 ≡ got a q
      → (a.code ≡ pick users (window_at s 0 / 2 ^ 42 % 2 ^ 4) 0)
      × (get_or a.entries 0 zero_identity ≡ pick users (identity_in (window_at s 15)) zero_identity)
  users-of true e = users_are e
  users-of false e =
      let is = heads-none e in
      (ap (λ (a : Identities). a.code) is, ap (λ (a : Identities). get_or a.entries 0 zero_identity) is)

  pub head-is : {r : Record} {q : ℕ} → read_at pdu (bits_in n s) 0 ≡ got r q → head_of r ≡ head_in s r.figures.result
  unfolding head_in
  head-is {r} e =
      both_found (read_at (element 6 (only ss_type)) l 0) _ (sym (pdu_at l 0) ∙ e) (λ ss p f g.
      let x = number_is_lem s n 0 0 6 (element-says 6 (only ss_type) l 0 f).0 refl (omega arith) (omega arith) in
      both_found (read_at (element 5 kind_refusal) l p) _ g (λ kind p' f' g'.
      let y = number_is_lem s n 0 6 5 (element-says 5 kind_refusal l p f').0 x.1 (omega arith) (omega arith) in
      let t : Option PduType = pdu_type kind in
      both_found (read_at (rest_of t) l p') _ g' (λ rest p'' f'' g''.
      both_found (read_at (users_of t) l p') _ (sym (rest_at l p' t) ∙ f'') (λ affected q f''' g'''.
      let there : p' ≡ 11 = omega (arith, x.1, y.1) in
      let users : Bool = (form_of t).users in
      let z = users-of users (ap (read_at (users_of t) l) (sym there) ∙ f''') in
      let first : rest.0 ≡ affected = first-is t affected q rest p'' g''' in
      let is : r ≡ to_record (kind, rest) = cc in
      rw (is, first) (heads _ _ _ _ y.0 (ap (λ (k : ℕ). (form_of (pdu_type k)).users) y.0) z.0 z.1)))))
    where
      l : List Bool
      l = bits_in n s

      -- the users are the first of what follows the PDU type
      first-is : (t : Option PduType) (a : Identities) (q : ℕ) (rest : Rest) (end : ℕ)
          → and_next (read_at (figures_of t) l q) (λ f at. and_next (read_at (services_of t) l at) (λ v at'. and_next (read_at (part_of (part_in t f)) l at')
          (λ i at''. got (a, (f, (v, i))) at''))) ≡ got rest end
          → rest.0 ≡ a
      first-is t a q rest end e =
          both_found (read_at (figures_of t) l q) _ e (λ f at i j. both_found (read_at (services_of t) l at) _ j (λ v at' i' j'.
          both_found (read_at (part_of (part_in t f)) l at') _ j' (λ u at'' i'' j''. let h : rest ≡ (a, (f, (v, u))) = cc in ap (λ (x : Rest). x.0) h)))

      heads : (d e : Bool) (w : Identity) (x : ℕ) {a b c k : ℕ} {u : Identity} → a ≡ c → d ≡ e → b ≡ pick d x 0 → u ≡ pick d w zero_identity
          → ◌≡◌ {A = Head} (record { kind = a; code = b; user = u; result = k })
          (record { kind = c; code = pick e x 0; user = pick e w zero_identity; result = k })
      heads d e w x f g h j = rw (f, ← g, h, j)
