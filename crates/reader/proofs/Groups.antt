-- The lists of each part, of its own parts. Assumes nothing.
use mathlib.Core.Path.{◌≡◌, refl, ap, ◌∙◌}
use mathlib.Core.Bool.{Bool}
use mathlib.Core.List.{List, ◌++◌, append_assoc}
use Prim.Native.Nat.{ℕ}
use lib.ListN.{replicate}
use Rattle.codec.specs.Parts.{seq}
use Rattle.codec.proofs.Reading.{read_at-seq}
use Rattle.grammar.specs.Grammar.{identities, no_identities, externals, no_externals, identity_part, number_part, no_part}
use Rattle.grammar.specs.Zero.{zero_identities, zero_numbers, zero_lists}
use Rattle.grammar.specs.declared.site.ListKind.TheVariants.{Identities}
use Rattle.grammar.proofs.Steps.{no_identities-at, no_externals-at, no_part-at}
use Rattle.words.specs.RecordWords.{records, identities_words, numbers_words, lists_words}
use Rattle.reader.specs.Inner.{Read, Reads, Fills, twice, twice_words}
use Rattle.reader.proofs.Parts.{reads_first, reads-next, read-then, reads-shaped, seq-parts, fill-shaped}

no-numbers : (s : List Bool) (at : ℕ) → Read (seq no_externals (λ l. no_externals)) s at (zero_numbers, zero_numbers) at
no-numbers s at = record { same = read_at-seq no_externals (λ l. no_externals) s at ∙ rw (no_externals-at, no_externals-at) }

no-identities : (s : List Bool) (at : ℕ) → Read no_identities s at zero_identities at
no-identities s at = record { same = no_identities-at s at }

module _ {s : List Bool} {at : ℕ} where
  -- ---- identities: the groups, two more lists, no numbers

  pub identity-groups : Reads identity_part s at → Reads (identities Identities) s at
  unfolding identity_part
  identity-groups r = reads_first _ _ (reads-shaped _ _ _ _ _ r)

  pub identity-others : Reads identity_part s at → {l : _} {m : ℕ} → Read (identities Identities) s at l m → Reads (twice (identities Identities)) s m
  unfolding identity_part
  identity-others r {l} {m} e =
      let t = reads-next _ _ (reads-shaped _ _ _ _ _ r) e in
      let a = reads_first _ _ t in
      let b = reads_first _ _ (reads-next _ _ t a.read) in
      record { value = (a.value, b.value); end = b.end; read = read-then _ _ a.read b.read }

  pub identity_filled : {m end : ℕ} {w₀ w₁ w₂ : List ℕ} → Fills (identities Identities) identities_words s at w₀ m
      → Fills (twice (identities Identities)) (twice_words identities_words) s m w₁ end → w₂ ≡ replicate 402 0
      → Fills identity_part lists_words s at (w₀ ++ (w₁ ++ w₂)) end
  unfolding identity_part records
  identity_filled {end = end} g p z =
      let q = seq-parts _ _ p.read in
      let v = p.value in
      fill-shaped _ _ _ _ _ (λ _. refl)
      (record {
        value = (g.value, (v.0, (v.1, (zero_numbers, zero_numbers))));
        read = read-then _ _ g.read (read-then _ _ q.1 (read-then _ _ q.2 (no-numbers s end)));
        same =
            (λ i. g.same i ++ (p.same i ++ z i))
            ∙ ap (λ (x : List ℕ). identities_words g.value ++ x) (append_assoc (identities_words v.0) (identities_words v.1) (replicate 402 0));
      })

  -- ---- numbers: the groups, no more identities, two lists of numbers

  pub number-groups : Reads number_part s at → Reads (identities Identities) s at
  unfolding number_part
  number-groups r = reads_first _ _ (reads-shaped _ _ _ _ _ r)

  pub number-others : Reads number_part s at → {l : _} {m : ℕ} → Read (identities Identities) s at l m → Reads (twice externals) s m
  unfolding number_part
  number-others r {m = m} e = reads-next _ _ (reads-next _ _ (reads-next _ _ (reads-shaped _ _ _ _ _ r) e) (no-identities s m)) (no-identities s m)

  pub number_filled : {m end : ℕ} {w₀ w₁ w₂ : List ℕ} → Fills (identities Identities) identities_words s at w₀ m
      → w₁ ≡ replicate 50 0 → Fills (twice externals) (twice_words numbers_words) s m w₂ end
      → Fills number_part lists_words s at (w₀ ++ (w₁ ++ w₂)) end
  unfolding number_part records
  number_filled {m} g z p =
      let v = p.value in
      fill-shaped _ _ _ _ _ (λ _. refl)
      (record {
        value = (g.value, (zero_identities, (zero_identities, v)));
        read = read-then _ _ g.read (read-then _ _ (no-identities s m) (read-then _ _ (no-identities s m) p.read));
        same = λ i. g.same i ++ (z i ++ p.same i);
      })

  -- ---- none

  pub none_filled : {w₀ w₁ w₂ : List ℕ} → w₀ ≡ replicate 25 0 → w₁ ≡ replicate 50 0 → w₂ ≡ replicate 402 0
      → Fills no_part lists_words s at (w₀ ++ (w₁ ++ w₂)) at
  unfolding records
  none_filled a b c = record { value = zero_lists; read = record { same = no_part-at s at }; same = λ i. a i ++ (b i ++ c i) }
