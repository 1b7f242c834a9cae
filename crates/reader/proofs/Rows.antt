-- What follows the PDU type, by the row of its type: where each part is read, and the words of all of them. Assumes nothing.
use mathlib.Core.Path.{◌≡◌, sym, ap, ◌∙◌, subst}
use mathlib.Core.Bool.{Bool}
use mathlib.Core.List.{List, ◌++◌, append_assoc}
use Prim.Native.Nat.{ℕ, ◌+◌, ◌*◌, ◌≤◌}
use Rattle.std.specs.Prelude.{Option}
use native.Mathlib.Omega.{arith}
use lib.ListN.{length, drop, length-append, length-drop}
use Rattle.bits.specs.Bits.{bits, pick}
use Rattle.bits.specs.Element.{window_at}
use Rattle.bits.proofs.Tests.{never}
use Rattle.bits.proofs.Numbers.{length-bits_of}
use Rattle.codec.specs.Codec.{Outcome, ok, no, Faithful, Codec}
use Rattle.codec.specs.Reading.{got, answer, read_at}
use Rattle.codec.proofs.Reading.{read_at-legal}
use Rattle.codec.proofs.Seen.{seen_read}
use Rattle.grammar.specs.Grammar.{identities, no_identities, Rest, rest_of}
use Rattle.grammar.specs.Rows.{form_of, part_in, figures_of, rowed, width_of, figures_in, run_of}
use Rattle.grammar.specs.declared.site.ListKind.TheVariants as of
use Rattle.grammar.specs.declared.site.PduType.{PduType}
use Rattle.grammar.specs.declared.figures.Form.{Form}
use Rattle.grammar.specs.declared.record.Figures.{Figures}
use Rattle.grammar.specs.declared.record.Identities.{Identities}
use Rattle.grammar.proofs.Rows.{in_rows, figures_seen, figures-print}
use Rattle.words.specs.RecordWords.{identities_words, services_words, lists_words}
use Rattle.reader.specs.Inner.{listed, listed_words, interrogation_words, definition_words, outcome_words, rest_words, Read, Reads, Fills}
use Rattle.reader.proofs.Elements.{all-bits}
use Rattle.reader.proofs.Parts.{reads_first, reads-next, read-then}

-- ---- what is read ends inside

module _ {A : Type 0} (c : Codec A) (s : List Bool) (at : ℕ) (h : at ≤ length s) where
  inside-cases : (o : Outcome A) → Faithful c.clean c.fault c.print at (drop at s) o → (v : A) (end : ℕ) → answer o ≡ got v end
      → end ≤ length s
  inside-cases (ok a p t) f v end e =
      let same : p ≡ end = cc in
      omega (arith, same, f.3, ap length f.2, length-append (c.print a) t, length-drop at s)
  inside-cases (no n p) f v end e = never cc

  pub read-inside : {v : A} {end : ℕ} → Read c s at v end → end ≤ length s
  unfolding read_at
  read-inside {v} {end} r = inside-cases (c.parse at (drop at s)) (c.sound at (drop at s)) v end r.same

-- ---- the figures stand in the window at their place

module _ (t : Option PduType) (s : List ℕ) (at : ℕ) (h : at ≤ length (bits s)) (r : Reads (figures_of t) (bits s) at) where
  pub figures-there : at + width_of t ≤ length (bits s)
  figures-there =
      let v = r.value in
      let size = ap length (figures-print t v) ∙ length-bits_of (width_of t) (run_of t v) in
      omega (arith, read-inside (figures_of t) (bits s) at h r.read, (read_at-legal (figures_of t) (bits s) at v r.end r.read.same).1, size)

  pub figures-read : Read (figures_of t) (bits s) at (figures_in t (window_at s at)) (at + width_of t)
  figures-read =
      let seen = rw all-bits at (figures_seen s (8 * length s) at t (rw all-bits figures-there)) in
      record { same = seen_read seen r.value r.end r.read.same }

-- ---- row by row

module _ (t : Option PduType) {form : Form} (same : form ≡ form_of t) {s : List Bool} {at : ℕ} (r : Reads (rest_of t) s at) where
  row_reads : Reads (rowed t) s at
  row_reads = subst (λ (c : Codec Rest). Reads c s at) (in_rows t) r

  pub users-reads : Reads (pick form.users (identities of.Users) no_identities) s at
  users-reads = rw same (reads_first _ _ row_reads)

  module _ {u : Identities} {m : ℕ} (e : Read (pick form.users (identities of.Users) no_identities) s at u m) where
    pub figures-reads : Reads (figures_of t) s m
    figures-reads = reads_first _ _ (reads-next _ _ row_reads (rw same at e))

    module _ {f : Figures} (g : Read (figures_of t) s m f (m + width_of t)) where
      pub listed-reads : Reads (listed form.services (part_in t f)) s (m + form.width)
      listed-reads = rw same (reads-next _ _ (reads-next _ _ row_reads (rw same at e)) g)

      -- all of it
      pub row_fill : {part end : ℕ} {w w₁ w₂ w₃ w₄ : List ℕ} → part ≡ part_in t f
          → w ≡ identities_words u → w₁ ≡ interrogation_words f → Fills (listed form.services part) listed_words s (m + form.width) w₂ end
          → w₃ ≡ definition_words f → w₄ ≡ outcome_words f → Fills (rest_of t) rest_words s at (w ++ (w₁ ++ (w₂ ++ (w₃ ++ w₄)))) end
      row_fill {end = end} {w₂ = w₂} steered users asked lists defined outcome =
          let parts : Fills (listed (form_of t).services (part_in t f)) listed_words s (m + width_of t) w₂ end = rw (steered, same) at lists in
          let v = parts.value in
          let whole = read-then _ _ (rw same at e) (read-then _ _ g parts.read) in
          record {
            value = (u, (f, v));
            read = subst (λ (c : Codec Rest). Read c s at (u, (f, v)) end) (sym (in_rows t)) whole;
            same =
                (λ i. users i ++ (asked i ++ (parts.same i ++ (defined i ++ outcome i))))
                ∙ ap (λ (x : List ℕ). identities_words u ++ (interrogation_words f ++ x))
                (append_assoc (services_words v.0) (lists_words v.1) (definition_words f ++ outcome_words f));
          }
