-- Identities are stored alike in each kind of list: their range type was tested already. Assumes nothing.
use mathlib.Core.Path.{◌≡◌, refl, sym, ◌∙◌}
use mathlib.Core.Bool.{Bool, true, false}
use mathlib.Core.List.{List}
use Prim.Native.Nat.{ℕ, ◌+◌}
use Rattle.std.specs.Prelude.{Option, Some, None}
use Rattle.bits.specs.Bits.{pick}
use Rattle.codec.specs.Parts.{number, element}
use Rattle.codec.specs.Reading.{got, unless_at, read_at}
use Rattle.codec.proofs.Reading.{read_at-tested}
use Rattle.grammar.specs.SiteSheet.{range_type, refusal_in, range_refusal}
use Rattle.grammar.specs.Grammar.{identities, no_identities}
use Rattle.grammar.specs.declared.record.Identities.{Identities}
use Rattle.grammar.specs.declared.site.ListKind.{ListKind}
use Rattle.grammar.specs.declared.site.ListKind.TheVariants as of
use Rattle.grammar.specs.declared.site.RangeType.{RangeType}
use Rattle.grammar.specs.declared.site.RangeType.TheVariants.{Empty, Single, FirstAndLast}
use Rattle.grammar.proofs.Steps.{identities-at}
use Rattle.reader.specs.Inner.{Read, Reads}
use Rattle.reader.proofs.Elements.{steps, passed}

in-identities : (j : ListKind) (t : Option RangeType) → refusal_in j t ≡ 0 → refusal_in of.Identities t ≡ 0
in-identities j (Some Empty) e = refl
in-identities j (Some (Single n)) e = refl
in-identities j (Some FirstAndLast) e = refl
in-identities of.Users None e = e
in-identities of.Identities None e = e
in-identities of.Numbers None e = e

code_alike : (j : ListKind) (s : List Bool) (at : ℕ) {v m : ℕ} → read_at (element 4 (range_refusal j)) s at ≡ got v m
    → read_at (element 4 (range_refusal of.Identities)) s at ≡ got v m
unfolding element range_refusal
code_alike j s at e =
    let x = steps (read_at (number 4) s at) (λ v m. unless_at (range_refusal j v) (at + 0) (got v m))
    (sym (read_at-tested (number 4) (range_refusal j) (λ v. 0) s at) ∙ e) in
    let p = passed (range_refusal j x.value) (at + 0) (got x.value x.next) x.then in
    read_at-tested (number 4) (range_refusal of.Identities) (λ v. 0) s at ∙ rw (x.first, in-identities j (range_type x.value) p.0) p.1

module _ {s : List Bool} {at : ℕ} (j : ListKind) (r : Reads (identities j) s at) where
  alike : read_at (identities j) s at ≡ read_at (identities of.Identities) s at
  alike =
      let x = steps _ _ (sym (identities-at s at j) ∙ r.read.same) in
      rw (identities-at s at j, identities-at s at of.Identities, x.first, code_alike j s at x.first)

  pub reads-alike : Reads (identities of.Identities) s at
  reads-alike = record { value = r.value; end = r.end; read = record { same = sym alike ∙ r.read.same } }

  pub read-alike : {v : Identities} {end : ℕ} → Read (identities of.Identities) s at v end → Read (identities j) s at v end
  read-alike e = record { same = alike ∙ e.same }

-- where the list is carried or not
module _ {s : List Bool} {at : ℕ} (j : ListKind) where
  pub carried_reads : (t : Bool) → Reads (pick t (identities j) no_identities) s at → Reads (pick t (identities of.Identities) no_identities) s at
  carried_reads true r = reads-alike j r
  carried_reads false r = r

  pub carried_read : {v : Identities} {end : ℕ} (t : Bool) → Reads (pick t (identities j) no_identities) s at
      → Read (pick t (identities of.Identities) no_identities) s at v end → Read (pick t (identities j) no_identities) s at v end
  carried_read true r e = read-alike j r e
  carried_read false r e = e
