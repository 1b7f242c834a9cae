-- What reload answers, by what fetch finds, and what the PDU of a part comes to. Assumes nothing.
use Rattle.std.specs.Prelude.{Ok, Err, Option, None, Some, Result}
use mathlib.Core.Path.{◌≡◌, refl, sym, ap, ap₂, ◌∙◌}
use mathlib.Core.Bool.{true, false, ◌&&◌}
use mathlib.Core.List.{List, ◌++◌}
use Prim.Native.Nat.{ℕ, zero, suc}
use lib.ListN.{length, drop}
use Rattle.bits.specs.Bits.{pick}
use Rattle.bits.specs.Frame.{bytes_for, pack}
use Rattle.bits.proofs.Frames.{length-pack}
use Rattle.std.proofs.Common.{Result, Err}
use Rattle.bits.specs.declared.BitCount.{BitCount}
use Rattle.codec.specs.Parts.{is_zero}
use Rattle.grammar.specs.Grammar.{pdu}
use Rattle.grammar.specs.declared.record.Record.{Record}
use Rattle.reader.specs.Read.{found_in, read_is}
use Rattle.writer.specs.Write.{length_of, write_refusal, written, write_is, out_is}
use Rattle.archive.specs.Model.{Held, in_range}
use Rattle.archive.specs.Reading.{reading, is_archive}
use Rattle.archive.specs.Refusals.{plain}
use Rattle.archive.specs.Checking.{check_is}
use Rattle.archive.specs.Restoring.{fetch_is, lookup}
use Rattle.archive.specs.declared.contents.Key.{Key}
use Rattle.archive.specs.declared.Body.{Body}
use Rattle.archive.specs.declared.refusal.Refusal.{Refusal}
use Rattle.archive.proofs.Mapped.{refused_as}
use Rattle.archive.proofs.Model.Checked.{archive_checked}
use Rattle.archive.proofs.Calls.Fetch.{fetch-damaged, fetch-missing, fetch-found}
use Rattle.reload.specs.Define.{is_definition, define_of, stands}
use Rattle.reload.specs.Reload.{as_written, redefined, reloaded, reload_is, define_bytes, reloads, reload_out}
use Rattle.reload.specs.Inner.{part_at, reloaded_from, reloaded_out}
use Rattle.reload.specs.declared.Definition.{Definition}
use Rattle.reload.specs.declared.Target.{Target}

abbrev pub refusing : Refusal → Result BitCount Refusal
refusing f = Err f

module _ (t : Target) (b : List ℕ) (k : Key) (d : Definition) (out : List ℕ) where
  -- the part held for the user
  abbrev pub held_for : Option Held
  held_for = lookup k (reading b).held

  pub out_of_range : in_range k && is_definition d ≡ false → reload_is t b k d out ≡ Err (plain 9)
  unfolding reload_is
  out_of_range e = rw e

  pub reload-leaves : {r : Result BitCount Refusal} → reload_is t b k d out ≡ r → reload_out t b k d out ≡ reloads r (define_bytes t d held_for) out
  unfolding reload_out
  reload-leaves e = ap (λ (r : Result BitCount Refusal). reloads r (define_bytes t d held_for) out) e

  module _ (e : in_range k ≡ true) (f : is_definition d ≡ true) where
    pub reload-held : is_archive b ≡ true → reload_is t b k d out ≡ reloaded t d held_for out
    unfolding reload_is
    reload-held a = rw (e, f, archive_checked b a)

    pub no-archive : {g : Refusal} → check_is b ≡ Err g → reload_is t b k d out ≡ Err g
    unfolding reload_is
    no-archive c = rw (e, f, c)

    pub damaged : {g : Refusal} → fetch_is b k ≡ Err g → reload_is t b k d out ≡ Err g
    damaged c = no-archive (fetch-damaged b k e c)

    pub missing : fetch_is b k ≡ Ok None → reload_is t b k d out ≡ Err (plain 11)
    missing c = let r = fetch-missing b k e c in reload-held r.0 ∙ ap (λ (o : Option Held). reloaded t d o out) r.1

    -- the body that is fetched is the part that is held
    pub found : {at : Body} → fetch_is b k ≡ Ok (Some at)
        → (reload_is t b k d out ≡ reloaded_from t b at.off at.bits.0 d out) × (reload_out t b k d out ≡ reloaded_out t b at.off at.bits.0 d out)
    found {at} c =
        let r = fetch-found b k e c in
        let x = r.1 in
        let part : found_in (read_is x.held.body x.held.entry.bits.0) ≡ part_at b at.off at.bits.0 =
        ap₂ (λ (s : List ℕ) (m : BitCount). found_in (read_is s m.0)) x.body x.bits in
        let same : reload_is t b k d out ≡ reloaded_from t b at.off at.bits.0 d out =
        reload-held r.0 ∙ ap (λ (o : Option Held). reloaded t d o out) x.is ∙ ap (λ (p : Record). redefined t d p out) part in (
          same,
          reload-leaves same ∙ ap (λ (w : List ℕ). reloads (reloaded_from t b at.off at.bits.0 d out) w out)
              (ap (define_bytes t d) x.is ∙ ap (λ (p : Record). pack (pdu.print (define_of t d p))) part),
        )

-- ---- a part that was read

-- writing's answer, with a plain refusal
pub refused-written : (r : Result BitCount ℕ) → refused_as plain r ≡ as_written r
refused-written (Ok n) = refl
refused-written (Err k) = refl

-- what writing leaves
left_as : (r : Record) (out : List ℕ) → out_is r out ≡ reloads (as_written (write_is r out)) (pack (pdu.print r)) out
unfolding out_is write_is
left_as r out = go (write_refusal r (length out))
  where
    go : (k : ℕ) → pick (is_zero k) (pack (pdu.print r) ++ drop (bytes_for (length_of r)) out) out
        ≡ reloads (as_written (written (length_of r) k)) (pack (pdu.print r)) out
    go zero = ap (λ (m : ℕ). pack (pdu.print r) ++ drop m out) (sym (length-pack (pdu.print r)))
    go (suc k) = refl

module _ (t : Target) (b : List ℕ) (at n : ℕ) (d : Definition) (out : List ℕ) {part : Record} (is : part ≡ part_at b at n) where
  -- a list has no place
  pub lost : stands t d.definition part.lists ≡ false → (Err (plain 12) ≡ reloaded_from t b at n d out) × (out ≡ reloaded_out t b at n d out)
  lost e = rw (← is, e) (refl, refl)

  -- its PDU was written
  pub stood : stands t d.definition part.lists ≡ true → {define : Record} → define ≡ define_of t d part
      → {answer : Result BitCount ℕ} → answer ≡ write_is define out → {left : List ℕ} → left ≡ out_is define out
      → (as_written answer ≡ reloaded_from t b at n d out) × (left ≡ reloaded_out t b at n d out)
  stood e {define} made wrote leaves = rw (← is, e) (
    ap as_written (wrote ∙ ap (λ (r : Record). write_is r out) made),
    leaves ∙ ap (λ (r : Record). out_is r out) made ∙ left_as (define_of t d part) out,
  )
