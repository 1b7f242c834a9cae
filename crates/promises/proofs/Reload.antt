-- What a reload puts back is the part that is held. Assumes nothing.
use Rattle.std.specs.Prelude.{Some}
use mathlib.Core.Path.{◌≡◌, refl, sym, ap, ap₂, ◌∙◌, subst}
use mathlib.Core.Logic.{◌↔◌}
use mathlib.Core.Bool.{Bool, true, false}
use mathlib.Core.List.{List, [], ◌∷◌, ◌++◌}
use Prim.Native.Nat.{ℕ}
use lib.ListN.{take, drop}
use Rattle.std.proofs.Common.{Result, Ok, Err}
use Rattle.bits.specs.Frame.{bytes_for, pack}
use Rattle.bits.specs.declared.BitCount.{BitCount}
use Rattle.bits.proofs.Frames.{length-pack}
use Rattle.bits.proofs.Tests.{differ}
use Rattle.grammar.specs.Grammar.{pdu}
use Rattle.grammar.specs.declared.record.Record.{Record}
use Rattle.reader.specs.Read.{found_in, read_is}
use Rattle.writer.specs.Write.{written_number, length_of, out_is}
use Rattle.rules.specs.Rule.{six_rules, ruling}
use Rattle.rules.specs.declared.request.Request.{Request}
use Rattle.pdu.specs.Accepted.{accepted_as}
use Rattle.pdu.proofs.RoundTrip.{read-written}
use Rattle.archive.specs.Model.{Held}
use Rattle.archive.specs.Reading.{reading}
use Rattle.archive.specs.Refusals.{plain}
use Rattle.archive.specs.Restoring.{lookup}
use Rattle.archive.specs.declared.contents.Key.{Key}
use Rattle.archive.specs.declared.refusal.Refusal.{Refusal}
use Rattle.reload.specs.Define.{define_of, stands}
use Rattle.reload.specs.Reload.{reloaded_refusal, record_of, reload_is, reload_out}
use Rattle.reload.specs.declared.Definition.{Definition}
use Rattle.reload.specs.declared.Target.{Target}
use Rattle.reload.proofs.Standing.{define-stands}
use Rattle.archive.proofs.Model.Found.{held-agrees}
use Rattle.boc.specs.Calls.{reloaded_length}
use Rattle.promises.specs.Answers.{OneOf}
use Rattle.promises.specs.Archive as archive
use Rattle.promises.specs.Archive.{IsArchive, Ranged}
use Rattle.promises.specs.Held.{Holdable, may_be-held}
use Rattle.promises.specs.Demand1.Restore.{Holds}
use Rattle.promises.specs.Demand1.Reload.{Asked, defined}
use Rattle.promises.specs.Demand1.Writing as writes
use Rattle.promises.specs.Reload.{PutsBack, Puttable, read_back, Promise}
use Rattle.promises.proofs.Archive as archive-kept
use Rattle.promises.proofs.Demand1.Restore.{holds}
use Rattle.promises.proofs.Demand1.Reload.{found, is_held, legal, wrote-number, Success, succeeded}
use Rattle.promises.proofs.Standing.{is-standing}
use Rattle.promises.proofs.Demand1.Writing as writing

abbrev archives : archive.Promise
archives = archive-kept.promise

-- the DEFINE of a part has all that the rules ask of it
same-rules : (t : Target) (d : Definition) (part : Record) (home : ℕ) (q : Request) → ruling home (define_of t d part) q ≡ ruling home part q
unfolding define_of ruling six_rules
same-rules t d part home q = refl

puts_back : (t : Target) (d : Definition) (part x : Record) → x ≡ define_of t d part → PutsBack t d part x
unfolding define_of
puts_back t d part x e = record {
  kind = ap (λ (r : Record). r.kind) e;
  user = ap (λ (r : Record). r.affected) e;
  services = ap (λ (r : Record). r.services) e;
  groups = ap (λ (r : Record). r.lists.groups) e;
  restricted = ap (λ (r : Record). r.lists.restricted) e;
  exceptions = ap (λ (r : Record). r.lists.exceptions) e;
  numbers = ap (λ (r : Record). r.lists.numbers) e;
  excepted = ap (λ (r : Record). r.lists.excepted) e;
  delivery = ap (λ (r : Record). r.figures.delivery) e;
  acknowledgement = ap (λ (r : Record). r.figures.acknowledgement) e;
  definition = ap (λ (r : Record). r.figures.definition) e;
}

module _ (t : Target) (b : List ℕ) (key : Key) (d : Definition) (out : List ℕ) where
  -- ---- what was written reads back

  module _ (n : ℕ) (e : reload_is t b key d out ≡ Ok (record { 0 = n })) (k : IsArchive b) (h : Held) (x : Holds b key k h) where
    done : Success t b key d out
    done = succeeded t b key d out (ap (λ (x : Result BitCount Refusal). (reloaded_refusal x).number) e)

    found_as : lookup key (reading b).held ≡ Some h
    found_as = holds b key done.ranged k h x

    abbrev define : Record
    define = defined t b key d h

    -- what was written is the DEFINE of the PDU that is held
    same : defined t b key d done.held ≡ define
    same =
        let one : Some done.held ≡ Some h = sym (holds b key done.ranged done.archive done.held done.holds) ∙ found_as in
        let held : done.held ≡ h = cc one in
        ap (defined t b key d) held

    back : read_is (take (bytes_for n) (reload_out t b key d out)) n ≡ accepted_as define
    back =
        let y = defined t b key d done.held in
        let size : length_of y ≡ n = ap (λ (a : Result BitCount Refusal). reloaded_length a 0) (sym done.is ∙ e) in
        let left : out_is y out ≡ reload_out t b key d out =
        ((writing.promise).success y out (ap written_number done.wrote)).1
        ∙ ap (λ (m : ℕ). pack (pdu.print y) ++ drop m out) (sym (length-pack (pdu.print y))) ∙ sym done.left in
        subst (λ (m : ℕ). read_is (take (bytes_for m) (reload_out t b key d out)) m ≡ accepted_as y) size
        (subst (λ (s : List ℕ). read_is (take (bytes_for (length_of y)) s) (length_of y) ≡ accepted_as y) left
        (read-written y out (length_of y) done.wrote))
        ∙ ap accepted_as same

    record-back : read_back t b key d out n ≡ define
    record-back = ap found_in back

    accepting : Holdable (record_of h)
    accepting = (may_be-held _).0 (held-agrees b ((archives.is-archive b).1 k) key found_as).may

  -- ---- 12 exactly where the lists of the part stand in no DEFINE

  module _ (r : Ranged key) (a : Asked d) (k : IsArchive b) (h : Held) (x : Holds b key k h) where
    -- with lists that stand the number is one of writing's
    not-lost : stands t d.definition (record_of h).lists ≡ true → reload_is t b key d out ≡ Err (plain 12) → ⊥
    not-lost s e =
        let w = defined t b key d h in
        let twelve : writes.number w out ≡ 12 =
        ap (λ (f : Refusal). f.number) (sym (wrote-number t b key d out r a k h x (is-standing t _ _ s)) ∙ ap reloaded_refusal e) in
        differ (sym (subst (OneOf (0 ∷ 3 ∷ 4 ∷ 8 ∷ [])) twelve ((writing.promise).table w out).listed))

    lost-exactly : (reload_is t b key d out ≡ Err (plain 12)) ↔ ((y : Record) → Puttable t d (record_of h) y → ⊥)
    unfolding define_of
    lost-exactly = (
      λ e y p. not-lost (ap₂ (stands t) (sym p.2) (sym p.3) ∙ define-stands t y p.0 p.1) e,
      λ none. go (stands t d.definition (record_of h).lists) refl none,
    )
      where
        go : (f : Bool) → stands t d.definition (record_of h).lists ≡ f → ((y : Record) → Puttable t d (record_of h) y → ⊥)
            → reload_is t b key d out ≡ Err (plain 12)
        go true s none = absurd (none (defined t b key d h) (legal t b key d out r a k h x (is-standing t _ _ s), refl, refl, refl))
        go false s none = found t b key d out r a k (Some h) (is_held t b key d out r a k h x) ∙ rw s

pub promise : (t : Target) (b : List ℕ) (key : Key) (d : Definition) (out : List ℕ) → Promise t b key d out
promise t b key d out = record {
  reads-back = λ n e k h x. (
    accepting t b key d out n e k h x,
    back t b key d out n e k h x,
    puts_back t d (record_of h) (read_back t b key d out n) (record-back t b key d out n e k h x),
  );
  lost-exactly = lost-exactly t b key d out;
  same_decisions = λ n e k h x home q.
      ap (λ (r : Record). ruling home r q) (record-back t b key d out n e k h x) ∙ same-rules t d (record_of h) home q;
}
