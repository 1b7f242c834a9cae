-- Demand 3: after any sequence of offered PDUs, restoring gives exactly the last one accepted for that user and part and its day, or "not held",
-- every decision is the barring rule applied to that same PDU, and a reload puts that same PDU's part back.
use Rattle.std.specs.Prelude.{◌≡◌, true, List, ℕ, ◌≤◌, length, take, Ok, Err, Option, None, Some}
use Rattle.std.proofs.Common.{ap, ◌∙◌}
use Rattle.bits.specs.Frame.{bytes_for, pack}
use Rattle.grammar.specs.Grammar.{pdu}
use Rattle.reader.specs.Read.{found_in, read_is}
use Rattle.rules.specs.Request.{request_refusal}
use Rattle.rules.specs.Rule.{ruling}
use Rattle.rules.specs.declared.request.Request.{Request}
use Rattle.archive.specs.Model.{in_range}
use Rattle.archive.specs.Refusals.{plain}
use Rattle.archive.specs.Keeping.{over, empty_is, empty_out}
use Rattle.archive.specs.Restoring.{restore_is, restore_out}
use Rattle.archive.specs.History.{Offer, after_all, last_accepted}
use Rattle.archive.specs.declared.contents.Key.{Key}
use Rattle.archive.proofs.History as history
use Rattle.barring.specs.Decision.{decision_of}
use Rattle.barring.specs.Decide.{key_for, part_in, decide_is}
use Rattle.barring.specs.declared.Decision.TheVariants.{Allowed, NotHeld}
use Rattle.barring.proofs.History as deciding
use Rattle.reload.specs.Define.{is_definition, define_of}
use Rattle.reload.specs.Reload.{redefined, reload_is, reloads, reload_out}
use Rattle.reload.specs.declared.Definition.{Definition}
use Rattle.reload.specs.declared.Target.{Target}
use Rattle.reload.proofs.History as reloading

-- The empty archive of a home network, the m bytes that `empty` wrote; and PDUs offered one after another, each with the buffer lent for it.
-- After a refusal one goes on with the old archive.
module _ (home : ℕ) (lent : List ℕ) (m : ℕ) (e : empty_is home (length lent) ≡ Ok m) (offers : List Offer) where
  abbrev pub archive : List ℕ
  archive = after_all (take m (empty_out home lent)) offers

  -- the last PDU accepted for a user and part
  abbrev pub last : Key → Option Offer
  last k = last_accepted k (take m (empty_out home lent)) None offers

  module _ (k : Key) (r : in_range k ≡ true) (out : List ℕ) where
    -- Restoring gives exactly its bits and its day, if the buffer has room for them,
    pub restores_the-last : (o : Offer) → last k ≡ Some o → bytes_for o.bits ≤ length out
        → (restore_is archive k (length out) ≡ Ok (record { bits = record { 0 = o.bits }; day = o.day })) × (restore_out archive k out ≡ over o.pdu out)
    restores_the-last = history.always home lent m e offers k r out

    -- or "not held", and no byte changed.
    pub restores-nothing_else : last k ≡ None
        → (restore_is archive k (length out) ≡ Err (plain 11)) × (restore_out archive k out ≡ out)
    restores-nothing_else = history.never home lent m e offers k r out

  module _ (t : Target) (k : Key) (r : in_range k ≡ true) (d : Definition) (f : is_definition d ≡ true) (out : List ℕ) where
    -- A reload answers by the record of that same PDU, and writes the DEFINE or DEFINE EXTERNAL that puts it back,
    pub reloads_the-last : (o : Offer) → last k ≡ Some o → let part = found_in (read_is o.pdu o.bits) in
        (reload_is t archive k d out ≡ redefined t d part out)
        × (reload_out t archive k d out ≡ reloads (redefined t d part out) (pack (pdu.print (define_of t d part))) out)
    reloads_the-last o l =
        let h = reloading.reload-history t home lent m e offers k r d f out in
        rw l at h

    -- or says "not held", and no byte changed.
    pub reloads-nothing_else : last k ≡ None → (reload_is t archive k d out ≡ Err (plain 11)) × (reload_out t archive k d out ≡ out)
    reloads-nothing_else l =
        let h = reloading.reload-history t home lent m e offers k r d f out in
        rw l at h

  module _ (q : Request) (f : request_refusal q ≡ 0) where
    -- The decision is the barring rule applied to the record of that same PDU,
    pub decides-by_the-last : (o : Offer) → last (key_for q) ≡ Some o
        → decide_is archive q ≡ Ok (decision_of (ruling home (found_in (read_is o.pdu o.bits)) q))
    decides-by_the-last o l = deciding.decided home lent m e offers q f ∙ ap (λ (o : Option Offer). Ok (deciding.said_by home q o)) l

    -- or "not held".
    pub decides-by-nothing_else : last (key_for q) ≡ None → decide_is archive q ≡ Ok NotHeld
    decides-by-nothing_else l = deciding.decided home lent m e offers q f ∙ ap (λ (o : Option Offer). Ok (deciding.said_by home q o)) l

-- A part that is not held never allows a call.
pub not-held-never_allows : (b : List ℕ) (q : Request) → part_in b q ≡ None → decide_is b q ≡ Ok Allowed → ⊥
not-held-never_allows = deciding.not-held-not-allowed
