-- What is promised of visitors: a part that judges is filed under the network of the user who calls. Assumes nothing.
use Rattle.std.specs.Prelude.{Result, Ok, Err, Option, None, Some}
use mathlib.Core.Path.{◌≡◌, refl, sym, ap, ◌∙◌}
use mathlib.Core.Logic.{◌⊎◌, inl, inr}
use mathlib.Core.Bool.{Bool, true, false}
use mathlib.Core.List.{List}
use Prim.Native.Nat.{ℕ}
use lib.Dec.{eqb}
use Rattle.std.proofs.Common.{Result, Ok, Err}
use borrow.Author.Tests.{eq-eqb, eqb-true}
use Rattle.bits.specs.Bits.{pick, guard}
use Rattle.grammar.specs.Grammar.{network_of}
use Rattle.grammar.specs.declared.record.Record.{Record}
use Rattle.reader.specs.Read.{found_in, read_is}
use Rattle.rules.specs.Request.{request_refusal}
use Rattle.rules.specs.Rule.{missing_in, ruling, six_rules}
use Rattle.rules.specs.declared.request.Destination.{Destination}
use Rattle.rules.specs.declared.request.Destination.TheVariants.{Identity, Number}
use Rattle.rules.specs.declared.request.Request.{Request}
use Rattle.archive.specs.Model.{Held}
use Rattle.archive.specs.Reading.{reading, is_archive}
use Rattle.archive.specs.Refusals.{plain}
use Rattle.archive.specs.Checking.{check_is, if_archive}
use Rattle.archive.specs.declared.refusal.Refusal.{Refusal}
use Rattle.archive.proofs.Model.Checked.{checked-archive}
use Rattle.archive.proofs.Model.Found.{held-agrees, held-named}
use Rattle.archive.specs.declared.contents.Key.{Key}
use Rattle.barring.specs.Decide.{part_for, key_for, judged_by, part_in, decide_is}
use Rattle.barring.specs.Decision.{decision_of}
use Rattle.barring.specs.declared.Decision.{Decision}
use Rattle.promises.specs.Archive.{affected_user}
use Rattle.promises.specs.Archive as said
use Rattle.promises.specs.Visitors.{judged_with, decide_with, Promise}
use Rattle.promises.proofs.Archive.Finding.{ranged-is}
use Rattle.promises.proofs.Demand1.Decision as decision

-- ---- a part

-- a part is read with the network that its affected user has
read-with : (home : ℕ) (r : Record) (q : Request) (n : ℕ) → missing_in home r ≡ n → ruling home r q ≡ six_rules n r q
unfolding ruling
read-with home r q n e = ap (λ (m : ℕ). six_rules m r q) e

module _ (home : ℕ) (r : Record) (q : Request) where
  extended : (affected_user r).present ≡ 1 → missing_in home r ≡ (affected_user r).extension
  unfolding network_of
  extended p = ap (λ (t : Bool). pick t (affected_user r).extension home) (eq-eqb _ _ p)

  missing : (affected_user r).present ≡ 0 → missing_in home r ≡ home
  unfolding network_of
  missing p = ap (λ (n : ℕ). pick (eqb n 1) (affected_user r).extension home) p

  visitor : (affected_user r).present ≡ 1 → ruling home r q ≡ six_rules (affected_user r).extension r q
  visitor p = read-with home r q _ (extended p)

  no-extension : (affected_user r).present ≡ 0 → ruling home r q ≡ six_rules home r q
  no-extension p = read-with home r q home (missing p)

  spelt_out : (affected_user r).present ≡ 1 → (affected_user r).extension ≡ home → ruling home r q ≡ six_rules home r q
  spelt_out p e = read-with home r q home (extended p ∙ e)

-- ---- a decision

-- the part that judges is 1 or 2
which : (d : Destination) → (part_for d ≡ 1) ⊎ (part_for d ≡ 2)
unfolding part_for
which (Identity u) = inl refl
which (Number length) = inr refl

module _ (b : List ℕ) (q : Request) where
  module _ (f : request_refusal q ≡ 0) (ok : is_archive b ≡ true) where
    ranged : said.Ranged (key_for q)
    ranged =
        let u = (((decision.promise).ranged q).0 f).user in
        record { network = u.0; ssi = u.1; part = which q.destination }

    -- the part held for the user who calls is of that user's network
    judged : (l : Option Held) → part_in b q ≡ l → judged_by (reading b).home q l ≡ judged_with q.user.network q l
    judged None e = refl
    judged (Some h) e =
        let home = (reading b).home in
        let r = found_in (read_is h.body h.entry.bits.0) in
        let n : missing_in home r ≡ q.user.network =
        ap (λ (k : Key). k.network) (sym (held-agrees b ok (key_for q) e).key ∙ held-named b ok (key_for q) e (ranged-is (key_for q) ranged)) in
        ap decision_of (read-with home r q q.user.network n)

  -- the answer, after the two tests
  abbrev after : Bool → Result (Unit {0}) Refusal → Decision → Result Decision Refusal
  after t c d = guard t (Err (plain (request_refusal q))) (if_archive c Err (Ok d))

  callers-network : decide_is b q ≡ decide_with q.user.network b q
  unfolding decide_is
  callers-network = go (eqb (request_refusal q) 0) refl (check_is b) refl
    where
      go : (t : Bool) → eqb (request_refusal q) 0 ≡ t → (c : Result (Unit {0}) Refusal) → check_is b ≡ c
          → after t c (judged_by (reading b).home q (part_in b q)) ≡ after t c (judged_with q.user.network q (part_in b q))
      go false e c f = refl
      go true e (Err x) f = refl
      go true e (Ok _) f = ap (λ (d : Decision). after true (Ok _) d) (judged (eqb-true _ _ e) (checked-archive b f) (part_in b q) refl)

  home-user : q.user.network ≡ (reading b).home → decide_is b q ≡ decide_with (reading b).home b q
  home-user e = callers-network ∙ ap (λ (n : ℕ). decide_with n b q) e

pub promise : Promise
promise = record {
  visitor = visitor;
  no-extension = no-extension;
  spelt_out = spelt_out;
  callers-network = callers-network;
  home-user = home-user;
}
