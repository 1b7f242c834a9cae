-- SS type, PDU type, affected users, and what follows them. Assumes nothing.
use mathlib.Core.Path.{◌≡◌, sym, subst}
use Rattle.std.specs.Prelude.{Option}
use native.Mathlib.Omega.{arith}
use lib.ListN.{length-drop}
use Rattle.codec.specs.Codec.{Codec}
use Rattle.codec.specs.Parts.{element, seq, mark, only}
use Rattle.grammar.specs.SiteSheet.{ss_type, pdu_type, kind_refusal}
use Rattle.grammar.specs.Grammar.{Rest, rest_of, from_record, pdu}
use Rattle.grammar.specs.Rows.{users_of, rowed}
use Rattle.grammar.specs.declared.record.Record.{Record}
use Rattle.grammar.specs.declared.site.PduType.{PduType}
use Rattle.grammar.proofs.Rows.{in_rows}
use Rattle.words.specs.RecordWords.{record_from}
use Rattle.tally.proofs.Words.{rest-of}
use Rattle.writer.specs.Inner.{Room, Puts}
use Rattle.writer.proofs.Puts.{room-first, room_next, room-shape, room-element, put_then, put-shape, put_element}
use Rattle.writer.proofs.record.put_record.Goals.{After-form_of-form, After-put_element-after_kind, After-put_element-after_ss}
use Rattle.writer.proofs.record.put_record.Goals.{After-put_users-after_users, Start}
use Rattle.writer.proofs.record.put_record.Goals as goal

abbrev start : After-form_of-form → Start
start c = (goal.at.After-form_of-form c).Start

abbrev found : After-form_of-form → Record
found c = record_from (start c).args.words.now

-- the type is that of the first word
typed : (c : After-form_of-form) → c.pdu_type-kind.result ≡ pdu_type (found c).kind
unfolding record_from
typed c = c.pdu_type-kind.ensures

pub put_element-after_ss-requires : goal.put_element-after_ss-requires
unfolding pdu mark
put_element-after_ss-requires c =
    let b = (goal.at.put_element-after_ss-requires c).After-form_of-form in
    (omega arith, room-element 6 (only ss_type) (room-first _ (room-shape _ _ _ _ (start b).requires.2)))

-- after the SS type
kind-room : (c : After-put_element-after_ss) → let b = (goal.at.After-put_element-after_ss c).After-form_of-form in
    Room (seq (element 5 kind_refusal) (λ kind. rest_of (pdu_type kind))) (from_record (found b)) c.put_element-after_ss.new.out
    c.put_element-after_ss.result
unfolding pdu mark
kind-room c =
    let b = (goal.at.After-put_element-after_ss c).After-form_of-form in
    room-shape _ _ _ _ (room_next _ (room-shape _ _ _ _ (start b).requires.2) (put_element 6 (only ss_type) c.put_element-after_ss.ensures))

pub put_element-after_kind-requires : goal.put_element-after_kind-requires
unfolding record_from
put_element-after_kind-requires c =
    let h = kind-room (goal.at.put_element-after_kind-requires c).After-put_element-after_ss in
    (omega arith, room-element 5 kind_refusal (room-first _ h))

-- after the PDU type: the row of its table
row_room : (c : After-put_element-after_kind) → let b = (goal.at.After-put_element-after_kind c).After-form_of-form in
    Room (rowed c.pdu_type-kind.result) (from_record (found b)).1 c.put_element-after_kind.new.out c.put_element-after_kind.result
unfolding record_from
row_room c =
    let b = (goal.at.After-put_element-after_kind c).After-form_of-form in
    let h = kind-room (goal.at.After-put_element-after_kind c).After-put_element-after_ss in
    let rest = (from_record (found b)).1 in
    let out = c.put_element-after_kind.new.out in
    let at = c.put_element-after_kind.result in
    subst (λ (t : Option PduType). Room (rowed t) rest out at) (sym (typed b))
    (subst (λ (t : Codec Rest). Room t rest out at) (in_rows (pdu_type (found b).kind))
    (room_next _ h (put_element 5 kind_refusal c.put_element-after_kind.ensures)))

pub put_users-after_users-requires : goal.put_users-after_users-requires
unfolding record_from
put_users-after_users-requires c =
    let b = start (goal.at.put_users-after_users-requires c).After-form_of-form in
    rw (rest-of, c.form_of-form.ensures) (
      omega (arith, length-drop 1 b.args.words.now, b.requires.0),
      room-first _ (row_room (goal.at.put_users-after_users-requires c).After-put_element-after_kind),
    )

users : (c : After-put_users-after_users) → let b = (goal.at.After-put_users-after_users c).After-form_of-form in
    Puts (users_of c.pdu_type-kind.result) (found b).affected c.put_element-after_kind.new.out c.put_users-after_users.new.out
    c.put_element-after_kind.result c.put_users-after_users.result
unfolding record_from
users c = rw (rest-of, c.form_of-form.ensures) at c.put_users-after_users.ensures

pub put_figured-requires : goal.put_figured-requires
put_figured-requires c =
    let at = goal.at.put_figured-requires c in
    let b = start at.After-form_of-form in
    let h = room_next _ (row_room at.After-put_element-after_kind) (users at.After-put_users-after_users) in
    (b.requires.0, c.form_of-form.ensures, b.requires.1, h)

pub returns : goal.returns
unfolding pdu mark record_from
returns c =
    let at = goal.at.returns c in
    let b = at.After-form_of-form in
    let rest = (from_record (found b)).1 in
    let before = c.put_element-after_kind.new.out in
    let after = c.put_figured.new.out in
    let from = c.put_element-after_kind.result in
    let end = c.put_figured.result in
    let row = put_then _ (row_room at.After-put_element-after_kind) (users at.After-put_users-after_users) (λ h. c.put_figured.ensures) in
    let all = subst (λ (t : Codec Rest). Puts t rest before after from end) (sym (in_rows (pdu_type (found b).kind)))
    (subst (λ (t : Option PduType). Puts (rowed t) rest before after from end) (typed b) row) in
    put-shape _ _ _ _ (put_then _ (room-shape _ _ _ _ (start b).requires.2) (put_element 6 (only ss_type) c.put_element-after_ss.ensures)
    (λ h. put-shape _ _ _ _ (put_then _ (room-shape _ _ _ _ h) (put_element 5 kind_refusal c.put_element-after_kind.ensures)
    (λ m. all))))
