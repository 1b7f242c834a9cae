-- The PDU type, and what its row says. Assumes nothing.
use mathlib.Core.Path.{◌≡◌, refl, sym, ap, subst}
use mathlib.Core.Bool.{Bool}
use mathlib.Core.List.{List}
use Prim.Native.Nat.{◌+◌, ◌≤◌}
use Rattle.std.specs.Prelude.{Option}
use native.Mathlib.Omega.{arith}
use lib.ListN.{length}
use Rattle.std.proofs.Common.{rules}
use Rattle.bits.specs.Bits.{bits, pick}
use Rattle.bits.proofs.Bytes.{length-bits}
use Rattle.codec.specs.Parts.{number}
use Rattle.grammar.specs.SiteSheet.{ss_type}
use Rattle.grammar.specs.Grammar.{identities, no_identities, rest_of, pdu}
use Rattle.grammar.specs.declared.site.ListKind.TheVariants.{Users}
use Rattle.grammar.specs.Rows.{figures_of, width_of}
use Rattle.grammar.specs.declared.site.PduType.{PduType}
use Rattle.grammar.specs.declared.figures.Form.{Form}
use Rattle.words.specs.RecordWords.{record_words}
use Rattle.reader.specs.Inner.{Read, Reads}
use Rattle.reader.proofs.Alike.{carried_reads, carried_read}
use Rattle.reader.proofs.Elements.{number-there}
use Rattle.reader.proofs.Parts.{head-reads, rest-reads, headed_fill, reads-mark, fill-mark, fill-by}
use Rattle.reader.proofs.Rows.{read-inside, figures-there, figures-read, users-reads, figures-reads, listed-reads, row_fill}
use Rattle.reader.proofs.record.fill_record.Goals.{After-figures_in-f, After-fill_if-after_users, After-form_of-form, Start}
use Rattle.reader.proofs.record.fill_record.Goals as goal

-- the type of the PDU, its start, its bits
abbrev kind : After-form_of-form → Option PduType
kind f = f.pdu_type-kind.result

abbrev start : After-form_of-form → Start
start f = (goal.at.After-form_of-form f).Start

abbrev pdu-bits : After-form_of-form → List Bool
pdu-bits f = bits (start f).args.s.now

-- the form of the PDU whose affected users were stored
abbrev formed : After-fill_if-after_users → After-form_of-form
formed u = (goal.at.After-fill_if-after_users u).After-form_of-form

kind-reads : (b : Start) → Reads (number 5) (bits b.args.s.now) 6
unfolding pdu
kind-reads b = head-reads _ _ _ _ _ _ _ (reads-mark 6 ss_type _ b.requires.reads)

row : (f : After-form_of-form) → Reads (rest_of (kind f)) (pdu-bits f) 11
unfolding pdu
row f =
    subst (λ (t : Option PduType). Reads (rest_of t) (pdu-bits f) 11) (sym f.pdu_type-kind.ensures)
    (rest-reads _ _ _ _ _ _ _ (reads-mark 6 ss_type _ (start f).requires.reads) f.number_at-code.ensures)

users-there : (f : After-form_of-form) → Reads (pick f.form_of-form.result.users (identities Users) no_identities) (pdu-bits f) 11
users-there f = users-reads (kind f) f.form_of-form.ensures (row f)

users-read : (u : After-fill_if-after_users) → let f = formed u in let r = u.fill_if-after_users in
    Read (pick f.form_of-form.result.users (identities Users) no_identities) (pdu-bits f) 11 r.ensures.value r.result.at
users-read u = let f = formed u in carried_read Users f.form_of-form.result.users (users-there f) u.fill_if-after_users.ensures.read

-- the figures begin inside the PDU, where the affected users end
from-figures : (u : After-fill_if-after_users) → Reads (figures_of (kind (formed u))) (pdu-bits (formed u)) u.fill_if-after_users.result.at
from-figures u = figures-reads (kind (formed u)) (formed u).form_of-form.ensures (row (formed u)) (users-read u)

inside : (u : After-fill_if-after_users) → u.fill_if-after_users.result.at ≤ length (pdu-bits (formed u))
inside u =
    let s = pdu-bits (formed u) in
    read-inside _ s 11 (number-there s 6 5 (omega arith) (kind-reads (start (formed u))).read.same) (users-read u)

-- they are those in their window
abbrev placed : After-figures_in-f → After-fill_if-after_users
placed g = (goal.at.After-figures_in-f g).After-fill_if-after_users

figures-found : (g : After-figures_in-f) → let at = g.fill_if-after_users.result.at in let f = formed (placed g) in
    Read (figures_of (kind f)) (pdu-bits f) at g.figures_in-f.result (at + width_of (kind f))
figures-found g =
    let u = placed g in
    rw (g.figures_in-f.ensures, g.window.ensures) (figures-read (kind (formed u)) _ g.fill_if-after_users.result.at (inside u) (from-figures u))

pub fill_if-after_users-requires : goal.fill_if-after_users-requires
fill_if-after_users-requires c = let f = (goal.at.fill_if-after_users-requires c).After-form_of-form in
    let long : length c.unwrap.result.1.now + 1 ≡ length c.args.words.now = search rules in
    record {
      few = (start f).requires.few;
      room = omega (arith, long, c.requires.room, c.split_at_mut-users.ensures.front_len);
      reads = carried_reads Users f.form_of-form.result.users (users-there f);
    }

pub overflow_add-after_figures : goal.overflow_add-after_figures
overflow_add-after_figures c =
    let u = (goal.at.overflow_add-after_figures c).After-fill_if-after_users in
    let f = formed u in
    let s = (start f).args.s.now in
    let there = figures-there (kind f) s c.fill_if-after_users.result.at (inside u) (from-figures u) in
    omega (arith, there, length-bits s, (start f).requires.few, ap (λ (x : Form). x.width) f.form_of-form.ensures)

pub fill_listed-end-requires : goal.fill_listed-end-requires
fill_listed-end-requires c =
    let u = (goal.at.fill_listed-end-requires c).After-fill_if-after_users in
    let f = formed u in
    let found = figures-found (goal.at.fill_listed-end-requires c).After-figures_in-f in
    let long : length c.unwrap.result.1.now + 1 ≡ length c.args.words.now = search rules in
    record {
      few = (start f).requires.few;
      room = omega (
        arith,
        long,
        c.requires.room,
        c.split_at_mut-users.ensures.back_len,
        c.split_at_mut-interrogation.ensures.back_len,
        c.split_at_mut-listed.ensures.front_len,
      );
      reads = rw c.part_in-part.ensures (listed-reads (kind f) f.form_of-form.ensures (row f) (users-read u) found);
    }

pub returns : goal.returns
unfolding pdu record_words
returns c = let f = formed (goal.at.returns c).After-fill_if-after_users in
    let rest = row_fill (kind f) f.form_of-form.ensures (row f) (users-read (goal.at.returns c).After-fill_if-after_users)
    (figures-found (goal.at.returns c).After-figures_in-f) c.part_in-part.ensures c.fill_if-after_users.ensures.same c.put_three.ensures
    c.fill_listed-end.ensures c.put_three-2.ensures c.put_three-3.ensures
    in
    fill-mark 6 ss_type _ (start f).requires.reads
    (headed_fill _ _ _ _ _ _ _ (reads-mark 6 ss_type _ (start f).requires.reads) (λ _. refl) f.number_at-code.ensures
    (fill-by (ap (λ (x : Option PduType). rest_of x) (sym f.pdu_type-kind.ensures)) rest))

pub number_at-code-requires : goal.number_at-code-requires
number_at-code-requires c =
    (omega arith, omega arith, kind-reads (goal.at.number_at-code-requires c).Start)
