-- boc_terminal_reset and boc_terminal_line keep their tables. Assumes nothing.
use mathlib.Core.Path.{◌≡◌, refl, sym, ap, ◌∙◌, subst}
use mathlib.Core.Bool.{Bool, true, false}
use mathlib.Core.List.{List, [], ◌∷◌, ◌++◌}
use Prim.Native.Nat.{ℕ, ◌≤◌, ◌<◌}
use native.Mathlib.Omega.{arith}
use borrow.Author.Tests.{eq-eqb, ne_eqb, le-leb, lt-leb, leb-true, leb-false}
use lib.ListN.{length, get_or, drop}
use lib.Dec.{leb}
use Rattle.std.specs.Prelude.{Option, Some, None, Result, Ok, Err}
use Rattle.bits.specs.Bits.{pick}
use Rattle.bits.proofs.Tests.{never, differ}
use Rattle.terminals.specs.Layers.{places}
use Rattle.terminals.specs.Lines.{Says, line_of}
use Rattle.terminals.specs.Profiles.{is_table, reset_is, reset_out, fields_refusal, names, set_in, without_text, settles, set_line}
use Rattle.terminals.specs.Reading.{text_of}
use Rattle.terminals.specs.Answers.{read_is, read_out, line_is, table_after, out_after}
use Rattle.terminals.specs.declared.Refusal.{Refusal}
use Rattle.terminals.specs.declared.layers.Place.{Place}
use Rattle.terminals.specs.declared.lines.Fields.{Fields}
use Rattle.terminals.specs.declared.lines.Line.{Line}
use Rattle.terminals.specs.declared.lines.Line.TheVariants.{Read, Set}
use Rattle.terminals.proofs.Grammar.{says-reads, Meant, meant}
use Rattle.terminals.proofs.Setting.{length-set_in, set_in-at}
use Rattle.terminals.proofs.Texts.{length-places}
use Rattle.boc.specs.Serial.{returned, line_length}
use Rattle.promises.specs.Answers.{OneOf}
use Rattle.promises.specs.Terminals as says
use Rattle.promises.specs.Terminals.{IsTable, Gives, no_table, no_line, value, count, no_room, sets, reads, Reset, OnLine}
use Rattle.promises.proofs.Tables.{exactly}
use Rattle.promises.proofs.Terminals.Places as place
use Rattle.promises.proofs.Terminals.Values.{Judged, bad-value, bad-count, good, judged, passes, gives-16, gives-17, gives-0}

pub reset-kept : (t : List ℕ) → Reset t
unfolding reset_is reset_out
reset-kept t = record {
  taken = λ h. let e = eq-eqb (length t) 269 h in (rw e, rw e);
  refused = λ h. let e = ne_eqb (length t) 269 h in (rw e, rw e);
}

settles-number : (f : Fields) → returned (settles f) ≡ returned (fields_refusal f)
unfolding settles
settles-number f = go (fields_refusal f)
  where
    go : (o : Result (Unit {0}) Refusal) → returned (without_text o) ≡ returned o
    go (Ok done) = refl
    go (Err k) = refl

module _ (s t : List ℕ) where
  -- ---- the answer, by what the line says

  module _ (room : ℕ) where
    abbrev number : ℕ
    number = returned (line_is s t room)

    of_none : is_table t ≡ false → number ≡ 9
    unfolding line_is
    of_none e = rw e

    of-bad : is_table t ≡ true → line_of s ≡ None → number ≡ 15
    unfolding line_is
    of-bad e k = rw (e, k)

    of-set : (f : Fields) → is_table t ≡ true → line_of s ≡ Some (Set f) → number ≡ returned (fields_refusal f)
    unfolding line_is
    of-set f e k = rw (e, k) (settles-number f)

    of-read : is_table t ≡ true → line_of s ≡ Some Read → number ≡ returned (read_is t room)
    unfolding line_is
    of-read e k = rw (e, k)

    fits : length (text_of t) ≤ room → returned (read_is t room) ≡ 0
    unfolding read_is
    fits h = rw (le-leb (length (text_of t)) room h)

    fits_not : room < length (text_of t) → returned (read_is t room) ≡ 8
    unfolding read_is
    fits_not h = rw (lt-leb (length (text_of t)) room h)

    -- ---- the table of refusals

    by-fields : (f : Fields) {k : Result (Unit {0}) Refusal} → IsTable t → Says s (Set f) → Judged f k → Gives s t room (returned k)
    by-fields f h y (bad-value b) = value f h y b
    by-fields f h y (bad-count n b) = count f h y n b
    by-fields f h y (good n m) = sets f h y n m

    by-line : IsTable t → is_table t ≡ true → (l : Option Line) → line_of s ≡ l → Meant s l → Gives s t room number
    by-line h e None k m = subst (Gives s t room) (sym (of-bad e k)) (no_line h (λ l y. let e = sym k ∙ says-reads y in never cc))
    by-line h e (Some (Set f)) k m = subst (Gives s t room) (sym (of-set f e k)) (by-fields f h m (judged f))
    by-line h e (Some Read) k m = go (leb (length (text_of t)) room) refl
      where
        go : (b : Bool) → leb (length (text_of t)) room ≡ b → Gives s t room number
        go true r =
            let n = leb-true (length (text_of t)) room r in
            subst (Gives s t room) (sym (of-read e k ∙ fits n)) (reads h m n)
        go false r =
            let n = leb-false (length (text_of t)) room r in
            subst (Gives s t room) (sym (of-read e k ∙ fits_not n)) (no_room h m n)

    row : Gives s t room number
    row = go (is_table t) refl
      where
        go : (b : Bool) → is_table t ≡ b → Gives s t room number
        go true e = by-line (place.table_is t e) e (line_of s) refl (meant s)
        go false e = subst (Gives s t room) (sym (of_none e)) (no_table (λ h. differ (sym (place.is-table t h) ∙ e)))

    listed : {k : ℕ} → Gives s t room k → OneOf (0 ∷ 9 ∷ 15 ∷ 16 ∷ 17 ∷ 8 ∷ []) k
    listed (no_table h) = refl
    listed (no_line h n) = refl
    listed (value f h y b) = refl
    listed (count f h y n b) = refl
    listed (no_room h y n) = refl
    listed (sets f h y n m) = refl
    listed (reads h y n) = refl

    nothing_read : ((l : Line) → Says s l → ⊥) → line_of s ≡ None
    nothing_read n = go (line_of s) (meant s)
      where
        go : (l : Option Line) → Meant s l → l ≡ None
        go None m = refl
        go (Some l) m = absurd (n l m)

    back : (k : ℕ) → Gives s t room k → number ≡ k
    back k (no_table h) = of_none (place.no_table t h)
    back k (no_line h n) = of-bad (place.is-table t h) (nothing_read n)
    back k (value f h y b) = of-set f (place.is-table t h) (says-reads y) ∙ ap returned (gives-16 (judged f) b)
    back k (count f h y n b) = of-set f (place.is-table t h) (says-reads y) ∙ ap returned (gives-17 (judged f) n b)
    back k (no_room h y n) = of-read (place.is-table t h) (says-reads y) ∙ fits_not n
    back k (sets f h y n m) = of-set f (place.is-table t h) (says-reads y) ∙ ap returned (gives-0 (judged f) n m)
    back k (reads h y n) = of-read (place.is-table t h) (says-reads y) ∙ fits n

    -- only a table is not refused
    a-table : number ≡ 0 → is_table t ≡ true
    a-table z = go (is_table t) refl
      where
        go : (b : Bool) → is_table t ≡ b → b ≡ true
        go true e = refl
        go false e = absurd (omega (arith, of_none e, z))

  -- ---- what a line leaves

  pub set-leaves : (f : Fields) → is_table t ≡ true → line_of s ≡ Some (Set f) → fields_refusal f ≡ Ok tt → table_after s t ≡ set_in f places t
  unfolding table_after set_line
  set-leaves f e k z = rw (e, k, z)

  module _ (out : List ℕ) (old : ℕ) where
    set-length : (f : Fields) → is_table t ≡ true → line_of s ≡ Some (Set f) → fields_refusal f ≡ Ok tt
        → line_length (line_is s t (length out)) old ≡ 0
    unfolding line_is settles
    set-length f e k z = rw (e, k, z)

    set_writes : (f : Fields) → is_table t ≡ true → line_of s ≡ Some (Set f) → out_after s t out ≡ out
    unfolding out_after
    set_writes f e k = rw (e, k)

    read-leaves : is_table t ≡ true → line_of s ≡ Some Read → table_after s t ≡ t
    unfolding table_after
    read-leaves e k = rw (e, k)

    read_writes : is_table t ≡ true → line_of s ≡ Some Read → length (text_of t) ≤ length out
        → (line_length (line_is s t (length out)) old ≡ length (text_of t)) × (out_after s t out ≡ text_of t ++ drop (length (text_of t)) out)
    unfolding line_is out_after read_is read_out
    read_writes e k h = let l = le-leb (length (text_of t)) (length out) h in (rw (e, k, l), rw (e, k, l))

    read-room : is_table t ≡ true → line_of s ≡ Some Read → number (length out) ≡ 0 → length (text_of t) ≤ length out
    read-room e k z = go (leb (length (text_of t)) (length out)) refl
      where
        go : (b : Bool) → leb (length (text_of t)) (length out) ≡ b → length (text_of t) ≤ length out
        go true r = leb-true (length (text_of t)) (length out) r
        go false r =
            absurd (omega (arith, of-read (length out) e k, fits_not (length out) (leb-false (length (text_of t)) (length out) r), z))

    -- a refused line leaves everything
    abbrev Stays : Type 0
    Stays = (table_after s t ≡ t) × (out_after s t out ≡ out) × (line_length (line_is s t (length out)) old ≡ old)

    none_stays : is_table t ≡ false → Stays
    unfolding line_is table_after out_after
    none_stays e = (rw e, rw e, rw e)

    bad-stays : is_table t ≡ true → line_of s ≡ None → Stays
    unfolding line_is table_after out_after
    bad-stays e k = (rw (e, k), rw (e, k), rw (e, k))

    set-stays : (f : Fields) → is_table t ≡ true → line_of s ≡ Some (Set f) → {n : Refusal} → fields_refusal f ≡ Err n → Stays
    unfolding line_is table_after out_after settles set_line
    set-stays f e k z = (rw (e, k, z), rw (e, k), rw (e, k, z))

    read_stays : is_table t ≡ true → line_of s ≡ Some Read → length out < length (text_of t) → Stays
    unfolding line_is table_after out_after read_is read_out
    read_stays e k h = let n = lt-leb (length (text_of t)) (length out) h in (rw (e, k), rw (e, k, n), rw (e, k, n))

    refused : (number (length out) ≡ 0 → ⊥) → Stays
    refused z = go (is_table t) refl
      where
        reading : is_table t ≡ true → line_of s ≡ Some Read → (b : Bool) → leb (length (text_of t)) (length out) ≡ b → Stays
        reading e k true r = absurd (z (of-read (length out) e k ∙ fits (length out) (leb-true (length (text_of t)) (length out) r)))
        reading e k false r = read_stays e k (leb-false (length (text_of t)) (length out) r)

        setting : (f : Fields) → is_table t ≡ true → line_of s ≡ Some (Set f) → (o : Result (Unit {0}) Refusal) → fields_refusal f ≡ o → Stays
        setting f e k (Ok done) n = absurd (z (of-set (length out) f e k ∙ ap returned n))
        setting f e k (Err m) n = set-stays f e k n

        line : is_table t ≡ true → (l : Option Line) → line_of s ≡ l → Stays
        line e None k = bad-stays e k
        line e (Some (Set f)) k = setting f e k (fields_refusal f) refl
        line e (Some Read) k = reading e k (leb (length (text_of t)) (length out)) refl

        go : (b : Bool) → is_table t ≡ b → Stays
        go true e = line e (line_of s) refl
        go false e = none_stays e

-- a place after a set line
pub set_at : (f : Fields) (t : List ℕ) {i l : ℕ} {third : Option ℕ} → length t ≡ 269 → says.Place i l third
    → get_or (set_in f places t) i 0 ≡ pick (names f (record { layer = l; third = third })) f.profile (get_or t i 0)
set_at f t {i} h p =
    set_in-at f places t i (omega (arith, place.inside p, length-places)) (omega (arith, place.inside p))
    ∙ ap (λ (q : Place). pick (names f q) f.profile (get_or t i 0)) (place.place_is p)

pub line_kept : (s t out : List ℕ) (old : ℕ) → OnLine s t out old
line_kept s t out old = record {
  table = let r = row s t (length out) in exactly (Gives s t (length out)) r (listed s t (length out) r) (back s t (length out));
  set = λ f y z.
      let e = a-table s t (length out) z in
      let k = says-reads y in
      let n = passes (judged f) (sym (of-set s t (length out) f e k) ∙ z) in
      let l = set-leaves s t f e k n in
      let w = (place.table_is t e).whole in (
        set-length s t out old f e k n,
        set_writes s t out old f e k,
        ap length l ∙ length-set_in f places t ∙ w,
        λ i j third p.
            let at = ap (λ (x : List ℕ). get_or x i 0) l ∙ set_at f t w p in (
              λ m. at ∙ ap (λ (b : Bool). pick b f.profile (get_or t i 0)) (place.names_it f m),
              λ m. at ∙ ap (λ (b : Bool). pick b f.profile (get_or t i 0)) (place.names-not f j third m),
            ),
      );
  read = λ y z.
      let e = a-table s t (length out) z in
      let k = says-reads y in
      let w = read_writes s t out old e k (read-room s t out old e k z) in
      (w.0, w.1, read-leaves s t out old e k);
  refusal = refused s t out old;
}
