-- The lines of the read form, place by place, and how long they are. Assumes nothing.
use mathlib.Core.Path.{◌≡◌, refl, ap, ◌∙◌}
use mathlib.Core.List.{List, [], ◌∷◌, ◌++◌}
use Prim.Native.Nat.{ℕ, ◌+◌, ◌≤◌, ◌<◌}
use native.Mathlib.Omega.{arith}
use native.Mathlib.Nat.{zero-add}
use native.Mathlib.Numerals.{add-one}
use borrow.Author.Tests.{eq-eqb, ne_eqb, le-leb, lt-leb}
use lib.ListN.{length, get_or, drop, length-append, drop_of_length-le}
use lib.Seq.{drop-cons}
use Rattle.std.specs.Prelude.{Some, None, Ok, Err}
use Rattle.bits.specs.Inner.{Laid}
use Rattle.text.specs.Decimal.{decimal, item}
use Rattle.text.proofs.Decimals.{length-item}
use Rattle.terminals.specs.Layers.{layer_at, values, places, nowhere}
use Rattle.terminals.specs.Reading.{comma, line_end, lead, place_text, line_text, lines_text, led, text_of}
use Rattle.terminals.specs.Answers.{read_is, read_out}
use Rattle.terminals.specs.declared.Refusal.TheVariants.{NoRoom}
use Rattle.terminals.specs.declared.layers.Place.{Place}

pub length-places : length places ≡ 269
unfolding places layer_at values
length-places = refl

module _ (t : List ℕ) (i : ℕ) (whole : length t ≡ 269) where
  pub lines_next : i < 269
      → lines_text (drop i places) (drop i t)
      ≡ line_text (get_or t i 0) (get_or places i nowhere) ++ lines_text (drop (i + 1) places) (drop (i + 1) t)
  unfolding lines_text
  lines_next h =
      let p : i < length places = omega (arith, length-places) in
      let l : i < length t = omega arith in
      rw (add-one, drop-cons places i nowhere p, drop-cons t i 0 l)

  pub lines-over : 269 ≤ i → lines_text (drop i places) (drop i t) ≡ []
  unfolding lines_text
  lines-over h =
      let p : length places ≤ i = omega (arith, length-places) in
      rw (drop_of_length-le places p)

-- ---- lengths

-- no line at the default, and the line of a place off it
pub no_line : (v : ℕ) (p : Place) → v ≡ 2 → line_text v p ≡ []
unfolding line_text
no_line v p h = rw (eq-eqb v 2 h)

pub off-line : (v : ℕ) (p : Place) → (v ≡ 2 → ⊥) → line_text v p ≡ item v comma ++ place_text p.layer p.third
unfolding line_text
off-line v p h = rw (ne_eqb v 2 h)

pub length-off : (v : ℕ) (p : Place) → (v ≡ 2 → ⊥) → length (line_text v p) ≡ length (decimal v) + 1 + length (place_text p.layer p.third)
length-off v p h =
    ap length (off-line v p h)
    ∙ length-append (item v comma) (place_text p.layer p.third)
    ∙ ap (λ (n : ℕ). n + length (place_text p.layer p.third)) (length-item v comma)

pub length-given : (l x : ℕ) → length (place_text l (Some x)) ≡ length (decimal l) + 1 + (length (decimal x) + 2)
unfolding place_text
length-given l x = omega (arith, length-append (item l comma) (item x line_end), length-item l comma, length-item x line_end)

pub length-missing : (l : ℕ) → length (place_text l None) ≡ length (decimal l) + 2
unfolding place_text
length-missing l = length-item l line_end

-- ---- the whole text: the command's name before the lines, if there are any

led-some : (s : List ℕ) → 0 < length s → led s ≡ lead ++ s
led-some [] h = absurd (omega arith)
led-some (b ∷ s) h = refl

led-none : (s : List ℕ) → length s ≡ 0 → led s ≡ []
led-none [] h = refl
led-none (b ∷ s) h = absurd (omega arith)

module _ (t : List ℕ) where
  pub text-some : 0 < length (lines_text places t) → text_of t ≡ lead ++ lines_text places t
  unfolding text_of
  text-some h = led-some (lines_text places t) h

  pub text-none : length (lines_text places t) ≡ 0 → text_of t ≡ []
  unfolding text_of
  text-none h = led-none (lines_text places t) h

-- ---- what the read form leaves

module _ (t out : List ℕ) where
  pub read_none : text_of t ≡ [] → (Ok 0 ≡ read_is t (length out)) × (out ≡ read_out t out)
  unfolding read_is read_out
  read_none e = let k = le-leb 0 (length out) (omega arith) in (rw (e, k), rw (e, k))

  pub read_short : length out < length (text_of t) → (Err NoRoom ≡ read_is t (length out)) × (out ≡ read_out t out)
  unfolding read_is read_out
  read_short h = let k = lt-leb (length (text_of t)) (length out) h in (rw k, rw k)

  pub read-written : {out' : List ℕ} {end : ℕ} → length (text_of t) ≤ length out → Laid out 0 (text_of t) out' end
      → (Ok end ≡ read_is t (length out)) × (out' ≡ read_out t out)
  unfolding read_is read_out
  read-written h l =
      let k = le-leb (length (text_of t)) (length out) h in
      let z = zero-add (length (text_of t)) in (
        rw k (ap (λ (n : ℕ). Ok n) (l.ends ∙ z)),
        rw k (l.same ∙ ap (λ (n : ℕ). text_of t ++ drop n out) z),
      )
