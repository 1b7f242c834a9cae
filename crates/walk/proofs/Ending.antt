-- The walk's answer, by where reading its elements ends. Assumes nothing.
use Rattle.std.specs.Prelude.{Some, None, ℕ, Result, Ok}
use mathlib.Core.Path.{◌≡◌, refl, ap, ◌∙◌}
use mathlib.Core.Bool.{Bool, true, false}
use mathlib.Core.List.{List}
use Prim.Native.Nat.{ℕ}
use native.Mathlib.Omega.{arith}
use borrow.Author.Tests.{le-ltb}
use lib.Dec.{ltb}
use Rattle.bits.specs.Bits.{pick}
use Rattle.bits.specs.Frame.{bits_in, framed}
use Rattle.bits.proofs.Frames.{framed-says, length-bits_in}
use Rattle.codec.specs.Codec.{Outcome, ok, no}
use Rattle.codec.specs.Whole.{whole_parse}
use Rattle.codec.specs.Reading.{Found, got, refused, and_next, answer, read_at, said}
use Rattle.codec.proofs.Reading.{whole-at}
use Rattle.grammar.specs.Grammar.{pdu}
use Rattle.grammar.specs.declared.record.Record.{Record}
use Rattle.walk.specs.Walk.{head_of, refusing, walked_of, walk_is}
use Rattle.walk.specs.Inner.{head_in, ended_is, result_in}
use Rattle.walk.specs.declared.Head.{Head}
use Rattle.walk.specs.declared.Refusal.{Refusal}
use Rattle.walk.proofs.Heads.{head-is}

pub not-framed : (s : List ℕ) (n : ℕ) → framed s n ≡ false → walk_is s n ≡ refusing 1 None
unfolding walk_is
not-framed s n e = rw e

abbrev as_walked : Found Record → Result Head Refusal
as_walked (got r at) = Ok (head_of r)
as_walked (refused k p) = refusing k (Some p)

walked-answer : (o : Outcome Record) → walked_of o ≡ as_walked (answer o)
walked-answer (ok r at left) = refl
walked-answer (no k p) = refl

module _ (s : List ℕ) (n : ℕ) (f : framed s n ≡ true) where
  whole : walk_is s n ≡ as_walked (and_next (read_at pdu (bits_in n s) 0) (λ r at. pick (ltb at n) (refused 5 at) (got r at)))
  unfolding walk_is
  whole =
      ap (λ (t : Bool). pick t (walked_of (whole_parse pdu (bits_in n s))) (refusing 1 None)) f
      ∙ walked-answer (whole_parse pdu (bits_in n s))
      ∙ ap as_walked (whole-at pdu (bits_in n s))
      ∙ ap (λ (m : ℕ). as_walked (and_next (read_at pdu (bits_in n s) 0) (λ r at. pick (ltb at m) (refused 5 at) (got r at))))
      (length-bits_in s n (framed-says s n f))

  -- by what is read of all its elements
  pub ending : walk_is s n ≡ ended_is s n (said (result_in (bits_in n s)))
  unfolding ended_is result_in
  ending = whole ∙ go (read_at pdu (bits_in n s) 0) refl
    where
      left : (b : Bool) (r : Record) (at : ℕ) → head_of r ≡ head_in s r.figures.result
          → as_walked (pick b (refused 5 at) (got r at)) ≡ pick b (refusing 5 (Some at)) (Ok (head_in s r.figures.result))
      left true r at h = refl
      left false r at h = ap Ok h

      go : (o : Found Record) → read_at pdu (bits_in n s) 0 ≡ o
          → as_walked (and_next o (λ r at. pick (ltb at n) (refused 5 at) (got r at))) ≡ ended_is s n (said (and_next o (λ r p. got r.figures.result p)))
      go (got r at) h = left (ltb at n) r at (head-is s n h)
      go (refused k p) h = refl

  -- a PDU whose elements end where it ends
  pub accepted : {result end : ℕ} → result_in (bits_in n s) ≡ got result end → end ≡ n → walk_is s n ≡ Ok (head_in s result)
  unfolding ended_is
  accepted {result} {end} e h = ending ∙ ap (λ o. ended_is s n (said o)) e ∙ rw (le-ltb end n (omega arith))
