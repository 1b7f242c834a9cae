-- The number of services, then each of them until one covers the call's. Assumes nothing.
use mathlib.Core.Path.{◌≡◌, sym, ap, ◌∙◌, subst}
use mathlib.Core.Bool.{Bool, false}
use mathlib.Core.List.{List}
use Prim.Native.Nat.{ℕ, ◌+◌, ◌-◌, ◌*◌, ◌/◌, ◌%◌, ◌^◌, ◌≤◌}
use native.Mathlib.Omega.{arith}
use lib.ListN.{take}
use Rattle.bits.specs.Bits.{bits}
use Rattle.bits.specs.Lists.{some}
use Rattle.codec.specs.Codec.{Codec}
use Rattle.codec.specs.Parts.{absent, element}
use Rattle.codec.specs.Places.{places}
use Rattle.codec.proofs.Reading.{read_at-absent}
use Rattle.grammar.specs.SiteSheet.{service_refusal, count_refusal}
use Rattle.grammar.specs.Grammar.{services}
use Rattle.walk.proofs.Numbers.{element-says}
use Rattle.rules.specs.Matching.{is_covering, covered}
use Rattle.reader.proofs.Elements.{number_fits, number_small, number-end}
use Rattle.reader.specs.Inner.{Read}
use Rattle.in_place.specs.Inner.{Says}
use Rattle.in_place.proofs.Splits.{says_is, Headed, split-headed, split-shaped}
use Rattle.in_place.proofs.Rows.{row-end}
use Rattle.in_place.proofs.Windows.{front-is, inside_is}
use Rattle.in_place.proofs.Among.{Along, along-none, along-next, along-more, along-found, along-all}
use Rattle.in_place.proofs.services.services_at.Goals.{After-is_covering, After-window-window, Start}
use Rattle.in_place.proofs.services.services_at.Goals as goal

-- so many services
abbrev listing : ℕ → Codec (List ℕ)
listing n = places (element 3 service_refusal) absent 7 n

-- the services that are read
parts : (b : Start) → let v = b.requires.reads.value in
    Headed 3 count_refusal listing (bits b.args.s.now) b.args.at v.count v.list b.requires.reads.end
unfolding services
parts b = split-headed 3 count_refusal listing (split-shaped _ _ _ _ _ b.requires.reads.read)

count-is : (c : After-window-window) → c.window-window.result / 2 ^ 54 ≡ c.requires.reads.value.count
count-is c = front-is c.args.s.now c.args.at c.window-window.ensures 3 (omega arith) (omega arith) (parts (goal.at.After-window-window c).Start).head

few : (c : After-window-window) → c.window-window.result / 2 ^ 54 ≤ 7
few c = omega (arith, count-is c, number_small 3 (parts (goal.at.After-window-window c).Start).head)

near : (c : After-window-window) → c.args.at + 3 ≤ 4096
near c =
    let head = (parts (goal.at.After-window-window c).Start).head in
    number_fits c.args.s.now c.args.at 3 (omega arith) c.requires.few (record { value = _; end = _; read = head })

listed : (c : After-window-window) → let v = c.requires.reads.value in
    Read (listing (c.window-window.result / 2 ^ 54)) (bits c.args.s.now) (c.args.at + 3) v.list c.requires.reads.end
listed c = rw (count-is c) (parts (goal.at.After-window-window c).Start).rest

pub loop-i-init : goal.loop-i-init
loop-i-init c =
    let a = c.args in
    let start : a.at + 3 ≡ a.at + 3 + 3 * 0 = omega arith in
    let count = c.window-window.result / 2 ^ 54 in
    subst (λ (p : ℕ). Along (element 3 service_refusal) absent (is_covering a.service) 7 count (bits a.s.now) (a.at + 3) 0 p false)
    start (along-none (few c) (record { value = _; end = _; read = listed c }))

-- the service that is looked at
here : (c : After-is_covering) → let a = c.args in let i = c.loop-i.i in
    let at = a.at + 3 in
    Says (element 3 service_refusal) (is_covering a.service) (bits a.s.now) (at + 3 * i) c.is_covering.result (at + 3 * (i + 1))
here c = let a = c.args in let i = c.loop-i.i in
    let r = along-next c.loop-i.invariant (omega arith) in
    let n = (element-says 3 service_refusal (bits a.s.now) (a.at + 3 + 3 * i) r.read.same).0 in
    let place : a.at + 3 + 3 * i ≡ a.at + (3 + 3 * i) = omega arith in
    let w = (goal.at.After-is_covering c).After-window-window in
    let v = inside_is a.s.now a.at c.window-window.ensures 3 (omega arith) (3 + 3 * i) place (omega (arith, few w)) (record { same = n }) in
    let shift : 57 - (3 + 3 * i) - 3 ≡ 51 - 3 * i = omega arith in
    let end : r.end ≡ a.at + 3 + 3 * (i + 1) = number-end (bits a.s.now) (a.at + 3 + 3 * i) 3 n ∙ omega arith in
    record {
      value = r.value;
      read = rw end at r.read;
      says = c.is_covering.ensures ∙ ap (is_covering a.service) (ap (λ (k : ℕ). c.window-window.result / 2 ^ k % 8) (sym shift) ∙ v);
    }

-- what is said of the list is said of the services
whole : (c : After-window-window) {has : Bool} {end : ℕ} → let a = c.args in let count = c.window-window.result / 2 ^ 54 in
    Says (listing count) (λ l. some (is_covering a.service) (take count l)) (bits a.s.now) (a.at + 3) has end
    → Says services (λ l. covered l a.service) (bits a.s.now) a.at has (a.at + 3 + 3 * count)
unfolding covered
whole c e =
    let l = listed c in
    let end = row-end (bits c.args.s.now) 3 service_refusal 7 (c.window-window.result / 2 ^ 54) (few c) l in
    record { value = c.requires.reads.value; read = rw end at c.requires.reads.read; says = rw (count-is c) at (says_is e l).0 }

pub returns-then-is_covering : goal.returns-then-is_covering
returns-then-is_covering c =
    let here-is = here (goal.at.returns-then-is_covering c).After-is_covering in
    whole (goal.at.returns-then-is_covering c).After-window-window (along-found c.loop-i.invariant (omega arith) here-is c.if-is_covering.true)

pub loop-i-preserved : goal.loop-i-preserved
loop-i-preserved c =
    along-more c.loop-i.invariant (omega arith) (here (goal.at.loop-i-preserved c).After-is_covering) (sym c.if-is_covering.false)

pub returns : goal.returns
returns c = whole (goal.at.returns c).After-window-window (along-all c.loop-i.invariant (omega arith) (read_at-absent _))

pub overflow_add-end : goal.overflow_add-end
overflow_add-end c =
    omega (arith, near c)

pub overflow_mul-end : goal.overflow_mul-end
overflow_mul-end c =
    omega (arith, few c)

pub overflow_add-end-2 : goal.overflow_add-end-2
overflow_add-end-2 c =
    omega (arith, near c, few c)

pub overflow_mul-i : goal.overflow_mul-i
overflow_mul-i c =
    omega (arith, few (goal.at.overflow_mul-i c).After-window-window)

pub overflow_sub-i : goal.overflow_sub-i
overflow_sub-i c =
    omega (arith, few (goal.at.overflow_sub-i c).After-window-window)

pub overflow_shr-window : goal.overflow_shr-window
overflow_shr-window c =
    omega (arith, few (goal.at.overflow_shr-window c).After-window-window)
