-- A request passes the test exactly if it is in its range. Assumes nothing.
use mathlib.Core.Path.{◌≡◌, refl, sym, ap, ◌∙◌}
use mathlib.Core.Logic.{◌↔◌}
use mathlib.Core.Bool.{Bool, true, ◌&&◌}
use mathlib.Core.List.{List, [], ◌∷◌}
use Prim.Native.Nat.{ℕ, ◌≤◌}
use native.Mathlib.Omega.{arith}
use lib.ListN.{take, drop}
use lib.Dec.{leb, ltb}
use borrow.Author.Tests.{leb-true, le-leb, ltb-true, lt-ltb, eqb-true, eq-eqb}
use Rattle.std.proofs.Common.{Option, Some, None}
use Rattle.bits.specs.Bits.{pick}
use Rattle.bits.specs.Lists.{every, Each}
use Rattle.bits.proofs.Tests.{both, both⁻¹, picked}
use Rattle.grammar.specs.SiteSheet.{digit_refusal}
use Rattle.grammar.proofs.Codes.{digit-refusal}
use Rattle.rules.specs.Request.{is_user, is_service, is_destination, is_group, is_digit, is_unused, digits_used, request_refusal}
use Rattle.rules.specs.declared.request.User.{User}
use Rattle.rules.specs.declared.request.Destination.{Destination}
use Rattle.rules.specs.declared.request.Destination.TheVariants.{Identity, Number}
use Rattle.rules.specs.declared.request.Request.{Request}
use Rattle.promises.specs.Demand1.Decision.{Below, Reached, Grouped, used, Ranged}

-- ---- each test and what it says

user-test : (u : User) → (is_user u ≡ true) ↔ Below u
unfolding is_user
user-test u = (
  λ e. let k = both (ltb u.network 16777216) (ltb u.ssi 16777216) e in (ltb-true _ _ k.0, ltb-true _ _ k.1),
  λ h. both⁻¹ (lt-ltb u.network 16777216 h.0) (lt-ltb u.ssi 16777216 h.1),
)

-- from one number to another
between-test : (low high v : ℕ) → (leb low v && leb v high ≡ true) ↔ ((low ≤ v) × (v ≤ high))
between-test low high v = (
  λ e. let k = both (leb low v) (leb v high) e in (leb-true _ _ k.0, leb-true _ _ k.1),
  λ h. both⁻¹ (le-leb low v h.0) (le-leb v high h.1),
)

service-test : (s : ℕ) → (is_service s ≡ true) ↔ ((1 ≤ s) × (s ≤ 3))
unfolding is_service
service-test s = between-test 1 3 s

destination-test : (d : Destination) → (is_destination d ≡ true) ↔ Reached d
unfolding is_destination
destination-test (Identity u) = user-test u
destination-test (Number length) = between-test 1 24 length.0

group-test : (g : Option User) → (is_group g ≡ true) ↔ Grouped g
unfolding is_group
group-test (Some u) = user-test u
group-test None = (λ e. tt, λ h. refl)

-- ---- the digit places

every-test : {A : Type 0} (f : A → Bool) (P : A → Type 0) → ((a : A) → (f a ≡ true) ↔ P a) → (l : List A) → (every f l ≡ true) ↔ Each P l
unfolding every
every-test f P t [] = (λ e. tt, λ h. refl)
every-test f P t (a ∷ l) = (
  λ e. let k = both (f a) (every f l) e in ((t a).0 k.0, (every-test f P t l).0 k.1),
  λ h. both⁻¹ ((t a).1 h.0) ((every-test f P t l).1 h.1),
)

digit-test : (d : ℕ) → (is_digit d ≡ true) ↔ (d ≤ 12)
unfolding is_digit
digit-test d = (
  λ e. leb-true d 12 (picked (leb d 12) (sym (digit-refusal d) ∙ eqb-true (digit_refusal d) 0 e) (λ x. omega arith)).0,
  λ h. eq-eqb (digit_refusal d) 0 (digit-refusal d ∙ ap (λ (t : Bool). pick {A = ℕ} t 0 3) (le-leb d 12 h)),
)

unused-test : (d : ℕ) → (is_unused d ≡ true) ↔ (d ≡ 0)
unfolding is_unused
unused-test d = (eqb-true d 0, eq-eqb d 0)

used-test : (d : Destination) (l : List ℕ) → (every is_digit (take (digits_used d) l) ≡ true) ↔ Each (λ v. v ≤ 12) (take (used d) l)
unfolding digits_used
used-test (Identity u) l = every-test is_digit (λ v. v ≤ 12) digit-test (take 0 l)
used-test (Number length) l = every-test is_digit (λ v. v ≤ 12) digit-test (take length.0 l)

rest-test : (d : Destination) (l : List ℕ) → (every is_unused (drop (digits_used d) l) ≡ true) ↔ Each (λ v. v ≡ 0) (drop (used d) l)
unfolding digits_used
rest-test (Identity u) l = every-test is_unused (λ v. v ≡ 0) unused-test (drop 0 l)
rest-test (Number length) l = every-test is_unused (λ v. v ≡ 0) unused-test (drop length.0 l)

-- ---- the request

module _ (q : Request) where
  abbrev used_pass : Bool
  used_pass = every is_digit (take (digits_used q.destination) q.digits)

  abbrev unused_pass : Bool
  unused_pass = every is_unused (drop (digits_used q.destination) q.digits)

  abbrev pub test : Bool
  test = is_user q.user && is_service q.service && is_destination q.destination && is_group q.group && used_pass && unused_pass

  -- the parts of the test
  pub record Tests : Type 0 where
    pub user : is_user q.user ≡ true
    pub service : is_service q.service ≡ true
    pub destination : is_destination q.destination ≡ true
    pub group : is_group q.group ≡ true
    pub digits : used_pass ≡ true
    pub unused : unused_pass ≡ true

  pub in-range : test ≡ true → Ranged q
  in-range e =
      let a = both _ unused_pass e in
      let b = both _ used_pass a.0 in
      let c = both _ (is_group q.group) b.0 in
      let d = both _ (is_destination q.destination) c.0 in
      let f = both (is_user q.user) (is_service q.service) d.0 in
      record {
        user = (user-test q.user).0 f.0;
        service = (service-test q.service).0 f.1;
        destination = (destination-test q.destination).0 d.1;
        group = (group-test q.group).0 c.1;
        digits = (used-test q.destination q.digits).0 b.1;
        unused = (rest-test q.destination q.digits).0 a.1;
      }

  pub tests : Ranged q → Tests
  tests r = record {
    user = (user-test q.user).1 r.user;
    service = (service-test q.service).1 r.service;
    destination = (destination-test q.destination).1 r.destination;
    group = (group-test q.group).1 r.group;
    digits = (used-test q.destination q.digits).1 r.digits;
    unused = (rest-test q.destination q.digits).1 r.unused;
  }

  pub passes : Ranged q → test ≡ true
  passes r = let t = tests r in rw (t.user, t.service, t.destination, t.group, t.digits, t.unused)

  pub ranged : (request_refusal q ≡ 0) ↔ Ranged q
  unfolding request_refusal
  ranged = (
    λ e. in-range (picked test e (λ x. omega arith)).0,
    λ r. ap (λ (t : Bool). pick {A = ℕ} t 0 9) (passes r),
  )
