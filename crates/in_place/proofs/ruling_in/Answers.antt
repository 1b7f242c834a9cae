-- Each part is passed where the one before it ends, and what they say settles the rules. Assumes nothing.
use mathlib.Core.Path.{◌≡◌, sym, ap, ◌∙◌}
use mathlib.Core.Bool.{true}
use Prim.Native.Nat.{ℕ, ◌+◌, ◌*◌, ◌<◌}
use native.Mathlib.Omega.{arith}
use lib.ListN.{drop}
use borrow.Author.Tests.{not-true, not-false}
use Rattle.bits.specs.Bits.{bits}
use Rattle.bits.proofs.Tests.{said-no, said-yes}
use Rattle.bits.proofs.Numbers.{value-take-fits}
use Rattle.grammar.specs.Grammar.{part_of, identities, externals}
use Rattle.grammar.specs.declared.site.ListKind.TheVariants as of
use Rattle.reader.specs.Inner.{Read}
use Rattle.rules.specs.Matching.{covered}
use Rattle.barring.specs.Decide.{part_for}
use Rattle.in_place.proofs.Splits.{says_is}
use Rattle.in_place.proofs.Bodies.{Parts, parts, PartLists, identity-lists, number-lists, grouped}
use Rattle.in_place.proofs.Rules.{unlisted, by-identity, by_number, restricted-reads, exceptions-reads, settles}
use Rattle.in_place.proofs.ruling_in.Goals.{After-bit_at, After-services_at-services, After-groups_at-groups, In-Identity, In-Number, Start}
use Rattle.in_place.proofs.ruling_in.Goals as goal

-- ---- services

ack : (c : Start) → Parts c.args.s.now c.requires.found c.requires.end
ack c = parts _ _ c.requires.read c.requires.kind c.requires.single

bit : (c : After-bit_at) → c.bit_at.result < 2
bit c = rw c.bit_at.ensures (value-take-fits 1 1 (drop 39 (bits c.args.s.now)) (omega arith))

place : (c : After-bit_at) → 45 + 24 * c.bit_at.result ≡ (ack (goal.at.After-bit_at c).Start).services-at
place c = sym ((ack (goal.at.After-bit_at c).Start).place _ c.bit_at.ensures)

pub services_at-services-requires : goal.services_at-services-requires
services_at-services-requires c =
    let a = ack (goal.at.After-bit_at c).Start in
    record { few = c.requires.few; reads = record { value = c.requires.found.services; end = a.lists_at; read = rw (place c) a.served } }

served : (c : After-services_at-services) →
    let service = c.services_at-services.result in
    (service.has ≡ covered c.requires.found.services c.args.request.service)
    × (service.end ≡ (ack (goal.at.After-services_at-services c).Start).lists_at)
served c =
    let b = (goal.at.After-services_at-services c).After-bit_at in
    says_is c.services_at-services.ensures (rw (← place b) at (ack (goal.at.After-services_at-services c).Start).served)

pub returns-then-not-services : goal.returns-then-not-services
returns-then-not-services c =
    let has = (served (goal.at.returns-then-not-services c).After-services_at-services).0 in
    record {
      found = c.requires.found;
      end = c.requires.end;
      read = c.requires.read;
      says = unlisted _ _ _ (said-no has (not-true _ c.if-not-services.true));
    }

-- ---- the lists, which begin where the services end

listed : (c : After-services_at-services)
    → Read (part_of c.requires.found.figures.result) (bits c.args.s.now) c.services_at-services.result.end c.requires.found.lists c.requires.end
listed c = rw (served c).1 (ack (goal.at.After-services_at-services c).Start).listed

pub groups_at-groups-requires : goal.groups_at-groups-requires
groups_at-groups-requires c =
    let l = listed (goal.at.groups_at-groups-requires c).After-services_at-services in
    let g = grouped _ c.requires.part l in
    record { few = c.requires.few; reads = record { value = c.requires.found.lists.groups; end = g.end; read = g.groups } }

covers : (c : After-groups_at-groups) → covered c.requires.found.services c.args.request.service ≡ true
covers c =
    said-yes (served (goal.at.After-groups_at-groups c).After-services_at-services).0 (not-false _ c.if-not-services.false)

-- ---- of identities

lists : (c : In-Identity) → let l = c.requires.found.lists in
    PartLists (identities of.Identities) (bits c.args.s.now) c.services_at-services.result.end l.groups l.restricted l.exceptions
unfolding part_for
lists c = identity-lists (c.requires.part ∙ ap part_for c.in-Identity.is) (listed (goal.at.In-Identity c).After-services_at-services)

pub identities_at-restricted-requires : goal.identities_at-restricted-requires
identities_at-restricted-requires c =
    let q = c.args.request in
    let l = lists (goal.at.identities_at-restricted-requires c).In-Identity in
    record { few = c.requires.few; reads = restricted-reads q.user.network c.requires.found q l c.groups_at-groups.ensures }

pub identities_at-exceptions-requires : goal.identities_at-exceptions-requires
identities_at-exceptions-requires c =
    let q = c.args.request in
    let l = lists (goal.at.identities_at-exceptions-requires c).In-Identity in
    record {
      few = c.requires.few;
      reads = exceptions-reads q.user.network c.requires.found q l c.groups_at-groups.ensures c.identities_at-restricted.ensures;
    }

pub returns-in-Identity : goal.returns-in-Identity
returns-in-Identity c =
    let r = c.requires.found in
    let q = c.args.request in
    let l = lists (goal.at.returns-in-Identity c).In-Identity in
    record {
      found = r;
      end = c.requires.end;
      read = c.requires.read;
      says = c.settled.ensures
          ∙ settles q.user.network r q l c.groups_at-groups.ensures c.identities_at-restricted.ensures c.identities_at-exceptions.ensures
          (covers (goal.at.returns-in-Identity c).After-groups_at-groups) (by-identity q.user.network r.lists q.digits c.in-Identity.is);
    }

-- ---- of numbers

number-parts : (c : In-Number) → let l = c.requires.found.lists in
    PartLists externals (bits c.args.s.now) c.services_at-services.result.end l.groups l.numbers l.excepted
unfolding part_for
number-parts c = number-lists (c.requires.part ∙ ap part_for c.in-Number.is) (listed (goal.at.In-Number c).After-services_at-services)

pub numbers_at-restricted-requires : goal.numbers_at-restricted-requires
numbers_at-restricted-requires c =
    let q = c.args.request in
    let l = number-parts (goal.at.numbers_at-restricted-requires c).In-Number in
    record { few = c.requires.few; reads = restricted-reads q.user.network c.requires.found q l c.groups_at-groups.ensures }

pub numbers_at-exceptions-requires : goal.numbers_at-exceptions-requires
numbers_at-exceptions-requires c =
    let q = c.args.request in
    let l = number-parts (goal.at.numbers_at-exceptions-requires c).In-Number in
    record {
      few = c.requires.few;
      reads = exceptions-reads q.user.network c.requires.found q l c.groups_at-groups.ensures c.numbers_at-restricted.ensures;
    }

pub returns-in-Number : goal.returns-in-Number
returns-in-Number c =
    let r = c.requires.found in
    let q = c.args.request in
    let l = number-parts (goal.at.returns-in-Number c).In-Number in
    record {
      found = r;
      end = c.requires.end;
      read = c.requires.read;
      says = c.settled-in-Number.ensures
          ∙ settles q.user.network r q l c.groups_at-groups.ensures c.numbers_at-restricted.ensures c.numbers_at-exceptions.ensures
          (covers (goal.at.returns-in-Number c).After-groups_at-groups) (by_number q.user.network r.lists q.digits c.in-Number.is);
    }

pub overflow_mul-bit_at : goal.overflow_mul-bit_at
overflow_mul-bit_at c = omega (arith, bit c)

pub overflow_add-bit_at : goal.overflow_add-bit_at
overflow_add-bit_at c = omega (arith, bit c)
