-- What the walk's own functions need, and what they say of the part of a PDU that they pass.
use Rattle.std.specs.Prelude.{◌≡◌, Bool, not, ◌&&◌, List, ℕ, ◌+◌, ◌≤◌, length, take, drop, Option}
use Rattle.bits.specs.Bits.{bits, pick}
use Rattle.bits.specs.Frame.{bytes_for}
use Rattle.codec.specs.Codec.{Codec}
use Rattle.codec.specs.Reading.{got, read_at}
use Rattle.grammar.specs.Grammar.{pdu}
use Rattle.grammar.specs.declared.record.Record.{Record}
use Rattle.reader.specs.Inner.{Read, Reads}
use Rattle.reader.specs.Read.{found_in, read_is}
use Rattle.rules.specs.Rule.{is_empty, missing_in, six_rules, allowed, barred}
use Rattle.rules.specs.declared.Cause.{Cause}
use Rattle.rules.specs.declared.Cause.TheVariants.{OutsideGroup, RestrictedService, RestrictedAddress}
use Rattle.rules.specs.declared.request.Request.{Request}
use Rattle.archive.specs.Reading.{home_of}
use Rattle.barring.specs.Decide.{part_for}
use Rattle.in_place.specs.declared.Passed.{Passed}
use Rattle.in_place.specs.declared.Seen.{Seen}

-- c can be passed: the PDU has at most 512 bytes, and c is read at a place
pub record Walkable {A : Type 0} (c : Codec A) (s : List ℕ) (at : ℕ) : Type 0 where
  pub few : length s ≤ 512
  pub reads : Reads c (bits s) at

-- c is read from `at` to `end`, and `has` is what a test says of its value
pub record Says {A : Type 0} (c : Codec A) (test : A → Bool) (s : List Bool) (at : ℕ) (has : Bool) (end : ℕ) : Type 0 where
  pub value : A
  pub read : Read c s at value end
  pub says : has ≡ test value

-- the list c is read at a place: what a test says of it, whether it is empty, and where it ends
pub record Sees {A : Type 0} (c : Codec A) (test : A → Bool) (code : A → ℕ) (s : List Bool) (at : ℕ) (seen : Seen) : Type 0 where
  pub value : A
  pub read : Read c s at value seen.end
  pub has : seen.has ≡ test value
  pub empty : seen.empty ≡ is_empty (code value)

-- what was said of all its entries, said of a list of a range type
abbrev pub seen : Passed → ℕ → Seen
seen p code = record { has = p.has; empty = is_empty code; end = p.end }

-- nothing is read where a list has no entry
pub record Blank {A : Type 0} (none : Codec A) : Type 0 where
  pub value : A
  pub read : (s : List Bool) (at : ℕ) → read_at none s at ≡ got value at

-- rules 2 to 6, by what the lists say: the group list has the call's group, or is empty; the restricted list has the destination, or is empty;
-- the exceptions have it
unfoldable pub settled_by : Bool → Bool → Bool → Bool → Bool → Option Cause
settled_by grouped groupless restricted unrestricted excepted =
    pick excepted allowed
    (pick restricted (barred RestrictedAddress)
    (pick (not groupless && not grouped) (barred OutsideGroup)
    (pick (groupless && unrestricted) (barred RestrictedService)
    allowed)))

-- the PDU of a part that judges a request: an INTERROGATE ACK with one affected user, whose result is the part
pub record Judging (s : List ℕ) (q : Request) : Type 0 where
  pub few : length s ≤ 512
  pub found : Record
  pub end : ℕ
  pub read : Read pdu (bits s) 0 found end
  pub kind : found.kind ≡ 12
  pub single : found.affected.code ≡ 1
  pub part : found.figures.result ≡ part_for q.destination

-- what the six rules say of the record that is read, where a missing extension means the network of the request's user
pub record Ruled (s : List ℕ) (q : Request) (ruling : Option Cause) : Type 0 where
  pub found : Record
  pub end : ℕ
  pub read : Read pdu (bits s) 0 found end
  pub says : ruling ≡ six_rules q.user.network found q

-- the same of the body of n bits at a place of an archive, filed under the request's user
pub record JudgingAt (b : List ℕ) (at n : ℕ) (q : Request) : Type 0 where
  pub inside : at + bytes_for n ≤ length b
  pub body : Judging (take (bytes_for n) (drop at b)) q
  pub same : found_in (read_is (take (bytes_for n) (drop at b)) n) ≡ body.found
  pub network : missing_in (home_of b) body.found ≡ q.user.network
