-- What the arrays and bytes of the code's structs make sure of: every list is as long as its array, and lengths and digits of numbers are bytes.
use Rattle.std.specs.Prelude.{◌≡◌, ◌∷◌, ◌<◌, length}
use Rattle.bits.specs.Bits.{Bytes}
use Rattle.bits.specs.Lists.{Each}
use Rattle.grammar.specs.declared.record.Identities.{Identities}
use Rattle.grammar.specs.declared.record.Number.{Number}
use Rattle.grammar.specs.declared.record.Numbers.{Numbers}
use Rattle.grammar.specs.declared.record.Lists.{Lists}
use Rattle.grammar.specs.declared.record.Record.{Record}
use Rattle.rules.specs.Request.{digits_used}
use Rattle.rules.specs.declared.request.Request.{Request}

pub record SizedNumber (e : Number) : Type 0 where
  pub digits : length e.digits ≡ 24
  pub bytes : Bytes (e.length.0 ∷ e.digits)

abbrev pub SizedNumbers : Numbers → Type 0
SizedNumbers l = (length l.entries ≡ 8) × Each SizedNumber l.entries

abbrev pub SizedIdentities : Identities → Type 0
SizedIdentities l = length l.entries ≡ 8

pub record SizedLists (l : Lists) : Type 0 where
  pub groups : SizedIdentities l.groups
  pub restricted : SizedIdentities l.restricted
  pub exceptions : SizedIdentities l.exceptions
  pub numbers : SizedNumbers l.numbers
  pub excepted : SizedNumbers l.excepted

pub record SizedRecord (r : Record) : Type 0 where
  pub affected : SizedIdentities r.affected
  pub services : length r.services.list ≡ 7
  pub lists : SizedLists r.lists

pub record SizedRequest (q : Request) : Type 0 where
  pub digits : length q.digits ≡ 24
  pub bytes : Bytes q.digits
  pub used : digits_used q.destination < 256
