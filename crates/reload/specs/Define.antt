-- What may be asked for, the PDU that puts a part back, and whether the notes of its table let the part's lists stand in it.
use Rattle.std.specs.Prelude.{Bool, ◌&&◌, ℕ, leb, eqb}
use Rattle.bits.specs.Bits.{pick}
use Rattle.grammar.specs.SiteSheet.{defined_part}
use Rattle.grammar.specs.Figures.{of_definition}
use Rattle.grammar.specs.declared.record.Lists.{Lists}
use Rattle.grammar.specs.declared.record.Record.{Record}
use Rattle.reload.specs.declared.Definition.{Definition}
use Rattle.reload.specs.declared.Target.{Target}
use Rattle.reload.specs.declared.Target.TheVariants.{Define, DefineExternal}

-- addition, replacement or removal (table 28), delivery requested or not (table 30), an acknowledgement (table 19) only with delivery
-- (note 3 of tables 10 and 12)
unfoldable pub is_definition : Definition → Bool
is_definition d = leb d.definition 2 && (leb d.delivery 1 && leb d.acknowledgement d.delivery)

-- the PDU type (table 23), and the part whose lists it has: a DEFINE those of identities (table 10), a DEFINE EXTERNAL those of numbers (table 12)
abbrev pub kind_of : Target → ℕ
kind_of Define = 5
kind_of DefineExternal = 7

abbrev pub part_for : Target → ℕ
part_for Define = 1
part_for DefineExternal = 2

-- the PDU that puts a part back: the affected user, the services and the lists as held
unfoldable pub define_of : Target → Definition → Record → Record
define_of t d part = record {
  kind = kind_of t;
  affected = part.affected;
  figures = of_definition d.delivery d.acknowledgement d.definition;
  services = part.services;
  lists = part.lists;
}

-- lists are empty: those of identities, those of numbers
abbrev pub no_identities : Lists → Bool
no_identities l = eqb l.restricted.code 0 && eqb l.exceptions.code 0

abbrev pub no_numbers : Lists → Bool
no_numbers l = eqb l.numbers.code 0 && eqb l.excepted.code 0

-- every list that is not empty is one of a part: groups and identities of part 1, groups and numbers of part 2, none of another
unfoldable pub stands_in : ℕ → Lists → Bool
stands_in part l =
    pick (eqb part 1) (no_numbers l) (pick (eqb part 2) (no_identities l) (eqb l.groups.code 0 && (no_identities l && no_numbers l)))

-- the table has places for the lists of its own part, and under removal for none (note 4)
abbrev pub stands : Target → ℕ → Lists → Bool
stands t definition = stands_in (defined_part (part_for t) definition)
