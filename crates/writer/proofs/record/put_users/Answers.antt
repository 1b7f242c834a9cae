-- There, or not. Assumes nothing.
use Rattle.grammar.specs.declared.site.ListKind.TheVariants.{Users}
use Rattle.grammar.proofs.Sizes.{size-no_identities}
use Rattle.writer.proofs.Puts.{room_as, put_as, put-none}
use Rattle.writer.proofs.Listed.{each-any, identities-print}
use Rattle.writer.proofs.record.put_users.Goals as goal

pub put_list-requires : goal.put_list-requires
put_list-requires c =
    (c.requires.0, each-any _, room_as (identities-print _ Users) (rw c.if-users.true at c.requires.1))

pub returns-then-users : goal.returns-then-users
returns-then-users c = rw c.if-users.true (put_as (identities-print _ Users) c.put_list.ensures)

pub returns : goal.returns
returns c = rw c.if-users.false (put-none size-no_identities)
