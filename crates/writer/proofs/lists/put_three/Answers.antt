-- One list after another. Assumes nothing.
use Rattle.writer.proofs.Puts.{room-first, room_next, put_then}
use Rattle.writer.proofs.Listed.{each-any}
use Rattle.writer.proofs.lists.put_three.Goals as goal

pub put_list-after_groups-requires : goal.put_list-after_groups-requires
put_list-after_groups-requires g c = (c.requires.groups_there, each-any _, room-first _ c.requires.room)

pub put_list-after_restricted-requires : goal.put_list-after_restricted-requires
put_list-after_restricted-requires g c = (
  c.requires.restricted_there.0,
  c.requires.restricted_there.1,
  room-first _ (room_next _ c.requires.room c.put_list-after_groups.ensures),
)

pub put_list-requires : goal.put_list-requires
put_list-requires g c = (
  c.requires.exceptions_there.0,
  c.requires.exceptions_there.1,
  room_next _ (room_next _ c.requires.room c.put_list-after_groups.ensures) c.put_list-after_restricted.ensures,
)

pub returns : goal.returns
returns g c =
    put_then _ c.requires.room c.put_list-after_groups.ensures
    (λ h. put_then _ h c.put_list-after_restricted.ensures (λ k. c.put_list.ensures))
