use Rattle.recorder.proofs.NoRoom.{full_has_no_room}
use Rattle.recorder.proofs.laws.a_full_entry_has_no_room.Goals as goal

pub returns : goal.returns
returns g c start before after entry need free disk is =
    full_has_no_room start before after entry need free disk is
