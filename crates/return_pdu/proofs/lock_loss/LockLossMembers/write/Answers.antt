use Rattle.return_pdu.proofs.Rooms.{room_first, room_behind}
use Rattle.return_pdu.proofs.lock_loss.LockLossMembers.write.Goals as goal

pub write-requires-2-clause-room : goal.write-requires-2-clause-room
write-requires-2-clause-room c κs =
    room_first _ _ _ (room_behind _ _ _ _ c.requires.room c.write.ensures)

pub write-requires-3-clause-room : goal.write-requires-3-clause-room
write-requires-3-clause-room c κs =
    let one = room_behind _ _ _ _ c.requires.room c.write.ensures in
    room_first _ _ _ (room_behind _ _ _ _ one c.write-2.ensures)

pub write-requires-4-clause-room : goal.write-requires-4-clause-room
write-requires-4-clause-room c κs =
    let one = room_behind _ _ _ _ c.requires.room c.write.ensures in
    let two = room_behind _ _ _ _ one c.write-2.ensures in
    room_first _ _ _ (room_behind _ _ _ _ two c.write-3.ensures)
