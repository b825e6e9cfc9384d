use Rattle.return_pdu.proofs.Rooms.{room_first, room_behind}
use Rattle.return_pdu.proofs.raf_start.RafStartMembers.write.Goals as goal

pub write-requires-5-clause-room : goal.write-requires-5-clause-room
write-requires-5-clause-room c κs =
    let one = room_behind _ _ _ _ c.requires.room c.write.ensures in
    let two = room_behind _ _ _ _ one c.write-2.ensures in
    let three = room_behind _ _ _ _ two c.write-3.ensures in
    room_first _ _ _ (room_behind _ _ _ _ three c.write-4.ensures)
