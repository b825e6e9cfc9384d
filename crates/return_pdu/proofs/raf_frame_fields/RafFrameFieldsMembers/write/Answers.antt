use Rattle.return_pdu.proofs.Rooms.{room_first, room_behind, none_written, one_written}
use Rattle.return_pdu.proofs.raf_frame_fields.RafFrameFieldsMembers.write.Goals as goal

pub write-requires-5-clause-room : goal.write-requires-5-clause-room
write-requires-5-clause-room c κs =
    let one = room_behind _ _ _ _ c.requires.room c.write.ensures in
    let two = room_behind _ _ _ _ one c.write-2.ensures in
    let three = room_behind _ _ _ _ two c.write-3.ensures in
    rw c.unwrap_or.ensures (room_first _ _ _ (room_behind _ _ _ _ three c.write-4.ensures))

pub returns : goal.returns
returns c =
    let seven = one_written _ _ _ _ _ c.write-7.ensures (none_written _) in
    let six = one_written _ _ _ _ _ c.write-6.ensures seven in
    let five = one_written _ _ _ _ _ (rw c.unwrap_or.ensures at c.write-5.ensures) six in
    let four = one_written _ _ _ _ _ c.write-4.ensures five in
    let three = one_written _ _ _ _ _ c.write-3.ensures four in
    one_written _ _ _ _ _ c.write.ensures (one_written _ _ _ _ _ c.write-2.ensures three)
