use Rattle.std.proofs.Common.{refl}
use Rattle.frame_archive.proofs.Placing.{restarted_images, sound_stale}
use Rattle.frame_archive.proofs.archive.FrameArchive+MemoryDisk.restart.Goals as goal

pub invariant_of-self : goal.invariant_of-self
invariant_of-self c =
    let inside = c.self.inside in
    let done = c.restart.ensures in
    sound_stale c.a_file_stands_for_one_list.ensures.list _ inside.journal c.restart.new.self
    inside.capacity inside.count inside.used inside.failed inside.octets inside.times
    inside.waiting inside.is_stale done.at_rest refl
    (restarted_images c.restart.result inside.journal.disk c.restart.new.self.disk done.ok done.err
    done.image) c.self.invariant
