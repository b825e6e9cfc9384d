use Rattle.frame_archive.proofs.Placing.{sound_stale}
use Rattle.frame_archive.proofs.archive.FrameArchive.open_anew.Goals as goal

pub invariant_of-self : goal.invariant_of-self
invariant_of-self g c =
    let inside = c.self.inside in
    let during = c.recover_again.ensures.any_moment in
    sound_stale c.a_file_stands_for_one_list.ensures.list g.D.Disk.pending inside.journal
    c.recover_again.new.self inside.capacity inside.count inside.used inside.failed inside.octets
    inside.times inside.waiting inside.is_stale c.recover_again.ensures.at_rest
    c.recover_again.ensures.tells (λ image is. during.each image
    (c.images_at_a_moment.ensures.counts_now c.recover_again.new.self.disk _ image during.later
    is)) c.self.invariant
