use Rattle.std.proofs.Common.{⊎_elim, sym, ap, subst, ◌∙◌, ◌≡◌, ◌+◌, ◌-◌, true, List, take, IfSome}
use Rattle.std.proofs.lemmas.Result.{err_from_is_err_and}
use Rattle.archive_terms.specs.Archive.{Entry}
use Rattle.frame_archive.specs.State.{ArchiveState, times_of, wanted}
use Rattle.frame_archive.specs.Acknowledges.{Acknowledges, IsSound}
use Rattle.frame_archive.proofs.Holding.{acknowledges_found, either_of, landed_are, neither_is}
use Rattle.frame_archive.proofs.Holding.{stands_for, stands_one, unread_opening}
use Rattle.frame_archive.proofs.Placing.{placed_now, sound_stale, used_found}
use Rattle.frame_archive.proofs.archive.FrameArchive.reopen.Goals as goal

pub invariant_of-self : goal.invariant_of-self
invariant_of-self g c =
    let inside = c.self.inside in
    let during = c.recover_again.ensures.any_moment in
    sound_stale c.a_file_stands_for_one_list.ensures.list g.D.Disk.pending inside.journal
    c.recover_again.new.self inside.capacity inside.count inside.used inside.failed inside.octets
    inside.times inside.waiting inside.is_stale c.recover_again.ensures.at_rest
    c.recover_again.ensures.tells (λ image is. during.each image
    (c.images_at_a_moment.ensures.counts_now c.recover_again.new.self.disk _ image during.later
    is)) c.self.invariant

pub invariant_of-self-in_err-landed : goal.invariant_of-self-in_err-landed
invariant_of-self-in_err-landed g c =
    let inside = c.self.inside in
    let during = c.recover_again.ensures.any_moment in
    sound_stale c.a_file_stands_for_one_list.ensures.list g.D.Disk.pending inside.journal
    c.recover_again.new.self inside.capacity inside.count inside.used inside.failed inside.octets
    inside.times inside.waiting inside.is_stale c.recover_again.ensures.at_rest
    c.recover_again.ensures.tells (λ image is. during.each image
    (c.images_at_a_moment.ensures.counts_now c.recover_again.new.self.disk _ image during.later
    is)) c.self.invariant

pub invariant_of-self-in_err-lost : goal.invariant_of-self-in_err-lost
invariant_of-self-in_err-lost g c =
    let inside = c.self.inside in
    let during = c.recover_again.ensures.any_moment in
    subst (λ (waiting : List Entry). IsSound g.D.Disk.pending c.recover_again.new.self
    inside.capacity inside.count inside.used inside.failed inside.octets inside.times waiting true)
    (sym c.in_err-lost.ensures.still)
    (sound_stale c.a_file_stands_for_one_list.ensures.list g.D.Disk.pending inside.journal
    c.recover_again.new.self inside.capacity inside.count inside.used inside.failed inside.octets
    inside.times inside.waiting inside.is_stale c.recover_again.ensures.at_rest
    c.recover_again.ensures.tells (λ image is. during.each image
    (c.images_at_a_moment.ensures.counts_now c.recover_again.new.self.disk _ image during.later
    is)) c.self.invariant)

pub returns-clause-used : goal.returns-clause-used
returns-clause-used g c =
    let inside = c.self.inside in
    subst (λ (s : ArchiveState g.row.D.Denot). IfSome (g.D.Disk.pending s.disk)
    (λ _. c.used-self-inside.result ≡ s.used + wanted (take (c.len-2.result - s.count) s.waiting)))
    c.self.view_is
    (used_found c.a_file_stands_for_one_list.ensures.list c.a_file_stands_for_one_list.ensures.place
    (g.D.Disk.pending inside.journal.disk) c.in-Ok.found inside.waiting inside.count inside.used
    inside.failed c.recover_again.new.self.gate c.len-2.result c.used-self-inside.result
    c.self.invariant.waits.some_failed c.len-2.ensures c.used-self-inside.ensures
    (c.images_at_a_moment.ensures.read inside.journal.disk) c.in-Ok.ensures.stands
    (placed_now c.a_file_stands_for_one_list.ensures.list g.D.Disk.pending inside.journal
    inside.capacity inside.count inside.used inside.failed inside.octets inside.times
    inside.waiting inside.is_stale c.recover_again.ensures.at_rest c.self.invariant))

pub returns-in-Err-clause-honest : goal.returns-in-Err-clause-honest
returns-in-Err-clause-honest g c entries old =
    let seen = subst (λ (s : ArchiveState g.row.D.Denot). Acknowledges g.D.Disk.pending s entries)
    (sym c.self.view_is) old in
    let stands = stands_one g.D.Disk.pending _ entries
    (c.images_at_a_moment.ensures.read c.self.inside.journal.disk) seen in
    rw c.as_opening.ensures (unread_opening c.in-Err.fault
    (c.in-Err.ensures.standing stands.0 stands.1))

pub returns-in_err-landed-clause-honest : goal.returns-in_err-landed-clause-honest
returns-in_err-landed-clause-honest g c =
    let p = err_from_is_err_and c.from_residual.result c.from_residual.ensures.1 in
    rw (p.1, p.2) (λ entries old.
    let seen = subst (λ (s : ArchiveState g.row.D.Denot). Acknowledges g.D.Disk.pending s entries)
    (sym c.self.view_is) old in
    let is = neither_is entries c.in-Ok.found c.self.inside.waiting c.self.inside.count
    c.self.inside.failed seen.agrees.counted c.self.invariant.waits.some_failed
    (either_of c.a_file_stands_for_one_list.ensures.list g.D.Disk.pending _ entries c.in-Ok.found
    (c.images_at_a_moment.ensures.read c.self.inside.journal.disk) seen
    (stands_for (g.D.Disk.pending c.self.inside.journal.disk) c.in-Ok.found
    c.recover_again.new.self.gate c.in-Ok.ensures.stands)) in
    absurd (⊎_elim (λ same. c.in_err-landed.ensures.neither (c.len.ensures ∙ same))
    (λ same. c.in_err-landed.ensures.nor (c.len.ensures ∙ same)) is))

pub returns-clause-acknowledged : goal.returns-clause-acknowledged
returns-clause-acknowledged g c entries old =
    let seen = subst (λ (s : ArchiveState g.row.D.Denot). Acknowledges g.D.Disk.pending s entries)
    (sym c.self.view_is) old in
    let inside = c.self.inside in
    let is = either_of c.a_file_stands_for_one_list.ensures.list g.D.Disk.pending _ entries
    c.in-Ok.found (c.images_at_a_moment.ensures.read inside.journal.disk) seen
    (stands_for (g.D.Disk.pending inside.journal.disk) c.in-Ok.found c.recover_again.new.self.gate
    c.in-Ok.ensures.stands) in
    let found = landed_are entries c.in-Ok.found inside.waiting inside.count inside.failed
    c.in_ok-landed.landed seen.agrees.counted c.self.invariant.waits.some_failed
    (sym c.len.ensures ∙ c.in_ok-landed.ensures.none) is in
    acknowledges_found c.an_image_at_rest_stands_for_what_is_kept.ensures g.D.Disk.pending _ _
    entries c.in-Ok.found c.replace-landed.result c.in_ok-landed.landed
    c.len-2.ensures (c.times_of-self-inside.ensures
    ∙ ap times_of c.as_slice.ensures) (c.replace-landed.ensures.after ∙ c.new.ensures)
    (c.replace-landed.ensures.value ∙ c.in_ok-lost.ensures.landed) found c.in-Ok.ensures.keeps
    seen
