use Rattle.std.proofs.Common.{◌∙◌, ◌++◌, ◌∷◌, [], ap, sym}
use Rattle.record_form.specs.Entry.{entry_of}
use Rattle.rehearsal.specs.Frames.{frames}
use Rattle.rehearsal.proofs.Archives.{frames-more}
use Rattle.rehearsal.proofs.archive.Archive.rehearsed.Goals as goal

pub loop-i-preserved : goal.loop-i-preserved
loop-i-preserved c =
    c.in_ok-store.ensures.ok
    ∙ ap (λ stored. stored ++ entry_of c.in_ok-frame.field-0 ∷ []) c.loop-i.invariant
    ∙ ap (λ entry. frames c.loop-i.i ++ entry ∷ []) c.in_ok-frame.ensures
    ∙ sym (frames-more c.loop-i.i)
