use Rattle.std.proofs.Common.{IsTrue, List, subst}
use Rattle.std.proofs.lemmas.List.Elements.{All-tail}
use Rattle.archive_terms.specs.Archive.{is_valid}
use Rattle.record_form.specs.declared.entry.Entry.{Entry}
use Rattle.record_form.specs.Entry.{entry_of}
use Rattle.recorder.specs.MemoryFrames.{AreValid}
use Rattle.recorder.proofs.memory_frames.MemoryFramesFrameSource.next.Goals as goal

pub invariant_of-self-in-Some : goal.invariant_of-self-in-Some
invariant_of-self-in-Some c =
    All-tail (λ (entry : Entry). IsTrue (is_valid (entry_of entry))) c.in-Some.entry
    c.pop_front.new.self.items
    (subst (λ (entries : List Entry). AreValid entries) c.in-Some.ensures.items c.self.invariant)
