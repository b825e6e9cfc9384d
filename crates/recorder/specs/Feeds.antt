-- What a source of entries answers, as contracts see it. This product's own rule.
use Rattle.std.specs.Prelude.{Bool, true, false, IsTrue}
use Rattle.archive_terms.specs.Archive.{Entry, is_valid}
use Rattle.record_form.specs.Entry.{entry_of}
use Rattle.recorder.specs.declared.frame_source.Feed.{Feed}
use Rattle.recorder.specs.declared.frame_source.Feed.TheVariants as feed

-- an answer: an entry, none yet, none any more, a fault, or want of memory
pub data Answer : Type 0 where
  gave : Entry → Answer
  not_yet : Answer
  at_end : Answer
  failed : Answer
  wants_memory : Answer

abbrev pub answer_of : Feed → Answer
answer_of (feed.Entry entry) = gave (entry_of entry)
answer_of feed.NotYet = not_yet
answer_of feed.End = at_end
answer_of feed.Failed = failed
answer_of feed.Memory = wants_memory

-- an entry that is given is valid, but a frame may be longer than an archive takes
abbrev pub IsValidFeed : Feed → Type 0
IsValidFeed (feed.Entry entry) = IsTrue (is_valid (entry_of entry))
IsValidFeed _ = Unit {0}

-- the answers at which the count of faults goes up
abbrev pub is_failed : Feed → Bool
is_failed feed.Failed = true
is_failed _ = false
