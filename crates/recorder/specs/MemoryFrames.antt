-- The source of entries in memory, as contracts see it. This product's own rule.
use Rattle.std.specs.Prelude.{ℕ, Bool, true, false, if◌then◌else◌, Option, Some, None, List, [], ◌∷◌}
use Rattle.std.specs.Prelude.{◌++◌, map, option_map, IsTrue}
use Rattle.std.specs.List.{All}
use Rattle.octet_core.specs.FailingCalls.{Calls, fails_next, after_call}
use Rattle.archive_terms.specs.Archive.{is_valid}
use Rattle.record_form.specs.Entry.{entry_of}
use Rattle.record_form.specs.declared.entry.Entry.{Entry}
use Rattle.recorder.specs.declared.frame_source.Feed.{Feed}
use Rattle.recorder.specs.declared.frame_source.Feed.TheVariants as feed
use Rattle.recorder.specs.Feeds.{Answer, answer_of}

-- the entries that came and weren't given yet, whether none comes any more, which of all calls
-- fail, the answers that it tells, and the count of faults
pub record FramesState : Type 0 where
  pub waiting : List Entry
  pub is_ended : Bool
  pub failing : Calls
  pub told : Option (List Feed)
  pub faults : ℕ

-- the entries that came are valid
abbrev pub AreValid : List Entry → Type 0
AreValid entries = All (λ entry. IsTrue (is_valid (entry_of entry))) entries

-- none came yet, and these calls are to fail
abbrev pub before_any : List ℕ → FramesState
before_any calls = record {
  waiting = [];
  is_ended = false;
  failing = record { failing = calls; made = 0 };
  told = Some [];
  faults = 0;
}

-- an entry came behind the others
abbrev pub with_entry : FramesState → Entry → FramesState
with_entry frames entry = record frames { waiting = frames.waiting ++ entry ∷ [] }

-- the answers that were kept, or none once memory was refused to them
abbrev pub told_of : Bool → List Feed → Option (List Feed)
told_of tells answers = if tells then Some answers else None

-- the answers that it tells
abbrev pub answers_of : FramesState → Option (List Answer)
answers_of frames = option_map (λ told. map answer_of told) frames.told

-- what is answered where no fault comes: the entry that came first, and behind the last one that
-- none has come yet, or that none comes any more
abbrev pub next_of : List Entry → Bool → Feed
next_of (entry ∷ entries) is_ended = feed.Entry entry
next_of [] true = feed.End
next_of [] false = feed.NotYet

abbrev pub rest_of : List Entry → List Entry
rest_of (entry ∷ entries) = entries
rest_of [] = []

abbrev pub answer_by : FramesState → Feed
answer_by frames = if fails_next frames.failing then feed.Failed
    else next_of frames.waiting frames.is_ended

-- a call that fails takes no entry
abbrev pub left_by : FramesState → List Entry
left_by frames = if fails_next frames.failing then frames.waiting else rest_of frames.waiting

-- a call was made, behind which this is told, and so many faults are counted
abbrev pub after_next : FramesState → Option (List Feed) → ℕ → FramesState
after_next frames told faults = record {
  waiting = left_by frames;
  is_ended = frames.is_ended;
  failing = after_call frames.failing;
  told = told;
  faults = faults;
}
