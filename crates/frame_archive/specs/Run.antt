-- What happened to an archive since its file was opened, call by call, and what its file may stand
-- for then.
use Rattle.std.specs.Prelude.{ℕ, ◌≡◌, Option, List, [], ◌++◌, length, take}
use Rattle.archive_terms.specs.Archive.{Entry}
use Rattle.disk_model.specs.Images.{Pending}
use Rattle.frame_archive.specs.State.{ArchiveState, failed_batch, with_failed}
use Rattle.frame_archive.specs.Acknowledges.{Acknowledges}

-- The entries that the file was opened with, those acknowledged since, by a store or as landed, and
-- those given to a store that failed, which no reopen has told as landed or lost yet.
pub record Course : Type 0 where
  pub found : List Entry
  pub kept : List Entry
  pub unsettled : List Entry

-- just opened
abbrev pub opened_with : List Entry → Course
opened_with entries = record { found = entries; kept = []; unsettled = [] }

-- all that is acknowledged
abbrev pub acknowledged : Course → List Entry
acknowledged course = course.found ++ course.kept

-- what was given to stores since the file was opened, without those named lost
abbrev pub given : Course → List Entry
given course = course.kept ++ course.unsettled

-- a store or a reopen acknowledged these, and told any others of a failed store as lost
abbrev pub with_kept : Course → List Entry → Course
with_kept course entries = record course { kept = course.kept ++ entries; unsettled = [] }

-- a store of these failed
abbrev pub with_unsettled : Course → List Entry → Course
with_unsettled course entries = record course { unsettled = entries }

-- what one archive acknowledges another does, with these entries behind it
abbrev pub Adds : {D : Type 0} → (D → Option Pending) → ArchiveState D → ArchiveState D → List Entry
    → Type 0
Adds pending old new more = (entries : List Entry) → Acknowledges pending old entries
    → Acknowledges pending new (entries ++ more)

-- an archive acknowledges what another does
abbrev pub Keeps : {D : Type 0} → (D → Option Pending) → ArchiveState D → ArchiveState D → Type 0
Keeps pending old new = (entries : List Entry) → Acknowledges pending old entries
    → Acknowledges pending new entries

-- Any list of calls of an archive, from its opening on, by what the calls ensure.
pub data Run {D : Type 0} (pending : D → Option Pending) : ArchiveState D → Course → Type 0 where
  -- the file was opened
  opened : (archive : ArchiveState D) (entries : List Entry) → Acknowledges pending archive entries
      → archive.waiting ≡ []
      → Run pending archive (opened_with entries)
  -- an offer, taken or refused, a store that was stale or wanted memory, or a reopen that was
  -- refused
  offered : (old new : ArchiveState D) (course : Course) → Run pending old course
      → Keeps pending old new → failed_batch new ≡ failed_batch old
      → Run pending new course
  -- a store answered Ok
  stored : (old new : ArchiveState D) (course : Course) → Run pending old course
      → Adds pending old new old.waiting → new.waiting ≡ []
      → Run pending new (with_kept course old.waiting)
  -- a store answered DiskFault
  failed : (old new : ArchiveState D) (course : Course) → Run pending old course
      → Keeps pending old new → new ≡ with_failed old new.disk
      → Run pending new (with_unsettled course old.waiting)
  -- a reopen told what landed, and all else as lost
  reopened : (old new : ArchiveState D) (course : Course) (landed : List Entry)
      → Run pending old course → Adds pending old new landed → new.waiting ≡ []
      → Run pending new (with_kept course landed)

-- A list begins with all that was acknowledged, and is what the file was opened with, followed by a
-- prefix of what was given to stores since then, without those named lost.
pub record IsOf (course : Course) (entries : List Entry) : Type 0 where
  pub begins : take (length (acknowledged course)) entries ≡ acknowledged course
  pub count : ℕ
  pub prefix : entries ≡ course.found ++ take count (given course)
