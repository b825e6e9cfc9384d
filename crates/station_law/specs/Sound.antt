-- The facts that each line brings. The promises of a whole script follow from these alone
-- (specs/Once.antt), whatever the lines are.
use Rattle.std.specs.Prelude.{◌≡◌, ℕ, ◌+◌, Bool, true, false, List, [], ◌++◌, take}
use Rattle.archive_terms.specs.Archive.{Entry, IsArchive}
use Rattle.script_store.specs.Store.{Store}
use Rattle.script_store.specs.Said.{Handed, handed_by, buffers_handed, buffers_told}
use Rattle.script_store.specs.Answer.{Answer}

-- What is kept from line to line: the published entries are an archive, and the file stands for
-- them alone.
pub record IsSound (state : Store) : Type 0 where
  pub archive : IsArchive state.published
  pub settled : state.unsettled ≡ []

-- What becomes of the published entries. A recovery finds all of them, and then the first of what
-- the line gave to stores; any other line adds all that it gave.
abbrev pub Moves : Bool → List Entry → List Entry → List Entry → Type 0
Moves true before given after = (count : ℕ) × (after ≡ before ++ take count given)
Moves false before given after = after ≡ before ++ given

-- The facts of a line, beside its text: the invariant holds behind it; the published entries only
-- grow, or are what a recovery found; and each buffer that the line tells as handed over is a
-- START's.
pub record Keeps (before : Store) (answer : Answer Store) : Type 0 where
  pub sound : IsSound answer.next
  pub moves : Moves answer.recovers before.published answer.given answer.next.published
  pub whole : (starts : List Handed)
      → buffers_handed (handed_by starts answer.said)
      ≡ buffers_handed starts + buffers_told answer.said
