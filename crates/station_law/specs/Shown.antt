-- What the book behind a script holds. This product's own.
use Rattle.std.specs.Prelude.{◌≡◌, ℕ, List}
use Rattle.station_config.specs.declared.site.Site.{Site}
use Rattle.station_law.specs.State.{State, start}
use Rattle.station_law.specs.Sound.{IsSound}
use Rattle.station_law.specs.Lines.{step_text}
use Rattle.station_law.specs.Runs.{after}

-- the book has what is stored, which is an archive, and the file stands for it alone
pub record HasOneArchive (state : State) : Type 0 where
  pub sound : IsSound state.store
  pub same : state.doors.book.published ≡ state.store.published

-- behind any lines, what is published in the book is what is stored
abbrev pub HasWhatIsStored : Type 0
HasWhatIsStored =
    (site : Site) (lines : List (List ℕ))
    → (after step_text (start site) lines).doors.book.published
    ≡ (after step_text (start site) lines).store.published
