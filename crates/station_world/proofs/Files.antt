-- What holds of a file, and that each of its events keeps it.
use Rattle.std.proofs.Common.{◌≡◌, Bool, true, false, IsTrue, List, [], ◌∷◌, ◌++◌, sym, subst}
use Rattle.std.proofs.Common.{append_assoc, append-nil, ◌∙◌}
use Rattle.archive_terms.specs.Archive.{Entry, is_archive, IsArchive, may_follow}
use Rattle.station_world.specs.File.{Phase, File, acknowledged, batch_of, with_offer, in_a_store}
use Rattle.station_world.specs.File.{with_kept, store_ended, with_batch, without_batch, refused}
use Rattle.station_world.specs.File.{Finding, reopened, without_power, recovered}
use Rattle.station_world.specs.Comes.{Begins}
use Rattle.station_world.specs.Laws.{Laws}
use Rattle.station_world.proofs.Lists.{all_of_it, and_both, front_archive}

-- each list of the file is an archive, and so are the acknowledged entries with those that wait
pub record FileStands (f : File) : Type 0 where
  pub waits : IsArchive (acknowledged f ++ f.waiting)
  pub batch : IsArchive (acknowledged f ++ batch_of f.phase)

-- an event keeps it, and what is acknowledged only grows
pub record FileGoes (f next : File) : Type 0 where
  pub stands : FileStands next
  pub grows : Begins (acknowledged f) (acknowledged next)

-- the same is acknowledged
same_kept : (f : File) (waiting : List Entry) (phase : Phase) → IsArchive (acknowledged f ++ waiting)
    → IsArchive (acknowledged f ++ batch_of phase)
    → FileGoes f (record f { waiting = waiting; phase = phase })
same_kept f waiting phase waits batch =
    record { stands = record { waits = waits; batch = batch }; grows = all_of_it (acknowledged f) }

-- more is
more_kept : (f : File) (entries : List Entry) → IsArchive (acknowledged f ++ entries)
    → FileGoes f (with_kept f entries)
more_kept f entries archive =
    let is : f.found ++ (f.kept ++ entries) ≡ acknowledged f ++ entries =
    sym (append_assoc f.found f.kept entries) in
    let whole : IsArchive ((f.found ++ (f.kept ++ entries)) ++ []) =
    subst IsArchive (sym (append-nil (f.found ++ (f.kept ++ entries))))
    (subst IsArchive (sym is) archive) in
    record { stands = record { waits = whole; batch = whole }; grows = (entries, is) }

-- the acknowledged entries alone
pub kept_alone : Laws → (f : File) → FileStands f → IsArchive (acknowledged f)
kept_alone laws f old = front_archive laws.grows (acknowledged f) f.waiting old.waits

alone : Laws → (f : File) → FileStands f → IsArchive (acknowledged f ++ [])
alone laws f old = subst IsArchive (sym (append-nil (acknowledged f))) (kept_alone laws f old)

pub by_offer : Laws → (f : File) (entry : Entry) → IsTrue (may_follow (acknowledged f ++ f.waiting) entry)
    → FileStands f → FileGoes f (with_offer f entry)
by_offer laws f entry follows old =
    let before : List Entry = acknowledged f ++ f.waiting in
    same_kept f (f.waiting ++ entry ∷ []) f.phase
    (subst IsArchive (append_assoc (acknowledged f) f.waiting (entry ∷ []))
    (subst IsTrue (sym (laws.grows before entry))
    (and_both (is_archive before) (may_follow before entry) old.waits follows)))
    old.batch

pub by_begin : (f : File) → FileStands f → FileGoes f (in_a_store f)
by_begin f old = same_kept f f.waiting _ old.waits old.waits

pub by_end : (f : File) (good : Bool) → FileStands f → FileGoes f (store_ended f good)
by_end f true old = more_kept f (batch_of f.phase) old.batch
by_end f false old = same_kept f f.waiting _ old.waits old.batch

pub by_reopen : Laws → (f : File) (finding : Finding) → FileStands f
    → FileGoes f (reopened f finding)
by_reopen laws f with_batch old = more_kept f (batch_of f.phase) old.batch
by_reopen laws f without_batch old = more_kept f [] (alone laws f old)
by_reopen laws f refused old = same_kept f f.waiting f.phase old.waits old.batch

pub by_power : Laws → (f : File) → FileStands f → FileGoes f (without_power f)
by_power laws f old = same_kept f [] _ (alone laws f old) old.batch

-- a recovery finds an archive that begins with all that was acknowledged
pub by_recovery : (f : File) (entries : List Entry) → Begins (acknowledged f) entries
    → IsArchive entries → FileGoes f (recovered entries)
by_recovery f entries more archive =
    let is : entries ++ [] ≡ entries = append-nil entries in
    let whole : IsArchive ((entries ++ []) ++ []) =
    subst IsArchive (sym (append-nil (entries ++ []) ∙ is)) archive in
    record { stands = record { waits = whole; batch = whole }; grows = (more.0, is ∙ more.1) }
