-- What an archive is between two stores.
use Rattle.std.specs.Prelude.{◌≡◌, false, []}
use Rattle.frame_archive.specs.State.{ArchiveState}

-- nothing waits, and no store has failed
abbrev pub Rests : {D : Type 0} → ArchiveState D → Type 0
Rests archive = (archive.waiting ≡ []) × (archive.is_stale ≡ false)
