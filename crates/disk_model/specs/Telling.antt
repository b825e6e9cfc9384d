-- A disk tells what is pending exactly where it told it before: theorems for callers of a disk.
use Rattle.std.proofs.Common.{◌≡◌, Option, Some, None, option_map, is_some, Result, Ok, Err, OnOk}
use Rattle.std.proofs.Common.{OnErr, refl, ap, ◌∙◌}
use Rattle.disk_model.specs.Images.{Pending, after_sync}
use Rattle.disk_model.specs.Moments.{Becomes}

pub still_tells : (step : Pending → Pending → Type 0) (before after : Option Pending)
    → Becomes step before after → is_some after ≡ is_some before
still_tells step None after becomes = ap is_some becomes
still_tells step (Some told) None becomes = absurd becomes
still_tells step (Some told) (Some now) becomes = refl

some_mapped : (step : Pending → Pending) (before : Option Pending)
    → is_some (option_map step before) ≡ is_some before
some_mapped step None = refl
some_mapped step (Some told) = refl

pub mapped_tells : (step : Pending → Pending) (before after : Option Pending)
    → after ≡ option_map step before → is_some after ≡ is_some before
mapped_tells step before after is = ap is_some is ∙ some_mapped step before

pub synced_tells : {T E : Type 0} (result : Result T E) (before after : Option Pending)
    → OnOk result (after ≡ option_map after_sync before) → OnErr result (after ≡ before)
    → is_some after ≡ is_some before
synced_tells (Ok value) before after synced unsynced = mapped_tells after_sync before after synced
synced_tells (Err error) before after synced unsynced = ap is_some unsynced
