-- The times of a CLTU (CCSDS 912.1-B, CLTU-TRANSFER-DATA).
use Rattle.std.specs.Prelude.{ℕ, ◌≤◌, Bool, true, false, nat_lt, Option, Some, None, IfSome}
use Rattle.cds_time.specs.Moment.{moment_of, names_moment}
use Rattle.cds_time.specs.declared.cds.Cds.{Cds}
use Rattle.cltu_queue.specs.declared.cltu.Cltu.{Cltu}

-- the moment of a time, where the time is known
abbrev pub moment_at : Option Cds → Option ℕ
moment_at None = None
moment_at (Some time) = moment_of time

abbrev pub earliest_of : Cltu → Option ℕ
earliest_of cltu = moment_at cltu.earliest

abbrev pub latest_of : Cltu → Option ℕ
latest_of cltu = moment_at cltu.latest

-- a time that is known names a moment
abbrev pub has_moment : Option Cds → Bool
has_moment None = true
has_moment (Some time) = names_moment time

-- both are known, and the first is above the second
abbrev pub is_above : Option ℕ → Option ℕ → Bool
is_above (Some a) (Some b) = nat_lt b a
is_above _ _ = false

-- a CLTU's radiation may begin at this moment
pub record IsInWindow (cltu : Cltu) (now : ℕ) : Type 0 where
  pub not_early : IfSome (earliest_of cltu) (λ earliest. earliest ≤ now)
  pub not_late : IfSome (latest_of cltu) (λ latest. now ≤ latest)
