-- When a heartbeat is due and a peer is taken for dead.
use Rattle.std.specs.Prelude.{ℕ, ◌-◌, ◌*◌, ◌≤◌, ◌≢◌}
use Rattle.isp1_tml.specs.declared.beat.TheConstants.{PICOS_A_SECOND}

-- what a connection agreed on, and the moments of the last octets both ways, in picoseconds
pub record Pulse : Type 0 where
  pub interval : ℕ
  pub factor : ℕ
  pub sent : ℕ
  pub heard : ℕ

abbrev pub picos : ℕ → ℕ
picos seconds = seconds * PICOS_A_SECOND

-- nothing was sent for the interval or longer; with interval 0 there are no heartbeats
abbrev pub IsDue : Pulse → ℕ → Type 0
IsDue p now = (p.interval ≢ 0) × (picos p.interval ≤ now - p.sent)

-- nothing was heard for the interval times the factor, or longer; with interval 0 there is no dead
-- timer
abbrev pub IsDead : Pulse → ℕ → Type 0
IsDead p now = (p.interval ≢ 0) × (picos (p.interval * p.factor) ≤ now - p.heard)

-- a beat that sent and heard its last octets at this moment
abbrev pub beat_at : ℕ → ℕ → ℕ → Pulse
beat_at interval factor now = record {
  interval = interval;
  factor = factor;
  sent = now;
  heard = now;
}
