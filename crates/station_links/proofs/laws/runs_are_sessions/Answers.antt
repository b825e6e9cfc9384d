use Rattle.station_links.proofs.Running as running
use Rattle.station_links.proofs.laws.runs_are_sessions.Goals as goal

pub returns : goal.returns
returns c = running.runs_are_sessions
