-- What the requests of a connection are answered.
use Rattle.std.specs.Prelude.{◌≡◌, List, ◌++◌, All}
use Rattle.http_server.specs.Exchange.{Call}
use Rattle.station_snapshot.specs.declared.snapshot.Snapshot.{Snapshot}
use Rattle.status_page.specs.Answers.{Answers}

-- a request was answered by this snapshot
abbrev pub IsAnswered : Snapshot → Call → Type 0
IsAnswered s call = Answers s call.0 call.1

-- each request that was answered since was answered by this snapshot
abbrev pub AnsweredSince : Snapshot → List Call → List Call → Type 0
AnsweredSince s before after = (calls : List Call) × (after ≡ before ++ calls) × All (IsAnswered s) calls
