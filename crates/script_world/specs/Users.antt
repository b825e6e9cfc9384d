-- The STARTs of users behind the lines of a script, by the rounds of its connections. This product's
-- own.
use Rattle.std.specs.Prelude.{ℕ, zero, suc, if◌then◌else◌, Option, Some, None, List, [], length}
use Rattle.std.specs.Prelude.{slice_get}
use Rattle.drill_text.specs.declared.script_line.ScriptLine.{ScriptLine}
use Rattle.station_config.specs.declared.site.Site.{Site}
use Rattle.station_book.specs.State as books
use Rattle.station_book.specs.History.{replay}
use Rattle.station_world.specs.Life.{Start}
use Rattle.station_links.specs.Connected.{Connected}
use Rattle.station_links.specs.Rounds.{round_at, round_of}
use Rattle.line_events.specs.Progress.{progressed}
use Rattle.session_events.specs.Rounds.{progress_in}
use Rattle.station_law.specs.Doors.{Act, act_of, ordered}
use Rattle.station_law.specs.State.{State}
use Rattle.station_law.specs.Lines.{step_read}

-- behind so many rounds of a connection, as long as it is there
abbrev pub users_rounds : Site → ℕ → ℕ → ℕ → books.State → Option Connected → List Start
    → List Start
users_rounds site c reading zero b l users = users
users_rounds site c reading (suc n) b None users = users
users_rounds site c reading (suc n) b (Some l) users =
    let turned = round_of site c l b reading in
    users_rounds site c reading n (replay b turned.events) turned.next
    (progressed c (length b.published)
    (progress_in c site l.state (round_at site c l b reading)) users)

-- behind what a line asks of a connection, where it is there
abbrev pub users_acted : State → Act → Option (Option Connected) → List Start → List Start
users_acted state a (Some (Some l)) users =
    users_rounds state.doors.site a.c state.clock a.rounds state.doors.book
    (Some (ordered a.order l)) users
users_acted state a _ users = users

abbrev pub users_act : State → Option Act → List Start → List Start
users_act state None users = users
users_act state (Some a) users = users_acted state a (slice_get state.doors.connections a.c) users

abbrev pub users_asked : State → Option ScriptLine → List Start → List Start
users_asked state None users = users
users_asked state (Some line) users = users_act state (act_of line) users

-- behind a line; a recovery begins a life that has none
abbrev pub users_behind : State → Option ScriptLine → List Start → List Start
users_behind state line users =
    if (step_read state line).recovers then [] else users_asked state line users
