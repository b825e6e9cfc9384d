use Rattle.std.proofs.Common.{take}
use Rattle.std.specs.List.{flat_map}
use Rattle.picture_page.specs.Sheet.{Gains}
use Rattle.status_view.specs.Page.{door_row}
use Rattle.status_view.proofs.doors.put_rows.Given as goal

abbrev pub invariant-loop-door : goal.invariant-loop-door
invariant-loop-door l =
    Gains l.initial.page l.page (flat_map (door_row l.at) (take l.door-index l.doors))
