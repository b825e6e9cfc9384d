use Rattle.std.proofs.Common.{take}
use Rattle.std.specs.List.{flat_map}
use Rattle.picture_page.specs.Sheet.{Gains}
use Rattle.status_view.specs.Page.{end_text}
use Rattle.status_view.proofs.doors.put_each_end.Given as goal

abbrev pub invariant-loop-end : goal.invariant-loop-end
invariant-loop-end l =
    Gains l.initial.page l.page (flat_map end_text (take l.end-index l.ends))
