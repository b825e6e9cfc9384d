-- How a user program ends by its talk. The words are this product's own.
use Rattle.std.specs.Prelude.{ℕ, true, List, [], codes}
use Rattle.user_core.specs.declared.status.Status.{Status}
use Rattle.user_core.specs.declared.status.Status.TheVariants as status
use Rattle.user_show.specs.declared.ending.Ending.{Ending}
use Rattle.user_show.specs.declared.ending.Ending.TheVariants as ending
use Rattle.user_talk.specs.declared.end.End.{End}
use Rattle.user_talk.specs.declared.end.End.TheVariants as end

-- the last line, where no message's is the last
abbrev pub line_of : End → List ℕ
line_of (end.Over status.PeerEnded true) = codes "closed\n"
line_of end.Spent = codes "turns spent\n"
line_of end.LinkFault = codes "link fault\n"
line_of _ = []

abbrev pub ending_by : Status → Ending
ending_by status.Done = ending.Done
ending_by status.Refused = ending.Refused
ending_by status.BadMessage = ending.BadMessage
ending_by status.PeerEnded = ending.PeerEnded
ending_by status.OutOfMemory = ending.Memory

abbrev pub ending_of : End → Ending
ending_of (end.Over s closed) = ending_by s
ending_of end.Spent = ending.TurnsSpent
ending_of end.LinkFault = ending.LinkFault
ending_of end.WriteFault = ending.WriteFault
ending_of end.Memory = ending.Memory
