-- How a turn ends a talk. This product's own.
use Rattle.std.specs.Prelude.{Bool, true, false, Option, Some, None, if◌then◌else◌}
use Rattle.user_core.specs.Hearing.{Hearing, nothing, came, ended}
use Rattle.user_core.specs.declared.status.Status.{Status}
use Rattle.user_talk.specs.Outbox.{any_failed}
use Rattle.user_talk.specs.declared.end.End.{End}
use Rattle.user_talk.specs.declared.end.End.TheVariants as end
use Rattle.user_talk.specs.declared.outbox.Answers.{Answers}
use Rattle.user_talk.specs.declared.turn.Stop.{Stop}
use Rattle.user_talk.specs.declared.turn.Stop.TheVariants as stop

abbrev pub hears_close : Hearing → Bool
hears_close nothing = false
hears_close (came octets) = false
hears_close ended = true

-- a user's own end comes before a fault of its last offers
abbrev pub end_by : Option Status → Answers → Bool → Option End
end_by (Some status) answers closed = Some (end.Over status closed)
end_by None answers closed = if any_failed answers then Some end.LinkFault else None

abbrev pub end_at : Stop → End
end_at stop.WriteFault = end.WriteFault
end_at stop.Memory = end.Memory
