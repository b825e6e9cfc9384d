-- What is heard, as far as it moves a task on.
use Rattle.std.specs.Prelude.{ℕ, Option, Some, is_some, if◌then◌else◌}
use Rattle.fcltu_numbers.specs.declared.cltu_notification_type.CltuNotificationType.{CltuNotificationType}
use Rattle.fcltu_numbers.specs.declared.cltu_notification_type.CltuNotificationType.TheVariants as kind
use Rattle.user_lines.specs.declared.tag.Tag.TheVariants as tag
use Rattle.user_lines.specs.declared.told.Told.{Told}
use Rattle.user_lines.specs.declared.told.Told.TheVariants as told
use Rattle.user_lines.specs.Lines.{tells_end}
use Rattle.user_core.specs.declared.event.Event.{Event}
use Rattle.user_core.specs.declared.event.Event.TheVariants.{Nothing, Returned, Halted, Emptied}
use Rattle.user_core.specs.declared.event.Event.TheVariants.{EndOfData, Aborted}

-- kinds 1, 2 and 3 say that CLTUs are lost
abbrev pub noticed : CltuNotificationType → Option ℕ → Event
noticed kind.SlduExpired last_ok = Halted
noticed kind.ProductionInterrupted last_ok = Halted
noticed kind.ProductionHalted last_ok = Halted
noticed kind.BufferEmpty last_ok = Emptied last_ok
noticed _ last_ok = Nothing

abbrev pub plain_of : Told → Event
plain_of (told.Returned t invoke refusal) = Returned t invoke (is_some refusal)
plain_of (told.Transferred invoke refusal next free) =
    Returned tag.TransferReturn (Some invoke) (is_some refusal)
plain_of (told.Notice k last_ok) = noticed k last_ok
plain_of (told.Aborted diagnostic) = Aborted
plain_of _ = Nothing

-- what is told is to a task
unfoldable pub event_of : Told → Event
event_of t = if tells_end t then EndOfData else plain_of t
