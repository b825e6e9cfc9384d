-- What a PDU can say of a task.
use Rattle.std.specs.Prelude.{ℕ, Bool, true, false, ◌&&◌, ◌||◌, nat_le, List, length}
use Rattle.std.specs.List.{list_all}
use Rattle.ber_core.specs.Reading.{is_visible}
use Rattle.sle_common.specs.declared.gvcid.Channel.{Channel}
use Rattle.sle_common.specs.declared.gvcid.Channel.TheVariants.{Master, Virtual}
use Rattle.sle_common.specs.declared.gvcid.Gvcid.{Gvcid}
use Rattle.user_task.specs.declared.cltus.CltuLine.{CltuLine}
use Rattle.user_task.specs.declared.task.Task.{Task}
use Rattle.user_task.specs.declared.work.Work.{Work}
use Rattle.user_task.specs.declared.work.Work.TheVariants.{Show, Raf, Rcf, Cltu}
use Rattle.user_task.specs.Invocation.{Said, bind, start, schedule, transfer, stop, unbind}
use Rattle.user_task.specs.Work.{is_show, cltus_of}

-- the name of a side: 3 to 16 characters from 20 to 7E
abbrev pub is_name : List ℕ → Bool
is_name name = nat_le 3 (length name) && nat_le (length name) 16 && list_all is_visible name

abbrev pub fits_channel : Channel → Bool
fits_channel Master = true
fits_channel (Virtual channel) = nat_le channel 63

abbrev pub fits_gvcid : Gvcid → Bool
fits_gvcid g = nat_le g.spacecraft 1023 && nat_le g.version 3 && fits_channel g.channel

-- what START says
abbrev pub fits_start : Work → Bool
fits_start (Rcf from to channel report) = fits_gvcid channel
fits_start _ = true

-- a CLTU's length is this product's own
abbrev pub fits_line : CltuLine → Bool
fits_line line = nat_le 1 (length line.octets) && nat_le (length line.octets) 65536

-- what one invocation says
abbrev pub fits_said : Task → Said → Bool
fits_said task bind = is_name task.name
fits_said task start = fits_start task.work
fits_said task (schedule cycle) = true
fits_said task (transfer line) = fits_line line
fits_said task stop = true
fits_said task unbind = true

-- what all of a task's invocations say
abbrev pub fits_task : Task → Bool
fits_task task =
    is_show task.work
    || (is_name task.name && fits_start task.work && list_all fits_line (cltus_of task.work))
