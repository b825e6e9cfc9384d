-- What a user asks of return all frames, as a return service has it (CCSDS 911.1-B).
use Rattle.frame_select.specs.declared.filter.Filter.TheVariants.{Quality}
use Rattle.return_service.specs.declared.invocation.ReturnStart.{ReturnStart}
use Rattle.return_service.specs.declared.invocation.ReturnInvocation.{ReturnInvocation}
use Rattle.return_service.specs.declared.invocation.ReturnInvocation.TheVariants as asked
use Rattle.return_pdu.specs.declared.raf_start.RafStart.{RafStart}
use Rattle.raf_service.specs.declared.invocation.RafInvocation.{RafInvocation}
use Rattle.raf_service.specs.declared.invocation.RafInvocation.TheVariants as variant

abbrev pub start_of : RafStart → ReturnStart
start_of s = record { start = s.start; stop = s.stop; filter = Quality s.quality }

abbrev pub asked_of : RafInvocation → ReturnInvocation
asked_of variant.Nothing = asked.Nothing
asked_of (variant.Start s) = asked.Start (start_of s)
asked_of variant.Stop = asked.Stop
asked_of (variant.Report kind) = asked.Report kind
asked_of (variant.Get name) = asked.Get name
