-- What a user asks of return channel frames, as a return service has it (CCSDS 911.2-B).
use Rattle.frame_select.specs.declared.filter.Filter.TheVariants.{Channel}
use Rattle.return_service.specs.declared.invocation.ReturnStart.{ReturnStart}
use Rattle.return_service.specs.declared.invocation.ReturnInvocation.{ReturnInvocation}
use Rattle.return_service.specs.declared.invocation.ReturnInvocation.TheVariants as asked
use Rattle.return_pdu.specs.declared.rcf_start.RcfStart.{RcfStart}
use Rattle.rcf_service.specs.declared.invocation.RcfInvocation.{RcfInvocation}
use Rattle.rcf_service.specs.declared.invocation.RcfInvocation.TheVariants as variant

abbrev pub start_of : RcfStart → ReturnStart
start_of s = record { start = s.start; stop = s.stop; filter = Channel s.channel }

abbrev pub asked_of : RcfInvocation → ReturnInvocation
asked_of variant.Nothing = asked.Nothing
asked_of (variant.Start s) = asked.Start (start_of s)
asked_of variant.Stop = asked.Stop
asked_of (variant.Report kind) = asked.Report kind
asked_of (variant.Get name) = asked.Get name
