-- What contracts see of a message that the code has read, and of what it is judged by.
use Rattle.std.specs.Prelude.{ℕ, None, Result, Err}
use Rattle.bind_pdu.specs.Binding.{BindContent}
use Rattle.bind_pdu.specs.Seen.{bind_of, unbind_of, diagnostic_of}
use Rattle.sle_numbers.specs.declared.bind_diagnostic.BindDiagnostic.{BindDiagnostic}
use Rattle.sle_numbers.specs.declared.bind_diagnostic.BindDiagnostic.TheVariants.{AccessDenied}
use Rattle.station_config.specs.declared.site.Site.{Site}
use Rattle.station_config.specs.Drafts.{place_of}
use Rattle.assoc_core.specs.declared.step.Step.{Step}
use Rattle.assoc_core.specs.declared.step.Step.TheVariants.{Pass}
use Rattle.cltu_queue.specs.declared.ask.Ask.TheVariants as ask
use Rattle.session_core.specs.declared.bind_places.BindPlaces.{BindPlaces}
use Rattle.session_core.specs.declared.user_message.UserMessage.{UserMessage}
use Rattle.session_core.specs.declared.user_message.UserMessage.TheVariants as variant
use Rattle.session_core.specs.Message.{UserContent, context, heartbeat, bind, unbind, peer_abort}
use Rattle.session_core.specs.Message.{invocation, undecoded, out_of_place}
use Rattle.session_services.specs.Service.{invocation_of}
use Rattle.session_services.specs.Served.{Served, prepared}
use Rattle.session_core.specs.Handling.{bind_judged, bind_ask}
use Rattle.session_services.specs.Inquiry.{Inquiry, only_asks}

abbrev pub said_of : UserMessage → UserContent
said_of (variant.Context interval factor) = context interval factor
said_of variant.Heartbeat = heartbeat
said_of (variant.Bind b) = bind (bind_of b)
said_of (variant.Unbind u) = unbind (unbind_of u)
said_of (variant.PeerAbort abort) = peer_abort (diagnostic_of abort)
said_of (variant.Service i) = invocation (invocation_of i)
said_of variant.Undecoded = undecoded
said_of variant.OutOfPlace = out_of_place

-- what a BIND that passed is judged by
abbrev pub places_of_bind : Site → BindContent → BindPlaces
places_of_bind site b =
    record { peer = place_of b.initiator site.peers; instance = bind_judged site b }

abbrev pub places_of : Site → UserContent → Step → BindPlaces
places_of site (bind b) Pass = places_of_bind site b
places_of site _ _ = record { peer = None; instance = Err AccessDenied }

-- what a message that was judged so asks, where a BIND's instance was judged so
abbrev pub passed_ask_by : Served → UserContent → Result ℕ BindDiagnostic → Inquiry
passed_ask_by served (bind b) judged = only_asks (bind_ask judged)
passed_ask_by served (unbind u) judged = only_asks ask.Unbind
passed_ask_by served (invocation i) judged = prepared served i
passed_ask_by served _ judged = only_asks ask.Nothing

abbrev pub ask_by : Served → UserContent → Step → Result ℕ BindDiagnostic → Inquiry
ask_by served said Pass judged = passed_ask_by served said judged
ask_by served said _ judged = only_asks ask.Nothing
