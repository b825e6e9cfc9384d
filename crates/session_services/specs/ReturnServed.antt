-- What a session makes of a bound instance of a return service (CCSDS 911.1-B and 911.2-B): by
-- `return_service` what it asks, wants, answers and reports; its returns; and by `buffer_message`
-- the message of a buffer that is to be offered.
use Rattle.std.specs.Prelude.{ℕ, ◌*◌, pos, Bool, ◌&&◌, if◌then◌else◌, Option, Some, None, List, []}
use Rattle.std.specs.Prelude.{Ok, option_map}
use Rattle.sle_numbers.specs.declared.return_delivery_mode.ReturnDeliveryMode.{ReturnDeliveryMode}
use Rattle.sle_common.specs.declared.gvcid.Gvcid.{Gvcid}
use Rattle.archive_terms.specs.Glimpse.{Glimpse}
use Rattle.archive_terms.specs.Placed.{ToldItem}
use Rattle.archive_terms.specs.Rounds.{stall}
use Rattle.isp1_auth.specs.Numbers.{next_number}
use Rattle.station_config.specs.declared.peer.Peer.{Peer}
use Rattle.station_config.specs.declared.site.Site.{Site}
use Rattle.station_config.specs.declared.service.Service.{Service as SiteService}
use Rattle.station_config.specs.declared.service.Service.TheVariants as site
use Rattle.cltu_queue.specs.declared.ask.Ask.TheVariants as ask
use Rattle.assoc_core.specs.Access.{is_asked}
use Rattle.assoc_core.specs.Kind as kind
use Rattle.assoc_core.specs.declared.outcome.Outcome.{Outcome}
use Rattle.assoc_core.specs.declared.outcome.Outcome.TheVariants.{Started, Stopped, Kept}
use Rattle.return_core.specs.Course.{Course, stopped, is_offering, held_of}
use Rattle.return_core.specs.Mode.{mode_of}
use Rattle.return_core.specs.Visits.{fate_by, discard_told}
use Rattle.return_pdu.specs.Starting.{start_return}
use Rattle.return_pdu.specs.Stopping.{stop_return}
use Rattle.return_pdu.specs.Scheduling.{schedule_return}
use Rattle.return_pdu.specs.Getting.{parameter_return}
use Rattle.return_pdu.specs.Reporting.{raf_report, rcf_report}
use Rattle.return_pdu.specs.declared.return_numbers.ReturnNumbers.{ReturnNumbers}
use Rattle.return_pdu.specs.declared.return_answer.ReturnAnswer.{ReturnAnswer}
use Rattle.return_pdu.specs.declared.return_answer.ReturnAnswer.TheVariants as reply
use Rattle.return_pdu.specs.declared.return_kind.ReturnKind.{ReturnKind}
use Rattle.report_cycle.specs.declared.schedule.TheConstants.{PICOS_A_SECOND}
use Rattle.return_pdu.specs.declared.return_kind.ReturnKind.TheVariants.{Raf, Rcf}
use Rattle.return_service.specs.declared.invocation.ReturnInvocation.{ReturnInvocation}
use Rattle.return_service.specs.declared.invocation.ReturnInvocation.TheVariants as asked
use Rattle.return_service.specs.Instance.{prepared}
use Rattle.return_service.specs.Serving.{Serving, bound, report_of}
use Rattle.buffer_message.specs.Signing.{Signing, number_after}
use Rattle.buffer_message.specs.Fitting.{fits_message}
use Rattle.buffer_message.specs.Message.{buffer_message}
use Rattle.session_services.specs.Inquiry.{Inquiry}
use Rattle.session_services.specs.Service.{Invocation, return_starts, stops, schedules, gets}
use Rattle.session_services.specs.Returns.{return_content, own_secret}
use Rattle.session_services.specs.Telling.{Message, Fixed}

-- made for a BIND: no START runs, and the latency limit in seconds is kept in picoseconds
abbrev pub return_made : ReturnKind → ReturnDeliveryMode → ℕ → ℕ → ℕ → Serving
return_made kind mode size latency timeout =
    bound kind (stopped (mode_of mode) size (latency * PICOS_A_SECOND)) timeout

-- the channels that a START may ask for of the service that is bound
abbrev pub channels_of : Option SiteService → List Gvcid
channels_of (Some (site.Rcf mode size latency channels)) = channels
channels_of _ = []

-- what an invocation asks of it
abbrev pub return_asked : Invocation → ReturnInvocation
return_asked (return_starts s) = asked.Start s.asks
return_asked (stops s) = asked.Stop
return_asked (schedules s) = asked.Report s.report
return_asked (gets g) = asked.Get g.name
return_asked _ = asked.Nothing

-- it asks nothing of the book
abbrev pub return_prepared : Invocation → Serving → Inquiry
return_prepared i r = record { ask = ask.Nothing; want = prepared (return_asked i) r }

-- ---- a status report

-- with these numbers: RAF tells of the frames without an error too
abbrev pub return_told : ReturnKind → ReturnNumbers → Message
return_told Raf n = λ credentials. return_content raf_report (record {
  credentials = credentials;
  error_free = pos n.error_free;
  delivered = pos n.delivered;
  frame_sync = pos n.frame_sync;
  symbol = pos n.symbol;
  subcarrier = pos n.subcarrier;
  carrier = pos n.carrier;
  production = pos n.production;
})
return_told Rcf n = λ credentials. return_content rcf_report (record {
  credentials = credentials;
  delivered = pos n.delivered;
  frame_sync = pos n.frame_sync;
  symbol = pos n.symbol;
  subcarrier = pos n.subcarrier;
  carrier = pos n.carrier;
  production = pos n.production;
})

-- the one that is due, if one is
abbrev pub return_told_at : Glimpse → ℕ → Serving → Option Message
return_told_at g now r = option_map (return_told r.kind) (report_of g now r)

-- ---- an answer

-- what it makes of the association
abbrev pub outcome_of : ReturnAnswer → Outcome
outcome_of (reply.Start (Ok _)) = Started
outcome_of reply.Stop = Stopped
outcome_of _ = Kept

-- its return, with the number of its invocation
abbrev pub returned : ReturnAnswer → ℕ → Option Message
returned (reply.Start done) invoke =
    Some (λ credentials. return_content start_return
    (record { credentials = credentials; invoke = invoke; result = done }))
returned reply.Stop invoke =
    Some (λ credentials. return_content stop_return
    (record { credentials = credentials; invoke = invoke; result = Ok tt }))
returned (reply.Report done) invoke =
    Some (λ credentials. return_content schedule_return
    (record { credentials = credentials; invoke = invoke; result = done }))
returned (reply.Get outcome) invoke =
    Some (λ credentials. return_content parameter_return
    (record { credentials = credentials; invoke = invoke; result = outcome }))
returned reply.Nothing invoke = None

-- ---- the message of a buffer

-- this provider, with the peer's hash function, at a moment
abbrev pub signing_to : Site → Peer → ℕ → Signing
signing_to site peer now =
    record {
      name = site.provider;
      pass = site.password;
      hash = (own_secret site peer).hash;
      moment = now;
    }

-- who signs a buffer's items, where the peer's level asks for that, as of a report
abbrev pub item_signing : Site → Option Peer → ℕ → Option Signing
item_signing site None now = None
item_signing site (Some peer) now =
    if is_asked peer.level kind.report then Some (signing_to site peer now) else None

-- signed, each item takes the next number
abbrev pub buffer_fixed : ReturnKind → Option Signing → ℕ → List ToldItem → Fixed
buffer_fixed service None numbers items =
    record { message = Some (buffer_message service None 0 items); numbers = numbers }
buffer_fixed service (Some by) numbers items =
    record {
      message = Some (buffer_message service (Some by) (next_number numbers) items);
      numbers = number_after numbers items;
    }

-- where a buffer is to be offered whose items go into one message
abbrev pub buffer_where : Bool → ReturnKind → Option Signing → ℕ → List ToldItem → Fixed
buffer_where offers service by numbers items =
    if offers && fits_message items
    then buffer_fixed service by numbers items
    else record { message = None; numbers = numbers }

-- a delivery's buffer that is to be offered, to a peer at a moment
abbrev pub buffer_due : ReturnKind → Course → Site → Option Peer → ℕ → ℕ → Fixed
buffer_due service c site peer numbers now =
    buffer_where (is_offering c) service (item_signing site peer now) numbers (held_of c)

-- how many items a stall discards of it
abbrev pub dropped_of : Course → Option ℕ
dropped_of c = discard_told (fate_by c stall)
