-- What holds of what users say to their services.
use Rattle.std.specs.Prelude.{◌≡◌, ℕ, Bool, true, false, List}
use Rattle.frame_select.specs.declared.filter.Filter.{Filter}
use Rattle.frame_select.specs.declared.filter.Filter.TheVariants.{Quality, Channel}
use Rattle.station_config.specs.declared.service.Service.{Service}
use Rattle.station_config.specs.declared.service.Service.TheVariants.{Raf, Rcf, Cltu}
use Rattle.session_services.specs.Service.{Invocation, return_starts, invocation_in}

-- whether a START may select frames so: of RAF by their quality (CCSDS 911.1-B, RAF-START), of RCF by
-- their channel (CCSDS 911.2-B, RCF-START); FCLTU selects none
abbrev pub selects_so : Service → Filter → Bool
selects_so (Raf mode size latency) (Quality quality) = true
selects_so (Rcf mode size latency channels) (Channel channel) = true
selects_so _ _ = false

-- a START of a return service selects frames as this service does; there is nothing to say of what
-- else a user says
abbrev pub IsOfService : Service → Invocation → Type 0
IsOfService service (return_starts s) = selects_so service s.asks.filter ≡ true
IsOfService service _ = Unit {0}

-- Whatever octets come, an instance of RAF is given STARTs by quality alone, one of RCF by channel
-- alone, and one of FCLTU none of either.
abbrev pub StartsAreOfTheirService : Type 0
StartsAreOfTheirService =
    (service : Service) (octets : List ℕ) → IsOfService service (invocation_in service octets)
