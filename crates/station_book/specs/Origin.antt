-- The origin that a site gives a book.
use Rattle.std.specs.Prelude.{ℕ, Option, List, map, slice_get}
use Rattle.std.specs.List.{position}
use Rattle.std.specs.Option.{option_map_or}
use Rattle.archive_terms.specs.Archive.{Entry}
use Rattle.station_config.specs.Validity.{is_forward}
use Rattle.station_config.specs.declared.instance.Instance.{Instance}
use Rattle.station_config.specs.declared.service.Service.{Service}
use Rattle.station_config.specs.declared.service.Service.TheVariants.{Raf, Rcf, Cltu}
use Rattle.station_config.specs.declared.site.Site.{Site}
use Rattle.station_book.specs.declared.limits.Limits.{Limits}
use Rattle.station_book.specs.declared.service_kind.ServiceKind.{ServiceKind}
use Rattle.station_book.specs.declared.service_kind.ServiceKind.TheVariants as kind
use Rattle.station_book.specs.State.{Opening}

abbrev pub kind_of : Service → ServiceKind
kind_of (Raf mode size latency) = kind.Raf
kind_of (Rcf mode size latency channels) = kind.Rcf
kind_of (Cltu room longest) = kind.Cltu

-- the services of instances, by number
abbrev pub kinds_of : List Instance → List ServiceKind
kinds_of instances = map (λ instance. kind_of instance.service) instances

-- where the forward service's instance stands
abbrev pub forward_place : List Instance → Option ℕ
forward_place instances = position (λ instance. is_forward instance.service) instances

abbrev pub no_limits : Limits
no_limits = record { room = 0; longest = 0 }

abbrev pub limits_of : Service → Limits
limits_of (Cltu room longest) = record { room = room; longest = longest }
limits_of _ = no_limits

abbrev pub limits_at : Option Instance → Limits
limits_at instance = option_map_or (λ i. limits_of i.service) instance no_limits

-- what the queue of the forward service's instance may hold, and nothing where there is none
abbrev pub forward_limits : List Instance → Limits
forward_limits instances =
    option_map_or (λ place. limits_at (slice_get instances place))
    (forward_place instances) no_limits

-- the origin of a book of the site's instances over these entries, with so many workers beside the
-- antenna's
abbrev pub opening_of : Site → List Entry → ℕ → Opening
opening_of site entries workers = record {
  services = kinds_of site.instances;
  room = (forward_limits site.instances).room;
  longest = (forward_limits site.instances).longest;
  entries = entries;
  workers = workers;
}
