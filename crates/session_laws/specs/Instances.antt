-- What a session keeps, between two rounds, of the instance that is bound.
use Rattle.std.specs.Prelude.{◌≡◌, ℕ, ◌*◌, false, Option, Some, None, option_and_then, List, []}
use Rattle.std.specs.Option.{option_map}
use Rattle.archive_terms.specs.Delivery.{Mode, Terms}
use Rattle.report_cycle.specs.declared.schedule.TheConstants.{PICOS_A_SECOND}
use Rattle.return_core.specs.Mode.{mode_of}
use Rattle.return_pdu.specs.declared.return_kind.ReturnKind.{ReturnKind}
use Rattle.return_pdu.specs.declared.return_kind.ReturnKind.TheVariants as kind
use Rattle.return_service.specs.Serving.{Serving}
use Rattle.station_config.specs.declared.service.Service.{Service}
use Rattle.station_config.specs.declared.service.Service.TheVariants.{Raf, Rcf}
use Rattle.station_config.specs.declared.site.Site.{Site}
use Rattle.session_core.specs.declared.standing.Standing.{Standing}
use Rattle.session_core.specs.Lists.{Began, state_after}
use Rattle.session_services.specs.Served.{Served}
use Rattle.session_core.specs.ServiceSteps.{is_active, service_of}
use Rattle.session_core.specs.Session.{Round}
use Rattle.session_laws.specs.Deliveries.{return_of}

-- which service it is one of, the mode, the greatest number of items in a buffer, and the latency
-- limit in picoseconds
pub record Shape : Type 0 where
  pub kind : ReturnKind
  pub mode : Mode
  pub size : ℕ
  pub latency : ℕ

abbrev pub shape_of : Serving → Shape
shape_of r = record {
  kind = r.kind;
  mode = r.course.mode;
  size = r.course.size;
  latency = r.course.latency;
}

abbrev pub shape_of_terms : ReturnKind → Terms → Shape
shape_of_terms kind t =
    record { kind = kind; mode = t.mode; size = t.size; latency = t.latency }

-- that of a bound instance of a return service
abbrev pub shape_in : Served → Option Shape
shape_in served = option_map shape_of (return_of served)

-- that which a site gives an instance of one
abbrev pub shape_by : Service → Option Shape
shape_by (Raf mode size latency) = Some (record {
  kind = kind.Raf;
  mode = mode_of mode;
  size = size;
  latency = latency * PICOS_A_SECOND;
})
shape_by (Rcf mode size latency channels) = Some (record {
  kind = kind.Rcf;
  mode = mode_of mode;
  size = size;
  latency = latency * PICOS_A_SECOND;
})
shape_by _ = None

-- that of the instance that is bound, where it is one of a return service
abbrev pub shape_at : Site → Standing → Option Shape
shape_at site s = option_and_then shape_by (service_of site s)

-- A session whose service isn't started has nothing to offer; and an instance that it keeps has the
-- kind and the shape that the site gives the one that is bound.
pub record IsKept (site : Site) (s : Standing) : Type 0 where
  pub still : is_active s.association ≡ false → s.outgoing ≡ []
  pub own : (shape : Shape) → shape_in s.service ≡ Some shape → shape_at site s ≡ Some shape

-- So it is behind any rounds of a session, whatever its link and the book answer.
abbrev pub SessionsAreKept : Type 0
SessionsAreKept =
    (b : Began) (rounds : List Round) → IsKept b.site (state_after b rounds).standing
