-- The checks of a BIND (CCSDS 911.1-B, annex A, has the diagnostics; the conditions and their order
-- are own).
use Rattle.std.specs.Prelude.{ℕ, Bool, false, not, ◌==◌, if◌then◌else◌, Option, Some, None}
use Rattle.std.specs.Prelude.{is_none, is_some, option_and_then, Result, Ok, Err, List, [], ◌∷◌}
use Rattle.std.specs.Prelude.{position, slice_get}
use Rattle.std.specs.List.{list_any}
use Rattle.std.specs.Option.{option_map_or}
use Rattle.sle_common.specs.declared.instance_id.InstancePart.{InstancePart}
use Rattle.sle_common.specs.declared.instance_ref.InstanceRef.{InstanceRef}
use Rattle.sle_common.specs.InstanceRef.{parts_of}
use Rattle.sle_numbers.specs.Numbered.{of_number}
use Rattle.sle_numbers.specs.ServiceType as services
use Rattle.sle_numbers.specs.declared.bind_diagnostic.BindDiagnostic.{BindDiagnostic}
use Rattle.sle_numbers.specs.declared.bind_diagnostic.BindDiagnostic.TheVariants as why
use Rattle.station_config.specs.Drafts.{same_id}
use Rattle.station_config.specs.Validity.{service_type}
use Rattle.station_config.specs.declared.instance.Instance.{Instance}
use Rattle.station_config.specs.declared.service.Service.{Service}
use Rattle.station_config.specs.declared.site.Site.{Site}

-- what a BIND asks for: the place of the peer that sends it, if it is one that may bind; the
-- service type and version; and the attributes and values of the instance
pub record Ask : Type 0 where
  pub peer : Option ℕ
  pub service : ℕ
  pub version : ℕ
  pub id : List InstancePart

abbrev pub ask_of : Option ℕ → ℕ → ℕ → InstanceRef → Ask
ask_of peer service version instance =
    record { peer = peer; service = service; version = version; id = parts_of instance }

-- the number of the type by which a BIND asks for a service
abbrev pub type_of : Service → ℕ
type_of service = services.number_of (service_type service)

-- whether a number is one of a service type
abbrev pub is_type : ℕ → Bool
is_type number = is_some (of_number services.number_of services.all number)

-- the place of the instance of this identifier
abbrev pub instance_place : List Instance → List InstancePart → Option ℕ
instance_place instances id = position (λ instance. same_id id instance.id) instances

abbrev pub wanted : List Instance → List InstancePart → Option Instance
wanted instances id =
    option_and_then (λ place. slice_get instances place) (instance_place instances id)

-- whether the site has the version; whether the instance is another peer's, or of another service
abbrev pub has_version : Site → Ask → Bool
has_version site ask = list_any (λ version. version == ask.version) site.versions

abbrev pub is_owned_by : Option ℕ → Instance → Bool
is_owned_by peer instance = option_map_or (λ place. place == instance.owner) peer false

abbrev pub is_anothers : Ask → Option Instance → Bool
is_anothers ask instance =
    not (option_map_or (λ found. is_owned_by ask.peer found) instance false)

abbrev pub has_other_service : Ask → Option Instance → Bool
has_other_service ask instance =
    not (option_map_or (λ found. type_of found.service == ask.service) instance false)

-- a diagnostic, and whether it is to be answered
pub record Check : Type 0 where
  pub fault : BindDiagnostic
  pub fails : Bool

abbrev pub check : BindDiagnostic → Bool → Check
check fault fails = record { fault = fault; fails = fails }

-- the checks of an ask for an instance, or for none, in their order
abbrev pub checks : Site → Ask → Option Instance → List Check
checks site ask instance =
    check why.AccessDenied (is_none ask.peer)
    ∷ check why.ServiceTypeNotSupported (not (is_type ask.service))
    ∷ check why.VersionNotSupported (not (has_version site ask))
    ∷ check why.NoSuchServiceInstance (is_none instance)
    ∷ check why.SiNotAccessibleToThisInitiator (is_anothers ask instance)
    ∷ check why.InconsistentServiceType (has_other_service ask instance)
    ∷ []

-- the first that fails
abbrev pub first_fault : List Check → Option BindDiagnostic
first_fault [] = None
first_fault (check ∷ others) = if check.fails then Some check.fault else first_fault others

-- the place of the instance, where no check fails
abbrev pub place_unless : Option BindDiagnostic → Option ℕ → Result ℕ BindDiagnostic
place_unless (Some fault) place = Err fault
place_unless None (Some place) = Ok place
place_unless None None = Err why.NoSuchServiceInstance

-- what a BIND is answered, but for what the book says of it: the place of the instance, or the
-- diagnostic of the first check that fails
abbrev pub bind_answer : Site → Ask → Result ℕ BindDiagnostic
bind_answer site ask =
    place_unless
    (first_fault (checks site ask (wanted site.instances ask.id)))
    (instance_place site.instances ask.id)
