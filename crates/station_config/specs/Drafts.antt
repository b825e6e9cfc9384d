-- What the lines of a configuration say together: a fold over its lines.
use Rattle.std.proofs.Common.{ℕ, ◌+◌, min, Bool, true, false, not, ◌&&◌, ◌||◌, ◌==◌}
use Rattle.std.proofs.Common.{if◌then◌else◌, nat_le, List, [], ◌∷◌, ◌++◌, length, Option, Some}
use Rattle.std.proofs.Common.{None, Result, Ok, Err, unwrap_or}
use Rattle.std.specs.List.{list_any, position}
use Rattle.std.specs.Option.{is_some}
use Rattle.std.specs.Prelude.{codes}
use Rattle.std.specs.Str.{bytes_eq}
use Rattle.std.specs.Cmp.Lexicographic.{pointwise}
use Rattle.sle_common.specs.Attribute.{name_of}
use Rattle.sle_common.specs.declared.instance_id.InstancePart.{InstancePart}
use Rattle.station_config.specs.Causes.{number_of, cause_of_words}
use Rattle.station_config.specs.Grammar.{configuration}
use Rattle.station_config.specs.Validity.{is_forward}
use Rattle.station_config.specs.declared.cause.Cause.{Cause}
use Rattle.station_config.specs.declared.cause.Cause.TheVariants.{Repeated, NoOwner, Surplus}
use Rattle.station_config.specs.declared.draft.Draft.{Draft}
use Rattle.station_config.specs.declared.heartbeat.Heartbeat.{Heartbeat}
use Rattle.station_config.specs.declared.instance.Instance.{Instance}
use Rattle.station_config.specs.declared.instance_line.InstanceLine.{InstanceLine}
use Rattle.station_config.specs.declared.instance_line.InstanceLine.TheVariants.{Raf, Rcf, Cltu}
use Rattle.station_config.specs.declared.line.Line.{Line}
use Rattle.station_config.specs.declared.line.Line.TheVariants.{Provider, Password, Capacity, Beat}
use Rattle.station_config.specs.declared.line.Line.TheVariants.{Versions, Peer as OfPeer}
use Rattle.station_config.specs.declared.line.Line.TheVariants.{Instance as OfInstance}
use Rattle.station_config.specs.declared.peer.Peer.{Peer}
use Rattle.station_config.specs.declared.service.Service.{Service}
use Rattle.station_config.specs.declared.service.Service.TheVariants.{Raf as RafService}
use Rattle.station_config.specs.declared.service.Service.TheVariants.{Rcf as RcfService}
use Rattle.station_config.specs.declared.service.Service.TheVariants.{Cltu as CltuService}
use Rattle.station_config.specs.declared.site.Site.{Site}
use Rattle.words.specs.Lines.{reading}
use Rattle.words.specs.Parts.{parts}
use Rattle.words.specs.declared.cause.Cause.{Cause as BadWords}

-- ---- what the line of an instance says

abbrev pub id_of : InstanceLine → List InstancePart
id_of (Raf id owner mode size latency timeout) = id
id_of (Rcf id owner mode size latency timeout channels) = id
id_of (Cltu id owner room longest timeout) = id

abbrev pub owner_of : InstanceLine → List ℕ
owner_of (Raf id owner mode size latency timeout) = owner
owner_of (Rcf id owner mode size latency timeout channels) = owner
owner_of (Cltu id owner room longest timeout) = owner

abbrev pub timeout_of : InstanceLine → ℕ
timeout_of (Raf id owner mode size latency timeout) = timeout
timeout_of (Rcf id owner mode size latency timeout channels) = timeout
timeout_of (Cltu id owner room longest timeout) = timeout

abbrev pub service_of : InstanceLine → Service
service_of (Raf id owner mode size latency timeout) = RafService mode size latency
service_of (Rcf id owner mode size latency timeout channels) =
    RcfService mode size latency channels
service_of (Cltu id owner room longest timeout) = CltuService room longest

-- ---- what the lines so far say

abbrev pub empty : Draft
empty = record {
  provider = None;
  password = None;
  capacity = None;
  heartbeat = None;
  versions = None;
  peers = [];
  instances = [];
}

-- the place of the peer of this name
abbrev pub place_of : List ℕ → List Peer → Option ℕ
place_of name peers = position (λ peer. bytes_eq peer.name name) peers

abbrev pub same_part : InstancePart → InstancePart → Bool
same_part p q = bytes_eq (name_of p.attribute) (name_of q.attribute) && bytes_eq p.value q.value

abbrev pub same_id : List InstancePart → List InstancePart → Bool
same_id = pointwise same_part

abbrev pub has_id : List InstancePart → List Instance → Bool
has_id id instances = list_any (λ instance. same_id instance.id id) instances

-- a setting, a peer's name or an identifier that an earlier line gives
abbrev pub is_repeated : Draft → Line → Bool
is_repeated d (Provider name) = is_some d.provider
is_repeated d (Password pass) = is_some d.password
is_repeated d (Capacity octets) = is_some d.capacity
is_repeated d (Beat h) = is_some d.heartbeat
is_repeated d (Versions versions) = is_some d.versions
is_repeated d (OfPeer peer) = is_some (place_of peer.name d.peers)
is_repeated d (OfInstance l) = has_id (id_of l) d.instances

-- an owner that no earlier line names as a peer
abbrev pub has_no_owner : Draft → Line → Bool
has_no_owner d (Provider name) = false
has_no_owner d (Password pass) = false
has_no_owner d (Capacity octets) = false
has_no_owner d (Beat h) = false
has_no_owner d (Versions versions) = false
has_no_owner d (OfPeer peer) = false
has_no_owner d (OfInstance l) = not (is_some (place_of (owner_of l) d.peers))

-- a thirty-third peer, a thirty-third instance or a second forward one
abbrev pub is_surplus : Draft → Line → Bool
is_surplus d (Provider name) = false
is_surplus d (Password pass) = false
is_surplus d (Capacity octets) = false
is_surplus d (Beat h) = false
is_surplus d (Versions versions) = false
is_surplus d (OfPeer peer) = nat_le 32 (length d.peers)
is_surplus d (OfInstance l) = nat_le 32 (length d.instances)
    || (is_forward (service_of l) && list_any (λ instance. is_forward instance.service) d.instances)

-- the first cause why what a line says can't stand behind the lines so far
abbrev pub cause_in : Draft → Line → Option Cause
cause_in d l =
    if is_repeated d l then Some Repeated
    else (if has_no_owner d l then Some NoOwner
    else (if is_surplus d l then Some Surplus else None))

-- an instance names its owner by the place among the peers
abbrev pub instance_in : List Peer → InstanceLine → Instance
instance_in peers l = record {
  id = id_of l;
  owner = unwrap_or (place_of (owner_of l) peers) 0;
  timeout = timeout_of l;
  service = service_of l;
}

-- what the lines say with one more
abbrev pub added : Draft → Line → Draft
added d (Provider name) = record d { provider = Some name }
added d (Password pass) = record d { password = Some pass }
added d (Capacity octets) = record d { capacity = Some octets }
added d (Beat h) = record d { heartbeat = Some h }
added d (Versions versions) = record d { versions = Some versions }
added d (OfPeer peer) = record d { peers = d.peers ++ peer ∷ [] }
added d (OfInstance l) = record d { instances = d.instances ++ instance_in d.peers l ∷ [] }

-- ---- the lines one after another

-- an empty line and a comment say nothing
abbrev pub is_skipped : List ℕ → Bool
is_skipped [] = true
is_skipped (octet ∷ octets) = octet == 35

abbrev pub unless : Option Cause → Draft → Result Draft Cause
unless (Some cause) d = Err cause
unless None d = Ok d

abbrev pub said : Draft → Result Line BadWords → Result Draft Cause
said d (Err cause) = Err (cause_of_words cause)
said d (Ok l) = unless (cause_in d l) (added d l)

-- what the lines say with one more, or the first cause why that is refused
abbrev pub told : Draft → List ℕ → Result Draft Cause
told d text = if is_skipped text then Ok d else said d (reading configuration text)

-- a refused line's number and cause
pub record Refusal : Type 0 where
  pub number : ℕ
  pub cause : ℕ

abbrev pub onward : ℕ → Result Draft Cause → (Draft → Result Draft Refusal) → Result Draft Refusal
onward number (Err cause) more = Err (record { number = number; cause = number_of cause })
onward number (Ok d) more = more d

-- numbers stay at the greatest one
abbrev pub next : ℕ → ℕ
next number = min (number + 1) 4294967295

-- what these lines say behind others, or the first one that is refused; the first has this number
abbrev pub told_from : ℕ → Draft → List (List ℕ) → Result Draft Refusal
told_from number d [] = Ok d
told_from number d (text ∷ texts) = onward number (told d text)
    (λ d. told_from (next number) d texts)

-- ---- the site

abbrev pub usual_heartbeat : Heartbeat
usual_heartbeat = record { interval_from = 5; interval_to = 3600; factor_from = 2; factor_to = 100 }

-- each setting as it is given, or its default
abbrev pub site_of : Draft → Site
site_of d = record {
  provider = unwrap_or d.provider (codes "STATION");
  password = unwrap_or d.password (0 ∷ 0 ∷ 0 ∷ 0 ∷ 0 ∷ 0 ∷ []);
  capacity = unwrap_or d.capacity 268435456;
  interval_from = (unwrap_or d.heartbeat usual_heartbeat).interval_from;
  interval_to = (unwrap_or d.heartbeat usual_heartbeat).interval_to;
  factor_from = (unwrap_or d.heartbeat usual_heartbeat).factor_from;
  factor_to = (unwrap_or d.heartbeat usual_heartbeat).factor_to;
  versions = unwrap_or d.versions (4 ∷ 5 ∷ []);
  peers = d.peers;
  instances = d.instances;
}

abbrev pub finished : Result Draft Refusal → Result Site Refusal
finished (Err refusal) = Err refusal
finished (Ok d) = Ok (site_of d)

-- the site that a text says, or its first bad line; lines end with 0A, and what stands behind the
-- last one is a line too
abbrev pub site_told : List ℕ → Result Site Refusal
site_told text = finished (told_from 1 empty (parts 10 text))
