-- What a station may have: each field in its range, names and identifiers apart, owners that are
-- peers.
use Rattle.std.specs.Prelude.{◌≡◌, ℕ, ◌<◌, ◌≤◌, Bool, true, false, List, length, map, count_by}
use Rattle.std.specs.List.{All, AllPairs}
use Rattle.sle_common.specs.Identifier.{IsIdentifier}
use Rattle.sle_common.specs.declared.gvcid.Channel.{Channel}
use Rattle.sle_common.specs.declared.gvcid.Channel.TheVariants.{Master, Virtual}
use Rattle.sle_common.specs.declared.gvcid.Gvcid.{Gvcid}
use Rattle.sle_numbers.specs.declared.return_delivery_mode.ReturnDeliveryMode.{ReturnDeliveryMode}
use Rattle.sle_numbers.specs.declared.return_delivery_mode.ReturnDeliveryMode.TheVariants.{TimelyOnline, CompleteOnline, Offline}
use Rattle.sle_numbers.specs.declared.service_type.ServiceType.{ServiceType}
use Rattle.sle_numbers.specs.declared.service_type.ServiceType.TheVariants.{RtnAllFrames, RtnChFrames}
use Rattle.sle_numbers.specs.declared.service_type.ServiceType.TheVariants.{FwdCltu}
use Rattle.station_config.specs.declared.instance.Instance.{Instance}
use Rattle.station_config.specs.declared.peer.Peer.{Peer}
use Rattle.station_config.specs.declared.service.Service.{Service}
use Rattle.station_config.specs.declared.service.Service.TheVariants.{Raf, Rcf, Cltu}
use Rattle.station_config.specs.declared.site.Site.{Site}
use Rattle.words.specs.HexOctets.{AreOctets}
use Rattle.words.specs.Names.{is_name}

-- a number from the least to the greatest
pub record IsFrom (least greatest n : ℕ) : Type 0 where
  pub low : least ≤ n
  pub high : n ≤ greatest

-- different values at different places
abbrev pub AreApart : {X : Type 0} → List X → Type 0
AreApart xs = AllPairs (λ x y. x ≡ y → ⊥) xs

-- 3 to 16 characters from 21 to 7E
abbrev pub IsName : List ℕ → Type 0
IsName name = is_name 3 16 name ≡ true

-- 6 to 16 octets
abbrev pub IsPassword : List ℕ → Type 0
IsPassword pass = AreOctets 6 16 pass

-- a span of numbers, from one to another, between bounds
pub record IsSpan (least greatest from to : ℕ) : Type 0 where
  pub low : least ≤ from
  pub rises : from ≤ to
  pub high : to ≤ greatest

-- 1 to 4 numbers from 4 to 9
pub record AreVersions (versions : List ℕ) : Type 0 where
  pub count : IsFrom 1 4 (length versions)
  pub each : All (IsFrom 4 9) versions

pub record IsPeer (peer : Peer) : Type 0 where
  pub name : IsName peer.name
  pub credential_age : IsFrom 1 86400 peer.credential_age
  pub pass : IsPassword peer.pass

-- at most 32, each with a name of its own
pub record ArePeers (peers : List Peer) : Type 0 where
  pub count : length peers ≤ 32
  pub each : All IsPeer peers
  pub names : AreApart (map (λ peer. peer.name) peers)

-- an offline instance has no latency, any other one up to an hour
abbrev pub IsLatency : ReturnDeliveryMode → ℕ → Type 0
IsLatency TimelyOnline l = IsFrom 1 3600 l
IsLatency CompleteOnline l = IsFrom 1 3600 l
IsLatency Offline l = l ≡ 0

-- a buffer's size and latency
pub record IsReturn (mode : ReturnDeliveryMode) (s l : ℕ) : Type 0 where
  pub size : IsFrom 1 1000 s
  pub latency : IsLatency mode l

abbrev pub IsVirtual : Channel → Type 0
IsVirtual Master = Unit {0}
IsVirtual (Virtual channel) = channel ≤ 63

pub record IsChannel (gvcid : Gvcid) : Type 0 where
  pub spacecraft : gvcid.spacecraft ≤ 1023
  pub version : gvcid.version ≤ 3
  pub channel : IsVirtual gvcid.channel

-- 1 to 8 channels
pub record AreChannels (channels : List Gvcid) : Type 0 where
  pub count : IsFrom 1 8 (length channels)
  pub each : All IsChannel channels

pub record IsForward (r l : ℕ) : Type 0 where
  pub room : IsFrom 1 16777216 r
  pub longest : IsFrom 1 65536 l

abbrev pub IsService : Service → Type 0
IsService (Raf mode size latency) = IsReturn mode size latency
IsService (Rcf mode size latency channels) = IsReturn mode size latency × AreChannels channels
IsService (Cltu room longest) = IsForward room longest

abbrev pub is_forward : Service → Bool
is_forward (Raf mode size latency) = false
is_forward (Rcf mode size latency channels) = false
is_forward (Cltu room longest) = true

-- the type by which a BIND asks for it
abbrev pub service_type : Service → ServiceType
service_type (Raf mode size latency) = RtnAllFrames
service_type (Rcf mode size latency channels) = RtnChFrames
service_type (Cltu room longest) = FwdCltu

-- an instance of a station that has so many peers
pub record IsInstance (peers : ℕ) (instance : Instance) : Type 0 where
  pub id : IsIdentifier instance.id
  pub owner : instance.owner < peers
  pub timeout : IsFrom 1 600 instance.timeout
  pub service : IsService instance.service

-- at most 32, each with an identifier of its own, one of them a forward one at most
pub record AreInstances (peers : ℕ) (instances : List Instance) : Type 0 where
  pub count : length instances ≤ 32
  pub each : All (IsInstance peers) instances
  pub identifiers : AreApart (map (λ instance. instance.id) instances)
  pub one_forward : count_by (λ instance. is_forward instance.service) instances ≤ 1

-- a station that some configuration gives
pub record IsSite (site : Site) : Type 0 where
  pub provider : IsName site.provider
  pub password : IsPassword site.password
  pub capacity : IsFrom 64 268435456 site.capacity
  pub interval : IsSpan 1 3600 site.interval_from site.interval_to
  pub factor : IsSpan 2 100 site.factor_from site.factor_to
  pub versions : AreVersions site.versions
  pub peers : ArePeers site.peers
  pub instances : AreInstances (length site.peers) site.instances
