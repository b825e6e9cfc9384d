-- The lines of a configuration, each a first word and a row of words behind it.
use Rattle.std.proofs.Common.{◌≡◌, ℕ, ◌⊎◌, inl, inr, Bool, ◌&&◌, nat_le, List, refl}
use Rattle.std.specs.Prelude.{codes}
use Rattle.sle_common.specs.declared.gvcid.Gvcid.{Gvcid}
use Rattle.sle_common.specs.declared.instance_id.InstancePart.{InstancePart}
use Rattle.sle_numbers.specs.declared.return_delivery_mode.ReturnDeliveryMode.{ReturnDeliveryMode}
use Rattle.station_config.specs.Kinds.{level, hash, mode, is_latency, owner}
use Rattle.station_config.specs.declared.instance_line.InstanceLine.{InstanceLine}
use Rattle.station_config.specs.declared.instance_line.InstanceLine.TheVariants.{Raf, Rcf, Cltu}
use Rattle.station_config.specs.declared.level.Level.{Level}
use Rattle.station_config.specs.declared.line.Line.{Line}
use Rattle.station_config.specs.declared.line.Line.TheVariants.{Provider, Password, Capacity, Beat}
use Rattle.station_config.specs.declared.line.Line.TheVariants.{Versions, Peer as OfPeer, Instance}
use Rattle.words.specs.Channels.{gvcid}
use Rattle.words.specs.Choice.{Choice, no_line, line, choice_as}
use Rattle.words.specs.HexOctets.{hex}
use Rattle.words.specs.Identifiers.{identifier}
use Rattle.words.specs.Last.{last}
use Rattle.words.specs.Lines.{AreExact, exact}
use Rattle.words.specs.Many.{many}
use Rattle.words.specs.Names.{name}
use Rattle.words.specs.Number.{number}
use Rattle.words.specs.Row.{Row}
use Rattle.words.specs.Tested.{tested}
use Rattle.words.specs.Then.{◌▸◌}

-- the interval's span and the dead factor's
abbrev pub Spans : Type 0
Spans = ℕ × (ℕ × (ℕ × ℕ))

abbrev pub both_rise : Spans → Bool
both_rise s = nat_le s.0 s.1.0 && nat_le s.1.1.0 s.1.1.1

-- A B C D: intervals from A to B, dead factors from C to D
abbrev pub heartbeat_row : Row Spans
heartbeat_row = tested (number 1 3600 ▸ number 1 3600 ▸ number 2 100 ▸ last (number 2 100))
    both_rise

abbrev pub versions_row : Row (List ℕ)
versions_row = many (number 4 9) 1 4

-- NAME LEVEL HASH DELAY HEX
abbrev pub PeerParts : Type 0
PeerParts = List ℕ × (Level × (Bool × (ℕ × List ℕ)))

abbrev pub peer_row : Row PeerParts
peer_row = name 3 16 ▸ level ▸ hash ▸ number 1 86400 ▸ last (hex 6 16)

-- MODE SIZE LATENCY TIMEOUT
abbrev pub Delivery : Type 0
Delivery = ReturnDeliveryMode × (ℕ × (ℕ × ℕ))

abbrev pub delivery_row : Row Delivery
delivery_row = tested (mode ▸ number 1 1000 ▸ number 0 3600 ▸ last (number 1 600))
    (λ d. is_latency d.0 d.1.1.0)

-- MODE SIZE LATENCY TIMEOUT CHANNEL..
abbrev pub ChannelDelivery : Type 0
ChannelDelivery = ReturnDeliveryMode × (ℕ × (ℕ × (ℕ × List Gvcid)))

abbrev pub channel_delivery_row : Row ChannelDelivery
channel_delivery_row = tested (mode ▸ number 1 1000 ▸ number 0 3600 ▸ number 1 600 ▸ many gvcid 1 8)
    (λ d. is_latency d.0 d.1.1.0)

-- ID OWNER, and what is delivered
abbrev pub raf_row : Row (List InstancePart × (List ℕ × Delivery))
raf_row = identifier ▸ owner ▸ delivery_row

abbrev pub rcf_row : Row (List InstancePart × (List ℕ × ChannelDelivery))
rcf_row = identifier ▸ owner ▸ channel_delivery_row

-- ID OWNER ROOM LONGEST TIMEOUT
abbrev pub cltu_row : Row (List InstancePart × (List ℕ × (ℕ × (ℕ × ℕ))))
cltu_row = identifier ▸ owner ▸ number 1 16777216 ▸ number 1 65536 ▸ last (number 1 600)

abbrev pub InstanceParts : Type 0
InstanceParts = (List InstancePart × (List ℕ × Delivery))
    ⊎ ((List InstancePart × (List ℕ × ChannelDelivery))
    ⊎ ((List InstancePart × (List ℕ × (ℕ × (ℕ × ℕ)))) ⊎ ⊥))

abbrev pub instance_of : InstanceParts → InstanceLine
instance_of (inl p) = Raf p.0 p.1.0 p.1.1.0 p.1.1.1.0 p.1.1.1.1.0 p.1.1.1.1.1
instance_of (inr (inl p)) = Rcf p.0 p.1.0 p.1.1.0 p.1.1.1.0 p.1.1.1.1.0 p.1.1.1.1.1.0 p.1.1.1.1.1.1
instance_of (inr (inr (inl p))) = Cltu p.0 p.1.0 p.1.1.0 p.1.1.1.0 p.1.1.1.1
instance_of (inr (inr (inr x))) = absurd x

abbrev pub of_instance : InstanceLine → InstanceParts
of_instance (Raf id who how size latency timeout) =
    inl (id, (who, (how, (size, (latency, timeout)))))
of_instance (Rcf id who how size latency timeout channels) =
    inr (inl (id, (who, (how, (size, (latency, (timeout, channels)))))))
of_instance (Cltu id who room longest timeout) =
    inr (inr (inl (id, (who, (room, (longest, timeout))))))

pub instance_there : (l : InstanceLine) → instance_of (of_instance l) ≡ l
instance_there (Raf id who how size latency timeout) = refl
instance_there (Rcf id who how size latency timeout channels) = refl
instance_there (Cltu id who room longest timeout) = refl

pub instance_back : (p : InstanceParts) → of_instance (instance_of p) ≡ p
instance_back (inl p) = refl
instance_back (inr (inl p)) = refl
instance_back (inr (inr (inl p))) = refl
instance_back (inr (inr (inr x))) = absurd x

-- the lines of service instances
abbrev pub instance_line : Choice InstanceLine
instance_line = choice_as
    (line (codes "raf") raf_row (line (codes "rcf") rcf_row
    (line (codes "cltu") cltu_row no_line refl) refl) refl)
    (record { to = instance_of; from = of_instance; there = instance_there; back = instance_back })

-- what stands behind the first words
abbrev pub Parts : Type 0
Parts = List ℕ ⊎ (List ℕ ⊎ (ℕ ⊎ (Spans ⊎ (List ℕ ⊎ (PeerParts ⊎ InstanceLine)))))

abbrev pub line_of : Parts → Line
line_of (inl name) = Provider name
line_of (inr (inl pass)) = Password pass
line_of (inr (inr (inl octets))) = Capacity octets
line_of (inr (inr (inr (inl s)))) =
    Beat (record {
      interval_from = s.0;
      interval_to = s.1.0;
      factor_from = s.1.1.0;
      factor_to = s.1.1.1;
    })
line_of (inr (inr (inr (inr (inl versions))))) = Versions versions
line_of (inr (inr (inr (inr (inr (inl p)))))) =
    OfPeer (record {
      name = p.0;
      level = p.1.0;
      sha256 = p.1.1.0;
      credential_age = p.1.1.1.0;
      pass = p.1.1.1.1;
    })
line_of (inr (inr (inr (inr (inr (inr l)))))) = Instance l

abbrev pub parts_of : Line → Parts
parts_of (Provider name) = inl name
parts_of (Password pass) = inr (inl pass)
parts_of (Capacity octets) = inr (inr (inl octets))
parts_of (Beat h) = inr (inr (inr (inl (
  h.interval_from,
  (h.interval_to, (h.factor_from, h.factor_to)),
))))
parts_of (Versions versions) = inr (inr (inr (inr (inl versions))))
parts_of (OfPeer p) = inr (inr
    (inr (inr (inr (inl (p.name, (p.level, (p.sha256, (p.credential_age, p.pass)))))))))
parts_of (Instance l) = inr (inr (inr (inr (inr (inr l)))))

pub line_there : (l : Line) → line_of (parts_of l) ≡ l
line_there (Provider name) = refl
line_there (Password pass) = refl
line_there (Capacity octets) = refl
line_there (Beat h) = refl
line_there (Versions versions) = refl
line_there (OfPeer p) = refl
line_there (Instance l) = refl

pub parts_back : (p : Parts) → parts_of (line_of p) ≡ p
parts_back (inl name) = refl
parts_back (inr (inl pass)) = refl
parts_back (inr (inr (inl octets))) = refl
parts_back (inr (inr (inr (inl s)))) = refl
parts_back (inr (inr (inr (inr (inl versions))))) = refl
parts_back (inr (inr (inr (inr (inr (inl p)))))) = refl
parts_back (inr (inr (inr (inr (inr (inr l)))))) = refl

abbrev pub configuration : Choice Line
configuration = choice_as
    (line (codes "provider") (last (name 3 16))
    (line (codes "password") (last (hex 6 16))
    (line (codes "capacity") (last (number 64 268435456))
    (line (codes "heartbeat") heartbeat_row
    (line (codes "versions") versions_row
    (line (codes "peer") peer_row instance_line refl) refl) refl) refl) refl) refl)
    (record { to = line_of; from = parts_of; there = line_there; back = parts_back })

pub configuration_is_exact : AreExact configuration
configuration_is_exact = exact configuration refl refl
