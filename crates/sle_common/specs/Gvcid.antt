-- Global virtual channel identifiers (CCSDS 911.2-B, annex A).
use Rattle.std.proofs.Common.{◌≡◌, ℕ, [], ◌∷◌, ◌⊎◌, inl, inr, refl}
use Rattle.ber_shape.specs.Content.{null}
use Rattle.ber_shape.specs.Element.{Element, simple}
use Rattle.ber_shape.specs.Members.{Members, last, ◌▸◌}
use Rattle.ber_shape.specs.Same.{element_as, members_as}
use Rattle.ber_shape.specs.Choice.{either}
use Rattle.sle_common.specs.declared.gvcid.Gvcid.{Gvcid}
use Rattle.sle_common.specs.declared.gvcid.Channel.{Channel}
use Rattle.sle_common.specs.declared.gvcid.Channel.TheVariants.{Master, Virtual}
use Rattle.sle_common.specs.Natural.{natural}

abbrev pub channel_of : ℕ ⊎ Unit {0} → Channel
channel_of (inl n) = Virtual n
channel_of (inr master) = Master

abbrev pub of_channel : Channel → ℕ ⊎ Unit {0}
of_channel (Virtual n) = inl n
of_channel Master = inr tt

pub channel_there : (c : Channel) → channel_of (of_channel c) ≡ c
channel_there (Virtual n) = refl
channel_there Master = refl

pub channel_back : (z : ℕ ⊎ Unit {0}) → of_channel (channel_of z) ≡ z
channel_back (inl n) = refl
channel_back (inr master) = refl

-- [0] NULL for the master channel, [1] INTEGER 0 to 63 for a virtual one
abbrev pub channel : Element Channel
channel = element_as (either (0x81 ∷ []) (natural (0x81 ∷ []) 0 63 refl refl)
    (simple (0x80 ∷ []) null refl) refl refl)
    (record { to = channel_of; from = of_channel; there = channel_there; back = channel_back })

-- spacecraft 0 to 1023, version 0 to 3, channel
abbrev pub gvcid : Members Gvcid
gvcid = members_as (natural (0x02 ∷ []) 0 1023 refl refl ▸ natural (0x02 ∷ []) 0 3 refl refl ▸ last
    channel) (record {
      to = λ p. record { spacecraft = p.0; version = p.1.0; channel = p.1.1 };
      from = λ g. (g.spacecraft, (g.version, g.channel));
      there = λ g. refl;
      back = λ p. refl;
    })
