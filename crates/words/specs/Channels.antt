-- A word that is a channel: spacecraft, version and virtual channel, or `*` for the master channel.
use Rattle.std.proofs.Common.{◌≡◌, ℕ, Option, Some, None, refl}
use Rattle.std.specs.Prelude.{codes}
use Rattle.sle_common.specs.declared.gvcid.Channel.{Channel}
use Rattle.sle_common.specs.declared.gvcid.Channel.TheVariants.{Master, Virtual}
use Rattle.sle_common.specs.declared.gvcid.Gvcid.{Gvcid}
use Rattle.words.specs.Fixed.{word_or}
use Rattle.words.specs.Kind.{Kind, kind_as}
use Rattle.words.specs.Last.{last}
use Rattle.words.specs.Number.{number}
use Rattle.words.specs.Separated.{separated}
use Rattle.words.specs.Then.{◌▸◌}

abbrev pub channel_of : Option ℕ → Channel
channel_of None = Master
channel_of (Some n) = Virtual n

abbrev pub number_of : Channel → Option ℕ
number_of Master = None
number_of (Virtual n) = Some n

pub channel_there : (c : Channel) → channel_of (number_of c) ≡ c
channel_there Master = refl
channel_there (Virtual n) = refl

pub channel_back : (o : Option ℕ) → number_of (channel_of o) ≡ o
channel_back None = refl
channel_back (Some n) = refl

-- C, 0 to 63, or * for the master channel
abbrev pub channel : Kind Channel
channel = kind_as (word_or (codes "*") (number 0 63) refl)
    (record { to = channel_of; from = number_of; there = channel_there; back = channel_back })

-- S/V/C or S/V/*, with S 0 to 1023 and V 0 to 3
abbrev pub gvcid : Kind Gvcid
gvcid = kind_as (separated 47 (number 0 1023 ▸ number 0 3 ▸ last channel) refl refl) (record {
  to = λ p. record { spacecraft = p.0; version = p.1.0; channel = p.1.1 };
  from = λ g. (g.spacecraft, (g.version, g.channel));
  there = λ g. refl;
  back = λ p. refl;
})
