-- What a script's peer asks fits, and is few octets.
use Rattle.std.proofs.Common.{◌≡◌, ℕ, ◌+◌, ◌≤◌, Bool, true, ◌&&◌, nat_le, List, [], ◌∷◌, length}
use Rattle.std.proofs.Common.{Option, Some, None, IfSome, refl, ap, ◌∙◌, arith}
use Rattle.std.proofs.lemmas.Bool.{and_parts}
use Rattle.std.specs.List.{list_all}
use Rattle.ber_core.specs.Spelling.{canonical}
use Rattle.ber_core.specs.Tree.{constructed}
use Rattle.ber_core.specs.Reading.{is_visible}
use Rattle.ber_shape.specs.Content.{IsVisible}
use Rattle.ber_shape.specs.Members.{Members, structured_few}
use Rattle.bind_pdu.specs.Binding.{bind}
use Rattle.cds_time.specs.Octets.{FieldsFit}
use Rattle.cds_time.specs.declared.cds.Cds.{Cds}
use Rattle.cds_time.specs.declared.cds.Rest.{Rest}
use Rattle.cds_time.specs.declared.cds.Rest.TheVariants.{Micros, Picos}
use Rattle.sle_common.specs.Gvcid.{channel, gvcid}
use Rattle.sle_common.specs.Time.{time, conditional_time}
use Rattle.sle_common.specs.declared.gvcid.Channel.{Channel}
use Rattle.sle_common.specs.declared.gvcid.Channel.TheVariants.{Master, Virtual}
use Rattle.sle_common.specs.declared.gvcid.Gvcid.{Gvcid}
use Rattle.sle_common.specs.declared.instance_id.InstancePart.{InstancePart}
use Rattle.words.specs.Channels as text
use Rattle.words.specs.Names.{is_graphic, is_name}
use Rattle.words.specs.Identifiers.{fits_identifier}
use Rattle.drill_text.specs.Asks.{ask}
use Rattle.drill_text.specs.declared.ask_line.AskLine.TheVariants.{Bind}
use Rattle.station_links.specs.Asked.{port, bind_asked}

pub few_pdu : {X : Type 0} (tag : List ℕ) (m : Members X) (x : X) → m.Fits x
    → nat_le (length tag + 9 + m.most) 131072 ≡ true
    → length (canonical (constructed tag (m.trees x))) ≤ 131072
few_pdu tag m x fits short = grind (arith, structured_few tag m x fits)

-- ---- times

form_fits : (days millis : ℕ) (rest : Rest)
    → FieldsFit (record { days = days; millis = millis; rest = rest })
    → time.Fits (record { days = days; millis = millis; rest = rest })
form_fits days millis (Micros n) fit = record { fields = fit; form = refl }
form_fits days millis (Picos n) fit = record { fields = fit; form = refl }

pub conditional_fits : (t : Option Cds) → IfSome t (λ t. FieldsFit t) → conditional_time.Fits t
conditional_fits None fit = tt
conditional_fits (Some t) fit = form_fits t.days t.millis t.rest fit

-- ---- channels

channel_fits : (c : Channel) → text.channel.Fits c → channel.Fits c
channel_fits Master fits = tt
channel_fits (Virtual n) fits =
    record { least_so = fits.0; greatest_so = omega (arith, fits.1) }

pub gvcid_fits : (g : Gvcid) → text.gvcid.Fits g → gvcid.Fits g
gvcid_fits g fits = (
  record { least_so = fits.0.0; greatest_so = omega (arith, fits.0.1) },
  (
    record { least_so = fits.1.0.0; greatest_so = omega (arith, fits.1.0.1) },
    channel_fits g.channel fits.1.1,
  ),
)

-- ---- names

graphic_visible : (c : ℕ) → is_graphic c ≡ true → is_visible c ≡ true
graphic_visible c e = grind arith

all_visible : (name : List ℕ) → list_all is_graphic name ≡ true → list_all is_visible name ≡ true
all_visible [] e = refl
all_visible (c ∷ name) e =
    let both = and_parts (is_graphic c) (list_all is_graphic name) e in
    ap (λ (b : Bool). b && list_all is_visible name) (graphic_visible c both.0)
    ∙ all_visible name both.1

at_least : (least n : ℕ) → nat_le least n ≡ true → least ≤ n
at_least least n e = grind arith

name_fits : (name : List ℕ) → is_name 3 16 name ≡ true → IsVisible 3 16 name
name_fits name is =
    let parts = and_parts (nat_le 3 (length name) && nat_le (length name) 16)
    (list_all is_graphic name) is in
    let lengths = and_parts (nat_le 3 (length name)) (nat_le (length name) 16) parts.0 in
    record {
      lengths = record {
        least_so = at_least 3 (length name) lengths.0;
        greatest_so = at_least (length name) 16 lengths.1;
      };
      visible_all = all_visible name parts.1;
    }

port_fits : IsVisible 1 128 port
port_fits =
    record {
      lengths = record { least_so = omega arith; greatest_so = omega arith };
      visible_all = refl;
    }

pub bind_fits : (name : List ℕ) (service version : ℕ) (id : List InstancePart)
    → ask.Fits (Bind name service version id) → bind.Fits (bind_asked name service version id)
bind_fits name service version id fits = (
  tt,
  (
    name_fits name fits.0,
    (
      port_fits,
      (
        record { least_so = fits.1.0.0; greatest_so = omega (arith, fits.1.0.1) },
        (
          record { least_so = fits.1.1.0.0; greatest_so = omega (arith, fits.1.1.0.1) },
          fits_identifier id fits.1.1.1,
        ),
      ),
    ),
  ),
)
