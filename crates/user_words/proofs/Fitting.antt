-- What the kinds of words say fits is what PDUs can say.
use Rattle.std.proofs.Common.{◌≡◌, ℕ, Bool, true, false, ◌&&◌, nat_le, List, [], ◌∷◌, length}
use Rattle.std.proofs.Common.{arith, refl}
use Rattle.std.proofs.lemmas.Bool.{and_parts, leb-true, le-leb}
use Rattle.std.specs.List.{list_all}
use Rattle.std.specs.Prelude.{IsTrue}
use Rattle.ber_core.specs.Reading.{is_visible}
use Rattle.sle_common.specs.declared.gvcid.Channel.{Channel}
use Rattle.sle_common.specs.declared.gvcid.Channel.TheVariants.{Master, Virtual}
use Rattle.sle_common.specs.declared.gvcid.Gvcid.{Gvcid}
use Rattle.user_task.specs.Fitting as task
use Rattle.words.specs.Channels.{gvcid, number_of}
use Rattle.words.specs.Fixed.{or_none}
use Rattle.words.specs.Names.{is_graphic, is_name}
use Rattle.words.specs.Number.{IsWithin}

both : (a b : Bool) → a ≡ true → b ≡ true → (a && b) ≡ true
both true b e f = f
both false b e f = absurd cc

visible : (c : ℕ) → is_graphic c ≡ true → is_visible c ≡ true
visible c e =
    let h = and_parts (nat_le 33 c) (nat_le c 126) e in
    both (nat_le 0x20 c) (nat_le c 0x7e) (le-leb 32 c (omega (arith, leb-true 33 c h.0))) h.1

all_visible : (w : List ℕ) → list_all is_graphic w ≡ true → list_all is_visible w ≡ true
all_visible [] e = e
all_visible (c ∷ w) e =
    let h = and_parts (is_graphic c) (list_all is_graphic w) e in
    both (is_visible c) (list_all is_visible w) (visible c h.0) (all_visible w h.1)

pub name_fits : (w : List ℕ) → is_name 3 16 w ≡ true → IsTrue (task.is_name w)
name_fits w e =
    let h = and_parts (nat_le 3 (length w) && nat_le (length w) 16) (list_all is_graphic w) e in
    search (both, h.0, all_visible w h.1)

of_channel : (c : Channel) → or_none (IsWithin 0 63) (number_of c) → task.fits_channel c ≡ true
of_channel Master fits = refl
of_channel (Virtual c) fits = le-leb c 63 fits.1

pub channel_fits : (g : Gvcid) → gvcid.Fits g → IsTrue (task.fits_gvcid g)
channel_fits g fits =
    search (
      both,
      le-leb g.spacecraft 1023 fits.0.1,
      le-leb g.version 3 fits.1.0.1,
      of_channel g.channel fits.1.1,
    )
