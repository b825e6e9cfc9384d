-- What the service answers and tells fits: the numbers of tables, counts, and times.
use Rattle.std.proofs.Common.{ℕ, pos, negsuc, ◌-◌, ◌^◌, ◌<◌, Option, Some, None, IfSome, refl, arith}
use Rattle.std.proofs.lemmas.Int.{ints}
use Rattle.ber_shape.specs.Content.{InRange}
use Rattle.cds_time.specs.Octets.{FieldsFit}
use Rattle.cds_time.specs.declared.cds.Cds.{Cds}
use Rattle.cds_time.specs.declared.cds.Rest.{Rest}
use Rattle.cds_time.specs.declared.cds.Rest.TheVariants.{Micros, Picos}
use Rattle.sle_common.specs.Time.{time, conditional_time}

pub small_fits : (n : ℕ) → n < 2 ^ 32 → InRange (negsuc (2 ^ 63 - 1)) (pos (2 ^ 64 - 1)) (pos n)
small_fits n small = omega (arith, ints)

form_fits : (days millis : ℕ) (rest : Rest)
    → FieldsFit (record { days = days; millis = millis; rest = rest })
    → time.Fits (record { days = days; millis = millis; rest = rest })
form_fits days millis (Micros n) fit = record { fields = fit; form = refl }
form_fits days millis (Picos n) fit = record { fields = fit; form = refl }

pub time_fits : (t : Cds) → FieldsFit t → time.Fits t
time_fits t fit = form_fits t.days t.millis t.rest fit

pub conditional_fits : (t : Option Cds) → IfSome t (λ t. FieldsFit t) → conditional_time.Fits t
conditional_fits None fit = tt
conditional_fits (Some t) fit = time_fits t fit
