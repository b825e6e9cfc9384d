-- A time's fields and its octets give each other.
use Rattle.std.specs.Prelude.{◌≡◌, ℕ, ◌^◌, ◌<◌, List, length}
use Rattle.std.specs.List.{AllByRecursion}
use Rattle.cds_time.specs.Moment.{octets_of, of_micro_octets, of_pico_octets}
use Rattle.cds_time.specs.declared.cds.Cds.{Cds}
use Rattle.cds_time.specs.declared.cds.Rest.{Rest}
use Rattle.cds_time.specs.declared.cds.Rest.TheVariants.{Micros, Picos}

abbrev pub RestFits : Rest → Type 0
RestFits (Micros n) = n < 2 ^ 16
RestFits (Picos n) = n < 2 ^ 32

-- each field fits in its octets, in range or not
pub record FieldsFit (time : Cds) : Type 0 where
  pub days : time.days < 2 ^ 16
  pub millis : time.millis < 2 ^ 32
  pub rest : RestFits time.rest

-- the fields that stand in octets of the form that this rest has
abbrev pub of_octets : Rest → List ℕ → Cds
of_octets (Micros n) octets = of_micro_octets octets
of_octets (Picos n) octets = of_pico_octets octets

-- the time's fields fit, and these are its octets
pub record HasOctets (time : Cds) (octets : List ℕ) : Type 0 where
  pub fit : FieldsFit time
  pub are : octets_of time ≡ octets

-- 8 octets, and 10, give fields that fit, whose octets they are.
abbrev pub OctetsGiveFields : Type 0
OctetsGiveFields =
    (octets : List ℕ) → AllByRecursion (λ octet. octet < 256) octets
    → (length octets ≡ 8 → HasOctets (of_micro_octets octets) octets)
    × (length octets ≡ 10 → HasOctets (of_pico_octets octets) octets)

-- Fields that fit give octets, which give the fields again.
abbrev pub FieldsGiveOctets : Type 0
FieldsGiveOctets =
    (time : Cds) → FieldsFit time
    → AllByRecursion (λ octet. octet < 256) (octets_of time)
    × (of_octets time.rest (octets_of time) ≡ time)
