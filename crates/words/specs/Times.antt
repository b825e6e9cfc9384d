-- A word that is a time.
use Rattle.cds_time.specs.declared.cds.Cds.{Cds}
use Rattle.cds_time.specs.declared.cds.Rest.{Rest}
use Rattle.cds_time.specs.declared.cds.Rest.TheVariants.{Micros, Picos}
use Rattle.std.proofs.Common.{inl, inr, [], ◌∷◌, Option, refl}
use Rattle.words.specs.Either.{either}
use Rattle.words.specs.Fixed.{word_or}
use Rattle.words.specs.Kind.{Kind, kind_as}
use Rattle.words.specs.Last.{last}
use Rattle.words.specs.Number.{number}
use Rattle.words.specs.Separated.{separated}
use Rattle.words.specs.Suffixed.{ending, no_number}
use Rattle.words.specs.Then.{◌▸◌}

abbrev pub rest : Kind Rest
rest = kind_as (either (number 0 999) (ending 112 (number 0 999999999))
    (λ w y fits e. no_number 0 999 112 refl w e)) (record {
      to = elim [ inl n ↦ Micros n | inr n ↦ Picos n ];
      from = elim [ Micros n ↦ inl n | Picos n ↦ inr n ];
      there = elim [ Micros n ↦ refl | Picos n ↦ refl ];
      back = elim [ inl n ↦ refl | inr n ↦ refl ];
    })

-- D/M/U or D/M/Pp: days, milliseconds of the day, and microseconds or picoseconds of the
-- millisecond
abbrev pub time : Kind Cds
time = kind_as (separated 47 (number 0 65535 ▸ number 0 86399999 ▸ last rest) refl refl) (record {
  to = λ p. record { days = p.0; millis = p.1.0; rest = p.1.1 };
  from = λ t. (t.days, (t.millis, t.rest));
  there = λ t. refl;
  back = λ p. refl;
})

-- a time, or `none`
abbrev pub when : Kind (Option Cds)
when = word_or (110 ∷ 111 ∷ 110 ∷ 101 ∷ []) time refl
