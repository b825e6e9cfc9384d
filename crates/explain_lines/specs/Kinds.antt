-- The kinds of words that only the lines of a stream have.
use Rattle.std.proofs.Common.{◌≡◌, ℕ, ◌⊎◌, inl, inr, false, List, [], ◌∷◌, Option, Some, None, refl}
use Rattle.std.proofs.Common.{sym, ◌∙◌, ap, append-nil}
use Rattle.std.specs.Prelude.{codes}
use Rattle.cds_time.specs.declared.cds.Cds.{Cds}
use Rattle.cds_time.specs.declared.cds.Rest.{Rest}
use Rattle.cds_time.specs.declared.cds.Rest.TheVariants.{Micros, Picos}
use Rattle.words.specs.Either.{either}
use Rattle.words.specs.Fixed.{fixed, word_or}
use Rattle.words.specs.HexOctets.{hex}
use Rattle.words.specs.Kind.{Kind, kind_as}
use Rattle.words.specs.Last.{last}
use Rattle.words.specs.Number.{number}
use Rattle.words.specs.Parts.{parts, to_parts}
use Rattle.words.specs.Row.{Row}
use Rattle.words.specs.Separated.{separated}
use Rattle.words.specs.Steps.{◌>>=◌}
use Rattle.words.specs.Then.{◌▸◌}
use Rattle.explain_lines.specs.declared.kinds.Integer.{Integer}
use Rattle.explain_lines.specs.declared.kinds.Integer.TheVariants.{Above, Below}
use Rattle.explain_lines.specs.declared.kinds.Antenna.{Antenna}
use Rattle.explain_lines.specs.declared.kinds.Antenna.TheVariants.{Global, Local}

-- a row of two words and more isn't read of one
pub too_few : {X Y : Type 0} (k : Kind X) (r : Row Y) (w : List ℕ) → r.read [] ≡ None
    → (k ▸ r).read (w ∷ []) ≡ None
too_few {X} {Y} k r w e = elim (k.read w) as
    (λ o. ◌>>=◌ {A = X} {B = X × Y} o (λ x. ◌>>=◌ {A = Y} {B = X × Y} (r.read [])
    (λ y. Some (x, y))) ≡ None) [ None ↦ refl | Some x ↦ rw e refl ]

-- a word of a kind that lacks a separator is one part
pub one_part : {X : Type 0} (k : Kind X) (separator : ℕ) → k.alphabet separator ≡ false
    → (w : List ℕ) (x : X) → k.Fits x → k.Spells x w → parts separator w ≡ w ∷ []
one_part k separator apart w x fits e = ap (parts separator) (sym (append-nil w))
    ∙ to_parts separator k.alphabet apart w [] (k.clean w x fits e) tt

-- ---- integers

abbrev pub long : Kind ℕ
long = number 0 18446744073709551615

-- behind a sign
abbrev pub minus : Row (Unit {0} × ℕ)
minus = fixed [] ▸ last (number 1 18446744073709551615)

abbrev pub below : Kind ℕ
below = kind_as (separated 45 minus refl refl)
    (record { to = λ p. p.1; from = λ n. (tt, n); there = λ n. refl; back = λ p. refl })

pub not_below : (w : List ℕ) (n : ℕ) → long.Fits n → long.Spells n w → below.read w ≡ None
not_below w n fits e =
    let none : minus.read (parts 45 w) ≡ None = ap minus.read (one_part long 45 refl w n fits e)
    ∙ too_few (fixed []) (last (number 1 18446744073709551615)) w refl in
    rw none refl

abbrev pub integer_of : ℕ ⊎ ℕ → Integer
integer_of (inl n) = Below n
integer_of (inr n) = Above n

abbrev pub of_integer : Integer → ℕ ⊎ ℕ
of_integer (Below n) = inl n
of_integer (Above n) = inr n

pub integer_there : (i : Integer) → integer_of (of_integer i) ≡ i
integer_there (Below n) = refl
integer_there (Above n) = refl

pub integer_back : (s : ℕ ⊎ ℕ) → of_integer (integer_of s) ≡ s
integer_back (inl n) = refl
integer_back (inr n) = refl

-- a number, with a sign where it is below 0
abbrev pub integer : Kind Integer
integer = kind_as (either below long not_below)
    (record { to = integer_of; from = of_integer; there = integer_there; back = integer_back })

-- ---- antennas

abbrev pub local : Kind (List ℕ)
local = hex 1 16

abbrev pub marked : Row (Unit {0} × List ℕ)
marked = fixed (codes "oid") ▸ last (hex 1 65536)

abbrev pub global : Kind (List ℕ)
global = kind_as (separated 58 marked refl refl)
    (record { to = λ p. p.1; from = λ o. (tt, o); there = λ o. refl; back = λ p. refl })

pub not_global : (w octets : List ℕ) → local.Fits octets → local.Spells octets w → global.read w ≡ None
not_global w octets fits e =
    let none : marked.read (parts 58 w) ≡ None = ap marked.read (one_part local 58 refl w octets fits e)
    ∙ too_few (fixed (codes "oid")) (last (hex 1 65536)) w refl in
    rw none refl

abbrev pub antenna_of : List ℕ ⊎ List ℕ → Antenna
antenna_of (inl octets) = Global octets
antenna_of (inr octets) = Local octets

abbrev pub of_antenna : Antenna → List ℕ ⊎ List ℕ
of_antenna (Global octets) = inl octets
of_antenna (Local octets) = inr octets

pub antenna_there : (a : Antenna) → antenna_of (of_antenna a) ≡ a
antenna_there (Global octets) = refl
antenna_there (Local octets) = refl

pub antenna_back : (s : List ℕ ⊎ List ℕ) → of_antenna (antenna_of s) ≡ s
antenna_back (inl octets) = refl
antenna_back (inr octets) = refl

-- HEX, or `oid:` and HEX
abbrev pub antenna : Kind Antenna
antenna = kind_as (either global local not_global)
    (record { to = antenna_of; from = of_antenna; there = antenna_there; back = antenna_back })

-- ---- times, whose fields need name no moment

abbrev pub micros : Kind ℕ
micros = number 0 65535

-- before the letter p
abbrev pub with_p : Row (ℕ × Unit {0})
with_p = number 0 4294967295 ▸ last (fixed [])

abbrev pub picos : Kind ℕ
picos = kind_as (separated 112 with_p refl refl)
    (record { to = λ p. p.0; from = λ n. (n, tt); there = λ n. refl; back = λ p. refl })

pub not_picos : (w : List ℕ) (n : ℕ) → micros.Fits n → micros.Spells n w → picos.read w ≡ None
not_picos w n fits e =
    let none : with_p.read (parts 112 w) ≡ None = ap with_p.read (one_part micros 112 refl w n fits e)
    ∙ too_few (number 0 4294967295) (last (fixed [])) w refl in
    rw none refl

abbrev pub rest_of : ℕ ⊎ ℕ → Rest
rest_of (inl n) = Picos n
rest_of (inr n) = Micros n

abbrev pub of_rest : Rest → ℕ ⊎ ℕ
of_rest (Picos n) = inl n
of_rest (Micros n) = inr n

pub rest_there : (r : Rest) → rest_of (of_rest r) ≡ r
rest_there (Picos n) = refl
rest_there (Micros n) = refl

pub rest_back : (s : ℕ ⊎ ℕ) → of_rest (rest_of s) ≡ s
rest_back (inl n) = refl
rest_back (inr n) = refl

abbrev pub rest : Kind Rest
rest = kind_as (either picos micros not_picos)
    (record { to = rest_of; from = of_rest; there = rest_there; back = rest_back })

abbrev pub fields : Kind Cds
fields = kind_as (separated 47 (number 0 65535 ▸ number 0 4294967295 ▸ last rest) refl refl)
    (record {
      to = λ p. record { days = p.0; millis = p.1.0; rest = p.1.1 };
      from = λ t. (t.days, (t.millis, t.rest));
      there = λ t. refl;
      back = λ p. refl;
    })

-- ---- continuity

-- how many frames are missing before one, or that it isn't known
abbrev pub continuity : Kind (Option ℕ)
continuity = word_or (codes "-1") (number 0 16777215) refl
