-- What is said of credentials: the first fault, or none.
use Rattle.std.specs.Prelude.{◌≡◌, ℕ, ◌*◌, ◌<◌, ◌≤◌, nat_lt, nat_eq, if◌then◌else◌, List, Option}
use Rattle.std.specs.Prelude.{Some, None, Result, Ok, Err}
use Rattle.std.specs.Int.{abs_diff}
use Rattle.std.specs.Cmp.Lexicographic.{pointwise}
use Rattle.ber_core.specs.declared.fault.BerFault.{BerFault}
use Rattle.ber_core.specs.Spelling.{Spells}
use Rattle.ber_shape.specs.Exact.{whole}
use Rattle.cds_time.specs.Moment.{moment_of, of_micro_octets}
use Rattle.isp1_auth.specs.declared.secret.Secret.{Secret}
use Rattle.isp1_auth.specs.declared.checking.TheConstants.{PICOS_A_SECOND}
use Rattle.isp1_auth.specs.declared.auth_fault.AuthFault.{AuthFault}
use Rattle.isp1_auth.specs.declared.auth_fault.AuthFault.TheVariants.{Missing, Malformed, TooOld}
use Rattle.isp1_auth.specs.declared.auth_fault.AuthFault.TheVariants.{WrongDigest}
use Rattle.isp1_auth.specs.Digest.{digest}
use Rattle.isp1_auth.specs.Signed.{Claim, sequence}

-- how far a claim's time may be from now, in picoseconds
abbrev pub allowed : Secret → ℕ
allowed secret = secret.credential_age * PICOS_A_SECOND

-- the moment that a time's octets name, if they name one
abbrev pub moment_in : List ℕ → Option ℕ
moment_in time = moment_of (of_micro_octets time)

-- ---- by what the octets spell

-- The octets spell the claim, in any spelling, and its time names the moment.
pub record Says (octets : List ℕ) (claim : Claim) (moment : ℕ) : Type 0 where
  pub fits : sequence.Fits claim
  pub spelled : Spells (sequence.tree claim) octets
  pub names : moment_in claim.time ≡ Some moment

abbrev pub IsProtected : Secret → Claim → Type 0
IsProtected secret claim = claim.protected ≡ digest secret claim.time claim.number

-- The answer to octets that are used as credentials.
abbrev pub IsAnswerTo : List ℕ → Secret → ℕ → Result (Unit {0}) AuthFault → Type 0
IsAnswerTo octets secret now (Ok accepted) =
    (claim : Claim) × (moment : ℕ) × Says octets claim moment
    × (abs_diff now moment ≤ allowed secret) × IsProtected secret claim
IsAnswerTo octets secret now (Err Missing) = ⊥
IsAnswerTo octets secret now (Err Malformed) = (claim : Claim) (moment : ℕ)
    → Says octets claim moment → ⊥
IsAnswerTo octets secret now (Err (TooOld difference)) =
    (claim : Claim) × (moment : ℕ) × Says octets claim moment × (difference ≡ abs_diff now moment)
    × (allowed secret < difference)
IsAnswerTo octets secret now (Err WrongDigest) =
    (claim : Claim) × (moment : ℕ) × Says octets claim moment
    × (abs_diff now moment ≤ allowed secret) × (IsProtected secret claim → ⊥)

-- The answer to credentials: unused ones are Missing.
abbrev pub IsAnswer : Option (List ℕ) → Secret → ℕ → Result (Unit {0}) AuthFault → Type 0
IsAnswer None secret now answer = answer ≡ Err Missing
IsAnswer (Some octets) secret now answer = IsAnswerTo octets secret now answer

-- ---- worked out

abbrev pub at_moment : Secret → ℕ → Claim → Option ℕ → Result (Unit {0}) AuthFault
at_moment secret now claim None = Err Malformed
at_moment secret now claim (Some moment) =
    if nat_lt (allowed secret) (abs_diff now moment) then Err (TooOld (abs_diff now moment))
    else if pointwise nat_eq (digest secret claim.time claim.number) claim.protected then Ok tt
    else Err WrongDigest

abbrev pub at_reading : Secret → ℕ → Result Claim BerFault → Result (Unit {0}) AuthFault
at_reading secret now (Ok claim) = at_moment secret now claim (moment_in claim.time)
at_reading secret now (Err fault) = Err Malformed

abbrev pub auth : Secret → Option (List ℕ) → ℕ → Result (Unit {0}) AuthFault
auth secret None now = Err Missing
auth secret (Some octets) now = at_reading secret now (whole sequence.read octets)
