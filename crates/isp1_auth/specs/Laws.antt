-- What the definitions say of credentials.
use Rattle.std.specs.Prelude.{◌≡◌, ◌↔◌, ℕ, ◌+◌, ◌*◌, ◌^◌, ◌<◌, ◌≤◌, List, Some, Result, Ok, Err}
use Rattle.std.specs.Int.{abs_diff}
use Rattle.ber_core.specs.Length.{IsSlice}
use Rattle.cds_time.specs.Moment.{octets_of, in_micros}
use Rattle.cds_time.specs.declared.cds.TheConstants.{MOMENT_END}
use Rattle.isp1_auth.specs.declared.secret.Secret.{Secret}
use Rattle.isp1_auth.specs.declared.auth_fault.AuthFault.{AuthFault}
use Rattle.isp1_auth.specs.declared.auth_fault.AuthFault.TheVariants.{TooOld}
use Rattle.isp1_auth.specs.declared.random_numbers.TheConstants.{GREATEST_NUMBER}
use Rattle.isp1_auth.specs.Signed.{Claim, signed}
use Rattle.isp1_auth.specs.Auth.{auth, allowed, Says, IsProtected, IsAnswerTo}

-- Octets have one answer, the one that is worked out.
abbrev pub OneAnswer : Type 0
OneAnswer =
    (octets : List ℕ) (secret : Secret) (now : ℕ) (answer : Result (Unit {0}) AuthFault)
    → IsSlice octets
    → IsAnswerTo octets secret now answer ↔ (answer ≡ auth secret (Some octets) now)

-- Credentials with the secret's digest are accepted exactly while their time is at most the age from
-- now that is allowed, either way.
abbrev pub AcceptedWhileNear : Type 0
AcceptedWhileNear =
    (octets : List ℕ) (secret : Secret) (claim : Claim) (moment now : ℕ) → Says octets claim moment
    → IsProtected secret claim
    → (auth secret (Some octets) now ≡ Ok tt) ↔ (abs_diff now moment ≤ allowed secret)

-- What is signed at a moment is accepted at that moment, where an age of a second or more is
-- allowed.
abbrev pub SignedIsAccepted : Type 0
SignedIsAccepted =
    (secret : Secret) (now number : ℕ) → now < MOMENT_END → number ≤ GREATEST_NUMBER
    → 1 ≤ secret.credential_age
    → auth secret (Some (signed secret (octets_of (in_micros now)) number)) now ≡ Ok tt

-- With a credential age of 60, so many picoseconds are between now and the time that the credentials say,
-- which have the secret's digest.
pub record IsAway (octets : List ℕ) (secret : Secret) (now picos : ℕ) : Type 0 where
  pub age : secret.credential_age ≡ 60
  pub claim : Claim
  pub moment : ℕ
  pub says : Says octets claim moment
  pub protected : IsProtected secret claim
  pub away : abs_diff now moment ≡ picos

abbrev pub AcceptedForAMinute : Type 0
AcceptedForAMinute =
    (octets : List ℕ) (secret : Secret) (now : ℕ) → IsAway octets secret now (60 * 10 ^ 12)
    → auth secret (Some octets) now ≡ Ok tt

abbrev pub RefusedBeyondAMinute : Type 0
RefusedBeyondAMinute =
    (octets : List ℕ) (secret : Secret) (now : ℕ) → IsAway octets secret now (60 * 10 ^ 12 + 1)
    → auth secret (Some octets) now ≡ Err (TooOld (60 * 10 ^ 12 + 1))
