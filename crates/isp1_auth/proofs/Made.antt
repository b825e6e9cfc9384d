-- What is signed at a moment is accepted at that moment.
use Rattle.std.proofs.Common.{◌≡◌, ℕ, ◌*◌, ◌/◌, ◌<◌, ◌≤◌, List, length, Some, Ok, refl, ◌∙◌, ap}
use Rattle.std.proofs.Common.{arith}
use Rattle.std.specs.Int.{abs_diff}
use Rattle.sha1.specs.Sha1.{sha1, digest_bytes}
use Rattle.sha2.specs.Sha256.{sha256, digest_bytes as digest_bytes_256}
use Rattle.ber_core.specs.Facts.Canonical.{canonical-Spells}
use Rattle.cds_time.specs.Moment.{moment_of, octets_of, in_micros}
use Rattle.cds_time.specs.Octets.{FieldsFit}
use Rattle.cds_time.specs.Facts.Octets.{given_again}
use Rattle.cds_time.specs.declared.cds.TheConstants.{MOMENT_END, PICOS_A_MICRO}
use Rattle.isp1_auth.specs.declared.hash.Hash.{Hash}
use Rattle.isp1_auth.specs.declared.hash.Hash.TheVariants.{Sha1, Sha256}
use Rattle.isp1_auth.specs.declared.secret.Secret.{Secret}
use Rattle.isp1_auth.specs.declared.random_numbers.TheConstants.{GREATEST_NUMBER}
use Rattle.isp1_auth.specs.Digest.{hashed, hash_input}
use Rattle.isp1_auth.specs.Signed.{sequence, claim, signed}
use Rattle.isp1_auth.specs.Auth.{auth, moment_in, Says}
use Rattle.isp1_auth.specs.declared.checking.TheConstants.{PICOS_A_SECOND}
use Rattle.isp1_auth.proofs.Answers.{accepted}

length-sha1 : (octets : List ℕ) → length (sha1 octets) ≡ 20
unfolding sha1 digest_bytes
length-sha1 octets = refl

length-sha256 : (octets : List ℕ) → length (sha256 octets) ≡ 32
unfolding sha256 digest_bytes_256
length-sha256 octets = refl

pub few-hashed : (hash : Hash) (octets : List ℕ) → length (hashed hash octets) ≤ 32
few-hashed Sha1 octets = omega (arith, length-sha1 octets)
few-hashed Sha256 octets = omega (arith, length-sha256 octets)

rounded : (now : ℕ) → now < MOMENT_END → moment_of (in_micros now)
    ≡ Some (now / PICOS_A_MICRO * PICOS_A_MICRO)
rounded now below = grind arith

fields_fit : (now : ℕ) → now < MOMENT_END → FieldsFit (in_micros now)
fields_fit now below = record {
  days = omega (arith, below);
  millis = omega arith;
  rest = omega arith;
}

names : (now : ℕ) → now < MOMENT_END → moment_in (octets_of (in_micros now))
    ≡ Some (now / PICOS_A_MICRO * PICOS_A_MICRO)
names now below = ap moment_of (given_again (in_micros now) (fields_fit now below))
    ∙ rounded now below

signed_fits : (secret : Secret) (now number : ℕ) → number ≤ GREATEST_NUMBER
    → sequence.Fits (claim secret (octets_of (in_micros now)) number)
signed_fits secret now number small = (
  record { least_so = omega arith; greatest_so = omega arith },
  (
    record { least_so = omega arith; greatest_so = small },
    record {
      least_so = omega arith;
      greatest_so =
          omega (
            arith,
            few-hashed secret.hash (hash_input secret (octets_of (in_micros now))
                number),
          );
    },
  ),
)

pub signed_says : (secret : Secret) (now number : ℕ) → now < MOMENT_END → number ≤ GREATEST_NUMBER
    → Says (signed secret (octets_of (in_micros now)) number)
    (claim secret (octets_of (in_micros now)) number) (now / PICOS_A_MICRO * PICOS_A_MICRO)
signed_says secret now number below small =
    let fits = signed_fits secret now number small in
    record {
      fits = fits;
      spelled = canonical-Spells (sequence.tree (claim secret (octets_of (in_micros now)) number))
          (omega (arith, sequence.few (claim secret (octets_of (in_micros now)) number) fits));
      names = names now below;
    }

near_now : (now delay : ℕ) → 1 ≤ delay → abs_diff now (now / PICOS_A_MICRO * PICOS_A_MICRO)
    ≤ delay * PICOS_A_SECOND
near_now now delay some = omega (arith, some)

pub signed_accepted : (secret : Secret) (now number : ℕ) → now < MOMENT_END
    → number ≤ GREATEST_NUMBER → 1 ≤ secret.credential_age
    → auth secret (Some (signed secret (octets_of (in_micros now)) number)) now ≡ Ok tt
signed_accepted secret now number below small some =
    accepted (signed secret (octets_of (in_micros now)) number) secret now
    (claim secret (octets_of (in_micros now)) number) (now / PICOS_A_MICRO * PICOS_A_MICRO)
    (signed_says secret now number below small) (near_now now secret.credential_age some) refl
