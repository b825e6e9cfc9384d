-- What is worked out is the answer by what the octets spell.
use Rattle.std.proofs.Common.{◌≡◌, ℕ, ◌<◌, ◌≤◌, Bool, true, false, nat_lt, nat_eq, if◌then◌else◌}
use Rattle.std.proofs.Common.{List, Option, Some, None, Result, Ok, Err, refl, sym, ◌∙◌, ap, subst}
use Rattle.std.proofs.Common.{arith}
use Rattle.std.specs.Int.{abs_diff}
use Rattle.std.specs.Cmp.Lexicographic.{pointwise, same_text, other_text}
use Rattle.std.proofs.lemmas.Cmp.{nat_list_eq_equiv}
use Rattle.ber_core.specs.declared.fault.BerFault.{BerFault}
use Rattle.ber_core.specs.Length.{IsSlice}
use Rattle.ber_shape.specs.Results.{ok_is, err_ok}
use Rattle.ber_shape.specs.Exact.{whole, element_is, element_again}
use Rattle.isp1_auth.specs.declared.secret.Secret.{Secret}
use Rattle.isp1_auth.specs.declared.auth_fault.AuthFault.{AuthFault}
use Rattle.isp1_auth.specs.declared.auth_fault.AuthFault.TheVariants.{Missing, Malformed, TooOld}
use Rattle.isp1_auth.specs.declared.auth_fault.AuthFault.TheVariants.{WrongDigest}
use Rattle.isp1_auth.specs.Digest.{digest}
use Rattle.isp1_auth.specs.Signed.{Claim, sequence}
use Rattle.isp1_auth.specs.Auth.{allowed, moment_in, Says, IsProtected, IsAnswerTo, at_moment}
use Rattle.isp1_auth.specs.Auth.{at_reading, auth}

-- ---- tests of numbers

below : (a b : ℕ) → true ≡ nat_lt a b → a < b
below a b e = grind arith

not_below : (a b : ℕ) → false ≡ nat_lt a b → b ≤ a
not_below a b e = grind arith

so_below : (a b : ℕ) → a < b → nat_lt a b ≡ true
so_below a b lt = grind arith

so_not_below : (a b : ℕ) → b ≤ a → nat_lt a b ≡ false
so_not_below a b le = grind arith

none_some : (n : ℕ) → ◌≡◌ {A = Option ℕ} None (Some n) → ⊥
none_some n e = cc

-- ---- the answer by three tests: the claim's moment, its distance, its digest

-- what is said is read
says_read : (octets : List ℕ) (claim : Claim) (moment : ℕ) → Says octets claim moment
    → whole sequence.read octets ≡ Ok claim
says_read octets claim moment says = element_again sequence refl octets claim says.fits says.spelled

abbrev chosen : ℕ → Bool → Bool → Result (Unit {0}) AuthFault
chosen distance late same = if late then Err (TooOld distance) else if same then Ok tt
    else Err WrongDigest

not_late : (distance : ℕ) (late same : Bool) → chosen distance late same ≡ Ok tt → late ≡ false
not_late distance true same e = cc
not_late distance false same e = refl

module _ (octets : List ℕ) (secret : Secret) (now : ℕ) where
  by_tests : (claim : Claim) (moment : ℕ) (late same : Bool) → Says octets claim moment
      → late ≡ nat_lt (allowed secret) (abs_diff now moment)
      → same ≡ pointwise nat_eq (digest secret claim.time claim.number) claim.protected
      → IsAnswerTo octets secret now (chosen (abs_diff now moment) late same)
  by_tests claim moment true same says l s = (
    claim,
    moment,
    says,
    refl,
    below (allowed secret) (abs_diff now moment) l,
  )
  by_tests claim moment false true says l s = (
    claim,
    moment,
    says,
    not_below (allowed secret) (abs_diff now moment) l,
    sym (same_text (digest secret claim.time claim.number) claim.protected s),
  )
  by_tests claim moment false false says l s = (
    claim,
    moment,
    says,
    not_below (allowed secret) (abs_diff now moment) l,
    λ protected. other_text (digest secret claim.time claim.number) claim.protected s
        (sym protected),
  )

  by_moment : (claim : Claim) (named : Option ℕ) → IsSlice octets
      → whole sequence.read octets ≡ Ok claim → moment_in claim.time ≡ named
      → IsAnswerTo octets secret now (at_moment secret now claim named)
  by_moment claim None slice e names = λ other moment says.
      let same : claim ≡ other = ok_is claim other (sym e ∙ says_read octets other moment says) in
      none_some moment (sym names ∙ ap (λ (c : Claim). moment_in c.time) same ∙ says.names)
  by_moment claim (Some moment) slice e names =
      let (fits, spelled) = element_is sequence octets claim slice e in
      by_tests claim moment (nat_lt (allowed secret) (abs_diff now moment))
      (pointwise nat_eq (digest secret claim.time claim.number) claim.protected)
      (record { fits = fits; spelled = spelled; names = names }) refl refl

  by_reading : (reading : Result Claim BerFault) → IsSlice octets
      → whole sequence.read octets ≡ reading
      → IsAnswerTo octets secret now (at_reading secret now reading)
  by_reading (Ok claim) slice e = by_moment claim (moment_in claim.time) slice e refl
  by_reading (Err fault) slice e = λ claim moment says.
      err_ok fault claim (sym e ∙ says_read octets claim moment says)

  pub is_answer : IsSlice octets → IsAnswerTo octets secret now (auth secret (Some octets) now)
  is_answer slice = by_reading (whole sequence.read octets) slice refl

  -- ---- and no other one

  -- what is said, worked out
  said : (claim : Claim) (moment : ℕ) → Says octets claim moment
      → auth secret (Some octets) now ≡ at_moment secret now claim (Some moment)
  said claim moment says = ap (at_reading secret now) (says_read octets claim moment says)
      ∙ ap (at_moment secret now claim) says.names

  same_so : (claim : Claim) → IsProtected secret claim
      → pointwise nat_eq (digest secret claim.time claim.number) claim.protected ≡ true
  same_so claim protected = rw protected (nat_list_eq_equiv.refl
      (digest secret claim.time claim.number))

  same_not : (claim : Claim) (same : Bool) → same
      ≡ pointwise nat_eq (digest secret claim.time claim.number) claim.protected
      → (IsProtected secret claim → ⊥) → same ≡ false
  same_not claim true s wrong = absurd (wrong
      (sym (same_text (digest secret claim.time claim.number) claim.protected s)))
  same_not claim false s wrong = refl

  pub accepted : (claim : Claim) (moment : ℕ) → Says octets claim moment
      → abs_diff now moment ≤ allowed secret → IsProtected secret claim
      → auth secret (Some octets) now ≡ Ok tt
  accepted claim moment says near protected =
      said claim moment says ∙ rw (
        so_not_below (allowed secret) (abs_diff now moment) near,
        same_so claim protected,
      ) refl

  pub too_old : (claim : Claim) (moment : ℕ) → Says octets claim moment
      → allowed secret < abs_diff now moment → auth secret (Some octets) now
      ≡ Err (TooOld (abs_diff now moment))
  too_old claim moment says late = said claim moment says
      ∙ rw (so_below (allowed secret) (abs_diff now moment) late) refl

  wrong_digest : (claim : Claim) (moment : ℕ) → Says octets claim moment
      → abs_diff now moment ≤ allowed secret → (IsProtected secret claim → ⊥)
      → auth secret (Some octets) now ≡ Err WrongDigest
  wrong_digest claim moment says near wrong =
      said claim moment says
      ∙ rw (
        so_not_below (allowed secret) (abs_diff now moment) near,
        same_not claim (pointwise nat_eq (digest secret claim.time claim.number) claim.protected)
            refl wrong,
      ) refl

  malformed : (answer : Result (Unit {0}) AuthFault) → IsAnswerTo octets secret now answer
      → ((claim : Claim) (moment : ℕ) → Says octets claim moment → ⊥) → Err Malformed ≡ answer
  malformed (Ok u) (claim, moment, says, distance, tested) none = absurd (none claim moment says)
  malformed (Err Missing) never none = absurd never
  malformed (Err Malformed) is none = refl
  malformed (Err (TooOld d)) (claim, moment, says, distance, tested) none =
      absurd (none claim moment says)
  malformed (Err WrongDigest) (claim, moment, says, distance, tested) none =
      absurd (none claim moment says)

  pub worked_out : (answer : Result (Unit {0}) AuthFault) → IsSlice octets
      → IsAnswerTo octets secret now answer → answer ≡ auth secret (Some octets) now
  worked_out (Ok u) slice (claim, moment, says, near, protected) =
      sym (accepted claim moment says near protected)
  worked_out (Err Missing) slice never = absurd never
  worked_out (Err Malformed) slice none = malformed (auth secret (Some octets) now)
      (is_answer slice) none
  worked_out (Err (TooOld d)) slice (claim, moment, says, far, late) =
      ap (λ d. Err (TooOld d)) far ∙ sym (too_old claim moment says
      (subst (λ d. allowed secret < d) far late))
  worked_out (Err WrongDigest) slice (claim, moment, says, near, wrong) =
      sym (wrong_digest claim moment says near wrong)

  pub near : (claim : Claim) (moment : ℕ) → Says octets claim moment
      → auth secret (Some octets) now ≡ Ok tt → abs_diff now moment ≤ allowed secret
  near claim moment says e =
      let in_time = not_late (abs_diff now moment) (nat_lt (allowed secret) (abs_diff now moment))
      (pointwise nat_eq (digest secret claim.time claim.number) claim.protected)
      (sym (said claim moment says) ∙ e) in
      not_below (allowed secret) (abs_diff now moment) (sym in_time)
