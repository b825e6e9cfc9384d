-- What a sink that tells has written.
use Rattle.std.specs.Prelude.{ℕ, ◌≤◌, ◌≡◌, ◌⊎◌, Option, None, MatchOption, IsSomeAnd, option_map}
use Rattle.std.specs.Prelude.{Result, OnOk, OnErr, IsErrOf, List, ◌++◌, length, take}
use Rattle.octet_core.specs.Fault.{count_up, Rose}

-- the octets of `front` begin those of `whole`
abbrev pub IsFront : List ℕ → List ℕ → Type 0
IsFront front whole = take (length front) whole ≡ front

-- all of the octets were written, behind what was there
abbrev pub Gains : Option (List ℕ) → Option (List ℕ) → List ℕ → Type 0
Gains before after octets = after ≡ option_map (λ there. there ++ octets) before

-- the octets that begin `octets`, none or all of them perhaps, were written behind what was there
abbrev pub GainsFront : Option (List ℕ) → Option (List ℕ) → List ℕ → Type 0
GainsFront before after octets =
    MatchOption before (after ≡ None)
    (λ there. IsSomeAnd after (λ now. (length there ≤ length now) × IsFront now (there ++ octets)))

-- what was written before begins what is written now
abbrev pub Continues : Option (List ℕ) → Option (List ℕ) → Type 0
Continues before after = MatchOption before (after ≡ None)
    (λ there. IsSomeAnd after (λ now. IsFront there now))

-- A call wrote all of the octets, or answers an error and wrote those that begin them. It answers
-- this fault only where the sink's count of faults went up by one, and each other answer leaves the
-- count. The error is the caller's own, and `fault` one of it.
pub record Writes {T E : Type 0} (fault : E) (before after : Option (List ℕ))
    (faults_before faults_after : ℕ) (octets : List ℕ) (result : Result T E) : Type 0 where
  pub all : OnOk result (Gains before after octets)
  pub front : OnErr result (GainsFront before after octets)
  pub never_falls : faults_before ≤ faults_after
  pub rose : IsErrOf result fault → Rose faults_before faults_after
  pub raised : IsErrOf result fault → faults_after ≡ count_up faults_before
  pub kept : IsErrOf result fault ⊎ (faults_after ≡ faults_before)
