-- The length octets of an element (X.690 8.1.3), in the definite form. Every definition that speaks
-- of a length cites IsLength or shortest_length, so that a further form has one place.
use Rattle.std.specs.Prelude.{◌≡◌, ℕ, zero, suc, ◌+◌, ◌*◌, ◌^◌, ◌<◌, ◌≤◌, ◌⊎◌, List, [], ◌∷◌}
use Rattle.std.specs.Prelude.{length, nat_lt, if◌then◌else◌}
use Rattle.std.specs.List.{AllByRecursion}
use Rattle.std.specs.Int.{w64, to_be_bytes}

abbrev pub IsOctets : List ℕ → Type 0
IsOctets octets = AllByRecursion (λ octet. octet < 256) octets

-- the octets of a slice, of which there are fewer than 2 ^ 63
pub record IsSlice (octets : List ℕ) : Type 0 where
  pub each : IsOctets octets
  pub short : length octets < 2 ^ 63

-- the number that octets write, the most significant first
abbrev pub number_of : List ℕ → ℕ
number_of [] = 0
number_of (octet ∷ octets) = octet * 256 ^ length octets + number_of octets

-- the long form (8.1.3.5): a first octet with bit 8 set and the count of those that follow
abbrev pub long_form : List ℕ → List ℕ
long_form octets = (128 + length octets) ∷ octets

-- this product's limit: at most 8 octets follow the first
pub record IsLong (octets : List ℕ) : Type 0 where
  pub some : 0 < length octets
  pub at_most_eight : length octets ≤ 8
  pub octets_all : IsOctets octets

-- The octets spell the length n: in the short form (8.1.3.4), or in the long one, which may begin
-- with octets 0.
abbrev pub IsLength : List ℕ → ℕ → Type 0
IsLength spelled n =
    ((n < 128) × (spelled ≡ n ∷ []))
    ⊎ ((octets : List ℕ) × IsLong octets × (n ≡ number_of octets) × (spelled ≡ long_form octets))

-- the octets from the first one that isn't 0 on
abbrev pub without_zeros : List ℕ → List ℕ
without_zeros [] = []
without_zeros (zero ∷ octets) = without_zeros octets
without_zeros (suc n ∷ octets) = suc n ∷ octets

-- the shortest spelling of a length below 2 ^ 64
unfoldable pub shortest_length : ℕ → List ℕ
shortest_length n = if nat_lt n 128 then n ∷ [] else long_form (without_zeros (to_be_bytes w64 n))
