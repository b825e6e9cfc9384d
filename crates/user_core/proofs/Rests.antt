-- What stands behind the messages of octets.
use Rattle.std.proofs.Common.{◌≡◌, ℕ, zero, suc, ◌+◌, ◌-◌, List, length, drop, Option, Some, None}
use Rattle.std.proofs.Common.{refl, sym, ap, ◌∙◌, arith, length-drop}
use Rattle.std.specs.Prelude.{min}
use Rattle.std.proofs.lemmas.List.{drop_min, drop-drop}
use Rattle.isp1_tml.specs.declared.tml_fault.TmlFault.{TmlFault}
use Rattle.isp1_tml.specs.Fault.{fault_of}
use Rattle.isp1_tml.specs.Stream.{whole_size}
use Rattle.isp1_tml.specs.Reading.{reading_by, reading_within}
use Rattle.isp1_tml.specs.Unread.{unread_of}

record IsBehind (octets left : List ℕ) : Type 0 where
  pub given : ℕ
  pub is : left ≡ drop given octets

behind_by : (n place : ℕ) (octets : List ℕ) (fault : Option TmlFault) (size : Option ℕ)
    → ((place : ℕ) (octets : List ℕ) → IsBehind octets (reading_within n place octets).rest)
    → IsBehind octets
    (reading_by (λ size. reading_within n (place + size) (drop size octets)) octets fault size).rest
behind_by n place octets (Some fault) size later = record { given = 0; is = refl }
behind_by n place octets None None later = record { given = 0; is = refl }
behind_by n place octets None (Some size) later =
    let next = later (place + size) (drop size octets) in
    record {
      given = size + next.given;
      is = next.is ∙ drop-drop next.given size octets;
    }

rest_within : (n place : ℕ) (octets : List ℕ) → IsBehind octets (reading_within n place octets).rest
unfolding reading_within
rest_within zero place octets = record { given = 0; is = refl }
rest_within (suc n) place octets =
    behind_by n place octets (fault_of place octets) (whole_size octets) (rest_within n)

-- the last octets, as many as the rest has, are the rest
pub last_are_rest : (place : ℕ) (octets : List ℕ)
    → drop (length octets - length (unread_of place octets).rest) octets
    ≡ (unread_of place octets).rest
last_are_rest place octets =
    let behind = rest_within (length octets) place octets in
    let k = behind.given in
    let less : length octets - (length octets - k) ≡ min k (length octets) = omega arith in
    ap (λ r. drop (length octets - length r) octets) behind.is
    ∙ ap (λ n. drop (length octets - n) octets) (length-drop k octets)
    ∙ ap (λ n. drop n octets) less
    ∙ drop_min k octets
    ∙ sym behind.is
