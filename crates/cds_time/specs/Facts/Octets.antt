-- The octets of a time, and the fields in octets.
use Rattle.std.proofs.Common.{◌≡◌, ℕ, zero, suc, ◌+◌, ◌^◌, ◌<◌, ◌≤◌, inl, inr, List, [], ◌∷◌, ◌++◌}
use Rattle.std.proofs.Common.{length, take, drop, get_or, refl, sym, ◌∙◌, ap, rules, arith}
use Rattle.std.specs.List.{AllByRecursion}
use Rattle.std.specs.Int.{w16, w32, to_be_bytes, from_be_bytes}
use Rattle.std.proofs.lemmas.Nat.{be_bytes_2, be_bytes_4, from_be_bytes-to_be_bytes_2}
use Rattle.std.proofs.lemmas.Nat.{from_be_bytes-to_be_bytes_4, mod_below}
use Rattle.std.proofs.lemmas.List.{append_assoc, take-append-drop, drop-drop, get_or_past}
use Rattle.std.proofs.lemmas.List.{length-take, length-drop, get_or-drop, get_or-take}
use Rattle.std.proofs.lemmas.Bool.{cases_lt}
use Rattle.cds_time.specs.Moment.{octets_of, of_micro_octets, of_pico_octets}
use Rattle.cds_time.specs.Octets.{FieldsFit, RestFits, HasOctets, of_octets}
use Rattle.cds_time.specs.declared.cds.Cds.{Cds}
use Rattle.cds_time.specs.declared.cds.Rest.{Rest}
use Rattle.cds_time.specs.declared.cds.Rest.TheVariants.{Micros, Picos}

abbrev AreOctets : List ℕ → Type 0
AreOctets octets = (i : ℕ) → get_or octets i 0 < 256

each_of : (octets : List ℕ) → AllByRecursion (λ octet. octet < 256) octets → AreOctets octets
each_of [] all i = omega arith
each_of (octet ∷ octets) all zero = all.0
each_of (octet ∷ octets) all (suc i) = each_of octets all.1 i

each_dropped : (n : ℕ) (octets : List ℕ) → AreOctets octets → AreOctets (drop n octets)
each_dropped n octets each i = rw get_or-drop (each (n + i))

each_taken : (n : ℕ) (octets : List ℕ) → AreOctets octets → AreOctets (take n octets)
each_taken n octets each i =
    elim (cases_lt i n) [
      | inl below ↦ rw (get_or-take n octets i 0 below) (each i)
      | inr past ↦ rw (get_or_past (take n octets) i 0 (omega (arith, length-take n octets)))
          (omega arith)
    ]

joined : (a b c x y z : List ℕ) → a ≡ x → b ≡ y → c ≡ z → a ++ b ++ c ≡ x ++ y ++ z
joined a b c x y z p q r = rw (p, q, r) refl

-- days, milliseconds and the rest, one after another
in_parts : (octets : List ℕ) → take 2 octets ++ take 4 (drop 2 octets) ++ drop 6 octets ≡ octets
in_parts octets =
    append_assoc (take 2 octets) (take 4 (drop 2 octets)) (drop 6 octets)
    ∙ ap (λ rest. take 2 octets ++ (take 4 (drop 2 octets) ++ rest)) (sym (drop-drop 4 2 octets))
    ∙ ap (λ rest. take 2 octets ++ rest) (take-append-drop 4 (drop 2 octets))
    ∙ take-append-drop 2 octets

days_octets : (octets : List ℕ) → 8 ≤ length octets → AreOctets octets
    → to_be_bytes w16 (from_be_bytes w16 (take 2 octets)) ≡ take 2 octets
days_octets octets long each = be_bytes_2 (take 2 octets) _ (omega (arith, length-take 2 octets))
    (each_taken 2 octets each) refl

millis_octets : (octets : List ℕ) → 8 ≤ length octets → AreOctets octets
    → to_be_bytes w32 (from_be_bytes w32 (take 4 (drop 2 octets))) ≡ take 4 (drop 2 octets)
millis_octets octets long each =
    be_bytes_4 (take 4 (drop 2 octets)) _ (omega (
      arith,
      length-take 4 (drop 2 octets),
      length-drop 2 octets,
    )) (each_taken 4 (drop 2 octets) (each_dropped 2 octets each)) refl

micro_octets : (octets : List ℕ) → length octets ≡ 8 → AreOctets octets
    → octets_of (of_micro_octets octets) ≡ octets
micro_octets octets long each =
    joined _ _ _ (take 2 octets) (take 4 (drop 2 octets)) (drop 6 octets)
    (days_octets octets (omega arith) each) (millis_octets octets (omega arith) each)
    (be_bytes_2 (drop 6 octets) _ (omega (arith, length-drop 6 octets)) (each_dropped 6 octets each)
    refl)
    ∙ in_parts octets

pico_octets : (octets : List ℕ) → length octets ≡ 10 → AreOctets octets
    → octets_of (of_pico_octets octets) ≡ octets
pico_octets octets long each =
    joined _ _ _ (take 2 octets) (take 4 (drop 2 octets)) (drop 6 octets)
    (days_octets octets (omega arith) each) (millis_octets octets (omega arith) each)
    (be_bytes_4 (drop 6 octets) _ (omega (arith, length-drop 6 octets)) (each_dropped 6 octets each)
    refl)
    ∙ in_parts octets

below_2 : (octets : List ℕ) → AreOctets octets → from_be_bytes w16 octets < 2 ^ 16
below_2 octets each = omega (arith, each 0, each 1)

below_4 : (octets : List ℕ) → AreOctets octets → from_be_bytes w32 octets < 2 ^ 32
below_4 octets each = omega (arith, each 0, each 1, each 2, each 3)

fields_fit : (octets : List ℕ) (rest : Rest) → AreOctets octets → RestFits rest
    → FieldsFit (record {
      days = from_be_bytes w16 (take 2 octets);
      millis = from_be_bytes w32 (take 4 (drop 2 octets));
      rest = rest;
    })
fields_fit octets rest each fits = record {
  days = below_2 (take 2 octets) (each_taken 2 octets each);
  millis = below_4 (take 4 (drop 2 octets)) (each_taken 4 (drop 2 octets)
      (each_dropped 2 octets each));
  rest = fits;
}

pub given_by_micro : (octets : List ℕ) → AllByRecursion (λ octet. octet < 256) octets
    → length octets ≡ 8 → HasOctets (of_micro_octets octets) octets
given_by_micro octets all long =
    let each = each_of octets all in record {
      fit = fields_fit octets (Micros (from_be_bytes w16 (drop 6 octets))) each
          (below_2 (drop 6 octets) (each_dropped 6 octets each));
      are = micro_octets octets long each;
    }

pub given_by_pico : (octets : List ℕ) → AllByRecursion (λ octet. octet < 256) octets
    → length octets ≡ 10 → HasOctets (of_pico_octets octets) octets
given_by_pico octets all long =
    let each = each_of octets all in record {
      fit = fields_fit octets (Picos (from_be_bytes w32 (drop 6 octets))) each
          (below_4 (drop 6 octets) (each_dropped 6 octets each));
      are = pico_octets octets long each;
    }

abbrev made : ℕ → ℕ → Rest → Cds
made days millis rest = record { days = days; millis = millis; rest = rest }

fields_again : (days millis : ℕ) (rest : Rest) → days < 2 ^ 16 → millis < 2 ^ 32 → RestFits rest
    → of_octets rest (octets_of (made days millis rest)) ≡ made days millis rest
fields_again days millis (Micros n) d m r = rw (
  from_be_bytes-to_be_bytes_2 days d,
  from_be_bytes-to_be_bytes_4 millis m,
  from_be_bytes-to_be_bytes_2 n r,
) refl
fields_again days millis (Picos n) d m r = rw (
  from_be_bytes-to_be_bytes_2 days d,
  from_be_bytes-to_be_bytes_4 millis m,
  from_be_bytes-to_be_bytes_4 n r,
) refl

pub given_again : (time : Cds) → FieldsFit time → of_octets time.rest (octets_of time) ≡ time
given_again time fits = fields_again time.days time.millis time.rest fits.days fits.millis fits.rest

octets_made : (days millis : ℕ) (rest : Rest)
    → AllByRecursion (λ octet. octet < 256) (octets_of (made days millis rest))
octets_made days millis (Micros n) = search (rules, mod_below)
octets_made days millis (Picos n) = search (rules, mod_below)

pub octets_all : (time : Cds) → AllByRecursion (λ octet. octet < 256) (octets_of time)
octets_all time = octets_made time.days time.millis time.rest
