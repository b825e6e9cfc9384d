-- What a reading call found at a place of octets.
use Rattle.std.proofs.Common.{ℕ, ◌≤◌, List, length, drop, Result, Ok, Err, IfOk, arith, ap}
use Rattle.std.proofs.lemmas.List.{length-append, length-drop}
use Rattle.archive_terms.specs.Archive.{Entry}
use Rattle.record_form.specs.declared.fault.EntryFault.{EntryFault}
use Rattle.record_form.specs.Spelling.{entry_octets}
use Rattle.record_form.specs.Reading.{AreOctets, GivesAll, ReadWhereSpelled, StandsFrom, entry_from}

module _ {X : Type 0} (seen : X → Entry × ℕ) (place : ℕ) (octets : List ℕ) where
  pub found : (result : Result X EntryFault) → ReadWhereSpelled → AreOctets octets
      → GivesAll seen result (entry_from place octets)
      → IfOk result (λ x. StandsFrom place octets (seen x).0 (seen x).1)
  found (Ok x) law all gives = (law place octets (seen x).0 (seen x).1 all).0 gives
  found (Err fault) law all gives = tt

  end_within : (entry : Entry) (end : ℕ) → place ≤ length octets → StandsFrom place octets entry end
      → end ≤ length octets
  end_within entry end there stands =
      omega (
        arith,
        there,
        stands.ends,
        ap length stands.spelled,
        length-append (entry_octets entry) (drop end octets),
        length-drop place octets,
      )

  pub within : (result : Result X EntryFault) → place ≤ length octets
      → IfOk result (λ x. StandsFrom place octets (seen x).0 (seen x).1)
      → IfOk result (λ x. (seen x).1 ≤ length octets)
  within (Ok x) there stands = end_within (seen x).0 (seen x).1 there stands
  within (Err fault) there stands = tt
