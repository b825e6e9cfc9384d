-- A command that ends behind writes that may have failed.
use Rattle.std.proofs.Common.{◌≡◌, ℕ, List, Option, Result, Ok, Err, inl, inr, refl, ⊎_elim}
use Rattle.script_store.specs.declared.stop.Stop.{Stop}
use Rattle.script_store.specs.declared.stop.Stop.TheVariants as stops
use Rattle.script_store.specs.Output.{Wrote}
use Rattle.command_ends.specs.declared.status.Status.{Status}
use Rattle.command_ends.specs.Ends.{code, closed, Closes}

-- the count of a call that isn't a write fault
pub unraised : {T : Type 0} (before after : Option (List ℕ)) (f g : ℕ) (text : List ℕ)
    (result : Result T Stop) → Wrote {T = T} before after f g text result
    → ¬ (result ≡ Err stops.WriteFault) → g ≡ f
unraised before after f g text result wrote other =
    ⊎_elim (λ is. absurd (other is)) (λ same. same) wrote.kept

-- a command's text was written, and its exit code is by how that ended
pub closes_by : (before after : Option (List ℕ)) (f g : ℕ) (text : List ℕ) (own : Status)
    (exit : ℕ) (result : Result (Unit {0}) Stop) → exit ≡ code (closed result own)
    → Wrote before after f g text result → Closes before after f g text own exit
closes_by before after f g text own exit (Ok done) is wrote =
    inl (is, wrote.all, unraised before after f g text (Ok done) wrote (λ e. absurd cc))
closes_by before after f g text own exit (Err stops.WriteFault) is wrote =
    inr (inl (is, wrote.front, wrote.raised refl))
closes_by before after f g text own exit (Err stops.Memory) is wrote =
    inr (inr (
      is,
      wrote.front,
      unraised before after f g text (Err stops.Memory) wrote
          (λ e. absurd cc),
    ))
