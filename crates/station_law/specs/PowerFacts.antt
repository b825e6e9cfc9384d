-- The facts of the lines that order the disk.
use Rattle.std.proofs.Common.{ℕ, ◌==◌, Bool, true, false, if◌then◌else◌, [], refl, sym}
use Rattle.std.proofs.Common.{arith}
use Rattle.std.proofs.lemmas.List.{append-nil}
use Rattle.disk_model.specs.declared.orders.Pick.{Pick}
use Rattle.script_store.specs.declared.order.Strike.{Strike}
use Rattle.script_store.specs.declared.order.Strike.TheVariants.{Stop, Fail}
use Rattle.script_store.specs.Store.{Store}
use Rattle.script_store.specs.Answer.{is_wrong}
use Rattle.station_law.specs.Sound.{IsSound, Keeps}
use Rattle.station_law.specs.EntriesFacts.{leaves_all}
use Rattle.script_store.specs.Power.{fails_now, orders, crash_line, fault_line}

module _ (state : Store) (sound : IsSound state) where
  pub recovers : Keeps state (fails_now state)
  recovers = record {
    sound = record { archive = sound.archive; settled = sound.settled };
    moves = (0, sym (append-nil state.published));
    whole = λ starts. omega arith;
  }

  stands : (calls : ℕ) (strike : Strike) → Keeps state (orders state calls strike)
  stands calls strike =
      leaves_all state (orders state calls strike).next _ [] refl refl (λ starts. refl) refl sound

  crash_by : (k : ℕ) (pick : Pick) (now : Bool)
      → Keeps state (if now then fails_now state else orders state k (Stop pick))
  crash_by k pick true = recovers
  crash_by k pick false = stands k (Stop pick)

  pub crash_facts : (k : ℕ) (pick : Pick) → Keeps state (crash_line state k pick)
  crash_facts k pick = crash_by k pick (k == 0)

  fault_by : (k : ℕ) (none : Bool)
      → Keeps state (if none then is_wrong state else orders state k Fail)
  fault_by k true = leaves_all state state _ [] refl refl (λ starts. refl) refl sound
  fault_by k false = stands k Fail

  pub fault_facts : (k : ℕ) → Keeps state (fault_line state k)
  fault_facts k = fault_by k (k == 0)
