-- Orders that lines give for the disk. This product's own.
use Rattle.std.specs.Prelude.{ℕ, ◌==◌, true, if◌then◌else◌, Some, None, []}
use Rattle.disk_model.specs.declared.orders.Pick.{Pick}
use Rattle.script_store.specs.declared.order.Strike.{Strike}
use Rattle.script_store.specs.declared.order.Strike.TheVariants.{Stop, Fail}
use Rattle.script_store.specs.declared.step_done.StepDone.TheVariants.{Fine}
use Rattle.script_store.specs.Store.{Store}
use Rattle.script_store.specs.Said.{crash}
use Rattle.script_store.specs.Answer.{Answer, says, is_wrong}
use Rattle.script_store.specs.Entries.{opened}

-- The power fails between two calls of the disk: the archive is opened again, and holds all that is
-- published. No order stands then.
abbrev pub fails_now : Store → Answer Store
fails_now state = record {
  said = opened crash state.published;
  given = [];
  recovers = true;
  done = Fine;
  next = record state { order = None };
}

-- an order for a later call takes the place of one that stands
abbrev pub orders : Store → ℕ → Strike → Answer Store
orders state calls strike =
    says [] (record state { order = Some (record { calls = calls; strike = strike }) })

-- `crash K PICK`, where 0 is now, and `fault K`, of which K isn't 0
abbrev pub crash_line : Store → ℕ → Pick → Answer Store
crash_line state k pick = if k == 0 then fails_now state else orders state k (Stop pick)

abbrev pub fault_line : Store → ℕ → Answer Store
fault_line state k = if k == 0 then is_wrong state else orders state k Fail
