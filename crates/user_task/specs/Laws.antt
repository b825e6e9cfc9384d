-- What holds of every task.
use Rattle.std.specs.Prelude.{◌≡◌, ℕ, slice_get}
use Rattle.user_task.specs.declared.work.Work.{Work}
use Rattle.user_task.specs.Invocation.{invocation_at, invocations}

-- What stands at each place is what stands there in the list of all invocations.
abbrev pub InvocationsInOrder : Type 0
InvocationsInOrder =
    (work : Work) (place : ℕ) → invocation_at work place ≡ slice_get (invocations work) place
