-- What a line of a script answers.
use Rattle.std.specs.Prelude.{Bool, false, List, []}
use Rattle.archive_terms.specs.Archive.{Entry}
use Rattle.script_store.specs.declared.step_done.StepDone.{StepDone}
use Rattle.script_store.specs.declared.step_done.StepDone.TheVariants.{Fine, WrongState}
use Rattle.script_store.specs.Said.{Said}

-- What a line says, in order; the entries that it gave to stores, without those that a reopen named
-- lost; whether the power failed and the archive was opened again; how it ended; and what stands
-- behind it.
pub record Answer (S : Type 0) : Type 0 where
  pub said : List Said
  pub given : List Entry
  pub recovers : Bool
  pub done : StepDone
  pub next : S

module _ {S : Type 0} where
  -- a line that gives nothing to a store
  abbrev pub ends : StepDone → List Said → S → Answer S
  ends done said next =
      record { said = said; given = []; recovers = false; done = done; next = next }

  abbrev pub says : List Said → S → Answer S
  says said next = ends Fine said next

  -- a line in a wrong state, or outside the grammar: it says nothing and changes nothing
  abbrev pub is_wrong : S → Answer S
  is_wrong state = ends WrongState [] state
