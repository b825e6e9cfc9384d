-- What the images of a world's disk are at every moment of a line.
use Rattle.std.proofs.Common.{◌≡◌, ℕ, List, [], ap, subst, ◌∙◌, arith}
use Rattle.archive_terms.specs.Archive.{Entry}
use Rattle.record_form.specs.Entry.{entry_of}
use Rattle.record_form.specs.declared.entry.Entry as form
use Rattle.disk_model.specs.MemoryDisk.{DiskState}
use Rattle.disk_model.specs.declared.orders.Pick as disks
use Rattle.drill_text.specs.declared.pick.Pick.{Pick}
use Rattle.drill_text.specs.declared.script_line.ScriptLine.{ScriptLine}
use Rattle.drill_text.specs.declared.script_line.ScriptLine.TheVariants.{Offer, Crash}
use Rattle.drill_text.specs.Reading.{HasValidEntry}
use Rattle.script_store.specs.Store.{Store}
use Rattle.script_store.specs.Answer.{Answer}
use Rattle.script_store.specs.Entries.{offer}
use Rattle.script_store.specs.IsHeld.{KeepsAllOrNone}
use Rattle.script_store.specs.Orders.{pick_of}
use Rattle.script_store.specs.Power.{crash_line}
use Rattle.station_law.specs.State.{State}
use Rattle.script_store.specs.Stopped.{HoldsAlone}
use Rattle.station_law.specs.Standing.{Seen, Stands}
use Rattle.station_law.specs.Lines.{step}
use Rattle.script_store.specs.Unmoved.{left_alone}
use Rattle.station_law.proofs.Following.{offer_line_is, crash_line_is}

-- what a step gives to stores, of the state for which a world stood, whose disk is this one then
module _ (old : Seen) (disk : DiskState) (given : State → List Entry) where
  abbrev Keeps : Type 0
  Keeps = (state : State) → Stands old state
      → KeepsAllOrNone old.recorder.disk disk state.store.published (given state)

  -- the recorder kept just this
  pub keeps : (batch : List Entry)
      → KeepsAllOrNone old.recorder.disk disk old.recorder.state.published batch
      → ((state : State) → Stands old state → batch ≡ given state) → Keeps
  keeps batch holds is state stands =
      subst (KeepsAllOrNone old.recorder.disk disk state.store.published) (is state stands)
      (subst (λ (store : Store). KeepsAllOrNone old.recorder.disk disk store.published batch)
      stands.store holds)

  -- or nothing happened to its disk
  pub stays : disk ≡ old.recorder.disk
      → HoldsAlone old.recorder.disk old.recorder.state.published → Keeps
  stays same alone state stands =
      subst (λ (store : Store). KeepsAllOrNone old.recorder.disk disk store.published
      (given state)) stands.store (left_alone old.recorder.disk disk old.recorder.state.published
      (given state) same alone)

-- what the lines of an entry and of a power failure give to stores
pub offer_gives : (seen : Seen) (line : ScriptLine) (entry : form.Entry) → line ≡ Offer entry
    → HasValidEntry line → (state : State) → Stands seen state
    → (offer seen.recorder.state (entry_of entry)).given ≡ (step state line).given
offer_gives seen line entry is valid state stands =
    ap (λ (store : Store). (offer store (entry_of entry)).given) stands.store
    ∙ ap (λ (a : Answer State). a.given) (offer_line_is state line entry is valid)

crash_gives_nothing : (store : Store) (k : ℕ) (pick : disks.Pick)
    → [] ≡ (crash_line store k pick).given
crash_gives_nothing store k pick = grind arith

pub crash_gives : (line : ScriptLine) (k : ℕ) (pick : Pick) (other : disks.Pick)
    → line ≡ Crash k pick → other ≡ pick_of pick → (state : State)
    → [] ≡ (step state line).given
crash_gives line k pick other is picked state =
    crash_gives_nothing state.store k other
    ∙ ap (λ (a : Answer State). a.given) (crash_line_is state line k pick other is picked)
