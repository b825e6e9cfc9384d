-- The facts of each line.
use Rattle.std.proofs.Common.{◌≡◌, ℕ, Bool, true, false, if◌then◌else◌, List, [], ◌∷◌, map}
use Rattle.std.proofs.Common.{Option, Some, None, refl, arith}
use Rattle.std.proofs.lemmas.List.Sums.{sum_by-cons}
use Rattle.archive_terms.specs.Archive.{is_valid}
use Rattle.archive_terms.specs.Archive as terms
use Rattle.record_form.specs.Entry.{entry_of}
use Rattle.drill_text.specs.declared.script_line.ScriptLine.{ScriptLine}
use Rattle.drill_text.specs.declared.script_line.ScriptLine.TheVariants.{Skip, Offer, Desk, Clock}
use Rattle.drill_text.specs.declared.script_line.ScriptLine.TheVariants.{Crash, Fault}
use Rattle.drill_text.specs.Reading.{reading}
use Rattle.station_links.specs.declared.link_line.LinkLine.{LinkLine}
use Rattle.station_uplink.specs.declared.turn.Turn.{Turn}
use Rattle.station_uplink.specs.declared.uplink_line.UplinkLine.{UplinkLine}
use Rattle.station_uplink.specs.Turns.{Turned, turn_of}
use Rattle.sle_numbers.specs.RequestedFrameQuality.{number_of}
use Rattle.script_store.specs.Store.{Store}
use Rattle.station_law.specs.Doors.{Acted, act}
use Rattle.station_law.specs.State.{State}
use Rattle.script_store.specs.Said.{Handed, handed_by, linked, uplink, told_once, buffers_told}
use Rattle.script_store.specs.Answer.{Answer, says, is_wrong}
use Rattle.station_law.specs.Sound.{IsSound, Keeps}
use Rattle.station_law.specs.Runs.{in_store}
use Rattle.station_law.specs.Once.{IsLawful}
use Rattle.station_law.specs.EntriesFacts.{Grows, leaves_all}
use Rattle.station_law.specs.EntriesFacts as entries
use Rattle.station_law.specs.DeskFacts as desk
use Rattle.script_store.specs.Orders.{pick_of}
use Rattle.station_law.specs.PowerFacts.{crash_facts, fault_facts}
use Rattle.station_law.specs.Lines.{recorded, offered, connected, uplinked, turn_at}
use Rattle.station_law.specs.Lines.{turned_or_acted, step, step_read, step_text}

-- ---- lines that give nothing to a store

idle : (state : Store) → IsSound state → Keeps state (says [] state)
idle state sound = leaves_all state state _ [] refl refl (λ starts. refl) refl sound

wrong : (state : Store) → IsSound state → Keeps state (is_wrong state)
wrong state sound = leaves_all state state _ [] refl refl (λ starts. refl) refl sound

-- what a connection says hands nothing over

none_handed : (c : ℕ) (lines : List LinkLine) (starts : List Handed)
    → handed_by starts (map (linked c) lines) ≡ starts
none_handed c [] starts = refl
none_handed c (line ∷ lines) starts = none_handed c lines starts

none_told : (c : ℕ) (lines : List LinkLine) → buffers_told (map (linked c) lines) ≡ 0
none_told c [] = refl
none_told c (line ∷ lines) =
    let sum = sum_by-cons told_once (linked c line) (map (linked c) lines) in
    let rest = none_told c lines in
    omega (arith, sum, rest)

at_doors : (state : State) → IsSound state.store → (done : Option Acted)
    → Keeps state.store (in_store (connected state done))
at_doors state sound None = wrong state.store sound
at_doors state sound (Some a) =
    leaves_all state.store state.store _ (map (linked a.c) a.said) refl refl
    (none_handed a.c a.said) (none_told a.c a.said) sound

-- nor does what a turn of the uplink says

none_handed_up : (lines : List UplinkLine) (starts : List Handed)
    → handed_by starts (map uplink lines) ≡ starts
none_handed_up [] starts = refl
none_handed_up (line ∷ lines) starts = none_handed_up lines starts

none_told_up : (lines : List UplinkLine) → buffers_told (map uplink lines) ≡ 0
none_told_up [] = refl
none_told_up (line ∷ lines) =
    let sum = sum_by-cons told_once (uplink line) (map uplink lines) in
    let rest = none_told_up lines in
    omega (arith, sum, rest)

at_uplink : (state : State) → IsSound state.store → (t : Option Turned)
    → Keeps state.store (in_store (uplinked state t))
at_uplink state sound None = wrong state.store sound
at_uplink state sound (Some t) =
    leaves_all state.store state.store _ (map uplink t.said) refl refl (none_handed_up t.said)
    (none_told_up t.said) sound

by_turn : (state : State) (line : ScriptLine) → IsSound state.store → (turn : Option Turn)
    → Keeps state.store (in_store (turned_or_acted state line turn))
by_turn state line sound None = at_doors state sound (act state.doors state.clock line)
by_turn state line sound (Some turn) = at_uplink state sound (turn_at state turn)

-- what is kept of a store is kept of the world
of_store : (state : State) (a : Answer Store) → Keeps state.store a
    → Keeps state.store (in_store (recorded state a))
of_store state a keeps = record {
  sound = keeps.sound;
  moves = keeps.moves;
  whole = keeps.whole;
}

module _ (grows : Grows) where
  by_valid : (state : State) (entry : terms.Entry) (valid : Bool) → is_valid entry ≡ valid
      → IsSound state.store
      → Keeps state.store (in_store (if valid then offered state entry else is_wrong state))
  by_valid state entry true valid sound =
      of_store state _ (entries.facts grows state.store entry sound valid)
  by_valid state entry false valid sound = wrong state.store sound

  pub facts : IsLawful step
  facts state Skip sound = idle state.store sound
  facts state (Offer entry) sound =
      by_valid state (entry_of entry) (is_valid (entry_of entry)) refl sound
  facts state (Desk start stop quality) sound =
      of_store state _ (desk.facts state.store start stop (number_of quality) sound)
  facts state (Clock at) sound = idle state.store sound
  facts state (Crash k pick) sound =
      of_store state _ (crash_facts state.store sound k (pick_of pick))
  facts state (Fault k) sound = of_store state _ (fault_facts state.store sound k)
  facts state line sound = by_turn state line sound (turn_of line)

  facts_read : (state : State) (line : Option ScriptLine) → IsSound state.store
      → Keeps state.store (in_store (step_read state line))
  facts_read state None sound = wrong state.store sound
  facts_read state (Some line) sound = facts state line sound

  pub facts_text : IsLawful step_text
  facts_text state text sound = facts_read state (reading text) sound
