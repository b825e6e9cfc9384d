-- What lines leave of a user's START, up to the next power failure.
use Rattle.std.proofs.Common.{◌≡◌, ℕ, zero, suc, Bool, true, false, if◌then◌else◌, Option, Some, None}
use Rattle.std.proofs.Common.{List, [], ◌∷◌, ◌++◌, length, slice_get, refl, sym, ap, subst, ◌∙◌}
use Rattle.station_config.specs.declared.site.Site.{Site}
use Rattle.station_book.specs.State as books
use Rattle.station_book.specs.History.{replay}
use Rattle.drill_text.specs.declared.script_line.ScriptLine.{ScriptLine}
use Rattle.station_world.specs.Life.{Start}
use Rattle.station_links.specs.Connected.{Connected}
use Rattle.station_links.specs.Rounds.{round_at, round_of}
use Rattle.line_events.specs.Progress.{Progress, progressed}
use Rattle.session_events.specs.Rounds.{progress_in}
use Rattle.session_events.proofs.Kept.{one_at, StaysAt, same_there, progress_stays, stays_both}
use Rattle.session_events.proofs.Kept.{progress_leaves}
use Rattle.station_law.specs.Doors.{Act, act_of, ordered}
use Rattle.station_law.specs.Lines.{step_read}
use Rattle.station_law.specs.Runs.{after}
use Rattle.station_law.specs.State.{State}
use Rattle.script_world.specs.Script.{answers, users_after}
use Rattle.script_world.specs.Users.{users_rounds, users_acted, users_act, users_asked, users_behind}

-- it is there still, just as it was if it had ended
pub record Still (s : Start) (all : List Start) (place : ℕ) : Type 0 where
  pub stays : StaysAt s all place
  pub leaves : s.ended ≡ true → slice_get all place ≡ Some s

still_there : (s : Start) (all : List Start) (place : ℕ) → slice_get all place ≡ Some s
    → Still s all place
still_there s all place there =
    record { stays = same_there s all place there; leaves = λ over. there }

still_both : (s : Start) (some all : List Start) (place : ℕ) (one : Still s some place)
    → Still one.stays.start all place → Still s all place
still_both s some all place one rest = record {
  stays = stays_both s some all place one.stays rest.stays;
  leaves = λ over.
      let same = one_at (slice_get some place) one.stays.start s one.stays.there (one.leaves over) in
      rest.leaves (ap (λ (x : Start). x.ended) same ∙ over) ∙ ap (λ (x : Start). Some x) same;
}

progress_still : (door front : ℕ) (p : Progress) (s : Start) (all : List Start) (place : ℕ)
    → slice_get all place ≡ Some s → Still s (progressed door front p all) place
progress_still door front p s all place there = record {
  stays = progress_stays door front p s all place there;
  leaves = λ over. progress_leaves s over door front p all place there;
}

-- ---- over a line

rounds_still : (site : Site) (c reading n : ℕ) (b : books.State) (l : Option Connected)
    (s : Start) (all : List Start) (place : ℕ) → slice_get all place ≡ Some s
    → Still s (users_rounds site c reading n b l all) place
rounds_still site c reading zero b l s all place there = still_there s all place there
rounds_still site c reading (suc n) b None s all place there = still_there s all place there
rounds_still site c reading (suc n) b (Some l) s all place there =
    let front = length b.published in
    let turned = round_of site c l b reading in
    let p = progress_in c site l.state (round_at site c l b reading) in
    let next = progressed c front p all in
    let later = replay b turned.events in
    let one = progress_still c front p s all place there in
    still_both s next (users_rounds site c reading n later turned.next next) place one
    (rounds_still site c reading n later turned.next one.stays.start next place one.stays.there)

module _ (state : State) (s : Start) (all : List Start) (place : ℕ)
    (there : slice_get all place ≡ Some s) where
  acted_still : (a : Act) (o : Option (Option Connected))
      → Still s (users_acted state a o all) place
  acted_still a None = still_there s all place there
  acted_still a (Some None) = still_there s all place there
  acted_still a (Some (Some l)) =
      rounds_still state.doors.site a.c state.clock a.rounds state.doors.book
      (Some (ordered a.order l)) s all place there

  act_still : (a : Option Act) → Still s (users_act state a all) place
  act_still None = still_there s all place there
  act_still (Some a) = acted_still a (slice_get state.doors.connections a.c)

  asked_still : (line : Option ScriptLine) → Still s (users_asked state line all) place
  asked_still None = still_there s all place there
  asked_still (Some line) = act_still (act_of line)

-- ---- over lines

module _ {L : Type 0} (reads : L → Option ScriptLine) where
  -- no line follows, or the first one recovers
  abbrev pub Breaks : State → List L → Type 0
  Breaks state [] = Unit {0}
  Breaks state (line ∷ lines) = (step_read state (reads line)).recovers ≡ true

  -- it is there behind the first of some lines, up to a recovery, and as it was if that comes at once
  pub record Lasts (state : State) (s : Start) (all : List Start) (place : ℕ) (lines : List L)
      : Type 0 where
    pub first : List L
    pub more : List L
    pub is : lines ≡ first ++ more
    pub still : Still s (users_after reads state all first) place
    pub at_once : Breaks state lines
        → slice_get (users_after reads state all first) place ≡ Some s
    pub breaks : Breaks (after (answers reads) state first) more

  module _ (state : State) (s : Start) (all : List Start) (place : ℕ)
      (there : slice_get all place ≡ Some s) (line : L) (lines : List L) where
    abbrev made : List Start
    made = users_behind state (reads line) all

    goes_on : (step_read state (reads line)).recovers ≡ false → (one : Still s made place)
        → Lasts (step_read state (reads line)).next one.stays.start made place lines
        → Lasts state s all place (line ∷ lines)
    goes_on is one rest = record {
      first = line ∷ rest.first;
      more = rest.more;
      is = ap (λ (ls : List L). line ∷ ls) rest.is;
      still = still_both s made
          (users_after reads (step_read state (reads line)).next made rest.first) place one rest.still;
      at_once = λ breaks. absurd (cc (sym breaks ∙ is));
      breaks = rest.breaks;
    }

    by_recovery : (r : Bool) → (step_read state (reads line)).recovers ≡ r
        → ((one : Still s made place)
        → Lasts (step_read state (reads line)).next one.stays.start made place lines)
        → Lasts state s all place (line ∷ lines)
    by_recovery true is rest = record {
      first = [];
      more = line ∷ lines;
      is = refl;
      still = still_there s all place there;
      at_once = λ breaks. there;
      breaks = is;
    }
    by_recovery false is rest =
        let asked = users_asked state (reads line) all in
        let one = subst (λ (xs : List Start). Still s xs place)
        (sym (ap (λ (b : Bool). if b then [] else asked) is))
        (asked_still state s all place there (reads line)) in
        goes_on is one (rest one)

  pub lasts : (lines : List L) (state : State) (s : Start) (all : List Start) (place : ℕ)
      → slice_get all place ≡ Some s → Lasts state s all place lines
  lasts [] state s all place there = record {
    first = [];
    more = [];
    is = refl;
    still = still_there s all place there;
    at_once = λ breaks. there;
    breaks = tt;
  }
  lasts (line ∷ lines) state s all place there =
      by_recovery state s all place there line lines (step_read state (reads line)).recovers refl
      (λ one. lasts lines (step_read state (reads line)).next one.stays.start
      (users_behind state (reads line) all) place one.stays.there)
