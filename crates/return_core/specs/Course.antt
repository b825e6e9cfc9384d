-- A delivery as contracts see it.
use Rattle.std.specs.Prelude.{◌≡◌, ℕ, ◌<◌, Bool, true, false, if◌then◌else◌, not, ◌||◌, Option}
use Rattle.std.specs.Prelude.{Some, None, is_some, unwrap_or, List, []}
use Rattle.std.specs.Option.{option_map, option_map_or}
use Rattle.archive_terms.specs.Selection.{Selection}
use Rattle.archive_terms.specs.Delivery.{Mode, is_online, Terms}
use Rattle.archive_terms.specs.Continuity.{last_frame}
use Rattle.archive_terms.specs.Glimpse.{Want, wants_nothing, Glimpse}
use Rattle.archive_terms.specs.Placed.{ToldItem, items_of, Placed, placed_at_start, want_of}
use Rattle.archive_terms.specs.Placed.{placed_step, placed_answered}
use Rattle.archive_terms.specs.Rounds.{Answer}
use Rattle.return_core.specs.Holding.{Holding}

-- a START that runs: its terms, and where it stands
pub record Run : Type 0 where
  pub terms : Terms
  pub placed : Placed

-- a delivery's mode, the greatest number of items in its buffers and its latency limit, and the
-- START that runs, if there is one
pub record Course : Type 0 where
  pub mode : Mode
  pub size : ℕ
  pub latency : ℕ
  pub run : Option Run

abbrev pub stopped : Mode → ℕ → ℕ → Course
stopped mode size latency = record { mode = mode; size = size; latency = latency; run = None }

abbrev pub terms_of : Course → Selection → Terms
terms_of c selection = record {
  mode = c.mode;
  size = c.size;
  latency = c.latency;
  selection = selection;
}

abbrev pub run_of : Terms → Run
run_of t = record { terms = t; placed = placed_at_start t }

-- a START begins
abbrev pub with_start : Course → Selection → Course
with_start c selection = record c { run = Some (run_of (terms_of c selection)) }

-- a START ends
abbrev pub without_start : Course → Course
without_start c = record c { run = None }

-- what is held of the running START, as it is told
abbrev pub held_of : Course → List ToldItem
held_of c = option_map_or (λ r. r.placed.held) c.run []

-- its latency limit, in the online modes
abbrev pub limit_of_course : Course → Option ℕ
limit_of_course c = if is_online c.mode then Some c.latency else None

-- what the running START wants
abbrev pub want_of_course : Course → Want
want_of_course c = option_map_or (λ r. want_of r.terms r.placed) c.run wants_nothing

-- whether a buffer is fixed, which is to be offered
abbrev pub is_offering : Course → Bool
is_offering c = option_map_or (λ r. r.placed.fixed) c.run false

-- whether it takes items
abbrev pub is_filling : Course → Bool
is_filling c = option_map_or (λ r. not (r.placed.fixed || r.placed.ended)) c.run false

-- a step on a glimpse
abbrev pub run_stepped : Glimpse → ℕ → Run → Run
run_stepped g now r = record r { placed = placed_step r.terms g now r.placed }

abbrev pub with_step : Course → Glimpse → ℕ → Course
with_step c g now = record c { run = option_map (run_stepped g now) c.run }

-- an answer to the fixed buffer; where none is fixed nothing was offered
abbrev pub run_answered : Answer → Run → Run
run_answered answer r =
    record r {
      placed = if r.placed.fixed then placed_answered r.terms answer r.placed
          else r.placed;
    }

abbrev pub with_answer : Course → Answer → Course
with_answer c answer = record c { run = option_map (run_answered answer) c.run }

-- where a delivery stands, by what it holds and keeps beside it
abbrev pub placed_of : Holding → Option ℕ → Bool → Bool → Bool → Placed
placed_of h last owed fixed ended = record {
  place = h.place;
  last = last;
  held = h.told;
  owed = owed;
  fixed = fixed;
  since = h.since;
  ended = ended;
}

abbrev pub course_of : Mode → Option ℕ → Option Selection → Holding → Option ℕ → Bool → Bool → Bool
    → Course
course_of mode latency selection h last owed fixed ended = record {
  mode = mode;
  size = h.size;
  latency = unwrap_or latency 0;
  run = option_map (λ s. record {
    terms = record { mode = mode; size = h.size; latency = unwrap_or latency 0; selection = s };
    placed = placed_of h last owed fixed ended;
  }) selection;
}

-- a buffer has room for an item; an online mode has a latency limit; and the last frame that was
-- put is that of what is held, or of what was handed over before
pub record IsSound (mode : Mode) (latency : Option ℕ) (h : Holding) (last : Option ℕ) : Type 0 where
  pub some : 0 < h.size
  pub limited : is_online mode ≡ true → is_some latency ≡ true
  pub frame : h.frame ≡ last_frame last (items_of h.told)
