-- What a talk makes of its link, its clock and its output. This product's own.
use Rattle.std.specs.Prelude.{◌≡◌, ◌⊎◌, ℕ, ◌+◌, ◌≤◌, Bool, true, false, Option, Some, None, is_some}
use Rattle.std.specs.Prelude.{List, [], ◌∷◌, ◌++◌, length}
use Rattle.std.specs.List.{list_all}
use Rattle.cds_time.specs.declared.cds.Cds.{Cds}
use Rattle.link_model.specs.declared.call.Call.{Call}
use Rattle.link_model.specs.declared.call.Call.TheVariants.{Polled}
use Rattle.link_model.specs.declared.call.Heard.{Heard}
use Rattle.link_model.specs.declared.call.Heard.TheVariants.{Failed}
use Rattle.link_model.specs.Calls.{Tells, octets_heard}
use Rattle.octet_core.specs.Fault.{Rose}
use Rattle.octet_core.specs.Written.{Gains, GainsFront}
use Rattle.user_core.specs.Hearing.{Hearing}
use Rattle.user_core.specs.Laws.{AreOctets}
use Rattle.user_task.specs.declared.task.Task.{Task}
use Rattle.user_talk.specs.Ending.{hears_close}
use Rattle.user_talk.specs.Outbox.{any_failed}
use Rattle.user_talk.specs.Readings.{Reads}
use Rattle.user_talk.specs.Rounds.{TalkState, Round, begun, answer_at, hearing_in, poll_calls}
use Rattle.user_talk.specs.Rounds.{after_round, after_rounds, calls_in, lines_in, readings_in}
use Rattle.user_talk.specs.declared.end.End.{End}
use Rattle.user_talk.specs.declared.end.End.TheVariants as end
use Rattle.user_talk.specs.declared.reading.Reading.{Reading}
use Rattle.user_talk.specs.declared.rounds.TheConstants.{PIECE_OCTETS}

-- what a talk is held over
pub record World (L C E O : Type 0) : Type 0 where
  pub link : L
  pub clock : C
  pub request : E
  pub output : O

abbrev pub world : {L C E O : Type 0} → L → C → E → O → World L C E O
world link clock request output =
    record { link = link; clock = clock; request = request; output = output }

-- what stands behind the last whole turn: nothing, a poll that failed, or a turn that was broken off
-- before its offers
pub data Tail : Type 0 where
  whole : Tail
  unheard : Tail
  broken : Option Heard → Reading → Tail

abbrev pub tail_calls : Tail → List Call
tail_calls whole = []
tail_calls unheard = Polled PIECE_OCTETS Failed ∷ []
tail_calls (broken h read) = poll_calls h

abbrev pub tail_readings : Tail → List Reading
tail_readings whole = []
tail_readings unheard = []
tail_readings (broken h read) = read ∷ []

-- of these a front may have been printed
abbrev pub tail_lines : TalkState → Tail → List ℕ
tail_lines s whole = []
tail_lines s unheard = []
tail_lines s (broken h read) = (answer_at s read (hearing_in h)).lines

abbrev pub tail_count : Tail → ℕ
tail_count whole = 0
tail_count unheard = 1
tail_count (broken h read) = 1

-- ---- polls

abbrev pub is_polled : Round → Bool
is_polled r = is_some r.heard

abbrev pub tail_polled : Tail → Bool
tail_polled whole = true
tail_polled unheard = true
tail_polled (broken h read) = is_some h

-- The first turn polls nothing, and each further one polls once.
abbrev pub PollsBehindFirst : List Round → Tail → Type 0
PollsBehindFirst [] tail = tail_polled tail ≡ false
PollsBehindFirst (r ∷ rounds) tail =
    (r.heard ≡ None) × ((list_all is_polled rounds ≡ true) × (tail_polled tail ≡ true))

-- ---- before each poll

-- behind each of these turns the user goes on, and none of its offers failed
abbrev pub GoesThrough : TalkState → List Round → Type 0
GoesThrough s [] = Unit {0}
GoesThrough s (r ∷ rounds) =
    ((after_round s r).user.course.status ≡ None)
    × ((any_failed r.answers ≡ false) × GoesThrough (after_round s r) rounds)

abbrev pub but_last : List Round → List Round
but_last [] = []
but_last (r ∷ []) = []
but_last (r ∷ q ∷ rounds) = r ∷ but_last (q ∷ rounds)

-- the turns behind which a poll was made: all but the last, and that too where more stands behind it
abbrev pub before_polls : List Round → Tail → List Round
before_polls rounds whole = but_last rounds
before_polls rounds unheard = rounds
before_polls rounds (broken h read) = rounds

-- ---- how it ends

-- the last of the turns is so
pub record LastIs (rounds : List Round) (P : Round → Type 0) : Type 0 where
  pub before : List Round
  pub last : Round
  pub is : rounds ≡ before ++ last ∷ []
  pub so : P last

abbrev pub IsBroken : Tail → Type 0
IsBroken (broken h read) = Unit {0}
IsBroken _ = ⊥

-- a poll failed, or one of the last turn's offers
abbrev pub LinkFailed : List Round → Tail → Type 0
LinkFailed rounds tail =
    (tail ≡ unheard) ⊎ ((tail ≡ whole) × LastIs rounds (λ r. any_failed r.answers ≡ true))

-- why a talk ends, by its turns and by what stands behind them
abbrev pub EndsBy : End → List Round → Tail → TalkState → Type 0
EndsBy (end.Over status closed) rounds tail t =
    (tail ≡ whole) × ((t.user.course.status ≡ Some status)
    × LastIs rounds (λ r. closed ≡ hears_close (hearing_in r.heard)))
EndsBy end.Spent rounds tail t = (tail ≡ whole) × (t.user.course.status ≡ None)
EndsBy end.LinkFault rounds tail t = (t.user.course.status ≡ None) × LinkFailed rounds tail
EndsBy end.WriteFault rounds tail t = IsBroken tail
EndsBy end.Memory rounds tail t = IsBroken tail

-- all lines of the turns were written, or a front of them and of those of the turn that was broken
-- off
abbrev pub PrintsTo : End → Option (List ℕ) → Option (List ℕ) → List ℕ → List ℕ → Type 0
PrintsTo end.WriteFault before after lines more = GainsFront before after (lines ++ more)
PrintsTo end.Memory before after lines more = GainsFront before after (lines ++ more)
PrintsTo _ before after lines more = Gains before after lines

-- a turn in which this was heard, or which was broken off
abbrev pub IsTurn : Option Heard → List Round → Tail → Type 0
IsTurn h (r ∷ []) whole = r.heard ≡ h
IsTurn h [] (broken k read) = k ≡ h
IsTurn h rounds tail = ⊥

module _ {L C E O : Type 0} (calls : L → Option (List Call)) (link_faults : L → ℕ)
    (readings : C → Option (List Cds)) (asks : E → Option (List Bool))
    (written : O → Option (List ℕ)) (output_faults : O → ℕ) where
  -- These turns were made, nothing failed in them, and the user goes on. What the polls gave are
  -- octets.
  pub record Ran (rounds : List Round) (s t : TalkState) (old new : World L C E O) : Type 0 where
    pub state : t ≡ after_rounds s rounds
    pub told : Tells (calls old.link) (calls new.link) (calls_in s rounds)
    pub octets : AreOctets (octets_heard (calls_in s rounds))
    pub reads : Reads (readings old.clock) (readings new.clock)
        (asks old.request) (asks new.request) (readings_in rounds)
    pub printed : Gains (written old.output) (written new.output) (lines_in s rounds)
    pub goes_through : GoesThrough s rounds
    pub link_well : link_faults new.link ≡ link_faults old.link
    pub output_well : output_faults new.output ≡ output_faults old.output

  -- These turns were made, with this behind them, and so the talk ended. Before each poll the user
  -- went on, and what the polls gave are octets.
  pub record Ended (rounds : List Round) (tail : Tail) (e : End) (s : TalkState)
      (old new : World L C E O) : Type 0 where
    pub told : Tells (calls old.link) (calls new.link) (calls_in s rounds ++ tail_calls tail)
    pub octets : AreOctets (octets_heard (calls_in s rounds ++ tail_calls tail))
    pub reads : Reads (readings old.clock) (readings new.clock)
        (asks old.request) (asks new.request) (readings_in rounds ++ tail_readings tail)
    pub printed : PrintsTo e (written old.output) (written new.output) (lines_in s rounds)
        (tail_lines (after_rounds s rounds) tail)
    pub goes_through : GoesThrough s (before_polls rounds tail)
    pub ends : EndsBy e rounds tail (after_rounds s rounds)
    pub link_rose : e ≡ end.LinkFault → Rose (link_faults old.link) (link_faults new.link)
    pub output_rose : e ≡ end.WriteFault
        → Rose (output_faults old.output) (output_faults new.output)
    pub output_kept : (e ≡ end.WriteFault)
        ⊎ (output_faults new.output ≡ output_faults old.output)

  pub record WentOn (h : Option Heard) (s t : TalkState) (old new : World L C E O) : Type 0 where
    pub round : Round
    pub heard : round.heard ≡ h
    pub ran : Ran (round ∷ []) s t old new
    pub goes : t.user.course.status ≡ None

  pub record WasLast (h : Option Heard) (e : End) (s : TalkState) (old new : World L C E O) :
      Type 0 where
    pub rounds : List Round
    pub tail : Tail
    pub is : IsTurn h rounds tail
    pub unspent : e ≡ end.Spent → ⊥
    pub ended : Ended rounds tail e s old new

  -- what a turn comes to
  abbrev pub Turns : Option Heard → Option End → TalkState → TalkState → World L C E O → World L
      C E O
      → Type 0
  Turns h None s t old new = WentOn h s t old new
  Turns h (Some e) s t old new = WasLast h e s old new

  -- so it does whatever the poll's call was by which this was heard, where that gave octets
  abbrev pub TurnsOn : Hearing → Option End → TalkState → TalkState → World L C E O → World L C E O
      → Type 0
  TurnsOn hearing e s t old new =
      (h : Option Heard) (before : L) → hearing_in h ≡ hearing
      → Tells (calls before) (calls old.link) (poll_calls h)
      → AreOctets (octets_heard (poll_calls h))
      → link_faults old.link ≡ link_faults before
      → Turns h e s t (world before old.clock old.request old.output) new

  -- So many polls were made, each with a turn, and the talk goes on.
  pub record GoesOn (count : ℕ) (s t : TalkState) (old new : World L C E O) : Type 0 where
    pub rounds : List Round
    pub polled : list_all is_polled rounds ≡ true
    pub counted : length rounds ≡ count
    pub ran : Ran rounds s t old new
    pub goes : t.user.course.status ≡ None

  -- So many polls were made at most, each with a turn, and the talk ended. Where they were spent, all
  -- were made.
  pub record Ends (most : ℕ) (e : End) (s : TalkState) (old new : World L C E O) : Type 0 where
    pub rounds : List Round
    pub tail : Tail
    pub polled : list_all is_polled rounds ≡ true
    pub tail_is : tail_polled tail ≡ true
    pub few : length rounds + tail_count tail ≤ most
    pub spent : e ≡ end.Spent → length rounds ≡ most
    pub ended : Ended rounds tail e s old new

  -- what a poll with its turn comes to
  abbrev pub Polls : Option End → TalkState → TalkState → World L C E O → World L C E O → Type 0
  Polls None s t old new = GoesOn 1 s t old new
  Polls (Some e) s t old new = Ends 1 e s old new × (e ≡ end.Spent → ⊥)

  -- A task was talked over from its first turn on, with so many polls at most.
  pub record Talked (task : Task) (most : ℕ) (e : End) (old new : World L C E O) : Type 0 where
    pub rounds : List Round
    pub tail : Tail
    pub polls : PollsBehindFirst rounds tail
    pub few : length rounds + tail_count tail ≤ most + 1
    pub spent : e ≡ end.Spent → length rounds ≡ most + 1
    pub ended : Ended rounds tail e (begun task) old new
