-- What is left to write of what is said of a connection.
use Rattle.std.proofs.Common.{◌≡◌, ℕ, ◌+◌, ◌≤◌, ◌<◌, List, [], ◌++◌, length, drop, map, get_or}
use Rattle.std.proofs.Common.{refl, add-one, drop-cons, Option, Some, None, subst, Result, Ok, Err}
use Rattle.std.proofs.Common.{inl, false, true, ap, sym}
use Rattle.std.specs.Prelude.{IfOk}
use Rattle.std.proofs.lemmas.List.{drop_all, append-nil}
use Rattle.std.proofs.Math.Path.{fun_ext}
use Rattle.std.specs.Result.{IsErrAnd}
use Rattle.std.specs.Prelude.{vec_items}
use Rattle.drill_text.specs.declared.script_line.ScriptLine.{ScriptLine}
use Rattle.station_links.specs.declared.link_line.LinkLine.{LinkLine}
use Rattle.station_book.specs.State as books
use Rattle.station_uplink.specs.declared.turn.Turn.{Turn}
use Rattle.station_uplink.specs.declared.turned.Turned.{Turned as HowTurned}
use Rattle.station_uplink.specs.declared.turned.Turned.TheVariants.{Wrong, Quiet, Says}
use Rattle.station_uplink.specs.Turns.{Uplink, Turned, turned}
use Rattle.station_uplink.specs.Standing.{IsUplink, HasTurned}
use Rattle.station_uplink.specs.Standing as uplinks
use Rattle.station_law.specs.declared.said.SaidAt.{SaidAt}
use Rattle.script_store.specs.declared.step_done.StepDone.{StepDone}
use Rattle.script_store.specs.declared.step_done.StepDone.TheVariants.{Fine, WrongState}
use Rattle.script_store.specs.declared.stop.Stop.{Stop}
use Rattle.script_store.specs.declared.stop.Stop.TheVariants.{WriteFault}
use Rattle.script_store.specs.Output.{Wrote}
use Rattle.script_store.specs.Outcomes.{said_of_turn, done_of_turn}
use Rattle.octet_core.specs.Writing.{writes-none, writes-append, writes-stopped}
use Rattle.station_law.specs.Doors.{Doors, Acted, act}
use Rattle.station_law.specs.State.{State}
use Rattle.script_store.specs.Answer.{Answer}
use Rattle.station_law.specs.Standing.{AreDoors, IsActed, Seen, Stands, HasDone}
use Rattle.station_law.specs.Does.{IsTaken, Does}
use Rattle.station_law.specs.Lines.{connected, uplinked, turn_at}
use Rattle.script_store.specs.Said.{Said, linked, uplink, text_of, texts}

abbrev pub told_text : ℕ → List LinkLine → List ℕ
told_text c lines = texts (map (linked c) lines)

pub next_told : (c : ℕ) (lines : List LinkLine) (i : ℕ) (line : LinkLine) → i < length lines
    → line ≡ get_or lines i line
    → told_text c (drop i lines)
    ≡ text_of (linked c line) ++ told_text c (drop (i + 1) lines)
next_told c lines i line h here = rw (drop-cons lines i line h, ← here, add-one) refl

pub none_told : (c : ℕ) (lines : List LinkLine) (i : ℕ) → length lines ≤ i
    → told_text c (drop i lines) ≡ []
none_told c lines i h = rw (drop_all i lines h) refl

-- what a line of a connection says, and how it ends
abbrev pub said_by : Option SaidAt → List Said
said_by None = []
said_by (Some said) = map (linked said.c) (vec_items said.lines)

abbrev pub done_by : Option SaidAt → StepDone
done_by None = WrongState
done_by (Some said) = Fine

-- a turn that was done
is_fine : (how : HowTurned) → uplinks.is_done how ≡ true → done_of_turn how ≡ Fine
is_fine Wrong done = absurd cc
is_fine Quiet done = refl
is_fine (Says line) done = refl

-- it was done, all but its text
module _ (old new : Seen) (same : new.recorder ≡ old.recorder) (clock : new.clock ≡ old.clock)
    (ready : old.recorder.is_spent ≡ false) where
  done_then : (answer : Answer State) (state : State) → Stands old state
      → answer.next.store ≡ state.store → answer.next.clock ≡ state.clock
      → AreDoors new.doors answer.next.doors → IsUplink new.uplink answer.next.uplink
      → HasDone answer new
  done_then answer state stands store reading doors up = record {
    stands = record {
      store = rw (same, store) stands.store;
      clock = cc;
      doors = doors;
      uplink = up;
    };
    ready = rw same ready;
  }

  tells : (said : Option SaidAt) (state : State) (a : Option Acted) → Stands old state
      → new.uplink ≡ old.uplink
      → IsActed said state.doors a new.doors → (said_by said ≡ (connected state a).said)
      × (done_by said ≡ (connected state a).done) × HasDone (connected state a) new
  tells None state None stands up acted = (
    refl,
    refl,
    done_then (connected state None) state stands refl refl acted.1 (rw up stands.uplink),
  )
  tells None state (Some a) stands up acted = absurd acted
  tells (Some said) state None stands up acted = absurd (let no = acted.0 in cc)
  tells (Some said) state (Some a) stands up acted = (
    rw (acted.c_is, acted.says) refl,
    refl,
    done_then (connected state (Some a)) state stands refl refl acted.doors
        (rw up stands.uplink),
  )

  pub acted_taken : new.uplink ≡ old.uplink → (line : ScriptLine) (other said : Option SaidAt)
      → other ≡ said
      → ((d : Doors) → AreDoors old.doors d → IsActed other d (act d old.clock line) new.doors)
      → IsTaken (λ state. connected state (act state.doors state.clock line)) old new
      (said_by said) (done_by said)
  acted_taken up line other said is acted = record {
    says = λ state stands. (so state stands).0;
    ends = λ state stands. (so state stands).1;
    next = λ state stands. (so state stands).2;
  }
    where
      so : (state : State) → Stands old state
          → (said_by said ≡ (connected state (act state.doors state.clock line)).said)
          × (done_by said ≡ (connected state (act state.doors state.clock line)).done)
          × HasDone (connected state (act state.doors state.clock line)) new
      so state stands = tells said state (act state.doors state.clock line) stands up
          (rw (is, stands.clock) at (acted state.doors stands.doors))

  -- a turn of the uplink was done, all but its text
  turns_so : (how : HowTurned) (state : State) (t : Option Turned) → Stands old state
      → new.doors ≡ record old.doors { book = new.doors.book }
      → HasTurned how t old.doors.book new.doors.book new.uplink state.uplink
      → (said_of_turn how ≡ (uplinked state t).said)
      × (done_of_turn how ≡ (uplinked state t).done) × HasDone (uplinked state t) new
  turns_so how state None stands rest went = (
    ap said_of_turn went.0,
    ap done_of_turn went.0,
    done_then (uplinked state None) state stands refl refl
        (rw (rest, went.1) stands.doors) went.2,
  )
  turns_so how state (Some t) stands rest went = (
    ap (map uplink) went.says,
    is_fine how went.done,
    done_then (uplinked state (Some t)) state stands refl refl
        (rw rest (record {
          site = stands.doors.site;
          book = rw (went.book_is, stands.doors.book) refl;
          at = stands.doors.at;
        })) went.leaves,
  )

  pub turned_taken : new.doors ≡ record old.doors { book = new.doors.book } → (turn : Turn)
      (how : HowTurned)
      → ((u : Uplink) → IsUplink old.uplink u
      → HasTurned how (turned old.doors.book old.clock u turn) old.doors.book new.doors.book
      new.uplink u)
      → IsTaken (λ state. uplinked state (turn_at state turn)) old new (said_of_turn how)
      (done_of_turn how)
  turned_taken rest turn how does = record {
    says = λ state stands. (so state stands).0;
    ends = λ state stands. (so state stands).1;
    next = λ state stands. (so state stands).2;
  }
    where
      so : (state : State) → Stands old state
          → (said_of_turn how ≡ (uplinked state (turn_at state turn)).said)
          × (done_of_turn how ≡ (uplinked state (turn_at state turn)).done)
          × HasDone (uplinked state (turn_at state turn)) new
      so state stands = turns_so how state (turn_at state turn) stands rest
          (subst (λ (b : books.State). HasTurned how (turned b state.clock state.uplink turn)
          old.doors.book new.doors.book new.uplink state.uplink) stands.doors.book
          (subst (λ (n : ℕ). HasTurned how (turned old.doors.book n state.uplink turn)
          old.doors.book new.doors.book new.uplink state.uplink) stands.clock
          (does state.uplink stands.uplink)))

-- ---- a step's text

-- a step was taken, and its text was written
pub told : {T : Type 0} {answer : State → Answer State} {old new : Seen} {said : List Said}
    {done : StepDone} → IsTaken answer old new said done
    → (before after : Option (List ℕ)) (f g : ℕ) (value : T)
    → Wrote {T = T} before after f g (texts said) (Ok value)
    → Does answer old new before after f g (Ok done)
told {said = said} {done = done} taken before after f g value wrote = record {
  written = λ state stands. rw (← taken.says state stands) (rw append-nil at (writes-append
      WriteFault before after after f g g (texts said) [] value (Ok done) wrote
      (writes-none WriteFault after g done)));
  done = taken.ends;
  next = taken.next;
  write_fault = λ fault. absurd cc;
  stopped = tt;
}

-- nothing is to be written
pub told_nothing : {answer : State → Answer State} {old new : Seen} {done : StepDone}
    → IsTaken answer old new [] done → (output : Option (List ℕ)) (f : ℕ)
    → Does answer old new output output f f (Ok done)
told_nothing taken output f =
    told {T = Unit {0}} taken output output f f tt (writes-none WriteFault output f tt)

-- it wasn't written whole
pub untold : {T : Type 0} {answer : State → Answer State} {old new : Seen} {said : List Said}
    {done : StepDone} → IsTaken answer old new said done
    → (before after : Option (List ℕ)) (f g : ℕ) (stop : Stop) (result : Result StepDone Stop)
    → IsErrAnd result (λ e. e ≡ stop) → Wrote {T = T} before after f g (texts said) (Err stop)
    → Does answer old new before after f g result
untold taken before after f g stop (Ok value) stopped wrote = absurd stopped
untold {said = said} taken before after f g stop (Err e) stopped wrote = record {
  written = λ state stands. rw (← taken.says state stands, stopped)
      (rw append-nil at (writes-stopped {U = StepDone} WriteFault before after f g (texts said) []
      stop wrote));
  done = tt;
  next = tt;
  write_fault = λ fault. taken.next;
  stopped = λ state stands. inl (taken.next state stands).stands.store;
}

-- its text was written, or not whole
pub told_or_not : {answer : State → Answer State} {old new : Seen} {said : List Said}
    {done : StepDone} → IsTaken answer old new said done
    → (before after : Option (List ℕ)) (f g : ℕ) (result : Result StepDone Stop)
    → Wrote {T = StepDone} before after f g (texts said) result
    → IfOk result (λ value. value ≡ done) → Does answer old new before after f g result
told_or_not {answer} {old} {new} taken before after f g (Ok value) wrote is =
    subst (λ (d : StepDone). Does answer old new before after f g (Ok d)) (sym is)
    (told taken before after f g value wrote)
told_or_not taken before after f g (Err stop) wrote is =
    untold taken before after f g stop (Err stop) refl wrote

-- another step that answers the same
pub does_as : {one other : State → Answer State} {old new : Seen}
    {before after : Option (List ℕ)} {f g : ℕ} {result : Result StepDone Stop}
    → ((state : State) → one state ≡ other state)
    → Does one old new before after f g result → Does other old new before after f g result
does_as {old} {new} {before} {after} {f} {g} {result} same does =
    subst (λ (step : State → Answer State). Does step old new before after f g result)
    (fun_ext same) does
