-- A turn of a talk, and what it comes to.
use Rattle.std.proofs.Common.{◌≡◌, ◌⊎◌, inl, inr, ⊎_elim, ℕ, Bool, true, false}
use Rattle.std.proofs.Common.{if◌then◌else◌, Option, Some, None, List, [], ◌∷◌, ◌++◌, refl}
use Rattle.std.proofs.Common.{ap, sym, subst, ◌∙◌, append-nil}
use Rattle.std.specs.Prelude.{IsTrue, IsFalse}
use Rattle.cds_time.specs.declared.cds.Cds.{Cds}
use Rattle.link_model.specs.declared.call.Call.{Call}
use Rattle.link_model.specs.declared.call.Heard.{Heard}
use Rattle.link_model.specs.Calls.{Tells, octets_heard}
use Rattle.octet_core.specs.Fault.{Rose}
use Rattle.octet_core.specs.Told.{CountsWhere}
use Rattle.octet_core.specs.Written.{Gains, GainsFront}
use Rattle.user_core.specs.Hearing.{Hearing}
use Rattle.user_core.specs.Laws.{AreOctets}
use Rattle.user_core.specs.declared.status.Status.{Status}
use Rattle.user_talk.specs.Ending.{end_by, end_at, hears_close}
use Rattle.user_talk.specs.Outbox.{offered, any_failed}
use Rattle.user_talk.specs.Readings.{Reads}
use Rattle.user_talk.specs.Rounds.{TalkState, Round, after_turn_at, answer_at, queued_at, hearing_in}
use Rattle.user_talk.specs.Rounds.{poll_calls, calls_of, lines_of}
use Rattle.user_talk.specs.Running.{World, world, WentOn, WasLast, Turns, TurnsOn}
use Rattle.user_talk.specs.Running.{whole, broken, EndsBy, PrintsTo}
use Rattle.user_talk.specs.declared.end.End.{End}
use Rattle.user_talk.specs.declared.reading.Reading.{Reading}
use Rattle.user_talk.specs.declared.end.End.TheVariants as end
use Rattle.user_talk.specs.declared.outbox.Answers.{Answers}
use Rattle.user_talk.specs.declared.turn.Stop.{Stop}
use Rattle.user_talk.specs.declared.turn.Stop.TheVariants as stop
use Rattle.user_talk.proofs.Octets.{none_are, calls_give, turn_gives}
use Rattle.user_talk.proofs.Told.{tells_both}

module _ {L C E O : Type 0} (calls : L → Option (List Call)) (link_faults : L → ℕ)
    (readings : C → Option (List Cds)) (asks : E → Option (List Bool))
    (written : O → Option (List ℕ)) (output_faults : O → ℕ) where
  -- what is known of a turn that wasn't broken off
  pub record Made (s t : TalkState) (read : Reading) (hearing : Hearing) (answers : Answers)
      (old new : World L C E O) : Type 0 where
    pub state : t ≡ after_turn_at s read hearing answers
    pub told : Tells (calls old.link) (calls new.link) (offered (queued_at s read hearing) answers)
    pub counts : CountsWhere (any_failed answers) (link_faults old.link) (link_faults new.link)
    pub reads : Reads (readings old.clock) (readings new.clock)
        (asks old.request) (asks new.request) (read ∷ [])
    pub printed : Gains (written old.output) (written new.output) (answer_at s read hearing).lines
    pub kept : output_faults new.output ≡ output_faults old.output

  -- and of one that was
  pub record Stopped (s : TalkState) (read : Reading) (hearing : Hearing) (why : Stop)
      (old new : World L C E O) : Type 0 where
    pub link : new.link ≡ old.link
    pub reads : Reads (readings old.clock) (readings new.clock)
        (asks old.request) (asks new.request) (read ∷ [])
    pub printed : GainsFront (written old.output) (written new.output)
        (answer_at s read hearing).lines
    pub rose : why ≡ stop.WriteFault → Rose (output_faults old.output) (output_faults new.output)
    pub kept : (why ≡ stop.WriteFault) ⊎ (output_faults new.output ≡ output_faults old.output)

  module _ (s t : TalkState) (read : Reading) (h : Option Heard) (answers : Answers)
      (old new : World L C E O) (before : L) (made : Made s t read (hearing_in h) answers old new)
      (told : Tells (calls before) (calls old.link) (poll_calls h))
      (octets : AreOctets (octets_heard (poll_calls h)))
      (same : link_faults old.link ≡ link_faults before) where
    abbrev the_round : Round
    the_round = record { heard = h; read = read; answers = answers }

    abbrev from_poll : World L C E O
    from_poll = world before old.clock old.request old.output

    its_calls : Tells (calls before) (calls new.link) (calls_of s the_round ++ [])
    its_calls =
        subst (λ l. Tells (calls before) (calls new.link) l)
        (sym (append-nil (calls_of s the_round)))
        (tells_both (calls before) (calls old.link) (calls new.link) (poll_calls h)
        (offered (queued_at s read (hearing_in h)) answers) told made.told)

    its_octets : AreOctets (octets_heard (calls_of s the_round ++ []))
    its_octets = calls_give (calls_of s the_round) [] (turn_gives s the_round octets) none_are

    its_lines : Gains (written old.output) (written new.output) (lines_of s the_round ++ [])
    its_lines = subst (λ l. Gains (written old.output) (written new.output) l)
        (sym (append-nil (lines_of s the_round))) made.printed

    pub went_on : t.user.course.status ≡ None → any_failed answers ≡ false
        → IsFalse (any_failed answers)
        → WentOn calls link_faults readings asks written output_faults h s t from_poll new
    went_on goes none well = record {
      round = the_round;
      heard = refl;
      ran = record {
        state = made.state;
        told = its_calls;
        octets = its_octets;
        reads = made.reads;
        printed = its_lines;
        goes_through =
            (ap (λ (x : TalkState). x.user.course.status) (sym made.state) ∙ goes, (none, tt));
        link_well = made.counts.kept well ∙ same;
        output_well = made.kept;
      };
      goes = goes;
    }

    -- a turn behind which the talk ends so
    ended_by : (e : End) → PrintsTo e (written old.output) (written new.output)
        (lines_of s the_round ++ []) []
        → EndsBy e (the_round ∷ []) whole (after_turn_at s read (hearing_in h) answers)
        → (e ≡ end.Spent → ⊥) → (e ≡ end.WriteFault → ⊥)
        → (e ≡ end.LinkFault → IsTrue (any_failed answers))
        → WasLast calls link_faults readings asks written output_faults h e s from_poll new
    ended_by e printed ends unspent unfailed failed = record {
      rounds = the_round ∷ [];
      tail = whole;
      is = refl;
      unspent = unspent;
      ended = record {
        told = subst (λ l. Tells (calls before) (calls new.link) l)
            (sym (append-nil (calls_of s the_round ++ []))) its_calls;
        octets = calls_give (calls_of s the_round ++ []) [] its_octets none_are;
        reads = made.reads;
        printed = printed;
        goes_through = tt;
        ends = ends;
        link_rose = λ is. subst (λ n. Rose n (link_faults new.link)) same
            (made.counts.rose (failed is));
        output_rose = λ is. absurd (unfailed is);
        output_kept = inr made.kept;
      };
    }

    over : (status : Status) (closed : Bool) → t.user.course.status ≡ Some status
        → closed ≡ hears_close (hearing_in h)
        → WasLast calls link_faults readings asks written output_faults h (end.Over status closed) s
        from_poll new
    over status closed is hears =
        ended_by (end.Over status closed) its_lines (
          refl,
          (
            ap (λ (x : TalkState). x.user.course.status) (sym made.state) ∙ is,
            record { before = []; last = the_round; is = refl; so = hears },
          ),
        )
        (λ e. absurd cc) (λ e. absurd cc) (λ e. absurd cc)

    failed : t.user.course.status ≡ None → any_failed answers ≡ true
        → WasLast calls link_faults readings asks written output_faults h end.LinkFault s
        from_poll new
    failed is fails =
        ended_by end.LinkFault its_lines (
          ap (λ (x : TalkState). x.user.course.status) (sym made.state) ∙ is,
          inr (refl, record { before = []; last = the_round; is = refl; so = fails }),
        )
        (λ e. absurd cc) (λ e. absurd cc) (λ e. search fails)

    by_failing : (b : Bool) → any_failed answers ≡ b → t.user.course.status ≡ None
        → Turns calls link_faults readings asks written output_faults h
        (if b then Some end.LinkFault else None) s t from_poll new
    by_failing true fails is = failed is fails
    by_failing false well is = went_on is well (search well)

    pub made_by : (status : Option Status) (closed : Bool) → t.user.course.status ≡ status
        → closed ≡ hears_close (hearing_in h)
        → Turns calls link_faults readings asks written output_faults h (end_by status answers
        closed)
        s t from_poll new
    made_by (Some status) closed is hears = over status closed is hears
    made_by None closed is hears = by_failing (any_failed answers) refl is

  pub made_on : (s t : TalkState) (read : Reading) (hearing : Hearing) (answers : Answers)
      (status : Option Status) (closed : Bool) (old new : World L C E O)
      → Made s t read hearing answers old new → t.user.course.status ≡ status
      → closed ≡ hears_close hearing
      → TurnsOn calls link_faults readings asks written output_faults hearing
      (end_by status answers closed) s t old new
  made_on s t read hearing answers status closed old new made is hears h before heard told octets
      same =
      made_by s t read h answers old new before
      (subst (λ x. Made s t read x answers old new) (sym heard) made) told octets same status
      closed is
      (hears ∙ ap hears_close (sym heard))

  stopped_by : (s : TalkState) (read : Reading) (h : Option Heard) (why : Stop) (old new : World
      L C E O)
      (before : L) → Stopped s read (hearing_in h) why old new
      → Tells (calls before) (calls old.link) (poll_calls h)
      → AreOctets (octets_heard (poll_calls h))
      → WasLast calls link_faults readings asks written output_faults h (end_at why) s
      (world before old.clock old.request old.output) new
  stopped_by s read h stop.WriteFault old new before stopped told octets = record {
    rounds = [];
    tail = broken h read;
    is = refl;
    unspent = λ e. absurd cc;
    ended = record {
      told = subst (λ l. Tells (calls before) (calls l) (poll_calls h)) (sym stopped.link) told;
      octets = octets;
      reads = stopped.reads;
      printed = stopped.printed;
      goes_through = tt;
      ends = tt;
      link_rose = λ e. absurd cc;
      output_rose = λ e. stopped.rose refl;
      output_kept = inl refl;
    };
  }
  stopped_by s read h stop.Memory old new before stopped told octets = record {
    rounds = [];
    tail = broken h read;
    is = refl;
    unspent = λ e. absurd cc;
    ended = record {
      told = subst (λ l. Tells (calls before) (calls l) (poll_calls h)) (sym stopped.link) told;
      octets = octets;
      reads = stopped.reads;
      printed = stopped.printed;
      goes_through = tt;
      ends = tt;
      link_rose = λ e. absurd cc;
      output_rose = λ e. absurd cc;
      output_kept = ⊎_elim (λ is. absurd cc) (λ same. inr same) stopped.kept;
    };
  }

  pub stopped_on : (s t : TalkState) (read : Reading) (hearing : Hearing) (why : Stop)
      (old new : World L C E O) → Stopped s read hearing why old new
      → TurnsOn calls link_faults readings asks written output_faults hearing (Some (end_at why))
      s t old
      new
  stopped_on s t read hearing why old new stopped h before heard told octets same =
      stopped_by s read h why old new before
      (subst (λ x. Stopped s read x why old new) (sym heard) stopped) told octets
