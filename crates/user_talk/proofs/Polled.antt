-- Polls with their turns, one behind the other.
use Rattle.std.proofs.Common.{◌≡◌, inl, inr, ℕ, ◌+◌, ◌<◌, ◌≤◌, Bool, true, false, ◌&&◌, Option}
use Rattle.std.proofs.Common.{Some, None, is_some, List, [], ◌∷◌, ◌++◌, length, refl, ap, sym, subst}
use Rattle.std.proofs.Common.{◌∙◌, append-nil, length-append, arith}
use Rattle.std.specs.List.{list_all}
use Rattle.cds_time.specs.declared.cds.Cds.{Cds}
use Rattle.link_model.specs.declared.call.Call.{Call}
use Rattle.link_model.specs.declared.call.Call.TheVariants.{Polled}
use Rattle.link_model.specs.declared.call.Heard.{Heard}
use Rattle.link_model.specs.declared.call.Heard.TheVariants.{Failed}
use Rattle.link_model.specs.Calls.{Tells, arrived_at}
use Rattle.octet_core.specs.Fault.{Rose}
use Rattle.octet_core.specs.Writing.{gains-none}
use Rattle.user_core.specs.Hearing.{Hearing, nothing}
use Rattle.user_core.specs.Laws.{AreOctets}
use Rattle.user_task.specs.declared.task.Task.{Task}
use Rattle.user_talk.specs.Readings.{Reads}
use Rattle.user_talk.specs.Rounds.{TalkState, Round, begun, hearing_in, calls_in}
use Rattle.user_talk.specs.Running.{World, world, WentOn, WasLast, Turns, TurnsOn, IsTurn}
use Rattle.user_talk.specs.Running.{Tail, whole, unheard, broken, tail_count, tail_polled, is_polled}
use Rattle.user_talk.specs.Running.{GoesOn, Ends, Polls, Talked, PollsBehindFirst}
use Rattle.user_talk.specs.declared.end.End.{End}
use Rattle.user_talk.specs.declared.reading.Reading.{Reading}
use Rattle.user_talk.specs.declared.end.End.TheVariants as end
use Rattle.user_talk.specs.declared.rounds.TheConstants.{PIECE_OCTETS}
use Rattle.user_talk.proofs.Running.{ran_both, ended_both, all_both, reads_none, through_but_last}
use Rattle.user_talk.proofs.Octets.{none_are, poll_gives, calls_give}
use Rattle.user_talk.proofs.Told.{tells_none}

-- one turn, in which a poll was heard
pub record OnePoll (rounds : List Round) (tail : Tail) : Type 0 where
  pub polled : list_all is_polled rounds ≡ true
  pub tail_is : tail_polled tail ≡ true
  pub few : length rounds + tail_count tail ≤ 1

one_poll : (h : Heard) (rounds : List Round) (tail : Tail) → IsTurn (Some h) rounds tail
    → OnePoll rounds tail
one_poll h (r ∷ []) whole is = record {
  polled = subst (λ x. (is_some x && true) ≡ true) (sym is) refl;
  tail_is = refl;
  few = omega arith;
}
one_poll h [] (broken k read) is = record {
  polled = refl;
  tail_is = subst (λ x. is_some x ≡ true) (sym is) refl;
  few = omega arith;
}
one_poll h [] whole is = absurd is
one_poll h [] unheard is = absurd is
one_poll h (r ∷ []) unheard is = absurd is
one_poll h (r ∷ []) (broken k read) is = absurd is
one_poll h (r ∷ q ∷ rounds) whole is = absurd is
one_poll h (r ∷ q ∷ rounds) unheard is = absurd is
one_poll h (r ∷ q ∷ rounds) (broken k read) is = absurd is

-- the first turn, which polls nothing
pub record NoPoll (rounds : List Round) (tail : Tail) : Type 0 where
  pub polls : PollsBehindFirst rounds tail
  pub few : length rounds + tail_count tail ≤ 1

no_poll : (rounds : List Round) (tail : Tail) → IsTurn None rounds tail → NoPoll rounds tail
no_poll (r ∷ []) whole is = record { polls = (is, (refl, refl)); few = omega arith }
no_poll [] (broken k read) is = record {
  polls = subst (λ x. is_some x ≡ false) (sym is) refl;
  few = omega arith;
}
no_poll [] whole is = absurd is
no_poll [] unheard is = absurd is
no_poll (r ∷ []) unheard is = absurd is
no_poll (r ∷ []) (broken k read) is = absurd is
no_poll (r ∷ q ∷ rounds) whole is = absurd is
no_poll (r ∷ q ∷ rounds) unheard is = absurd is
no_poll (r ∷ q ∷ rounds) (broken k read) is = absurd is

module _ {L C E O : Type 0} (calls : L → Option (List Call)) (link_faults : L → ℕ)
    (readings : C → Option (List Cds)) (asks : E → Option (List Bool))
    (written : O → Option (List ℕ)) (output_faults : O → ℕ) where
  -- a poll that failed
  pub unheard_ends : (s t : TalkState) (link now : L) (clock : C) (request : E) (output : O)
      → s.user.course.status ≡ None
      → Tells (calls link) (calls now) (Polled PIECE_OCTETS Failed ∷ [])
      → Rose (link_faults link) (link_faults now)
      → Polls calls link_faults readings asks written output_faults (Some end.LinkFault) s t
      (world link clock request output) (world now clock request output)
  unheard_ends s t link now clock request output goes told rose = (
    record {
      rounds = [];
      tail = unheard;
      polled = refl;
      tail_is = refl;
      few = omega arith;
      spent = λ e. absurd cc;
      ended = record {
        told = told;
        octets = none_are;
        reads = reads_none (readings clock) (asks request);
        printed = gains-none (written output);
        goes_through = tt;
        ends = (goes, inl refl);
        link_rose = λ e. rose;
        output_rose = λ e. absurd cc;
        output_kept = inr refl;
      };
    },
    λ e. absurd cc,
  )

  polls_by : (h : Heard) (e : Option End) (s t : TalkState) (old new : World L C E O)
      → Turns calls link_faults readings asks written output_faults (Some h) e s t old new
      → Polls calls link_faults readings asks written output_faults e s t old new
  polls_by h None s t old new went = record {
    rounds = went.round ∷ [];
    polled = subst (λ x. (is_some x && true) ≡ true) (sym went.heard) refl;
    counted = refl;
    ran = went.ran;
    goes = went.goes;
  }
  polls_by h (Some e) s t old new last =
      let one = one_poll h last.rounds last.tail last.is in (
        record {
          rounds = last.rounds;
          tail = last.tail;
          polled = one.polled;
          tail_is = one.tail_is;
          few = one.few;
          spent = λ is. absurd (last.unspent is);
          ended = last.ended;
        },
        last.unspent,
      )

  -- a poll with its turn
  pub polls_on : (h : Heard) (hearing : Hearing) (e : Option End) (s t : TalkState) (link mid : L)
      (clock : C) (request : E) (output : O) (new : World L C E O) → hearing_in (Some h) ≡ hearing
      → Tells (calls link) (calls mid) (Polled PIECE_OCTETS h ∷ [])
      → AreOctets (arrived_at h) → link_faults mid ≡ link_faults link
      → TurnsOn calls link_faults readings asks written output_faults hearing e s t
      (world mid clock request output) new
      → Polls calls link_faults readings asks written output_faults e s t (world link clock
      request output) new
  polls_on h hearing e s t link mid clock request output new is told are same turns =
      polls_by h e s t (world link clock request output) new
      (turns (Some h) link is told (poll_gives h are) same)

  pub goes_none : (s : TalkState) (link : L) (clock : C) (request : E) (output : O)
      → s.user.course.status ≡ None
      → GoesOn calls link_faults readings asks written output_faults 0 s s (world link clock
      request output)
      (world link clock request output)
  goes_none s link clock request output goes = record {
    rounds = [];
    polled = refl;
    counted = refl;
    ran = record {
      state = refl;
      told = tells_none (calls link);
      octets = none_are;
      reads = reads_none (readings clock) (asks request);
      printed = gains-none (written output);
      goes_through = tt;
      link_well = refl;
      output_well = refl;
    };
    goes = goes;
  }

  pub goes_more : (n : ℕ) (s t u : TalkState) (p q r : World L C E O)
      → GoesOn calls link_faults readings asks written output_faults n s t p q
      → GoesOn calls link_faults readings asks written output_faults 1 t u q r
      → GoesOn calls link_faults readings asks written output_faults (n + 1) s u p r
  goes_more n s t u p q r first second = record {
    rounds = first.rounds ++ second.rounds;
    polled = all_both is_polled first.rounds second.rounds first.polled second.polled;
    counted = omega (
      arith,
      length-append first.rounds second.rounds,
      first.counted,
      second.counted,
    );
    ran = ran_both calls link_faults readings asks written output_faults first.rounds
        second.rounds s t
        u p q r first.ran second.ran;
    goes = second.goes;
  }

  pub ends_more : (n most : ℕ) (e : End) (s t : TalkState) (p q r : World L C E O)
      → GoesOn calls link_faults readings asks written output_faults n s t p q → n < most
      → Ends calls link_faults readings asks written output_faults 1 e t q r × (e ≡ end.Spent → ⊥)
      → Ends calls link_faults readings asks written output_faults most e s p r
  ends_more n most e s t p q r first more second = record {
    rounds = first.rounds ++ second.0.rounds;
    tail = second.0.tail;
    polled = all_both is_polled first.rounds second.0.rounds first.polled second.0.polled;
    tail_is = second.0.tail_is;
    few = omega (
      arith,
      length-append first.rounds second.0.rounds,
      first.counted,
      second.0.few,
      more,
    );
    spent = λ is. absurd (second.1 is);
    ended = ended_both calls link_faults readings asks written output_faults first.rounds
        second.0.rounds second.0.tail e s t p q r first.ran second.0.ended;
  }

  -- all polls were made
  pub spent : (most : ℕ) (s t : TalkState) (p q : World L C E O)
      → GoesOn calls link_faults readings asks written output_faults most s t p q
      → Ends calls link_faults readings asks written output_faults most end.Spent s p q
  spent most s t p q first = record {
    rounds = first.rounds;
    tail = whole;
    polled = first.polled;
    tail_is = refl;
    few = omega (arith, first.counted);
    spent = λ is. first.counted;
    ended = record {
      told = subst (λ l. Tells (calls p.link) (calls q.link) l) (sym (append-nil _)) first.ran.told;
      octets = calls_give (calls_in s first.rounds) [] first.ran.octets none_are;
      reads = subst
          (λ l. Reads (readings p.clock) (readings q.clock) (asks p.request)
          (asks q.request) l)
          (sym (append-nil _))
          first.ran.reads;
      printed = first.ran.printed;
      goes_through = through_but_last s first.rounds first.ran.goes_through;
      ends = (
        refl,
        ap (λ (x : TalkState). x.user.course.status) (sym first.ran.state)
            ∙ first.goes,
      );
      link_rose = λ e. absurd cc;
      output_rose = λ e. absurd cc;
      output_kept = inr first.ran.output_well;
    };
  }

  -- ---- from the first turn on

  pub first_ends : (task : Task) (most : ℕ) (e : End) (old new : World L C E O)
      → WasLast calls link_faults readings asks written output_faults None e (begun task) old new
      → Talked calls link_faults readings asks written output_faults task most e old new
  first_ends task most e old new last =
      let one = no_poll last.rounds last.tail last.is in
      record {
        rounds = last.rounds;
        tail = last.tail;
        polls = one.polls;
        few = omega (arith, one.few);
        spent = λ is. absurd (last.unspent is);
        ended = last.ended;
      }

  pub first_goes : (task : Task) (most : ℕ) (e : End) (t : TalkState) (old mid new : World L C E O)
      → WentOn calls link_faults readings asks written output_faults None (begun task) t old mid
      → Ends calls link_faults readings asks written output_faults most e t mid new
      → Talked calls link_faults readings asks written output_faults task most e old new
  first_goes task most e t old mid new first second = record {
    rounds = first.round ∷ second.rounds;
    tail = second.tail;
    polls = (first.heard, (second.polled, second.tail_is));
    few = omega (arith, second.few);
    spent = λ is. omega (arith, second.spent is);
    ended = ended_both calls link_faults readings asks written output_faults (first.round ∷ [])
        second.rounds second.tail e (begun task) t old mid new first.ran second.ended;
  }
