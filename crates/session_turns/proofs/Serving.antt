-- A worker's session from its beginning to its end.
use Rattle.std.proofs.Common.{◌≡◌, ◌⊎◌, inl, inr, ℕ, ◌+◌, Bool, false, List, [], ◌∷◌, ◌++◌, length, Option}
use Rattle.std.proofs.Common.{Result, Ok, Err, map, refl, ap, sym, subst, ◌∙◌, append-nil, arith}
use Rattle.std.proofs.lemmas.List.{length-map}
use Rattle.cds_time.specs.declared.cds.Cds.{Cds}
use Rattle.link_model.specs.declared.call.Call.{Call as LinkCall}
use Rattle.turn_lock.specs.PassState.{PassState, Lock}
use Rattle.turn_lock.specs.declared.view.Mark.{Mark}
use Rattle.station_config.specs.declared.site.Site.{Site}
use Rattle.station_book.specs.State.{Opening, Event}
use Rattle.station_turns.specs.Gained.{Gains, events_of}
use Rattle.station_turns.specs.Reads.{Reads, readings_in}
use Rattle.session_core.specs.Session.{is_fault}
use Rattle.session_core.specs.declared.ended.Ended.{Ended}
use Rattle.session_core.specs.declared.spoken.Spoken.TheVariants.{Going}
use Rattle.session_core.specs.SessionState.{SessionState}
use Rattle.session_core.specs.Outcome.{has_failed, come_to, FailsBy}
use Rattle.session_core.specs.Lists.{Began, StandsAt, to_listen, to_step}
use Rattle.session_turns.specs.Rounds.{ServerState, worker, Ran, Broke, EndsSo, RanOut}
use Rattle.session_turns.specs.Serving.{began_at, Stood, NeverBegan, WantedMemory, RanTo, ServedTo}
use Rattle.session_turns.specs.Serving.{Served}
use Rattle.session_turns.specs.declared.serve_fault.ServeFault.{ServeFault}
use Rattle.session_turns.specs.declared.serve_fault.ServeFault.TheVariants.{LinkFault, TurnsSpent}
use Rattle.session_turns.specs.declared.serve_fault.ServeFault.TheVariants.{Memory}

-- a session that goes on has not failed
not_failed : (v w : SessionState) (a b : ℕ) → come_to v ≡ Going
    → FailsBy (has_failed v) (has_failed w) a b → FailsBy false (has_failed w) a b
not_failed v w a b going fails =
    subst (λ x. FailsBy x (has_failed w) a b) (ap is_fault going) fails

events_length : (ms : List (Mark Event)) → length (events_of ms) ≡ length ms
events_length ms = length-map ms (λ (m : Mark Event). m.event)

module _ {L C : Type 0} (calls : L → Option (List LinkCall)) (faults : L → ℕ)
    (readings : C → Option (List Cds)) (lock : Lock Opening) (site : Site) (door draw : ℕ)
    (both_read : (before mid after : Option (List Cds)) (xs ys : List ℕ) → Reads before mid xs
    → Reads mid after ys → Reads before after (xs ++ ys)) where
  -- rounds that came to an end
  ran_to : (result : Result Ended ServeFault) (entered : ℕ) (v w : SessionState)
      (p q : ServerState L C) → StandsAt to_listen (began_at site door draw entered) v [] []
      → come_to v ≡ Going → (ran : Ran calls faults readings lock site v w p q)
      → EndsSo result w q.pass.left
      → RanTo calls faults result (began_at site door draw entered) (events_of ran.gained) []
      (length ran.gained) q.pass.left p.link q.link
  ran_to result entered v w p q stands going ran ends = record {
    session = w;
    stood = record {
      own = ran.own;
      told = ran.told;
      stands = ran.stands (began_at site door draw entered) [] [] refl stands;
      fails = not_failed v w (faults p.link) (faults q.link) going ran.fails;
    };
    ends = ends;
    spent_is = sym (events_length ran.gained);
    no_readings = refl;
  }

  served_with : (result : Result Ended ServeFault) (entered : ℕ) (v w : SessionState)
      (before : Option (List Cds)) (p q : ServerState L C)
      → (ran : Ran calls faults readings lock site v w p q)
      → Reads before (readings p.clock) (entered ∷ [])
      → Reads before (readings q.clock) (entered ∷ (readings_in (events_of ran.gained) ++ []))
  served_with result entered v w before p q ran reads =
      subst (λ rs. Reads before (readings q.clock) (entered ∷ rs))
      (sym (append-nil (readings_in (events_of ran.gained))))
      (both_read before (readings p.clock) (readings q.clock) (entered ∷ [])
      (readings_in (events_of ran.gained)) reads ran.reads)

  pub served_by : (result : Result Ended ServeFault) (entered : ℕ) (v w : SessionState)
      (link : L) (pass : PassState Event Opening) (c d : C) (q : ServerState L C)
      → StandsAt to_listen (began_at site door draw entered) v [] [] → come_to v ≡ Going
      → Reads (readings c) (readings d) (entered ∷ [])
      → RanOut calls faults readings lock site result v w (worker link d pass) q
      → Served calls faults readings lock site door draw result (worker link c pass) q
  served_by (Ok end) entered v w link pass c d q stands going reads ran =
      record {
        entered = entered;
        answers = ran.0.gained;
        spent = length ran.0.gained;
        gains = ran.0.gains;
        unused = [];
        reads = served_with (Ok end) entered v w (readings c) (worker link d pass) q ran.0 reads;
        served = ran_to (Ok end) entered v w (worker link d pass) q stands going ran.0 ran.1;
      }
  served_by (Err LinkFault) entered v w link pass c d q stands going reads ran =
      record {
        entered = entered;
        answers = ran.0.gained;
        spent = length ran.0.gained;
        gains = ran.0.gains;
        unused = [];
        reads = served_with (Err LinkFault) entered v w (readings c) (worker link d pass) q ran.0 reads;
        served = ran_to (Err LinkFault) entered v w (worker link d pass) q stands going ran.0 ran.1;
      }
  served_by (Err TurnsSpent) entered v w link pass c d q stands going reads ran =
      record {
        entered = entered;
        answers = ran.0.gained;
        spent = length ran.0.gained;
        gains = ran.0.gains;
        unused = [];
        reads = served_with (Err TurnsSpent) entered v w (readings c) (worker link d pass) q ran.0 reads;
        served = ran_to (Err TurnsSpent) entered v w (worker link d pass) q stands going ran.0 ran.1;
      }
  served_by (Err Memory) entered v w link pass c d q stands going reads broke =
      record {
        entered = entered;
        answers = broke.gained;
        spent = length broke.gained + 1;
        gains = broke.gains;
        unused = broke.unused ∷ [];
        reads = both_read (readings c) (readings d) (readings q.clock)
            (entered ∷ []) (readings_in (events_of broke.gained) ++ broke.unused ∷ []) reads
            broke.reads;
        served = inr (record {
          heard = broke.heard;
          stood = record {
            own = broke.own;
            told = broke.told;
            stands = broke.stands (began_at site door draw entered) [] [] refl stands;
            fails = not_failed v broke.heard (faults link) (faults q.link) going broke.fails;
          };
          spent_is = ap (λ n. n + 1) (sym (events_length broke.gained));
          one_reading = refl;
        });
      }

  -- no session could begin
  pub served_none : (entered : ℕ) (o q : ServerState L C) → q.link ≡ o.link
      → Gains lock 0 [] o.pass q.pass
      → Reads (readings o.clock) (readings q.clock) (entered ∷ [])
      → Served calls faults readings lock site door draw (Err Memory) o q
  served_none entered o q link gains reads = record {
    entered = entered;
    answers = [];
    spent = 0;
    gains = gains;
    unused = [];
    reads = reads;
    served = inl (record {
      no_answers = refl;
      no_calls = link;
      spent_is = refl;
      no_readings = refl;
    });
  }
