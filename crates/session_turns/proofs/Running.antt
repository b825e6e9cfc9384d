-- Rounds in turns, and what they come to.
use Rattle.std.proofs.Common.{◌≡◌, ◌⊎◌, ℕ, ◌+◌, ◌≤◌, Bool, true, false, not, ◌&&◌, IsTrue, List, [], ◌∷◌, ◌++◌}
use Rattle.std.proofs.Common.{length, Option, map, refl, ap, sym, subst, ◌∙◌, append_assoc}
use Rattle.std.proofs.Common.{append-nil, length-append, arith}
use Rattle.std.proofs.lemmas.List.{map-append}
use Rattle.std.proofs.lemmas.List.Elements.{filter_map-append}
use Rattle.cds_time.specs.declared.cds.Cds.{Cds}
use Rattle.octet_core.specs.Fault.{count_up}
use Rattle.link_model.specs.declared.call.Call.{Call as LinkCall}
use Rattle.link_model.specs.Calls.{Tells}
use Rattle.link_model.specs.Counts.{CountsWhere}
use Rattle.turn_lock.specs.PassState.{PassState, Lock}
use Rattle.turn_lock.specs.Own.{mark}
use Rattle.turn_lock.specs.declared.view.Mark.{Mark}
use Rattle.station_config.specs.declared.site.Site.{Site}
use Rattle.station_book.specs.State.{Opening, Event}
use Rattle.station_book.specs.History.{reading_of}
use Rattle.station_turns.specs.Turned.{called, IsReady}
use Rattle.station_turns.specs.Gained.{Gains, events_of}
use Rattle.station_turns.specs.Reads.{Reads, readings_in}
use Rattle.session_core.specs.declared.course.Course.{Course}
use Rattle.session_core.specs.declared.spoken.Spoken.TheVariants.{Going}
use Rattle.session_core.specs.Course.{is_over}
use Rattle.session_core.specs.Session.{spoken_of}
use Rattle.session_core.specs.SessionState.{SessionState}
use Rattle.session_core.specs.Outcome.{has_ended, has_failed, come_to, FailsBy}
use Rattle.session_core.specs.Lists.{Began, Goes, StandsAt, to_listen, to_step, to_speak}
use Rattle.session_turns.specs.Stepping.{StepsOnce}
use Rattle.session_turns.specs.Rounds.{ServerState, Ran, Broke}

live_course : (c : Course) → spoken_of c ≡ Going → is_over c ≡ false
live_course c e = grind arith

pub not_ended : (v w : SessionState) → come_to v ≡ Going → has_ended w ≡ has_ended v
    → has_ended w ≡ false
not_ended v w going same = same ∙ live_course v.standing.course going

tells_none : (told : Option (List LinkCall)) → Tells told told []
tells_none told = grind (arith, append-nil)

tells_both : (a b c : Option (List LinkCall)) (xs ys : List LinkCall) → Tells a b xs
    → Tells b c ys → Tells a c (xs ++ ys)
tells_both a b c xs ys h k = grind (arith, append_assoc)

events_both : (xs ys : List (Mark Event)) → events_of (xs ++ ys) ≡ events_of xs ++ events_of ys
events_both xs ys = map-append (λ (m : Mark Event). m.event) xs ys

readings_both : (xs ys : List (Mark Event)) → readings_in (events_of (xs ++ ys))
    ≡ readings_in (events_of xs) ++ readings_in (events_of ys)
readings_both xs ys =
    ap readings_in (events_both xs ys)
    ∙ filter_map-append (λ (e : Event). reading_of e.call) (events_of xs) (events_of ys)

counts_none : (n : ℕ) → CountsWhere false n n
counts_none n = grind arith

fails_none : (was : Bool) (n : ℕ) → FailsBy was was n n
fails_none false n = record { counts = counts_none n; stays = λ x. x }
fails_none true n = record { counts = counts_none n; stays = λ x. x }

fails_both : (was is now : Bool) (a b c : ℕ) → FailsBy was is a b → FailsBy is now b c
    → FailsBy was now a c
fails_both false false false a b c first second = grind arith
fails_both false false true a b c first second = grind arith
fails_both false true false a b c first second = absurd (grind arith)
fails_both false true true a b c first second = grind arith
fails_both true is now a b c first second = grind arith

-- the lists of two runs, one behind the other
joined : (cs calls more : List LinkCall) (es : List Event) (xs ys : List (Mark Event))
    (F : List LinkCall → List Event → Type 0)
    → F ((cs ++ calls) ++ more) ((es ++ events_of xs) ++ events_of ys)
    → F (cs ++ (calls ++ more)) (es ++ events_of (xs ++ ys))
joined cs calls more es xs ys F h =
    let e : (es ++ events_of xs) ++ events_of ys ≡ es ++ events_of (xs ++ ys) =
    append_assoc es (events_of xs) (events_of ys) ∙ ap (λ x. es ++ x) (sym (events_both xs ys)) in
    subst (λ x. F (cs ++ (calls ++ more)) x) e
    (subst (λ x. F x ((es ++ events_of xs) ++ events_of ys)) (append_assoc cs calls more) h)

module _ {L C : Type 0} (calls : L → Option (List LinkCall)) (faults : L → ℕ)
    (readings : C → Option (List Cds)) (lock : Lock Opening) (site : Site) where
  pub ran_none : (v : SessionState) (w : ServerState L C) → Gains lock 0 [] w.pass w.pass
      → Reads (readings w.clock) (readings w.clock) []
      → Ran calls faults readings lock site v v w w
  ran_none v w gains reads = record {
    own = [];
    told = tells_none (calls w.link);
    gained = [];
    gains = gains;
    reads = reads;
    stands = λ b cs es same h.
        subst (λ x. StandsAt to_listen b v x (es ++ [])) (sym (append-nil cs))
        (subst (λ x. StandsAt to_listen b v cs x) (sym (append-nil es)) h);
    fails = fails_none (has_failed v) (faults w.link);
  }

  pub ran_both : (u v w : SessionState) (p q r : ServerState L C)
      → (first : Ran calls faults readings lock site u v p q)
      → (second : Ran calls faults readings lock site v w q r)
      → Gains lock (length first.gained + length second.gained) (first.gained ++ second.gained)
      p.pass r.pass
      → Reads (readings p.clock) (readings r.clock) (readings_in (events_of first.gained)
      ++ readings_in (events_of second.gained))
      → Ran calls faults readings lock site u w p r
  ran_both u v w p q r first second gains reads = record {
    own = first.own ++ second.own;
    told = tells_both (calls p.link) (calls q.link) (calls r.link) first.own second.own first.told
        second.told;
    gained = first.gained ++ second.gained;
    gains = subst (λ n. Gains lock n (first.gained ++ second.gained) p.pass r.pass)
        (sym (length-append first.gained second.gained)) gains;
    reads = subst (λ rs. Reads (readings p.clock) (readings r.clock) rs)
        (sym (readings_both first.gained second.gained)) reads;
    stands = λ b cs es same h.
        joined cs first.own second.own es first.gained second.gained
        (λ y z. StandsAt to_listen b w y z)
        (second.stands b (cs ++ first.own) (es ++ events_of first.gained) same
        (first.stands b cs es same h));
    fails = fails_both (has_failed u) (has_failed v) (has_failed w) (faults p.link)
        (faults q.link) (faults r.link) first.fails second.fails;
  }

  pub broke_both : (u v : SessionState) (p q r : ServerState L C)
      → (first : Ran calls faults readings lock site u v p q)
      → (second : Broke calls faults readings lock site v q r)
      → Gains lock (length first.gained + (length second.gained + 1))
      (first.gained ++ second.gained) p.pass r.pass
      → Reads (readings p.clock) (readings r.clock) (readings_in (events_of first.gained)
      ++ (readings_in (events_of second.gained) ++ second.unused ∷ []))
      → Broke calls faults readings lock site u p r
  broke_both u v p q r first second gains reads = record {
    own = first.own ++ second.own;
    told = tells_both (calls p.link) (calls q.link) (calls r.link) first.own second.own first.told
        second.told;
    gained = first.gained ++ second.gained;
    gains = subst (λ n. Gains lock n (first.gained ++ second.gained) p.pass r.pass)
        (let n = length-append first.gained second.gained in omega (arith, n)) gains;
    unused = second.unused;
    reads = subst (λ rs. Reads (readings p.clock) (readings r.clock) rs)
        (sym (append_assoc (readings_in (events_of first.gained))
        (readings_in (events_of second.gained)) (second.unused ∷ []))
        ∙ ap (λ rs. rs ++ second.unused ∷ []) (sym (readings_both first.gained second.gained)))
        reads;
    heard = second.heard;
    stands = λ b cs es same h.
        joined cs first.own second.own es first.gained second.gained
        (λ y z. StandsAt to_step b second.heard y z)
        (second.stands b (cs ++ first.own) (es ++ events_of first.gained) same
        (first.stands b cs es same h));
    fails = fails_both (has_failed u) (has_failed v) (has_failed second.heard) (faults p.link)
        (faults q.link) (faults r.link) first.fails second.fails;
  }

  -- one round
  pub round_by : (reading : ℕ) (u v w x : SessionState) (p q : ServerState L C) (mid : L)
      → (heard : Goes to_listen to_step (calls p.link) (calls mid) u v)
      → FailsBy (has_failed u) (has_failed v) (faults p.link) (faults mid)
      → (once : StepsOnce lock site reading v w p.pass q.pass)
      → (spoke : Goes to_speak to_listen (calls mid) (calls q.link) w x)
      → FailsBy (has_failed w) (has_failed x) (faults mid) (faults q.link)
      → Gains lock 1 (mark once.makes.before (called lock.origin once.makes.before once.call) ∷ [])
      p.pass q.pass
      → Reads (readings p.clock) (readings q.clock) (reading ∷ [])
      → Ran calls faults readings lock site u x p q
  round_by reading u v w x p q mid heard listens once spoke speaks gains reads =
      let e : Event = called lock.origin once.makes.before once.call in
      record {
        own = heard.own ++ spoke.own;
        told = tells_both (calls p.link) (calls mid) (calls q.link) heard.own spoke.own
            heard.told spoke.told;
        gained = mark once.makes.before e ∷ [];
        gains = gains;
        reads = subst (λ c. Reads (readings p.clock) (readings q.clock)
            (readings_in (record e { call = c } ∷ []))) (sym once.call_is) reads;
        stands = λ b cs es same h.
            subst (λ y. StandsAt to_listen b x y (es ++ e ∷ []))
            (append_assoc cs heard.own spoke.own)
            (spoke.stands b (cs ++ heard.own) (es ++ e ∷ [])
            (once.steps.stands b (cs ++ heard.own) es same (heard.stands b cs es h)));
        fails = fails_both (has_failed u) (has_failed v) (has_failed x) (faults p.link)
            (faults mid) (faults q.link) listens
            (subst (λ y. FailsBy y (has_failed x) (faults mid) (faults q.link))
            once.steps.failed speaks);
      }

  -- one that wanted memory
  pub broke_by : (reading : ℕ) (u v : SessionState) (p q : ServerState L C)
      → (heard : Goes to_listen to_step (calls p.link) (calls q.link) u v)
      → FailsBy (has_failed u) (has_failed v) (faults p.link) (faults q.link)
      → Gains lock 1 [] p.pass q.pass
      → Reads (readings p.clock) (readings q.clock) (reading ∷ [])
      → Broke calls faults readings lock site u p q
  broke_by reading u v p q heard listens gains reads = record {
    own = heard.own;
    told = heard.told;
    gained = [];
    gains = gains;
    unused = reading;
    reads = reads;
    heard = v;
    stands = λ b cs es same h.
        subst (λ x. StandsAt to_step b v (cs ++ heard.own) x) (sym (append-nil es))
        (heard.stands b cs es h);
    fails = listens;
  }

  -- the session goes on behind rounds like these, and has its turns
  pub record GoingOn (v w : SessionState) (old new : ServerState L C) : Type 0 where
    pub ran : Ran calls faults readings lock site v w old new
    pub goes : come_to w ≡ Going
    pub ready : IsReady lock new.pass
    pub left : 2 ≤ new.pass.left

  -- Two runs gain and read what both did.
  module _ (both_runs : (m n : ℕ) (xs ys : List (Mark Event)) (p q r : PassState Event Opening)
      → Gains lock m xs p q → Gains lock n ys q r → Gains lock (m + n) (xs ++ ys) p r)
      (both_read : (before mid after : Option (List Cds)) (xs ys : List ℕ) → Reads before mid xs
      → Reads mid after ys → Reads before after (xs ++ ys)) where
    pub ran_now : (u v w : SessionState) (p q r : ServerState L C)
        → (first : Ran calls faults readings lock site u v p q)
        → (second : Ran calls faults readings lock site v w q r)
        → Ran calls faults readings lock site u w p r
    ran_now u v w p q r first second =
        ran_both u v w p q r first second
        (both_runs (length first.gained) (length second.gained) first.gained second.gained
        p.pass q.pass r.pass first.gains second.gains)
        (both_read (readings p.clock) (readings q.clock) (readings r.clock)
        (readings_in (events_of first.gained)) (readings_in (events_of second.gained))
        first.reads second.reads)

    pub broke_now : (u v : SessionState) (p q r : ServerState L C)
        → (first : Ran calls faults readings lock site u v p q)
        → (second : Broke calls faults readings lock site v q r)
        → Broke calls faults readings lock site u p r
    broke_now u v p q r first second =
        broke_both u v p q r first second
        (both_runs (length first.gained) (length second.gained + 1) first.gained second.gained
        p.pass q.pass r.pass first.gains second.gains)
        (both_read (readings p.clock) (readings q.clock) (readings r.clock)
        (readings_in (events_of first.gained))
        (readings_in (events_of second.gained) ++ second.unused ∷ []) first.reads second.reads)

    pub going_on : (u v w : SessionState) (p q r : ServerState L C) → (so : GoingOn u v p q)
        → Ran calls faults readings lock site v w q r → come_to w ≡ Going → 2 ≤ r.pass.left
        → GoingOn u w p r
    going_on u v w p q r so more goes left =
        record {
          ran = ran_now u v w p q r so.ran more;
          goes = goes;
          ready = more.gains.ready;
          left = left;
        }
