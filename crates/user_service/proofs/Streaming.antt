-- What a talk comes to in the words of its streams.
use Rattle.std.proofs.Common.{◌≡◌, ◌⊎◌, inl, inr, ⊎_elim, ℕ, Bool, true, false, ◌&&◌, is_some}
use Rattle.std.proofs.Common.{Option, Some, None, List, [], ◌++◌, length, take, refl}
use Rattle.std.proofs.Common.{ap, sym, subst, ◌∙◌, append-nil, arith}
use Rattle.std.proofs.lemmas.List.{take_all}
use Rattle.cds_time.specs.declared.cds.Cds.{Cds}
use Rattle.isp1_tml.specs.Unread.{unread_of}
use Rattle.link_model.specs.declared.call.Call.{Call}
use Rattle.link_model.specs.Calls.{octets_heard}
use Rattle.octet_core.specs.Written.{Gains, GainsFront}
use Rattle.octet_core.specs.Writing.{gains-append, gains_front-append}
use Rattle.sle_numbers.specs.declared.service_type.ServiceType.{ServiceType}
use Rattle.user_core.specs.declared.status.Status.{Status}
use Rattle.user_core.specs.declared.status.Status.TheVariants as status
use Rattle.user_core.specs.Course.{is_over}
use Rattle.user_core.specs.Laws.{Turn, after_turns, octets_in, printed, LinesInOrder, PrintsStream}
use Rattle.user_core.specs.Laws.{AreOctets, stream_text, ends_in}
use Rattle.user_core.specs.Turn.{Standing, new_user}
use Rattle.user_core.proofs.Spoken.{offers_in_order}
use Rattle.user_lines.specs.Shown.{lines as stream_lines}
use Rattle.user_show.specs.Ending.{EndsWith}
use Rattle.user_show.specs.declared.ending.Ending.{Ending}
use Rattle.user_show.specs.declared.ending.Ending.TheVariants as ending
use Rattle.user_talk.specs.Closed.{TalkedTo}
use Rattle.user_talk.specs.Closing.{line_of, ending_of, ending_by}
use Rattle.user_talk.specs.Outbox.{left_in}
use Rattle.user_talk.specs.Rounds.{TalkState, Round, begun, after_rounds, turns_of, lines_in}
use Rattle.user_talk.specs.Running.{World, EndsBy, PrintsTo, Tail, tail_count, tail_lines}
use Rattle.user_talk.specs.declared.end.End.{End}
use Rattle.user_talk.specs.declared.end.End.TheVariants as end
use Rattle.user_talk.proofs.Handed.{in_order, its_turns}
use Rattle.user_talk.proofs.Turned.{front_all}
use Rattle.user_task.specs.declared.task.Task.{Task}
use Rattle.user_task.specs.Work.{is_show, service_of}
use Rattle.user_service.specs.Causes.{IsCaused, brings_in}
use Rattle.user_service.specs.Streams.{Prints, BreaksOff, Streams}
use Rattle.user_service.proofs.Answered.{done_is_answered}
use Rattle.user_service.proofs.Came.{broken_turns, all_turns, all_calls, polls_counted, came_all}
use Rattle.user_service.proofs.Came.{handed_are, printed_all, asked_all}
use Rattle.user_service.proofs.Causes.{is_brought}
use Rattle.user_service.proofs.Taken.{all_taken}

-- ---- why a talk ended

spent_by : (e : End) → ending_of e ≡ ending.TurnsSpent → e ≡ end.Spent
spent_by (end.Over status.Done closed) is = absurd cc
spent_by (end.Over status.Refused closed) is = absurd cc
spent_by (end.Over status.BadMessage closed) is = absurd cc
spent_by (end.Over status.PeerEnded closed) is = absurd cc
spent_by (end.Over status.OutOfMemory closed) is = absurd cc
spent_by end.Spent is = refl
spent_by end.LinkFault is = absurd cc
spent_by end.WriteFault is = absurd cc
spent_by end.Memory is = absurd cc

failed_by : (e : End) → ending_of e ≡ ending.LinkFault → e ≡ end.LinkFault
failed_by (end.Over status.Done closed) is = absurd cc
failed_by (end.Over status.Refused closed) is = absurd cc
failed_by (end.Over status.BadMessage closed) is = absurd cc
failed_by (end.Over status.PeerEnded closed) is = absurd cc
failed_by (end.Over status.OutOfMemory closed) is = absurd cc
failed_by end.Spent is = absurd cc
failed_by end.LinkFault is = refl
failed_by end.WriteFault is = absurd cc
failed_by end.Memory is = absurd cc

done_by : (e : End) (rounds : List Round) (tail : Tail) (t : TalkState)
    → ending_of e ≡ ending.Done → EndsBy e rounds tail t
    → t.user.course.status ≡ Some status.Done
done_by (end.Over status.Done closed) rounds tail t is ends = ends.1.0
done_by (end.Over status.Refused closed) rounds tail t is ends = absurd cc
done_by (end.Over status.BadMessage closed) rounds tail t is ends = absurd cc
done_by (end.Over status.PeerEnded closed) rounds tail t is ends = absurd cc
done_by (end.Over status.OutOfMemory closed) rounds tail t is ends = absurd cc
done_by end.Spent rounds tail t is ends = absurd cc
done_by end.LinkFault rounds tail t is ends = absurd cc
done_by end.WriteFault rounds tail t is ends = absurd cc
done_by end.Memory rounds tail t is ends = absurd cc

-- an ending of the talk's own comes from its end
own_ending : (before after : Option (List ℕ)) (fb fa : ℕ) (line : List ℕ) (own ended : Ending)
    → EndsWith before after fb fa line own ended → (ended ≡ ending.WriteFault → ⊥)
    → own ≡ ended
own_ending before after fb fa line own ended (inl closes) well = sym closes.0
own_ending before after fb fa line own ended (inr closes) well = absurd (well closes.0)

-- ---- what stands behind the last whole turn

-- lines of a turn that was broken off come only where the talk ended by that
abbrev IsNone : End → List ℕ → Type 0
IsNone end.WriteFault more = Unit {0}
IsNone end.Memory more = Unit {0}
IsNone _ more = more ≡ []

more_is : (e : End) (rounds : List Round) (tail : Tail) (t : TalkState) → EndsBy e rounds tail t
    → IsNone e (tail_lines t tail)
more_is (end.Over s closed) rounds tail t ends = ap (tail_lines t) ends.0
more_is end.Spent rounds tail t ends = ap (tail_lines t) ends.0
more_is end.LinkFault rounds tail t ends =
    ⊎_elim (λ un. ap (tail_lines t) un) (λ offer. ap (tail_lines t) offer.0) ends.1
more_is end.WriteFault rounds tail t ends = tt
more_is end.Memory rounds tail t ends = tt

-- the user goes on, and no turn was broken off
record WentOn (tail : Tail) (t : TalkState) : Type 0 where
  goes : t.user.course.status ≡ None
  unbroken : broken_turns t tail ≡ []

went_on : (e : End) (rounds : List Round) (tail : Tail) (t : TalkState)
    → (e ≡ end.Spent) ⊎ (e ≡ end.LinkFault) → EndsBy e rounds tail t → WentOn tail t
went_on (end.Over s closed) rounds tail t is ends = absurd (⊎_elim (λ e. cc) (λ e. cc) is)
went_on end.Spent rounds tail t is ends =
    record { goes = ends.1; unbroken = ap (broken_turns t) ends.0 }
went_on end.LinkFault rounds tail t is ends = record {
  goes = ends.0;
  unbroken = ⊎_elim (λ un. ap (broken_turns t) un) (λ offer. ap (broken_turns t) offer.0) ends.1;
}
went_on end.WriteFault rounds tail t is ends = absurd (⊎_elim (λ e. cc) (λ e. cc) is)
went_on end.Memory rounds tail t is ends = absurd (⊎_elim (λ e. cc) (λ e. cc) is)

-- ---- what was printed

none_front : (b c : Option (List ℕ)) → GainsFront b c [] → c ≡ b
none_front None c front = front
none_front (Some there) None front = absurd front
none_front (Some there) (Some now) front =
    ap Some
    (sym front.1
    ∙ (ap (take (length now)) (append-nil there) ∙ take_all (length now) there front.0))

none_gained : (b c : Option (List ℕ)) → Gains b c [] → c ≡ b
none_gained None c gains = gains
none_gained (Some there) c gains = gains ∙ ap Some (append-nil there)

closed_none : (b c : Option (List ℕ)) (fb fc : ℕ) (own ended : Ending)
    → EndsWith b c fb fc [] own ended → c ≡ b
closed_none b c fb fc own ended (inl closes) = none_gained b c closes.1
closed_none b c fb fc own ended (inr closes) = none_front b c closes.1

behind_whole : (a b c : Option (List ℕ)) (lines line : List ℕ) (fb fc : ℕ) (own ended : Ending)
    → Gains a b lines → EndsWith b c fb fc line own ended → GainsFront a c (lines ++ line)
behind_whole a b c lines line fb fc own ended gains (inl closes) =
    front_all a c (lines ++ line) (gains-append a b c lines line gains closes.1)
behind_whole a b c lines line fb fc own ended gains (inr closes) =
    gains_front-append a b c lines line gains closes.1

with_none : (P : List ℕ → Type 0) (lines more line : List ℕ) → more ≡ [] → P (lines ++ line)
    → P ((lines ++ more) ++ line)
with_none P lines more line none p =
    subst (λ l. P (l ++ line)) (sym (ap (λ x. lines ++ x) none ∙ append-nil lines)) p

behind_broken : (a b c : Option (List ℕ)) (lines : List ℕ) (fb fc : ℕ) (own ended : Ending)
    → GainsFront a b lines → EndsWith b c fb fc [] own ended → GainsFront a c (lines ++ [])
behind_broken a b c lines fb fc own ended front closes =
    subst (λ l. GainsFront a c l) (sym (append-nil lines))
    (subst (λ x. GainsFront a x lines) (sym (closed_none b c fb fc own ended closes)) front)

front_of : (e : End) (a b c : Option (List ℕ)) (lines more : List ℕ) (fb fc : ℕ) (ended : Ending)
    → PrintsTo e a b lines more → IsNone e more
    → EndsWith b c fb fc (line_of e) (ending_of e) ended
    → GainsFront a c ((lines ++ more) ++ line_of e)
front_of (end.Over s closed) a b c lines more fb fc ended prints none closes =
    let line = line_of (end.Over s closed) in
    with_none (GainsFront a c) lines more line none
    (behind_whole a b c lines line fb fc (ending_of (end.Over s closed)) ended prints closes)
front_of end.Spent a b c lines more fb fc ended prints none closes =
    let line = line_of end.Spent in
    with_none (GainsFront a c) lines more line none
    (behind_whole a b c lines line fb fc (ending_of end.Spent) ended prints closes)
front_of end.LinkFault a b c lines more fb fc ended prints none closes =
    let line = line_of end.LinkFault in
    with_none (GainsFront a c) lines more line none
    (behind_whole a b c lines line fb fc (ending_of end.LinkFault) ended prints closes)
front_of end.WriteFault a b c lines more fb fc ended prints none closes =
    behind_broken a b c (lines ++ more) fb fc (ending_of end.WriteFault) ended prints closes
front_of end.Memory a b c lines more fb fc ended prints none closes =
    behind_broken a b c (lines ++ more) fb fc (ending_of end.Memory) ended prints closes

breaks : (ended : Ending) → ended ≡ ending.WriteFault → BreaksOff ended
breaks ended is = subst (λ x. BreaksOff x) (sym is) tt

text_whole : (a b c : Option (List ℕ)) (lines line : List ℕ) (fb fc : ℕ) (own ended : Ending)
    → (BreaksOff ended → ⊥) → Gains a b lines → EndsWith b c fb fc line own ended
    → Gains a c (lines ++ line)
text_whole a b c lines line fb fc own ended well gains (inl closes) =
    gains-append a b c lines line gains closes.1
text_whole a b c lines line fb fc own ended well gains (inr closes) =
    absurd (well (breaks ended closes.0))

short_ends : (b c : Option (List ℕ)) (fb fc : ℕ) (line : List ℕ) (own ended : Ending)
    → BreaksOff own → (BreaksOff ended → ⊥) → EndsWith b c fb fc line own ended → ⊥
short_ends b c fb fc line own ended short well (inl closes) =
    well (subst (λ x. BreaksOff x) (sym closes.0) short)
short_ends b c fb fc line own ended short well (inr closes) = well (breaks ended closes.0)

text_by : (e : End) (a b c : Option (List ℕ)) (lines more : List ℕ) (fb fc : ℕ) (ended : Ending)
    → (BreaksOff ended → ⊥) → PrintsTo e a b lines more → IsNone e more
    → EndsWith b c fb fc (line_of e) (ending_of e) ended
    → Gains a c ((lines ++ more) ++ line_of e)
text_by (end.Over s closed) a b c lines more fb fc ended well prints none closes =
    let line = line_of (end.Over s closed) in
    with_none (Gains a c) lines more line none
    (text_whole a b c lines line fb fc (ending_of (end.Over s closed)) ended well prints closes)
text_by end.Spent a b c lines more fb fc ended well prints none closes =
    let line = line_of end.Spent in
    with_none (Gains a c) lines more line none
    (text_whole a b c lines line fb fc (ending_of end.Spent) ended well prints closes)
text_by end.LinkFault a b c lines more fb fc ended well prints none closes =
    let line = line_of end.LinkFault in
    with_none (Gains a c) lines more line none
    (text_whole a b c lines line fb fc (ending_of end.LinkFault) ended well prints closes)
text_by end.WriteFault a b c lines more fb fc ended well prints none closes =
    absurd (short_ends b c fb fc (line_of end.WriteFault) (ending_of end.WriteFault) ended tt well
    closes)
text_by end.Memory a b c lines more fb fc ended well prints none closes =
    absurd (short_ends b c fb fc (line_of end.Memory) (ending_of end.Memory) ended tt well closes)

-- ---- the lines of the stream

-- who invokes is told nothing of a message that is cut at the stream's end
whole_text : (service : ServiceType) (show ends : Bool) (octets : List ℕ) → show ≡ false
    → stream_text service (show && ends) (unread_of 0 octets) ≡ (stream_lines service octets).text
whole_text service true ends octets is = absurd cc
whole_text service false ends octets is = append-nil (stream_lines service octets).text

goes_on : (s : Standing) → s.course.status ≡ None → is_over s.course ≡ false
goes_on s none = ap is_some none

prints_of : LinesInOrder → (task : Task) (turns : List Turn) (octets : List ℕ) (ended : Ending)
    → is_show task.work ≡ false → octets_in turns ≡ octets
    → ((ended ≡ ending.TurnsSpent) ⊎ (ended ≡ ending.LinkFault)
    → (after_turns (new_user task) turns).course.status ≡ None)
    → AreOctets octets
    → Prints (service_of task.work) octets ended (printed (new_user task) turns)
prints_of in_order task turns octets ended invokes came going are =
    let its : PrintsStream (new_user task) turns =
    in_order task turns (subst (λ l. AreOctets l) (sym came) are) in
    record {
      rest = its.rest;
      whole = ap (λ l. (stream_lines (service_of task.work) l).text) (sym came)
          ∙ (sym (whole_text (service_of task.work) (is_show task.work) (ends_in turns)
          (octets_in turns) invokes)
          ∙ its.whole);
      all = λ is. its.all (goes_on (after_turns (new_user task) turns) (going is));
    }

-- ---- why

over_caused : (st : Status) (task : Task) (turns : List Turn)
    → brings_in st (service_of task.work) (new_user task) turns ≡ true
    → IsCaused (ending_by st) (service_of task.work) (new_user task) turns
over_caused status.Done task turns is = is
over_caused status.Refused task turns is = is
over_caused status.BadMessage task turns is = is
over_caused status.PeerEnded task turns is = is
over_caused status.OutOfMemory task turns is = tt

caused_by : (e : End) (task : Task) (rounds : List Round) (tail : Tail)
    → is_show task.work ≡ false → EndsBy e rounds tail (after_rounds (begun task) rounds)
    → IsCaused (ending_of e) (service_of task.work) (new_user task) (turns_of (begun task) rounds)
caused_by (end.Over st closed) task rounds tail invokes ends =
    over_caused st task (turns_of (begun task) rounds)
    (is_brought st task (turns_of (begun task) rounds) invokes
    (ap (λ (u : Standing). u.course.status) (sym (its_turns (begun task) rounds).user)
    ∙ ends.1.0))
caused_by end.Spent task rounds tail invokes ends = tt
caused_by end.LinkFault task rounds tail invokes ends = tt
caused_by end.WriteFault task rounds tail invokes ends = tt
caused_by end.Memory task rounds tail invokes ends = tt

is_caused : (b c : Option (List ℕ)) (fb fc : ℕ) (line : List ℕ) (own ended : Ending)
    (service : ServiceType) (s : Standing) (turns : List Turn)
    → EndsWith b c fb fc line own ended → IsCaused own service s turns
    → IsCaused ended service s turns
is_caused b c fb fc line own ended service s turns (inl closes) caused =
    subst (λ x. IsCaused x service s turns) (sym closes.0) caused
is_caused b c fb fc line own ended service s turns (inr closes) caused =
    subst (λ x. IsCaused x service s turns) (sym closes.0) tt

-- ---- all of it

spent_whole : (rounds : List Round) (tail : Tail) (t : TalkState) → EndsBy end.Spent rounds tail t
    → tail_count tail ≡ 0
spent_whole rounds tail t ends = ap tail_count ends.0

ends_spent : (e : End) (rounds : List Round) (tail : Tail) (t : TalkState) → e ≡ end.Spent
    → EndsBy e rounds tail t → tail_count tail ≡ 0
ends_spent e rounds tail t is ends =
    spent_whole rounds tail t (subst (λ x. EndsBy x rounds tail t) is ends)

unbroken : (s : TalkState) (rounds : List Round) (tail : Tail)
    → WentOn tail (after_rounds s rounds)
    → (after_turns s.user (all_turns s rounds tail)).course.status ≡ None
unbroken s rounds tail went =
    let t = after_rounds s rounds in
    ap (λ l. (after_turns s.user l).course.status)
    (ap (λ l. turns_of s rounds ++ l) went.unbroken ∙ append-nil (turns_of s rounds))
    ∙ (ap (λ (u : Standing). u.course.status) (sym (its_turns s rounds).user) ∙ went.goes)

module _ {L C E O : Type 0} (calls : L → Option (List Call)) (link_faults : L → ℕ)
    (readings : C → Option (List Cds)) (asks : E → Option (List Bool))
    (written : O → Option (List ℕ)) (output_faults : O → ℕ) where
  pub streams_of : LinesInOrder → (task : Task) (most : ℕ) (ended : Ending) (old new : World L C
      E O)
      → is_show task.work ≡ false
      → TalkedTo calls link_faults readings asks written output_faults task most ended old new
      → Streams calls asks written task most ended old new
  streams_of in_lines task most ended old new invokes talked =
      let s = begun task in
      let e = talked.end in
      let rounds = talked.talked.rounds in
      let tail = talked.talked.tail in
      let t = after_rounds s rounds in
      let its = talked.talked.ended in
      let a = written old.output in
      let b = written talked.before in
      let c = written new.output in
      let fb = output_faults talked.before in
      let fc = output_faults new.output in
      let own : (ended ≡ ending.WriteFault → ⊥) → ending_of e ≡ ended =
      own_ending b c fb fc (line_of e) (ending_of e) ended talked.closes in
      let none = more_is e rounds tail t its.ends in
      let count = polls_counted s rounds tail talked.talked.polls in
      record {
        own = all_calls s rounds tail;
        told = its.told;
        polls = omega (arith, count, talked.talked.few);
        spent = λ is.
            let by : e ≡ end.Spent = spent_by e (own (λ x. cc) ∙ is) in
            omega (
              arith,
              count,
              talked.talked.spent by,
              ends_spent e rounds tail t by its.ends,
            );
        turns = turns_of s rounds;
        broken = broken_turns t tail;
        came = came_all s rounds tail its.goes_through;
        asked = asked_all (asks old.request) (asks new.request) s rounds tail its.reads.asked;
        waiting = left_in t.outbox;
        handed = ap (λ l. l ++ left_in t.outbox) (handed_are s rounds tail) ∙ in_order s rounds;
        taken = all_taken s rounds tail refl;
        says = offers_in_order task (turns_of s rounds);
        last = line_of e;
        front = subst (λ l. GainsFront a c (l ++ line_of e)) (sym (printed_all s rounds tail))
            (front_of e a b c (lines_in s rounds) (tail_lines t tail) fb fc ended its.printed none
            talked.closes);
        text = λ well. subst (λ l. Gains a c (l ++ line_of e)) (sym (printed_all s rounds tail))
            (text_by e a b c (lines_in s rounds) (tail_lines t tail) fb fc ended well its.printed
            none talked.closes);
        prints = prints_of in_lines task (all_turns s rounds tail)
            (octets_heard (all_calls s rounds tail)) ended invokes
            (came_all s rounds tail its.goes_through)
            (⊎_elim
            (λ is. unbroken s rounds tail
            (went_on e rounds tail t (inl (spent_by e (own (λ x. cc) ∙ is))) its.ends))
            (λ is. unbroken s rounds tail
            (went_on e rounds tail t (inr (failed_by e (own (λ x. cc) ∙ is))) its.ends)))
            its.octets;
        caused = is_caused b c fb fc (line_of e) (ending_of e) ended (service_of task.work)
            (new_user task) (turns_of s rounds) talked.closes
            (caused_by e task rounds tail invokes its.ends);
        done = λ is. done_is_answered task (turns_of s rounds) invokes
            (ap (λ (u : Standing). u.course.status) (sym (its_turns s rounds).user)
            ∙ done_by e rounds tail t (own (λ x. cc) ∙ is) its.ends);
      }
