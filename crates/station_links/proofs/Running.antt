-- Whole runs of a connection are *Session*.
use Rattle.std.proofs.Common.{◌≡◌, ℕ, zero, suc, ◌<◌, ◌≤◌, ◌==◌, Bool, true, false, not}
use Rattle.std.proofs.Common.{Option, Some, None, List, [], ◌∷◌, ◌++◌, length, take, drop, refl}
use Rattle.std.proofs.Common.{sym, ap, subst, ◌∙◌, if◌then◌else◌, append_assoc, arith}
use Rattle.std.proofs.lemmas.List.{append-nil, length-take-le}
use Rattle.std.specs.Prelude.{is_some}
use Rattle.link_model.specs.declared.call.Call.{Call}
use Rattle.link_model.specs.declared.call.Call.TheVariants.{Polled, Offered}
use Rattle.link_model.specs.declared.call.Heard.TheVariants.{Arrived, Nothing, Failed}
use Rattle.link_model.specs.Steering.{Steering, poll_fails, next_heard, arrival, arriving}
use Rattle.link_model.specs.Steering.{pieces_left, after_poll}
use Rattle.station_config.specs.declared.site.Site.{Site}
use Rattle.station_book.specs.State.{Event, quit}
use Rattle.station_book.specs.State as book
use Rattle.station_book.specs.History.{replay, event_at}
use Rattle.drill_text.specs.declared.end_word.EndWord.{EndWord}
use Rattle.session_core.specs.Course.{is_over}
use Rattle.session_core.specs.Steps.{waits, may_poll, may_speak, may_send}
use Rattle.session_core.specs.Session.{State, Round, BookAnswer, next_of, cleared, poll_space}
use Rattle.session_core.specs.Session.{stepped, standing_spoke}
use Rattle.session_core.specs.Session.{IsArrival, IsHeard, AreOctets, IsRound, after_round}
use Rattle.session_core.specs.Session.{round_calls, round_events, session_events}
use Rattle.session_core.specs.Session.{session_end, offer_calls, listen_calls}
use Rattle.station_links.specs.declared.link_line.LinkLine.{LinkLine}
use Rattle.station_links.specs.LinkLines.{end_of, end_lines}
use Rattle.station_links.specs.Connected.{Connected, after_call, after_calls}
use Rattle.station_links.specs.Rounds.{offer_answer, poll_answer, waited_at, heard_at, listened_at}
use Rattle.station_links.specs.Rounds.{told_now, told_at, spoke_at, round_at, quits, stands_after}
use Rattle.station_links.specs.Rounds.{round_lines, session_lines}
use Rattle.station_links.specs.Rounds.{end_after}
use Rattle.station_links.specs.Run.{Order, comes, shuts, breaks, stalls_for, ordered, turns}
use Rattle.station_links.specs.Run.{order_in, obeyed, said_by, events_by, rounds_by, ArePieces}
use Rattle.station_links.specs.Run.{BringsPieces, EndsWith, IsSession, RunsAreSessions}

-- ---- pieces stay lists of octets

take_octets : (n : ℕ) (octets : List ℕ) → AreOctets octets → AreOctets (take n octets)
take_octets zero octets are i = omega arith
take_octets (suc n) [] are i = are i
take_octets (suc n) (x ∷ octets) are zero = are 0
take_octets (suc n) (x ∷ octets) are (suc i) =
    take_octets n octets (λ (j : ℕ). are (suc j)) i

drop_octets : (n : ℕ) (octets : List ℕ) → AreOctets octets → AreOctets (drop n octets)
drop_octets zero octets are = are
drop_octets (suc n) [] are = are
drop_octets (suc n) (x ∷ octets) are = drop_octets n octets (λ (j : ℕ). are (suc j))

one_more : (pieces : List (List ℕ)) (piece : List ℕ) → ArePieces pieces → AreOctets piece
    → ArePieces (pieces ++ piece ∷ [])
one_more [] piece are is = (is, tt)
one_more (first ∷ pieces) piece are is = (are.0, one_more pieces piece are.1 is)

left_pieces : (none : Bool) (piece : List ℕ) (pieces : List (List ℕ)) → AreOctets piece
    → ArePieces pieces → ArePieces (if none then pieces else piece ∷ pieces)
left_pieces true piece pieces is are = are
left_pieces false piece pieces is are = (is, are)

pieces_behind : (pieces : List (List ℕ)) (space : ℕ) → ArePieces pieces
    → ArePieces (pieces_left pieces space)
pieces_behind [] space are = tt
pieces_behind (piece ∷ pieces) space are =
    let rest = drop (arriving piece space) piece in
    left_pieces (length rest == 0) rest pieces
    (drop_octets (arriving piece space) piece are.0) are.1

polled_pieces : (fails : Bool) (pieces : List (List ℕ)) (space : ℕ) → ArePieces pieces
    → ArePieces (if fails then pieces else pieces_left pieces space)
polled_pieces true pieces space are = are
polled_pieces false pieces space are = pieces_behind pieces space are

called_pieces : (s : Steering) (calls : List Call) → ArePieces s.pieces
    → ArePieces (after_calls s calls).pieces
called_pieces s [] are = are
called_pieces s (Polled space heard ∷ calls) are =
    called_pieces (after_poll s space) calls
    (polled_pieces (poll_fails s) s.pieces space are)
called_pieces s (Offered octets answer ∷ calls) are =
    called_pieces (after_call s (Offered octets answer)) calls are

come_pieces : (shut : Bool) (pieces : List (List ℕ)) (piece : List ℕ) → ArePieces pieces
    → AreOctets piece → ArePieces (if shut then pieces else pieces ++ piece ∷ [])
come_pieces true pieces piece are is = are
come_pieces false pieces piece are is = one_more pieces piece are is

ordered_pieces : (o : Order) (s : Steering) → ArePieces s.pieces → BringsPieces (ordered o)
    → ArePieces (order_in o s).pieces
ordered_pieces (comes piece) s are is = come_pieces s.is_shut s.pieces piece are is
ordered_pieces shuts s are is = are
ordered_pieces breaks s are is = are
ordered_pieces (stalls_for offers) s are is = are

-- ---- what the steering fixes are the answers of a round

not_none : (n : ℕ) → (n == 0) ≡ false → 0 < n
not_none n e = grind arith

arrives_or_not : (none : Bool) (piece : List ℕ) (space n : ℕ) → (n == 0) ≡ none
    → n ≤ length piece → n ≤ space → AreOctets piece
    → IsHeard space (Some (if none then Nothing else Arrived (take n piece)))
arrives_or_not true piece space n so there within are = tt
arrives_or_not false piece space n so there within are =
    let long = length-take-le n piece there in
    let arrived : IsArrival space (take n piece) = record {
      some = omega (arith, long, not_none n so);
      within = omega (arith, long, within);
      each = take_octets n piece are;
    } in
    arrived

arrives : (piece : List ℕ) (space n : ℕ) → n ≤ length piece → n ≤ space → AreOctets piece
    → IsHeard space (Some (arrival piece n))
arrives piece space n there within are =
    arrives_or_not (n == 0) piece space n refl there within are

next_arrives : (pieces : List (List ℕ)) (shut : Bool) (space : ℕ) → ArePieces pieces
    → IsHeard space (Some (next_heard pieces shut space))
next_arrives [] true space are = tt
next_arrives [] false space are = tt
next_arrives (piece ∷ pieces) shut space are =
    arrives piece space (arriving piece space) (omega arith) (omega arith) are.0

may_fail : (fails : Bool) (pieces : List (List ℕ)) (shut : Bool) (space : ℕ) → ArePieces pieces
    → IsHeard space (Some (if fails then Failed else next_heard pieces shut space))
may_fail true pieces shut space are = tt
may_fail false pieces shut space are = next_arrives pieces shut space are

poll_arrives : (s : Steering) (space : ℕ) (polls : Bool) → ArePieces s.pieces
    → IsHeard space (poll_answer s space polls)
poll_arrives s space true are = may_fail (poll_fails s) s.pieces s.is_shut space are
poll_arrives s space false are = tt

offer_made : (s : Steering) (may : Bool) → is_some (offer_answer s may) ≡ may
offer_made s true = refl
offer_made s false = refl

poll_made : (s : Steering) (space : ℕ) (may : Bool) → is_some (poll_answer s space may) ≡ may
poll_made s space true = refl
poll_made s space false = refl

told_made : (over : Bool) (told : BookAnswer) → is_some (if over then None else Some told)
    ≡ not over
told_made true told = refl
told_made false told = refl

is_round : (site : Site) (door : ℕ) (l : Connected) (b : book.State) (reading : ℕ)
    → ArePieces l.steering.pieces → IsRound site l.state (round_at site door l b reading)
is_round site door l b reading are =
    let calls = offer_calls l.state.standing (waited_at l) in
    let polls = may_poll (cleared l.state (waited_at l)) (next_of l.state) in
    let s = stepped site (listened_at l) (told_at site door l b reading) in
    record {
      listens = record {
        offers = offer_made l.steering (waits l.state.standing);
        polls = poll_made (after_calls l.steering calls) (poll_space l.state) polls;
        arrives =
            poll_arrives (after_calls l.steering calls) (poll_space l.state) polls
            (called_pieces l.steering calls are);
      };
      asks =
          told_made (is_over (listened_at l).standing.course)
          (told_now site door (listened_at l) b reading);
      speaks = record {
        offers =
            offer_made
            (after_calls l.steering (listen_calls l.state (waited_at l) (heard_at l)))
            (may_speak s.standing);
        sends =
            offer_made
            (after_calls
            (after_calls l.steering (listen_calls l.state (waited_at l) (heard_at l)))
            (offer_calls s.standing (spoke_at l s)))
            (may_send (standing_spoke s.standing (spoke_at l s)));
      };
    }

-- ---- one round more in front

-- what is said, asked and made behind a round, which ended so
turned : (site : Site) (door : ℕ) (s : State) (b : book.State) (r : Round) (end : Option EndWord)
    (said : List LinkLine) (events : List Event) (rounds : List Round)
    → end_of (session_end site (after_round site s r) []) ≡ end → IsRound site s r
    → (end ≡ None → IsSession site door (after_round site s r) said events rounds)
    → IsSession site door s
    ((round_lines site s r ++ end_lines end) ++ (if is_some end then [] else said))
    ((round_events site door s r ++ quits door (replay b (round_events site door s r)) end)
    ++ (if is_some end then [] else events))
    (r ∷ (if is_some end then [] else rounds))
turned site door s b r (Some why) said events rounds so is behind =
    let own = round_lines site s r in
    let asked = round_events site door s r in
    let quitted = event_at (replay b asked) (quit door) ∷ [] in
    record {
      right = (is, tt);
      said_is =
          append-nil (own ++ end_lines (Some why))
          ∙ ap (λ (ls : List LinkLine). ls ++ end_lines (Some why)) (sym (append-nil own))
          ∙ ap (λ (e : Option EndWord). (own ++ []) ++ end_lines e) (sym so);
      last = quitted;
      events_are =
          append-nil (asked ++ quitted)
          ∙ ap (λ (xs : List Event). xs ++ quitted) (sym (append-nil asked));
      ends =
          subst (λ (e : Option EndWord). EndsWith door e quitted) (sym so)
          (record { last = replay b asked; is = refl });
    }
turned site door s b r None said events rounds so is behind =
    let own = round_lines site s r in
    let asked = round_events site door s r in
    let now = after_round site s r in
    let rest = behind refl in
    record {
      right = (is, rest.right);
      said_is =
          ap (λ (ls : List LinkLine). ls ++ said) (append-nil own)
          ∙ ap (λ (ls : List LinkLine). own ++ ls) rest.said_is
          ∙ sym (append_assoc own (session_lines site now rounds)
          (end_lines (end_of (session_end site now rounds))));
      last = rest.last;
      events_are =
          ap (λ (es : List Event). es ++ events) (append-nil asked)
          ∙ ap (λ (es : List Event). asked ++ es) rest.events_are
          ∙ sym (append_assoc asked (session_events site door now rounds) rest.last);
      ends = rest.ends;
    }

pub runs_are_sessions : RunsAreSessions
runs_are_sessions site door l [] here are brings =
    record {
      right = tt;
      said_is = ap end_lines (sym here);
      last = [];
      events_are = refl;
      ends = subst (λ (e : Option EndWord). EndsWith door e []) (sym here) refl;
    }
runs_are_sessions site door l (ordered o ∷ deeds) here are brings =
    runs_are_sessions site door (obeyed o l) deeds here
    (ordered_pieces o l.steering are brings.0) brings.1
runs_are_sessions site door l (turns b reading ∷ deeds) here are brings =
    let r = round_at site door l b reading in
    let next = stands_after site l r in
    turned site door l.state b r (end_after site l r) (said_by site door next deeds)
    (events_by site door next deeds) (rounds_by site door next deeds) refl
    (is_round site door l b reading are)
    (λ (none : end_after site l r ≡ None).
    runs_are_sessions site door next deeds none
    (called_pieces l.steering (round_calls site l.state r) are) brings.1)
