-- What comes of a round.
use Rattle.std.proofs.Common.{◌≡◌, ℕ, Option, Some, None, List, [], ◌∷◌, ◌++◌, refl, sym, ap, subst}
use Rattle.std.proofs.Common.{◌∙◌}
use Rattle.link_model.specs.declared.call.Call.{Call}
use Rattle.link_model.specs.Steering.{Steering}
use Rattle.station_book.specs.State.{Event}
use Rattle.station_book.specs.State as book
use Rattle.station_book.specs.History.{IsLegal, replay, then_after}
use Rattle.drill_text.specs.declared.end_word.EndWord.{EndWord}
use Rattle.session_core.specs.declared.spoken.Spoken.{Spoken}
use Rattle.session_core.specs.declared.spoken.Spoken.TheVariants as spoken
use Rattle.session_core.specs.SessionState.{SessionState}
use Rattle.session_core.specs.Outcome.{come_to}
use Rattle.session_core.specs.Session.{Round, after_round, round_calls, round_events}
use Rattle.session_core.specs.Lists.{Began}
use Rattle.station_links.specs.declared.link_line.LinkLine.{LinkLine}
use Rattle.station_links.specs.LinkLines.{lines_in, end_of, dropped_lines, drop_lines, end_lines}
use Rattle.station_links.specs.Connected.{Connected}
use Rattle.station_links.specs.Rounds.{quits, left_by, stands_after, end_after, outcome_of}
use Rattle.station_links.specs.Lives.{ConnectionState, Lives, AreLeft, Turned}
use Rattle.station_links.proofs.Living.{Behind}

none_going : (s : Spoken) → end_of s ≡ None → s ≡ spoken.Going
none_going spoken.Going e = refl
none_going (spoken.Ended end) e = absurd (cc)
none_going spoken.LinkFault e = absurd (cc)

-- ---- lists of events

replay_both : (s : book.State) (xs ys : List Event) → replay s (xs ++ ys) ≡ replay (replay s xs) ys
replay_both s [] ys = refl
replay_both s (x ∷ xs) ys = replay_both (then_after s x) xs ys

legal_both : (s : book.State) (xs ys : List Event) → IsLegal s xs → IsLegal (replay s xs) ys
    → IsLegal s (xs ++ ys)
legal_both s [] ys first behind = behind
legal_both s (x ∷ xs) ys first behind =
    (first.0, legal_both (then_after s x) xs ys first.1 behind)

quits_legal : (door : ℕ) (s : book.State) (end : Option EndWord) → IsLegal s (quits door s end)
quits_legal door s None = tt
quits_legal door s (Some why) = (refl, tt)

-- ---- what is left

left_lives : (end : Option EndWord) (b : Began) (v : ConnectionState) (l : Connected)
    → (end ≡ None → Lives b v l) → AreLeft b (left_by end v) (left_by end l)
left_lives None b v l h = h refl
left_lives (Some why) b v l h = tt

-- what is dropped is told where the connection is there still
drops_same : (end : Option EndWord) (items others : Option ℕ) → (end ≡ None → items ≡ others)
    → drop_lines end items ≡ drop_lines end others
drops_same None items others same = ap dropped_lines (same refl)
drops_same (Some why) items others same = refl

-- ---- a round said so, and left so

pub turned : (b : Began) (l : Connected) (before mid after : book.State) (reading c : ℕ)
    (calls : List Call) (new : SessionState) (now : Steering) (r : Round) (said : List LinkLine)
    (left : Option ConnectionState) (came : Spoken) (end : Option EndWord)
    → Behind b l before mid reading c calls new now r → c ≡ b.door → came ≡ come_to new
    → end ≡ end_of came
    → said ≡ (lines_in calls ++ drop_lines end new.standing.dropped) ++ end_lines end
    → after ≡ replay mid (quits c mid end)
    → left ≡ left_by end (record { c = c; session = new; steering = now })
    → Turned b (outcome_of b.site b.door l before r) before after said left
turned b l before mid after reading c calls new now r said left came end behind door so ended
    said_is quitted left_is =
    let own = round_calls b.site l.state r in
    let asked = round_events b.site b.door l.state r in
    let v : ConnectionState = record { c = c; session = new; steering = now } in
    let e : end ≡ end_after b.site l r = ended ∙ ap end_of (so ∙ behind.come) in
    let last = quits b.door (replay before asked) (end_after b.site l r) in
    record {
      says =
          said_is
          ∙ ap (λ (xs : List Call).
          (lines_in xs ++ drop_lines end new.standing.dropped) ++ end_lines end) behind.calls_are
          ∙ ap (λ (ls : List LinkLine). (lines_in own ++ ls) ++ end_lines end)
          (drops_same end _ _ (λ none. behind.dropped (sym so ∙ none_going came (sym ended ∙ none))))
          ∙ ap (λ (x : Option EndWord).
          (lines_in own ++ drop_lines x (after_round b.site l.state r).standing.dropped)
          ++ end_lines x) e;
      legal =
          legal_both before asked last behind.legal
          (quits_legal b.door (replay before asked) (end_after b.site l r));
      book_is =
          quitted ∙ ap (λ (s : book.State). replay s (quits c s end)) behind.book_is
          ∙ ap (λ (n : ℕ). replay (replay before asked) (quits n (replay before asked) end)) door
          ∙ ap
          (λ (x : Option EndWord).
          replay (replay before asked) (quits b.door (replay before asked) x)) e
          ∙ sym (replay_both before asked last);
      leaves =
          subst (λ (x : Option ConnectionState). AreLeft b x (left_by (end_after b.site l r)
          (stands_after b.site l r))) (sym left_is)
          (subst (λ (x : Option EndWord).
          AreLeft b (left_by end v) (left_by x (stands_after b.site l r))) e
          (left_lives end b v (stands_after b.site l r)
          (λ none. behind.goes (sym so ∙ none_going came (sym ended ∙ none)))));
    }
