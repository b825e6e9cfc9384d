-- Histories that go on.
use Rattle.std.proofs.Common.{◌≡◌, ℕ, true, false, List, [], ◌∷◌, ◌++◌, if◌then◌else◌, refl, ap}
use Rattle.std.proofs.Common.{sym, subst, ◌∙◌}
use Rattle.std.proofs.lemmas.List.Sums.{fold-append}
use Rattle.cltu_queue.specs.declared.ask.Ask.{Ask}
use Rattle.station_book.specs.State.{State, Event, Call, publish, answer, quit, take, done}
use Rattle.station_book.specs.State.{interrupted, uplink, gone, opened}
use Rattle.station_book.specs.History.{after, may_publish, is_lost, with_ask, asked, event_at}
use Rattle.station_book.specs.History.{then_after, replay, IsLegal, StandsAs}

pub legal_begins : (s : State) (h k : List Event) → IsLegal s (h ++ k) → IsLegal s h
legal_begins s [] k all = tt
legal_begins s (e ∷ h) k all = (all.0, legal_begins (then_after s e) h k all.1)

pub legal_goes_on : (s : State) (h k : List Event) → IsLegal s (h ++ k) → IsLegal (replay s h) k
legal_goes_on s [] k all = all
legal_goes_on s (e ∷ h) k all = legal_goes_on (then_after s e) h k all.1

pub legal_joins : (s : State) (h k : List Event) → IsLegal s h → IsLegal (replay s h) k
    → IsLegal s (h ++ k)
legal_joins s [] k begun all = all
legal_joins s (e ∷ h) k begun all = (begun.0, legal_joins (then_after s e) h k begun.1 all)

-- an ask leaves what neither the doors nor the queue tell
pub asked_keeps : {X : Type 0} (f : State → X) (s : State) (door now : ℕ) (ask : Ask)
    → f (with_ask s door now ask) ≡ f s → f (asked s door now ask) ≡ f s
asked_keeps f s door now ask same =
    elim (is_lost s door ask) as (λ b. f (if b then s else with_ask s door now ask) ≡ f s)
    [ true ↦ refl | false ↦ same ]

-- no call changes the origin
pub opening_stays : (s : State) (call : Call) → (after s call).opening ≡ s.opening
opening_stays s (publish entries) =
    elim (may_publish s entries) as (λ b. (if b then record s { published = s.published ++ entries }
    else s).opening ≡ s.opening) [ true ↦ refl | false ↦ refl ]
opening_stays s (answer door reading ask want) = asked_keeps (λ t. t.opening) s door _ ask refl
opening_stays s (quit door) = refl
opening_stays s (take reading) = refl
opening_stays s (done run id reading) = refl
opening_stays s (interrupted run id reading) = refl
opening_stays s (uplink production status reading) = refl
opening_stays s (gone worker) = refl

-- a book of which this list is the history, after one more call
pub stands_more : (b : State) (h : List Event) (call : Call) → StandsAs b h
    → StandsAs (after b call) (h ++ event_at b call ∷ [])
stands_more b h call stood =
    let s = opened b.opening in
    let here : event_at b call ≡ event_at (replay s h) call =
    ap (λ t. event_at t call) stood.replayed in
    let whole : after b call ≡ replay s (h ++ event_at b call ∷ []) =
    ap (λ t. after t call) stood.replayed
    ∙ sym (fold-append then_after s h (event_at b call ∷ [])) in
    let legal : IsLegal s (h ++ event_at b call ∷ []) =
    legal_joins s h (event_at b call ∷ []) stood.legal (here, tt) in
    record {
      legal = subst (λ o. IsLegal (opened o) (h ++ event_at b call ∷ []))
          (sym (opening_stays b call)) legal;
      replayed = subst (λ o. after b call ≡ replay (opened o) (h ++ event_at b call ∷ []))
          (sym (opening_stays b call)) whole;
    }
