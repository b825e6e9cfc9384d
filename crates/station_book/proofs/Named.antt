-- A book after a call that is named.
use Rattle.std.proofs.Common.{◌≡◌, List, [], ◌∷◌, ◌++◌, ap, sym, subst, ◌∙◌}
use Rattle.station_book.specs.State.{State, Opening, opened, Call, Event}
use Rattle.station_book.specs.History.{after, IsLegal, StandsAs}
use Rattle.station_book.specs.Named.{IsMadeBy}
use Rattle.station_book.proofs.Histories.{opening_stays, stands_more}

pub more : (call : Call) (before book : State) (e : Event) (h : List Event)
    → IsMadeBy call before book e → StandsAs before h → StandsAs book (h ++ e ∷ [])
more call before book e h made stood =
    subst (λ b. StandsAs b (h ++ e ∷ [])) (sym made.book_is)
    (subst (λ x. StandsAs (after before call) (h ++ x ∷ [])) (sym made.event_is)
    (stands_more before h call stood))

pub origin : (call : Call) (before book : State) (e : Event) (o : Opening)
    → IsMadeBy call before book e → before.opening ≡ o → book.opening ≡ o
origin call before book e o made was =
    ap (λ (b : State). b.opening) made.book_is ∙ opening_stays before call ∙ was

pub legal : (book : State) (o : Opening) (h seen : List Event) → StandsAs book h
    → book.opening ≡ o → seen ≡ h → IsLegal (opened o) seen
legal book o h seen stands is same =
    subst (λ x. IsLegal (opened o) x) (sym same)
    (subst (λ x. IsLegal (opened x) h) is stands.legal)
