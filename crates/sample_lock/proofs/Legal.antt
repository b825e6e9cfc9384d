-- One event more.
use Rattle.std.proofs.Common.{◌≡◌, ℕ, List, [], ◌∷◌, ◌++◌, ap, sym, subst, ◌∙◌}
use Rattle.std.proofs.lemmas.List.Sums.{fold-append}
use Rattle.sample_lock.specs.State.{State}
use Rattle.sample_lock.specs.Ledger.{opened, after, booking_at, then_booked, replay, IsLegal}
use Rattle.sample_lock.specs.Ledger.{StandsAs}
use Rattle.sample_lock.specs.declared.account.Opening.{Opening}
use Rattle.sample_lock.specs.declared.booking.Booking.{Booking}
use Rattle.sample_lock.specs.declared.order.Order.{Order}

legal_last : (s : State) (h : List Booking) (e : Booking) → IsLegal s h
    → e ≡ booking_at (replay s h) e.clerk e.reading e.order → IsLegal s (h ++ e ∷ [])
legal_last s [] e all now = (now, tt)
legal_last s (x ∷ h) e all now = (all.0, legal_last (then_booked s x) h e all.1 now)

-- an account of which this list is the history, after one more call
stands_after : (a : State) (h : List Booking) (clerk reading : ℕ) (o : Order) (e : Booking)
    → StandsAs a h → e ≡ booking_at a clerk reading o → StandsAs (after a reading o) (h ++ e ∷ [])
stands_after a h clerk reading o e stood now =
    let s = opened a.opening in
    let here : e ≡ booking_at (replay s h) clerk reading o = now
    ∙ ap (λ b. booking_at b clerk reading o) stood.replayed in
    let same : e ≡ booking_at (replay s h) e.clerk e.reading e.order = here
    ∙ sym (ap (λ x. booking_at (replay s h) x.clerk x.reading x.order) here) in
    let reads : after a reading o ≡ then_booked a e = sym (ap (λ x. then_booked a x) now) in
    let whole : then_booked a e ≡ replay s (h ++ e ∷ []) = ap (λ b. then_booked b e) stood.replayed
    ∙ sym (fold-append then_booked s h (e ∷ [])) in
    record { legal = legal_last s h e stood.legal same; replayed = reads ∙ whole }

pub stands_last : (a new : State) (h : List Booking) (clerk reading : ℕ) (o : Order) (e : Booking)
    → StandsAs a h → new ≡ after a reading o → e ≡ booking_at a clerk reading o
    → StandsAs new (h ++ e ∷ [])
stands_last a new h clerk reading o e stood is now =
    subst (λ b. StandsAs b (h ++ e ∷ [])) (sym is) (stands_after a h clerk reading o e stood now)

-- the list of an account that stands for it is legal
pub legal_of : (a : State) (o : Opening) (h : List Booking) → a.opening ≡ o → StandsAs a h
    → IsLegal (opened o) h
legal_of a o h same stood = subst (λ x. IsLegal (opened x) h) same stood.legal
