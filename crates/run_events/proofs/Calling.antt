-- What calls of the book and sends lead to: events of the life that goes on.
use Rattle.std.proofs.Common.{◌≡◌, ℕ, ◌&&◌, Bool, true, false, not, if◌then◌else◌, Option, Some}
use Rattle.std.proofs.Common.{List, [], ◌∷◌, ◌++◌, map, refl, sym, ap, subst, ◌∙◌, append-nil}
use Rattle.std.specs.Option.{option_to_list}
use Rattle.std.proofs.lemmas.List.Sums.{fold-append}
use Rattle.archive_terms.specs.Archive.{Entry, IsArchive}
use Rattle.cltu_queue.specs.Run.{Radiation}
use Rattle.cltu_queue.specs.declared.taken.Taken.TheVariants.{Radiate}
use Rattle.antenna_turns.specs.Steps.{Step, looked, radiated, broke_off, IsStep, IsTake, sent_of}
use Rattle.station_book.specs.State.{State, opened, Call, publish, answer, quit}
use Rattle.station_book.specs.State.{take as takes, done, interrupted, uplink, gone, Reply, took}
use Rattle.station_book.specs.State.{Event as Answered}
use Rattle.station_book.specs.History.{after, event_at, then_after, reply_to}
use Rattle.station_book.specs.Publishing.{published_by}
use Rattle.station_book.specs.Radiation.{radiation_by}
use Rattle.station_book.proofs.Published.{one_published}
use Rattle.station_world.specs.File.{File}
use Rattle.station_world.specs.Life.{Life, book, is_take, called, radiated_by, sent_with}
use Rattle.station_world.specs.World.{World, Event, calls, sends}
use Rattle.station_world.specs.Calls.{Leads, is_publishing, CallsAreEvents}
use Rattle.run_events.specs.Turns.{take_in, sends_in}
use Rattle.run_events.proofs.Leading.{leads_on, at_rest}

-- ---- lives

-- A life behind the next event of its book.
pub record Next (l : Life) (e : Answered) (m : Life) : Type 0 where
  pub history : m.history ≡ l.history ++ e ∷ []
  pub opening : m.opening ≡ l.opening
  pub book_is : book m ≡ then_after (book l) e

-- the event is what the book gives for its call
abbrev pub IsNext : Life → Answered → Type 0
IsNext l e = e ≡ event_at (book l) e.call

next_called : (l : Life) (e : Answered) → IsNext l e → Next l e (called e.call l)
next_called l e is = record {
  history = ap (λ (x : Answered). l.history ++ x ∷ []) (sym is);
  opening = refl;
  book_is = fold-append then_after (opened l.opening) l.history (event_at (book l) e.call ∷ []);
}

next_sent : (l : Life) (e : Answered) (m : Life) (good : Bool) → Next l e m
    → Next l e (sent_with good m)
next_sent l e m good n = record { history = n.history; opening = n.opening; book_is = n.book_is }

-- ---- what is published

none_published : (call : Call) (reply : Reply) → is_publishing call ≡ false
    → published_by call reply ≡ []
none_published (publish entries) reply none = absurd (cc none)
none_published (answer door reading ask want) reply none = refl
none_published (quit door) reply none = refl
none_published (takes reading) reply none = refl
none_published (done run id reading) reply none = refl
none_published (interrupted run id reading) reply none = refl
none_published (uplink production status reading) reply none = refl
none_published (gone worker) reply none = refl

pub same_published : (l m : Life) (e : Answered) → Next l e m → is_publishing e.call ≡ false
    → (book m).published ≡ (book l).published
same_published l m e n none =
    ap (λ (s : State). s.published) n.book_is
    ∙ one_published (book l) e.call
    ∙ ap (λ (xs : List Entry). (book l).published ++ xs)
    (none_published e.call (reply_to (book l) e.call) none)
    ∙ append-nil (book l).published

pub more_published : (l m : Life) (e : Answered) (xs : List Entry) → Next l e m
    → e.call ≡ publish xs → IsArchive ((book l).published ++ xs)
    → (book m).published ≡ (book l).published ++ xs
more_published l m e xs n call archive =
    ap (λ (s : State). s.published) n.book_is
    ∙ ap (λ (c : Call). (after (book l) c).published) call
    ∙ ap (λ (b : Bool). (if b then record (book l) { published = (book l).published ++ xs }
    else book l).published) archive

-- ---- worlds

-- a life goes on
abbrev pub going : List Life → ℕ → File → Life → List (List ℕ) → World
going past clock f l antenna =
    record { file = f; past = past; now = Some l; clock = clock; antenna = antenna }

module _ (law : CallsAreEvents) (past : List Life) (clock : ℕ) (f : File) where
  abbrev at : Life → List (List ℕ) → World
  at l antenna = going past clock f l antenna

  -- a call that publishes nothing
  pub call_leads : (l : Life) (antenna : List (List ℕ)) (e : Answered)
      → is_publishing e.call ≡ false
      → Leads (at l antenna) (calls e.call ∷ []) (at (called e.call l) antenna)
  call_leads l antenna e none =
      law.leads (at l antenna) l (e ∷ []) refl (ap (λ (b : Bool). not b && true) none)

  -- what was taken is sent, good or not
  abbrev octets_if : Bool → Radiation → List (List ℕ)
  octets_if good r = if good then r.octets ∷ [] else []

  send_leads : (good : Bool) (m : Life) (antenna : List (List ℕ)) (r : Radiation)
      → m.to_send ≡ Some r
      → Leads (at m antenna) (sends good ∷ [])
      (at (sent_with good m) (antenna ++ octets_if good r))
  send_leads true m antenna r is = (
    ((r, is), tt),
    ap (λ (x : Option Radiation).
        at (sent_with true m) (antenna ++ map (λ (y : Radiation). y.octets) (option_to_list x)))
        is,
  )
  send_leads false m antenna r is = (((r, is), tt), refl)

  -- ---- a step of the antenna's worker

  -- Where a take and what stands behind it lead, by what it sends.
  pub record Radiates (behind : List Event) (sent : List (List ℕ)) (l : Life)
      (antenna : List (List ℕ)) (e : Answered) : Type 0 where
    pub life : Life
    pub next : Next l e life
    pub quiet : is_publishing e.call ≡ false
    pub leads : Leads (at l antenna) (calls e.call ∷ behind) (at life (antenna ++ sent))

  module _ (l : Life) (antenna : List (List ℕ)) (e : Answered) (is_next : IsNext l e) where
    abbrev m : Life
    m = called e.call l

    to_send_is : (reading run id : ℕ) (octets : List ℕ) → e.call ≡ takes reading
        → e.reply ≡ took (Radiate run id octets)
        → m.to_send ≡ Some (record { at = e.moment; run = run; id = id; octets = octets })
    to_send_is reading run id octets call reply =
        ap (λ (b : Bool). if b then radiated_by (event_at (book l) e.call) else l.to_send)
        (ap is_take call)
        ∙ ap radiated_by (sym is_next)
        ∙ ap (λ (x : Reply). radiation_by e.moment x) reply

    -- it gave octets, and these were sent, good or not
    sent_behind : (good : Bool) (run id : ℕ) (octets : List ℕ) (taken : Answered)
        → IsTake (Radiate run id octets) taken → e ≡ taken
        → Radiates (sends good ∷ []) (if good then octets ∷ [] else []) l antenna e
    sent_behind good run id octets taken is same =
        let call : e.call ≡ takes is.reading = ap (λ (x : Answered). x.call) same ∙ is.call in
        let reply : e.reply ≡ took (Radiate run id octets) =
        ap (λ (x : Answered). x.reply) same ∙ is.reply in record {
          life = sent_with good m;
          next = next_sent l e m good (next_called l e is_next);
          quiet = ap is_publishing call;
          leads =
              leads_on (at l antenna) (calls e.call ∷ []) (at m antenna) (sends good ∷ [])
              (at (sent_with good m) (antenna ++ (if good then octets ∷ [] else [])))
              (call_leads l antenna e (ap is_publishing call))
              (send_leads good m antenna
              (record { at = e.moment; run = run; id = id; octets = octets })
              (to_send_is is.reading run id octets call reply));
        }

    pub step_leads : (step : Step) → IsStep step → e ≡ take_in step
        → Radiates (sends_in step) (sent_of step) l antenna e
    step_leads (looked mark) right same =
        let call : e.call ≡ takes right.2.reading =
        ap (λ (x : Answered). x.call) same ∙ right.2.call in record {
          life = m;
          next = next_called l e is_next;
          quiet = ap is_publishing call;
          leads = subst (λ (sent : List (List ℕ)). Leads (at l antenna) (calls e.call ∷ [])
              (at m sent)) (sym (append-nil antenna))
              (call_leads l antenna e (ap is_publishing call));
        }
    step_leads (radiated mark octets behind) right same =
        sent_behind true right.0 right.1 octets mark.event right.2 same
    step_leads (broke_off mark octets behind) right same =
        sent_behind false right.0 right.1 octets mark.event right.2 same

    pub called_next : Next l e m
    called_next = next_called l e is_next

-- ---- a publishing

-- it comes where what it publishes is the next of what is acknowledged
pub publish_leads : (past : List Life) (clock : ℕ) (found kept : List Entry)
    (l : Life) (antenna : List (List ℕ)) (e : Answered) (xs : List Entry) → e.call ≡ publish xs
    → found ++ kept ≡ (book l).published ++ xs
    → Leads (going past clock (at_rest found kept) l antenna) (calls e.call ∷ [])
    (going past clock (at_rest found kept) (called e.call l) antenna)
publish_leads past clock found kept l antenna e xs call is =
    let here : Life → World = λ m. going past clock (at_rest found kept) m antenna in
    subst (λ (c : Call). Leads (here l) (calls c ∷ []) (here (called c l))) (sym call)
    (((refl, ([], is ∙ sym (append-nil ((book l).published ++ xs)))), tt), refl)
