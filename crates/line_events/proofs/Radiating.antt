-- What a take gives to be sent, as events.
use Rattle.std.proofs.Common.{◌≡◌, ℕ, Bool, true, false, IsTrue, if◌then◌else◌, Option, Some, List, []}
use Rattle.std.proofs.Common.{◌∷◌, ◌++◌, map, sym, ap, subst, ◌∙◌, refl, append-nil}
use Rattle.std.specs.Option.{option_to_list}
use Rattle.archive_terms.specs.Archive.{Entry}
use Rattle.cltu_queue.specs.Run.{Radiation}
use Rattle.cltu_queue.specs.declared.taken.Taken.TheVariants.{Radiate}
use Rattle.station_book.specs.State.{Opening, take as takes, took, Reply, Event as Answered}
use Rattle.station_book.specs.State as books
use Rattle.station_book.specs.History.{after, event_at, reply_to, moment_of}
use Rattle.station_book.specs.Radiation.{radiation_by}
use Rattle.station_world.specs.Life.{Life, book, called, radiated_by, sent_with}
use Rattle.station_world.specs.World.{World, with_send}
use Rattle.station_world.specs.Calls.{CallsAreEvents, publishes_nothing, call_events}
use Rattle.line_events.specs.Shows.{desk_starts, told_of, told_in, View, resting, Shows}
use Rattle.line_events.specs.Forms.{radiate_events, with_sent, LeadTo}
use Rattle.line_events.proofs.Lists.{told_same}
use Rattle.line_events.proofs.Forms.{called_book, calls_lead}

-- the octets that are to be sent are sent, good or not
sent_on : (good : Bool) (found kept : List Entry) (past : List Life) (clock : ℕ)
    (antenna : List (List ℕ)) (m : Life) (r : Radiation) → m.to_send ≡ Some r
    → with_send (resting found kept past m clock antenna) good
    ≡ resting found kept past (sent_with good m) clock
    (if good then antenna ++ r.octets ∷ [] else antenna)
sent_on true found kept past clock antenna m r is =
    ap (λ (o : Option Radiation). resting found kept past (sent_with true m) clock
    (antenna ++ map (λ (x : Radiation). x.octets) (option_to_list o))) is
sent_on false found kept past clock antenna m r is =
    ap (λ (sent : List (List ℕ)). resting found kept past (sent_with false m) clock sent)
    (append-nil antenna)

module _ (v : View) (w : World) (shows : Shows v w) (reading run id : ℕ)
    (octets : List ℕ) (good : Bool)
    (found : reply_to v.book (takes reading) ≡ took (Radiate run id octets)) where
  abbrev l : Life
  l = shows.life

  -- behind the take, and behind the send
  abbrev m : Life
  m = called (takes reading) l

  abbrev n : Life
  n = sent_with good m

  abbrev to_send : Radiation
  to_send = record {
    at = moment_of v.book (takes reading);
    run = run;
    id = id;
    octets = octets;
  }

  is_to_send : m.to_send ≡ Some to_send
  is_to_send =
      ap (λ (b : books.State). radiated_by (event_at b (takes reading))) shows.book_is
      ∙ ap (λ (reply : Reply). radiation_by (moment_of v.book (takes reading)) reply) found

  taken_book : book n ≡ after v.book (takes reading)
  taken_book =
      called_book (event_at v.book (takes reading) ∷ []) l
      ∙ ap (λ (b : books.State). after b (takes reading)) shows.book_is

  same_told : told_in n ≡ told_in l
  same_told =
      ap (λ (b : books.State). map (told_of b.published) (desk_starts l)) taken_book
      ∙ ap (λ (b : books.State). map (told_of b.published) (desk_starts l)) (sym shows.book_is)

  abbrev next : View
  next = with_sent reading good octets [] v

  abbrev there : World
  there = resting shows.found shows.kept shows.past n v.clock next.antenna

  shown : Shows next there
  shown = record {
    found = shows.found;
    kept = shows.kept;
    past = shows.past;
    life = n;
    is = refl;
    acknowledges = shows.acknowledges;
    book_is = taken_book;
    one = shows.one;
    told_is = told_same shows.past l n same_told ∙ shows.told_is;
    lasting = shows.lasting;
    users_are = shows.users_are;
    seen = shows.seen;
  }

  pub radiates_lead : CallsAreEvents → (h : List Answered) → IsTrue (publishes_nothing h)
      → LeadTo (resting shows.found shows.kept shows.past l v.clock v.antenna)
      (radiate_events reading good h) (with_sent reading good octets h v)
  unfolding shown
  radiates_lead law h none =
      let behind = subst
      (λ (x : World). LeadTo x (call_events h) (with_sent reading good octets h v))
      (sym (sent_on good shows.found shows.kept shows.past v.clock v.antenna m to_send is_to_send))
      (calls_lead law next there h shown none) in
      ((tt, ((to_send, is_to_send), behind.0)), behind.1)
