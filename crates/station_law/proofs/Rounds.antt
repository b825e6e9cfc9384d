-- Rounds of a connection, one after another.
use Rattle.std.proofs.Common.{◌≡◌, ℕ, zero, suc, Option, Some, None, List, [], ◌++◌, refl, ap}
use Rattle.std.proofs.Common.{subst, ◌∙◌, append_assoc}
use Rattle.std.proofs.lemmas.List.{append-nil}
use Rattle.std.proofs.lemmas.List.Sums.{fold-append}
use Rattle.station_config.specs.declared.site.Site.{Site}
use Rattle.station_book.specs.State.{Event}
use Rattle.station_book.specs.State as books
use Rattle.station_book.specs.History.{replay, then_after}
use Rattle.session_core.specs.Lists.{Began}
use Rattle.station_links.specs.Connected.{Connected, began}
use Rattle.station_links.specs.Lives.{Lives, AreLeft, Turned}
use Rattle.station_links.specs.Lives as links
use Rattle.station_links.specs.Rounds.{Outcome, round_of}
use Rattle.station_links.specs.declared.link_line.LinkLine.{LinkLine}
use Rattle.station_law.specs.Doors.{Ran, rounds_of}
use Rattle.station_law.specs.Standing.{IsOpen, HasRan}

-- rounds behind others
abbrev pub behind : List LinkLine → List Event → Ran → Ran
behind said events ran = record {
  said = said ++ ran.said;
  events = events ++ ran.events;
  left = ran.left;
}

behind-behind : (s t : List LinkLine) (e f : List Event) (ran : Ran)
    → behind s e (behind t f ran) ≡ behind (s ++ t) (e ++ f) ran
behind-behind s t e f ran = simp append_assoc

behind-none : (ran : Ran) (said : List LinkLine) (events : List Event)
    → ran.said ≡ [] → ran.events ≡ []
    → behind said events ran ≡ record { said = said; events = events; left = ran.left }
behind-none ran said events no_said no_events = simp (no_said, no_events, append-nil)

pub replay-append : (b : books.State) (e f : List Event)
    → replay b (e ++ f) ≡ replay (replay b e) f
replay-append b e f = fold-append then_after b e f

-- a connection is left, or isn't
left_there : (b : Began) (v : links.ConnectionState) (o : Option Connected) → AreLeft b (Some v) o
    → (l : Connected) × (o ≡ Some l) × Lives b v l
left_there b v None left = absurd left
left_there b v (Some l) left = (l, refl, left)

left_none : (b : Began) (o : Option Connected) → AreLeft b None o → o ≡ None
left_none b None left = refl
left_none b (Some l) left = absurd left

-- nothing comes of rounds of a connection that isn't there
pub gone : (site : Site) (c reading n : ℕ) (b : books.State)
    → rounds_of site c reading n b None ≡ record { said = []; events = []; left = None }
gone site c reading zero b = refl
gone site c reading (suc n) b = refl

module _ (site : Site) (c reading n : ℕ) (first : books.State) (l₀ : Connected) where
  abbrev whole : Ran
  whole = rounds_of site c reading n first (Some l₀)

  -- some of them were made, and so many are left
  pub record Going (left : ℕ) (b : books.State) (said : List LinkLine) (v : links.ConnectionState)
      : Type 0 where
    pub l : Connected
    pub open_so : IsOpen site c v l
    pub events : List Event
    pub book : b ≡ replay first events
    pub is : whole ≡ behind said events (rounds_of site c reading left b (Some l))

  pub begin : (v : links.ConnectionState) (left : ℕ) → n ≡ left → IsOpen site c v l₀
      → Going left first [] v
  begin v left all open_so = rw (← all) (record {
    l = l₀;
    open_so = open_so;
    events = [];
    book = refl;
    is = refl;
  })

  -- all of them were made
  pub done : (b : books.State) (said : List LinkLine) (v : links.ConnectionState)
      → Going zero b said v → HasRan site c whole first b said (Some v)
  done b said v so_far =
      rw (so_far.is ∙ behind-none (rounds_of site c reading zero b (Some so_far.l)) said
      so_far.events refl refl)
      (record { says = refl; book_is = so_far.book; leaves = so_far.open_so })

  -- a round more
  module _ (left : ℕ) (b after : books.State) (said more : List LinkLine)
      (v : links.ConnectionState)
      (o : Option links.ConnectionState) (so_far : Going (suc left) b said v)
      (turn : (x : Began) (l : Connected) → x.site ≡ site → Lives x v l
      → Turned x (round_of x.site x.door l b reading) b after more o) where
    made : Outcome
    made = round_of site c so_far.l b reading

    of : Began
    of = began site c so_far.open_so.entered

    turned : Turned of made b after more o
    unfolding made of
    turned = turn of so_far.l refl so_far.open_so.lives

    events_on : List Event
    events_on = so_far.events ++ made.events

    book_on : after ≡ replay first events_on
    unfolding events_on
    book_on = cc (turned.book_is, replay-append first so_far.events made.events)

    -- the rounds that are left are made of what it left
    rest_is : (next : Option Connected) → made.next ≡ next
        → whole ≡ behind (said ++ more) events_on (rounds_of site c reading left after next)
    unfolding made events_on
    rest_is next is =
        rw (so_far.is, turned.says, turned.book_is, ← is) (behind-behind said made.said
        so_far.events made.events (rounds_of site c reading left (replay b made.events) made.next))

    -- the connection is there still
    pub goes_on : (w : links.ConnectionState) → o ≡ Some w → Going left after (said ++ more) w
    unfolding of
    goes_on w is =
        let there = left_there of w made.next
        (subst (λ (x : Option links.ConnectionState). AreLeft of x made.next) is turned.leaves) in
        record {
          l = there.0;
          open_so = record { entered = so_far.open_so.entered; lives = there.2 };
          events = events_on;
          book = book_on;
          is = rest_is (Some there.0) there.1;
        }

    -- it isn't
    pub over : o ≡ None → HasRan site c whole first after (said ++ more) None
    over is =
        let none = left_none of made.next
        (subst (λ (x : Option links.ConnectionState). AreLeft of x made.next) is turned.leaves) in
        rw (rest_is None none
        ∙ ap (behind (said ++ more) events_on) (gone site c reading left after)
        ∙ behind-none (record { said = []; events = []; left = None }) (said ++ more) events_on
        refl refl) (record { says = refl; book_is = book_on; leaves = tt })
