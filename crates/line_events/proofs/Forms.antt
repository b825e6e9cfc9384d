-- The lines of entries, of the power, of the clock and of connections as events.
use Rattle.std.proofs.Common.{◌≡◌, ℕ, Bool, true, false, not, IsTrue, List}
use Rattle.std.proofs.Common.{[], ◌∷◌, ◌++◌, map, refl, sym, ap, subst, ◌∙◌, append_assoc}
use Rattle.std.proofs.Common.{append-nil, if◌then◌else◌}
use Rattle.std.specs.List.{AllByRecursion, filter}
use Rattle.std.proofs.lemmas.Bool.{and_parts}
use Rattle.std.proofs.lemmas.List.Sums.{fold-append}
use Rattle.archive_terms.specs.Archive.{Entry, is_archive, IsArchive, may_follow}
use Rattle.cltu_queue.specs.declared.ask.Ask.{Ask}
use Rattle.station_book.specs.State.{Opening, Call, publish, answer, quit, done, interrupted, uplink}
use Rattle.station_book.specs.State.{take as takes, gone, opened, Event as Answered}
use Rattle.station_book.specs.State as books
use Rattle.station_book.specs.History.{after, event_at, replay, then_after, is_lost, with_ask}
use Rattle.station_book.specs.History.{moment_at}
use Rattle.station_world.specs.Life.{Start, Life, book, born, called}
use Rattle.station_world.specs.World.{World, before_all, Event}
use Rattle.station_world.specs.Comes.{Begins}
use Rattle.station_world.specs.Calls.{CallsAreEvents, is_publishing, publishes_nothing, call_events}
use Rattle.station_world.specs.Calls.{all_called}
use Rattle.line_events.specs.Shows.{is_desk, is_users, desk_starts, users_starts, told_of, told_in}
use Rattle.line_events.specs.Shows.{told_by, IsLasting, HasSeen, View, resting, Shows}
use Rattle.line_events.specs.Forms.{store_events, struck_events, failed_events}
use Rattle.line_events.specs.Forms.{power_events, first_events, with_entry, found_with, new_book, anew}
use Rattle.line_events.specs.Forms.{clock_events, first_view, LeadTo}
use Rattle.line_events.specs.Laws.{Laws}
use Rattle.line_events.proofs.Lists.{and_both, told_same, told_nothing, all_longer, all_told}
use Rattle.line_events.proofs.Lists.{seen_longer}

-- ---- worlds that rest

-- what leads on from a world that rests leads on from the one that shows the view
pub at_rest : (v next : View) (w : World) (events : List Event) → (shows : Shows v w)
    → LeadTo (resting shows.found shows.kept shows.past shows.life v.clock v.antenna) events next
    → LeadTo w events next
at_rest v next w events shows leads =
    subst (λ (x : World). LeadTo x events next) (sym shows.is) leads

-- the published entries of the life that goes on
pub published_is : (v : View) (w : World) → (shows : Shows v w)
    → (book shows.life).published ≡ v.published
published_is v w shows = ap (λ (b : books.State). b.published) shows.book_is ∙ shows.one

-- what may follow the published entries may follow those that are acknowledged
follows_so : (v : View) (found kept : List Entry) (e : Entry) → found ++ kept ≡ v.published
    → may_follow v.published e ≡ true → IsTrue (may_follow ((found ++ kept) ++ []) e)
follows_so v found kept e is follows =
    subst (λ (xs : List Entry). IsTrue (may_follow xs e))
    (sym (append-nil (found ++ kept) ∙ is)) follows

-- a new life over what a recovery found
module _ (o : Opening) (v : View) (past : List Life) (l : Life)
    (told_is : told_by (past ++ l ∷ []) ≡ v.told) where
  born_shows : (entries there : List Entry) → entries ≡ there
      → Shows (anew o there v)
      (resting entries [] (past ++ l ∷ []) (born (record o { entries = entries })) v.clock v.antenna)
  born_shows entries there is = record {
    found = entries;
    kept = [];
    past = past ++ l ∷ [];
    life = born (record o { entries = entries });
    is = refl;
    acknowledges = append-nil entries ∙ is;
    book_is = ap (new_book o) is;
    one = refl;
    told_is =
        told_nothing (past ++ l ∷ []) (born (record o { entries = entries })) refl ∙ told_is;
    lasting = tt;
    users_are = refl;
    seen = tt;
  }

  -- the power fails between two stores
  pub power_leads : (found kept : List Entry) → found ++ kept ≡ v.published
      → LeadTo (resting found kept past l v.clock v.antenna) (power_events o) (anew o v.published v)
  power_leads found kept is = ((tt, (refl, tt)), born_shows (found ++ kept) v.published is)

  -- it fails in an entry's store
  pub struck_leads : (found kept : List Entry) (e : Entry) (has : Bool)
      → found ++ kept ≡ v.published → may_follow v.published e ≡ true
      → LeadTo (resting found kept past l v.clock v.antenna) (struck_events o e has)
      (anew o (found_with has e v) v)
  struck_leads found kept e true is follows = (
    ((refl, follows_so v found kept e is follows, tt), ((refl, tt), (tt, (refl, tt)))),
    born_shows ((found ++ kept) ++ e ∷ []) (v.published ++ e ∷ [])
        (ap (λ (xs : List Entry). xs ++ e ∷ []) is),
  )
  struck_leads found kept e false is follows = (
    ((refl, follows_so v found kept e is follows, tt), ((refl, tt), (tt, (refl, tt)))),
    born_shows (found ++ kept) v.published is,
  )

-- ---- an entry that is stored and published

published_book : (l : Life) (b : books.State) (e : Entry) → book l ≡ b
    → book (called (publish (e ∷ [])) l) ≡ after b (publish (e ∷ []))
published_book l b e is =
    fold-append then_after (opened l.opening) l.history (event_at (book l) (publish (e ∷ [])) ∷ [])
    ∙ ap (λ (s : books.State). after s (publish (e ∷ []))) is

accepted_entries : Laws → (b : books.State) (p : List Entry) (e : Entry) → b.published ≡ p
    → IsArchive p → may_follow p e ≡ true → (after b (publish (e ∷ []))).published ≡ p ++ e ∷ []
accepted_entries laws b p e is archive follows =
    let may : is_archive (b.published ++ e ∷ []) ≡ true =
    ap (λ (xs : List Entry). is_archive (xs ++ e ∷ [])) is ∙ laws.grows p e
    ∙ and_both (is_archive p) (may_follow p e) archive follows in
    ap (λ (x : Bool).
    (if x then record b { published = b.published ++ e ∷ [] } else b).published) may
    ∙ ap (λ (xs : List Entry). xs ++ e ∷ []) is

module _ (laws : Laws) (v : View) (past : List Life)
    (l : Life) (e : Entry) (archive : IsArchive v.published)
    (follows : may_follow v.published e ≡ true) (book_is : book l ≡ v.book)
    (one : v.book.published ≡ v.published) (told_is : told_by (past ++ l ∷ []) ≡ v.told)
    (lasting : AllByRecursion (IsLasting v.published) (desk_starts l))
    (users_are : users_starts l ≡ v.users)
    (seen : AllByRecursion (HasSeen v.published) l.starts) where
  abbrev p : List Entry
  p = v.published

  abbrev next : Life
  next = called (publish (e ∷ [])) l

  next_book : book next ≡ after v.book (publish (e ∷ []))
  next_book = published_book l v.book e book_is

  next_published : (after v.book (publish (e ∷ []))).published ≡ p ++ e ∷ []
  next_published = accepted_entries laws v.book p e one archive follows

  whole_is : (found kept : List Entry) → found ++ kept ≡ p
      → found ++ (kept ++ e ∷ []) ≡ p ++ e ∷ []
  whole_is found kept is =
      sym (append_assoc found kept (e ∷ [])) ∙ ap (λ (xs : List Entry). xs ++ e ∷ []) is

  -- the desk's STARTs of the life have told what they had
  same_told : told_in next ≡ told_in l
  same_told =
      ap (λ (b : books.State). map (told_of b.published) (desk_starts l)) next_book
      ∙ ap (λ (xs : List Entry). map (told_of xs) (desk_starts l)) next_published
      ∙ all_told p (e ∷ []) (desk_starts l) lasting
      ∙ ap (λ (xs : List Entry). map (told_of xs) (desk_starts l)) (sym one)
      ∙ ap (λ (b : books.State). map (told_of b.published) (desk_starts l)) (sym book_is)

  shown : (found kept : List Entry) → found ++ kept ≡ p
      → Shows (with_entry e v) (resting found (kept ++ e ∷ []) past next v.clock v.antenna)
  shown found kept is = record {
    found = found;
    kept = kept ++ e ∷ [];
    past = past;
    life = next;
    is = refl;
    acknowledges = whole_is found kept is;
    book_is = next_book;
    one = next_published;
    told_is = told_same past l next same_told ∙ told_is;
    lasting = all_longer p (e ∷ []) (desk_starts l) lasting;
    users_are = users_are;
    seen = seen_longer p (e ∷ []) l.starts seen;
  }

  -- it is the next one of what is acknowledged then
  is_next : (found kept : List Entry) → found ++ kept ≡ p
      → Begins ((book l).published ++ e ∷ []) (found ++ (kept ++ e ∷ []))
  is_next found kept is = (
    [],
    whole_is found kept is
        ∙ ap (λ (xs : List Entry). xs ++ e ∷ [])
        (sym one ∙ ap (λ (b : books.State). b.published) (sym book_is))
        ∙ sym (append-nil ((book l).published ++ e ∷ [])),
  )

  pub stores_leads : (found kept : List Entry) → found ++ kept ≡ p
      → LeadTo (resting found kept past l v.clock v.antenna) (store_events e) (with_entry e v)
  stores_leads found kept is = (
    (
      (refl, follows_so v found kept e is follows, tt),
      ((refl, tt), ((refl, tt), ((refl, is_next found kept is), tt))),
    ),
    shown found kept is,
  )

  pub failed_leads : (found kept : List Entry) (has : Bool) → found ++ kept ≡ p
      → LeadTo (resting found kept past l v.clock v.antenna) (failed_events e has) (with_entry e v)
  failed_leads found kept true is = (
    (
      (refl, follows_so v found kept e is follows, tt),
      ((refl, tt), ((refl, tt), ((refl, tt), ((refl, is_next found kept is), tt)))),
    ),
    shown found kept is,
  )
  failed_leads found kept false is =
      let again = stores_leads found (kept ++ [])
      (ap (λ (xs : List Entry). found ++ xs) (append-nil kept) ∙ is) in (
        (
          (refl, follows_so v found kept e is follows, tt),
          ((refl, tt), ((refl, tt), ((refl, tt), again.0))),
        ),
        again.1,
      )

-- ---- the world of an archive that was made and opened, and the clock

pub begins_leads : (o : Opening) → LeadTo before_all (first_events o) (first_view o)
begins_leads o = (
  (refl, tt),
  record {
    found = [];
    kept = [];
    past = [];
    life = born (record o { entries = [] });
    is = refl;
    acknowledges = refl;
    book_is = refl;
    one = refl;
    told_is = refl;
    lasting = tt;
    users_are = refl;
    seen = tt;
  },
)

pub clock_leads : (v : View) (w : World) (moment : ℕ) → (shows : Shows v w)
    → LeadTo (resting shows.found shows.kept shows.past shows.life v.clock v.antenna)
    (clock_events moment) (record v { clock = moment })
clock_leads v w moment shows = (
  (tt, tt),
  record {
    found = shows.found;
    kept = shows.kept;
    past = shows.past;
    life = shows.life;
    is = refl;
    acknowledges = shows.acknowledges;
    book_is = shows.book_is;
    one = shows.one;
    told_is = shows.told_is;
    lasting = shows.lasting;
    users_are = shows.users_are;
    seen = shows.seen;
  },
)

-- ---- calls of the book

asked_same : (b : books.State) (door now : ℕ) (ask : Ask) (lost : Bool)
    → (if lost then b else with_ask b door now ask).published ≡ b.published
asked_same b door now ask true = refl
asked_same b door now ask false = refl

call_publishes : (call : Call) (b : books.State) → IsTrue (not (is_publishing call))
    → (after b call).published ≡ b.published
call_publishes (publish entries) b none = absurd cc
call_publishes (answer door reading ask want) b none =
    asked_same b door (moment_at b reading) ask (is_lost b door ask)
call_publishes (quit door) b none = refl
call_publishes (takes reading) b none = refl
call_publishes (done run id reading) b none = refl
call_publishes (interrupted run id reading) b none = refl
call_publishes (uplink production status reading) b none = refl
call_publishes (gone worker) b none = refl

none_published : (h : List Answered) (b : books.State) → IsTrue (publishes_nothing h)
    → (replay b h).published ≡ b.published
none_published [] b none = refl
none_published (e ∷ h) b none =
    let parts = and_parts (not (is_publishing e.call)) (publishes_nothing h) none in
    none_published h (then_after b e) parts.1 ∙ call_publishes e.call b parts.0

pub called_book : (h : List Answered) (l : Life) → book (all_called h l) ≡ replay (book l) h
called_book [] l = refl
called_book (e ∷ h) l =
    called_book h (called e.call l)
    ∙ ap (λ (b : books.State). replay b h)
    (fold-append then_after (opened l.opening) l.history (event_at (book l) e.call ∷ []))

pub calls_lead : CallsAreEvents → (v : View) (w : World) (h : List Answered)
    → (shows : Shows v w) → IsTrue (publishes_nothing h)
    → LeadTo (resting shows.found shows.kept shows.past shows.life v.clock v.antenna)
    (call_events h) (record v { book = replay v.book h })
calls_lead law v w h shows none =
    let l : Life = shows.life in
    let m : Life = all_called h l in
    let rests : World = resting shows.found shows.kept shows.past l v.clock v.antenna in
    let leads = law.leads rests l h refl none in
    let book_is : book m ≡ replay v.book h =
    called_book h l ∙ ap (λ (b : books.State). replay b h) shows.book_is in
    let same : (replay v.book h).published ≡ v.book.published = none_published h v.book none in
    let told : told_in m ≡ told_in l =
    ap (λ (ss : List Start). map (told_of (book m).published) (filter is_desk ss)) (law.starts l h)
    ∙ ap (λ (b : books.State). map (told_of b.published) (desk_starts l)) book_is
    ∙ ap (λ (xs : List Entry). map (told_of xs) (desk_starts l)) same
    ∙ ap (λ (b : books.State). map (told_of b.published) (desk_starts l)) (sym shows.book_is) in (
      leads.0,
      subst (Shows (record v { book = replay v.book h })) (sym leads.1) (record {
        found = shows.found;
        kept = shows.kept;
        past = shows.past;
        life = m;
        is = refl;
        acknowledges = shows.acknowledges;
        book_is = book_is;
        one = same ∙ shows.one;
        told_is = told_same shows.past l m told ∙ shows.told_is;
        lasting = subst
            (λ (ss : List Start). AllByRecursion (IsLasting v.published) (filter is_desk ss))
            (sym (law.starts l h)) shows.lasting;
        users_are =
            ap (λ (ss : List Start). filter is_users ss) (law.starts l h) ∙ shows.users_are;
        seen = subst (AllByRecursion (HasSeen v.published)) (sym (law.starts l h)) shows.seen;
      }),
    )
