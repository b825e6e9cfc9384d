-- What is at each door once one of them changes.
use Rattle.std.proofs.Common.{◌≡◌, ℕ, zero, suc, true, Option, Some, None, List, [], ◌∷◌, length}
use Rattle.std.proofs.Common.{◌<◌, get_or, replicate, slice_get, set, refl, sym, ap, ◌∙◌, set-set}
use Rattle.std.proofs.Common.{arith, subst, Result, Ok, Err}
use Rattle.std.proofs.lemmas.Option.{slice_get_read}
use Rattle.std.specs.Prelude.{vec_items, OnErr}
use Rattle.station_config.specs.declared.site.Site.{Site}
use Rattle.station_book.specs.State as books
use Rattle.station_links.specs.Connected.{Connected, opened}
use Rattle.station_links.specs.Lives as links
use Rattle.station_law.specs.declared.said.SaidAt.{SaidAt}
use Rattle.drill_text.specs.declared.script_line.ScriptLine.{ScriptLine}
use Rattle.drill_text.specs.declared.script_line.ScriptLine.TheVariants.{Open}
use Rattle.station_links.specs.Run.{Order, order_in}
use Rattle.station_law.specs.declared.doors.Turns.{Turns}
use Rattle.station_law.specs.Doors.{Doors, Act, opens, rounds_of, ordered, act_of, act, acted_by}
use Rattle.station_law.specs.Doors.{acted, acted_on}
use Rattle.station_law.specs.Standing.{DoorsSeen, IsOpen, Match, IsThere, AreDoors, AreLeft, there}
use Rattle.station_law.specs.Standing.{is_free, IsActed, IsAsked, IsOrdered, IsObeyed, HasGone}
use Rattle.station_law.specs.Standing.{HasRan, HasActed}

-- the site stays over two calls, where the second one fails
pub site_kept : {T E : Type 0} (r : Result T E) (before mid after : DoorsSeen)
    → mid.site ≡ before.site → OnErr r (after.site ≡ mid.site) → OnErr r (after.site ≡ before.site)
site_kept (Ok x) before mid after same kept = tt
site_kept (Err e) before mid after same kept = kept ∙ same

-- ---- lists whose elements match at each place

module _ {A B : Type 0} where
  abbrev AllMatch : (ℕ → A → B → Type 0) → List A → List B → Type 0
  AllMatch T xs ys = (k : ℕ) → Match (T k) (slice_get xs k) (slice_get ys k)

  pub match_set : (T : ℕ → A → B → Type 0) (xs : List A) (ys : List B) (c : ℕ) (a : A) (b : B)
      → AllMatch T xs ys → T c a b → AllMatch T (set xs c a) (set ys c b)
  match_set T [] [] c a b all new k = tt
  match_set T [] (y ∷ ys) c a b all new k = absurd (all zero)
  match_set T (x ∷ xs) [] c a b all new k = absurd (all zero)
  match_set T (x ∷ xs) (y ∷ ys) zero a b all new zero = new
  match_set T (x ∷ xs) (y ∷ ys) zero a b all new (suc k) = all (suc k)
  match_set T (x ∷ xs) (y ∷ ys) (suc c) a b all new zero = all zero
  match_set T (x ∷ xs) (y ∷ ys) (suc c) a b all new (suc k) =
      match_set (λ n. T (suc n)) xs ys c a b (λ n. all (suc n)) new k

-- ---- what matches at one place

module _ {A B : Type 0} (T : A → B → Type 0) where
  pub both_free : (a : Option (Option A)) (b : Option (Option B)) → Match (Match T) a b
      → is_free a ≡ is_free b
  both_free a b matched = grind (arith, matched)

-- nobody is at any door
pub nobody : {A B : Type 0} → (T : ℕ → A → B → Type 0) (n : ℕ) (k : ℕ)
    → Match (Match (T k)) (slice_get (replicate n None) k) (slice_get (replicate n None) k)
nobody T zero k = tt
nobody T (suc n) zero = tt
nobody T (suc n) (suc k) = nobody (λ i. T (suc i)) n k

-- ---- a door is opened

free_is : {X : Type 0} → (o : Option (Option X)) → is_free o ≡ true → o ≡ Some None
free_is o free = grind (arith, free)

module _ (seen : DoorsSeen) (d : Doors) (c reading : ℕ) (are : AreDoors seen d) where
  same_free : is_free (slice_get seen.connections c) ≡ is_free (slice_get d.connections c)
  same_free = both_free (IsOpen d.site c) (slice_get seen.connections c)
      (slice_get d.connections c) (are.at c)

  pub opened_at : (v : links.ConnectionState) (said : SaidAt)
      → is_free (slice_get seen.connections c) ≡ true
      → IsOpen d.site c v (opened c reading) → said.c ≡ c → vec_items said.lines ≡ []
      → IsActed (Some said) d (opens d reading c (slice_get d.connections c))
      (record seen { connections = set seen.connections c (Some v) })
  opened_at v said free open_so c_is none =
      rw (free_is (slice_get d.connections c) (sym same_free ∙ free)) (record {
        c_is = c_is;
        says = none;
        doors = record {
          site = are.site;
          book = are.book;
          at = match_set (λ k. IsThere d.site k) seen.connections d.connections c (Some v)
              (Some (opened c reading)) are.at open_so;
        };
      })

-- ---- a connection is taken out of its door, and put back

pub taken_out : (seen : DoorsSeen) (d : Doors) (c : ℕ) → AreDoors seen d
    → AreLeft (record seen { connections = set seen.connections c None }) d c
taken_out seen d c are = record {
  site = are.site;
  book = are.book;
  puts = λ v l stands. rw (set-set seen.connections c None v)
      (match_set (λ k. IsThere d.site k) seen.connections d.connections c v l are.at stands);
}

-- a connection that was taken out is put back behind its rounds, as it is then, or isn't
pub put_ran : (left new : DoorsSeen) (d : Doors) (c reading n : ℕ) (l : Connected)
    (v : Option links.ConnectionState) (book : books.State) (said : SaidAt) → AreLeft left d c
    → HasRan left.site c (rounds_of left.site c reading n left.book (Some l)) left.book book
    (vec_items said.lines) v → said.c ≡ c
    → new ≡ record left { book = book; connections = set left.connections c v }
    → HasActed said d (acted_by d c (rounds_of d.site c reading n d.book (Some l))) new
put_ran left new d c reading n l v book said are ran_so c_is new_is =
    let ran = rounds_of d.site c reading n d.book (Some l) in
    let so : HasRan d.site c ran left.book book (vec_items said.lines) v =
    rw (← are.site, ← are.book) ran_so in
    rw new_is (record {
      c_is = c_is;
      says = so.says;
      doors = record {
        site = are.site;
        book = rw (so.book_is, are.book) refl;
        at = are.puts v ran.left so.leaves;
      };
    })

-- a connection was at a door
abbrev IsOut : Site → ℕ → links.ConnectionState → Option (Option Connected) → Type 0
IsOut site c v at = (l : Connected) × (at ≡ Some (Some l)) × IsOpen site c v l

by_slot : (site : Site) (c : ℕ) (v : links.ConnectionState)
    (seen : Option (Option links.ConnectionState))
    (at : Option (Option Connected)) → Match (IsThere site c) seen at → there seen ≡ Some v
    → IsOut site c v at
by_slot site c v None at matched is = absurd cc
by_slot site c v (Some None) at matched is = absurd cc
by_slot site c v (Some (Some w)) None matched is = absurd matched
by_slot site c v (Some (Some w)) (Some None) matched is = absurd matched
by_slot site c v (Some (Some w)) (Some (Some l)) matched is =
    let same : w ≡ v = cc in (l, refl, rw same at matched)

is_out : (seen : DoorsSeen) (d : Doors) (c : ℕ) (v : links.ConnectionState) → AreDoors seen d
    → Some v ≡ there (slice_get seen.connections c)
    → IsOut d.site c v (slice_get d.connections c)
is_out seen d c v are is =
    by_slot d.site c v (slice_get seen.connections c) (slice_get d.connections c) (are.at c)
    (sym is)

-- ---- a line of a connection

-- what comes or is ordered comes to the connection that it stands for
ordered_open : (site : Site) (c : ℕ) (v w : links.ConnectionState) (l : Connected)
    (order : Option Order)
    → IsOpen site c v l → IsOrdered v w order → IsOpen site c w (ordered order l)
ordered_open site c v w l None open_so is = rw is open_so
ordered_open site c v w l (Some o) open_so is = rw is (record {
  entered = open_so.entered;
  lives = record {
    c_is = open_so.lives.c_is;
    steering = ap (order_in o) open_so.lives.steering;
    calls = open_so.lives.calls;
    events = open_so.lives.events;
    stands = open_so.lives.stands;
    state = open_so.lives.state;
    here = open_so.lives.here;
  };
})

-- where a line asks something of a connection that is there, its rounds are what the line does
pub goes : (seen left new : DoorsSeen) (d : Doors) (reading : ℕ) (turns : Turns)
    (asks : Option Act) (v w : links.ConnectionState) (said : Option SaidAt) → AreDoors seen d
    → Match IsAsked (Some turns) asks → Some v ≡ there (slice_get seen.connections turns.c)
    → left ≡ record seen { connections = set seen.connections turns.c None }
    → IsObeyed v w asks
    → ((e : Doors) (l : Connected) → AreLeft left e turns.c → IsOpen e.site turns.c w l
    → HasGone said e turns.c
    (rounds_of e.site turns.c reading turns.rounds e.book (Some l)) new)
    → IsActed said d (acted d reading asks) new
goes seen left new d reading turns None v w said are asked taken left_is obeyed_so rounds =
    absurd asked
goes seen left new d reading turns (Some a) v w said are asked taken left_is obeyed_so rounds =
    let out = is_out seen d turns.c v are taken in
    let gone = rounds d (ordered a.order out.0) (rw left_is (taken_out seen d turns.c are))
    (ordered_open d.site turns.c v w out.0 a.order out.2 obeyed_so) in
    let slot : slice_get d.connections a.c ≡ Some (Some out.0) = rw (← asked.0) out.1 in
    rw (slot, ← asked.0, ← asked.1) gone

-- Nobody is at a door from which nobody is taken: taking one out changes nothing there, and a line
-- that asks something of it does nothing.
module _ {X : Type 0} where
  none_there : (o : Option (Option X)) (taken : Option X) → taken ≡ there o
      → ((x : X) → taken ≡ Some x → ⊥) → there o ≡ None
  none_there o None is nobody_out = sym is
  none_there o (Some x) is nobody_out = absurd (nobody_out x refl)

  set_none : (xs : List (Option X)) (c : ℕ) → there (slice_get xs c) ≡ None → set xs c None ≡ xs
  set_none [] c is = refl
  set_none (x ∷ xs) zero is = ap (λ (y : Option X). y ∷ xs) (sym is)
  set_none (x ∷ xs) (suc c) is = ap (λ ys. x ∷ ys) (set_none xs c is)

does_nothing : (d : Doors) (reading : ℕ) (a : Act) (site : Site) (c : ℕ)
    (seen : Option (Option links.ConnectionState)) (at : Option (Option Connected))
    → Match (IsThere site c) seen at → there seen ≡ None → acted_on d reading a at ≡ None
does_nothing d reading a site c None None matched is = refl
does_nothing d reading a site c None (Some at) matched is = absurd matched
does_nothing d reading a site c (Some None) None matched is = absurd matched
does_nothing d reading a site c (Some None) (Some None) matched is = refl
does_nothing d reading a site c (Some None) (Some (Some l)) matched is = absurd matched
does_nothing d reading a site c (Some (Some v)) at matched is = absurd cc

pub misses : (seen new : DoorsSeen) (d : Doors) (reading : ℕ) (turns : Turns) (asks : Option Act)
    (taken : Option links.ConnectionState) → AreDoors seen d → Match IsAsked (Some turns) asks
    → ((v : links.ConnectionState) → taken ≡ Some v → ⊥)
    → taken ≡ there (slice_get seen.connections turns.c)
    → new ≡ record seen { connections = set seen.connections turns.c None }
    → IsActed None d (acted d reading asks) new
misses seen new d reading turns None taken are asked nobody_out is new_is = absurd asked
misses seen new d reading turns (Some a) taken are asked nobody_out is new_is =
    let none = none_there (slice_get seen.connections turns.c) taken is nobody_out in
    let nothing : acted_on d reading a (slice_get d.connections a.c) ≡ None =
    subst (λ k. acted_on d reading a (slice_get d.connections k) ≡ None) asked.0
    (does_nothing d reading a d.site turns.c (slice_get seen.connections turns.c)
    (slice_get d.connections turns.c) (are.at turns.c) none) in
    rw (nothing, new_is, set_none seen.connections turns.c none) (refl, are)

-- a line that opens no connection
pub no_opening : (d : Doors) (reading : ℕ) (line : ScriptLine) → ((c : ℕ) → line ≡ Open c → ⊥)
    → acted d reading (act_of line) ≡ act d reading line
no_opening d reading (Open c) other = absurd (other c refl)
no_opening d reading line other = refl

-- ---- a door by its number

pub there_at : {X : Type 0} → (xs : List (Option X)) (c : ℕ) (x : Option X) → c < length xs
    → x ≡ get_or xs c x → x ≡ there (slice_get xs c)
there_at xs c x within is = rw (slice_get_read xs (length xs) c x refl within is) refl
