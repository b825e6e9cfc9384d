-- A START of the desk as events, and what lines are altogether.
use Rattle.std.proofs.Common.{◌≡◌, ℕ, zero, suc, ◌<◌, IsFalse, None, List, [], ◌∷◌, ◌++◌}
use Rattle.std.proofs.Common.{length, take, replicate, refl, sym, ap, subst, ◌∙◌, arith}
use Rattle.std.proofs.Common.{Bool, true, not, ◌==◌, append-nil}
use Rattle.std.specs.List.{AllByRecursion}
use Rattle.std.proofs.lemmas.List.{take_all}
use Rattle.std.proofs.Math.Seq.{take-append_seam}
use Rattle.archive_terms.specs.Archive.{Entry}
use Rattle.archive_terms.specs.Selection.{picked, is_stop_closed}
use Rattle.archive_terms.specs.Delivery.{Item, is_online, started, offline_buffers}
use Rattle.archive_terms.specs.Rounds.{outcomes, handed_buffers}
use Rattle.archive_terms.specs.Continuity.{told_buffers}
use Rattle.station_world.specs.Life.{Start, Life, book, Asked, with_start}
use Rattle.station_world.specs.World.{World}
use Rattle.station_world.specs.Calls.{Leads, desk_events, desk_start, with_now}
use Rattle.line_events.specs.Shows.{is_desk, is_users, desk_starts, Told, told_of, IsLasting, HasSeen}
use Rattle.line_events.specs.Shows.{View, resting, Shows}
use Rattle.line_events.specs.Forms.{starts_in, desk_terms, desk_buffers, start_events, desk_told}
use Rattle.line_events.specs.Forms.{with_told, LeadTo, LinesAreEvents, power_events, store_events}
use Rattle.line_events.specs.Forms.{struck_events, failed_events, clock_events, anew, with_entry}
use Rattle.line_events.specs.Forms.{found_with, with_sent, radiate_events}
use Rattle.line_events.specs.Laws.{Laws}
use Rattle.line_events.proofs.Lists.{filter_more, filter_less, told_more, all_and, seen_free}
use Rattle.line_events.proofs.Forms.{at_rest, published_is, power_leads, struck_leads, stores_leads}
use Rattle.line_events.proofs.Forms.{failed_leads, begins_leads, clock_leads, calls_lead}
use Rattle.line_events.proofs.Progress.{progress_leads}
use Rattle.line_events.proofs.Radiating.{radiates_lead}

length_of : (n now : ℕ) → length (replicate n now) ≡ n
length_of zero now = refl
length_of (suc n) now = let rest = length_of n now in omega (arith, rest)

module _ (laws : Laws) (a : Asked) (desk : a.door ≡ 0) (some : 0 < a.size)
    (mode : IsFalse (is_online a.mode)) (p : List Entry) (now : ℕ) where
  -- the START that has made its rounds
  abbrev its : Start
  its = desk_start a (length p) now (length (desk_buffers a p))

  -- its rounds hand these buffers over, whatever was published behind their front
  hands : (more : List Entry)
      → handed_buffers (outcomes (desk_terms a p) (p ++ more) its.rounds started)
      ≡ desk_buffers a p
  hands more =
      let n : ℕ = length (desk_buffers a p) in
      let s = (desk_terms a p).selection in
      let all : List Entry → List (List Item) = λ xs. offline_buffers a.size (picked xs s)
      (is_stop_closed s xs) in
      laws.rounds (desk_terms a p) (p ++ more) (length p) (replicate n now) some mode
      ∙ ap (λ (xs : List Entry). take (length (replicate n now)) (all xs)) (take-append_seam p more)
      ∙ ap (λ k. take k (all p)) (length_of n now)
      ∙ take_all n (all p) (omega arith)

  told_behind : (more : List Entry) → told_of (p ++ more) its ≡ desk_told a p
  told_behind more =
      let s = (desk_terms a p).selection in
      ap (λ (buffers : List (List Item)). record {
        door = a.door;
        terms = desk_terms a p;
        buffers = told_buffers (p ++ more) None buffers;
      }) (hands more)
      ∙ ap (λ buffers. record {
        door = a.door;
        terms = desk_terms a p;
        buffers = buffers;
      }) (laws.told a.size p more s (is_stop_closed s p))

  told_now : told_of p its ≡ desk_told a p
  told_now = ap (λ (xs : List Entry). told_of xs its) (sym (append-nil p)) ∙ told_behind []

  lasts : IsLasting p its
  lasts = λ more. told_behind more ∙ sym told_now

  its_desk : is_desk its ≡ true
  its_desk = ap (λ (door : ℕ). door == 0) desk

  saw : HasSeen p its
  saw = seen_free 0 (length p) (replicate (length (desk_buffers a p)) now) (omega arith)

  desk_leads : (v : View) (w : World) → (shows : Shows v w) → v.published ≡ p
      → v.clock ≡ now
      → LeadTo (resting shows.found shows.kept shows.past shows.life v.clock v.antenna)
      (desk_events a (length shows.life.starts) (length p) now (length (desk_buffers a p)))
      (with_told (desk_told a p) v)
  desk_leads v w shows is clock =
      let l : Life = shows.life in
      let n : ℕ = length (desk_buffers a p) in
      let rests : World = resting shows.found shows.kept shows.past l v.clock v.antenna in
      let published : (book l).published ≡ p = published_is v w shows ∙ is in
      let leads : Leads rests (desk_events a (length l.starts) (length p) now n)
      (with_now rests (with_start l its)) =
      subst (λ (xs : List Entry). Leads rests (desk_events a (length l.starts) (length xs) now n)
      (with_now rests (with_start l (desk_start a (length xs) now n)))) published
      (laws.desk.leads rests l a now n refl some) in (
        leads.0,
        subst (Shows (with_told (desk_told a p) v)) (sym leads.1) (record {
          found = shows.found;
          kept = shows.kept;
          past = shows.past;
          life = with_start l its;
          is = refl;
          acknowledges = shows.acknowledges;
          book_is = shows.book_is;
          one = shows.one;
          told_is =
              told_more shows.past l its its_desk
              ∙ ap (λ (ts : List Told). ts ++ told_of (book l).published its ∷ []) shows.told_is
              ∙ ap (λ (t : Told). v.told ++ t ∷ [])
              (ap (λ (xs : List Entry). told_of xs its) published ∙ told_now);
          lasting = subst (AllByRecursion (IsLasting v.published))
              (sym (filter_more is_desk l.starts its its_desk))
              (all_and (IsLasting v.published) (desk_starts l) its shows.lasting
              (subst (λ (xs : List Entry). IsLasting xs its) (sym is) lasts));
          users_are =
              filter_less is_users l.starts its (ap (λ (b : Bool). not b) its_desk)
              ∙ shows.users_are;
          seen = all_and (HasSeen v.published) l.starts its shows.seen
              (subst (λ (xs : List Entry). HasSeen xs its) (sym is) saw);
        }),
      )

starts_so : (v : View) (w : World) → (shows : Shows v w) → length shows.life.starts ≡ starts_in w
starts_so v w shows = ap starts_in (sym shows.is)

pub lines : Laws → LinesAreEvents
lines laws = record {
  begins = begins_leads;
  stores = λ v w e shows archive follows.
      at_rest v (with_entry e v) w (store_events e) shows
      (stores_leads laws v shows.past shows.life e archive follows shows.book_is
      shows.one shows.told_is shows.lasting shows.users_are shows.seen shows.found shows.kept
      shows.acknowledges);
  struck = λ o v w e has shows follows.
      at_rest v (anew o (found_with has e v) v) w (struck_events o e has) shows
      (struck_leads o v shows.past shows.life shows.told_is shows.found shows.kept e has
      shows.acknowledges follows);
  fails = λ v w e has shows archive follows.
      at_rest v (with_entry e v) w (failed_events e has) shows
      (failed_leads laws v shows.past shows.life e archive follows shows.book_is
      shows.one shows.told_is shows.lasting shows.users_are shows.seen shows.found shows.kept has
      shows.acknowledges);
  power = λ o v w shows.
      at_rest v (anew o v.published v) w (power_events o) shows
      (power_leads o v shows.past shows.life shows.told_is shows.found shows.kept
      shows.acknowledges);
  clock = λ v w moment shows.
      at_rest v (record v { clock = moment }) w (clock_events moment) shows
      (clock_leads v w moment shows);
  book = λ v w h shows none.
      at_rest v _ w _ shows (calls_lead laws.book_calls v w h shows none);
  radiates = λ v w reading run id octets good h shows found none.
      at_rest v (with_sent reading good octets h v) w (radiate_events reading good h) shows
      (radiates_lead v w shows reading run id octets good found laws.book_calls h none);
  progress = λ v w door p shows may. progress_leads v w door p shows may;
  desk = λ v w a shows desk some mode.
      at_rest v (with_told (desk_told a v.published) v) w (start_events a w v.published v.clock)
      shows
      (subst (λ k. LeadTo
      (resting shows.found shows.kept shows.past shows.life v.clock v.antenna)
      (desk_events a k (length v.published) v.clock (length (desk_buffers a v.published)))
      (with_told (desk_told a v.published) v)) (starts_so v w shows)
      (desk_leads laws a desk some mode v.published v.clock v w shows refl refl));
}
