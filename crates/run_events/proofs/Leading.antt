-- What a recorder's stores lead to: events of the file alone.
use Rattle.std.proofs.Common.{◌≡◌, true, false, IsTrue, List, [], ◌∷◌, ◌++◌, map, refl}
use Rattle.std.proofs.Common.{sym, ap, subst, ◌∙◌, append_assoc, append-nil}
use Rattle.std.proofs.lemmas.Bool.{and_parts}
use Rattle.archive_terms.specs.Archive.{Entry, is_archive, IsArchive, may_follow}
use Rattle.station_world.specs.File.{File, settled, broken_off, with_batch}
use Rattle.station_world.specs.File.{without_batch, refused}
use Rattle.station_world.specs.World.{World, Event, offers, begins_store, ends_store, reopens}
use Rattle.station_world.specs.World.{after_event, with_file}
use Rattle.station_world.specs.Comes.{IsUp}
use Rattle.station_world.specs.Calls.{Leads}
use Rattle.station_world.proofs.Lists.{Grows, front_archive}
use Rattle.run_events.specs.Stores.{stored_once, store_failed, Way, at_once, landed, once_more}
use Rattle.run_events.specs.Stores.{store_events, Tail, nothing, taken, left_broken, not_opened}
use Rattle.run_events.specs.Stores.{lost_then_taken, lost_then_failed, unpublished, tail_events}

pub leads_on : (w : World) (xs : List Event) (v : World) (ys : List Event) (u : World)
    → Leads w xs v → Leads v ys u → Leads w (xs ++ ys) u
leads_on w [] v ys u first second =
    subst (λ (x : World). Leads x ys u) (sym first.1) second
leads_on w (e ∷ xs) v ys u first second =
    let rest = leads_on (after_event w e) xs v ys u (first.0.1, first.1) second in
    ((first.0.0, rest.0), rest.1)

-- ---- files

-- nothing waits, and no store stands open
abbrev pub at_rest : List Entry → List Entry → File
at_rest found kept = record { found = found; kept = kept; waiting = []; phase = settled }

-- these wait
abbrev pub waiting_in : List Entry → List Entry → List Entry → File
waiting_in found kept waiting =
    record { found = found; kept = kept; waiting = waiting; phase = settled }

-- a store of what waits failed
abbrev pub broken_in : List Entry → List Entry → List Entry → File
broken_in found kept batch =
    record { found = found; kept = kept; waiting = batch; phase = broken_off batch }

-- what a tail leaves of a file that rested
abbrev pub tail_file : List Entry → List Entry → Tail → File
tail_file found kept nothing = at_rest found kept
tail_file found kept (taken entries) = waiting_in found kept entries
tail_file found kept (left_broken entries) = broken_in found kept entries
tail_file found kept (not_opened entries) = broken_in found kept entries
tail_file found kept (lost_then_taken lost again) = waiting_in found (kept ++ []) again
tail_file found kept (lost_then_failed lost again) = broken_in found (kept ++ []) again
tail_file found kept (unpublished way entries) = at_rest found (kept ++ entries)

-- what is stored in a tail is an archive behind others
abbrev pub TailFollows : List Entry → Tail → Type 0
TailFollows had nothing = Unit {0}
TailFollows had (taken entries) = IsArchive (had ++ entries)
TailFollows had (left_broken entries) = IsArchive (had ++ entries)
TailFollows had (not_opened entries) = IsArchive (had ++ entries)
TailFollows had (lost_then_taken lost again) = IsArchive (had ++ lost) × IsArchive (had ++ again)
TailFollows had (lost_then_failed lost again) = IsArchive (had ++ lost) × IsArchive (had ++ again)
TailFollows had (unpublished way entries) = IsArchive (had ++ entries)

-- ---- stores

module _ (grows : Grows) (w : World) (up : IsUp w) (found : List Entry) where
  abbrev at : File → World
  at f = with_file w f

  abbrev To : File → List Event → File → Type 0
  To f events g = Leads (at f) events (at g)

  then_to : (f g h : File) (xs ys : List Event) → To f xs g → To g ys h → To f (xs ++ ys) h
  then_to f g h xs ys first second = leads_on (at f) xs (at g) ys (at h) first second

  -- the next one of an archive may follow what stands before it
  may_come : (a b : List Entry) (e : Entry) → IsArchive (a ++ e ∷ b)
      → IsTrue (may_follow a e)
  may_come a b e archive =
      let one : IsArchive (a ++ e ∷ []) =
      front_archive grows (a ++ e ∷ []) b
      (subst IsArchive (sym (append_assoc a (e ∷ []) b)) archive) in
      (and_parts (is_archive a) (may_follow a e) (subst IsTrue (grows a e) one)).1

  offers_lead : (kept xs ys : List Entry) → IsArchive ((found ++ kept) ++ (xs ++ ys))
      → To (waiting_in found kept xs) (map offers ys) (waiting_in found kept (xs ++ ys))
  offers_lead kept xs [] archive =
      (tt, ap (λ (zs : List Entry). at (waiting_in found kept zs)) (sym (append-nil xs)))
  offers_lead kept xs (y ∷ ys) archive =
      let had : List Entry = found ++ kept in
      let whole : (xs ++ y ∷ []) ++ ys ≡ xs ++ y ∷ ys = append_assoc xs (y ∷ []) ys in
      let rest = offers_lead kept (xs ++ y ∷ []) ys
      (subst (λ (zs : List Entry). IsArchive (had ++ zs)) (sym whole) archive) in (
        (
          (
            refl,
            may_come (had ++ xs) ys y
                (subst IsArchive (sym (append_assoc had xs (y ∷ ys))) archive),
            up,
          ),
          rest.0,
        ),
        rest.1 ∙ ap (λ (zs : List Entry). at (waiting_in found kept zs)) whole,
      )

  once_leads : (kept xs : List Entry) → IsArchive ((found ++ kept) ++ xs)
      → To (at_rest found kept) (stored_once xs) (at_rest found (kept ++ xs))
  once_leads kept xs archive =
      then_to (at_rest found kept) (waiting_in found kept xs) (at_rest found (kept ++ xs))
      (map offers xs) (begins_store ∷ ends_store true ∷ []) (offers_lead kept [] xs archive)
      (((refl, up), ((refl, up), tt)), refl)

  failed_leads : (kept xs : List Entry) → IsArchive ((found ++ kept) ++ xs)
      → To (at_rest found kept) (store_failed xs) (broken_in found kept xs)
  failed_leads kept xs archive =
      then_to (at_rest found kept) (waiting_in found kept xs) (broken_in found kept xs)
      (map offers xs) (begins_store ∷ ends_store false ∷ []) (offers_lead kept [] xs archive)
      (((refl, up), ((refl, up), tt)), refl)

  -- the file hadn't what was lost
  lost_leads : (kept xs : List Entry) (events : List Event) (f : File)
      → IsArchive ((found ++ kept) ++ xs) → To (at_rest found (kept ++ [])) events f
      → To (at_rest found kept) (store_failed xs ++ reopens without_batch ∷ events) f
  lost_leads kept xs events f archive rest =
      then_to (at_rest found kept) (broken_in found kept xs) f (store_failed xs)
      (reopens without_batch ∷ events) (failed_leads kept xs archive)
      (((refl, up), rest.0), rest.1)

  -- nothing more is kept
  with_none : (kept xs : List Entry) → IsArchive ((found ++ kept) ++ xs)
      → IsArchive ((found ++ (kept ++ [])) ++ xs)
  with_none kept xs archive =
      subst (λ (ks : List Entry). IsArchive ((found ++ ks) ++ xs)) (sym (append-nil kept)) archive

  pub way_leads : (way : Way) (kept xs : List Entry) → IsArchive ((found ++ kept) ++ xs)
      → To (at_rest found kept) (store_events way xs) (at_rest found (kept ++ xs))
  way_leads at_once kept xs archive = once_leads kept xs archive
  way_leads landed kept xs archive =
      then_to (at_rest found kept) (broken_in found kept xs) (at_rest found (kept ++ xs))
      (store_failed xs) (reopens with_batch ∷ []) (failed_leads kept xs archive)
      (((refl, up), tt), refl)
  way_leads once_more kept xs archive =
      subst (λ (ks : List Entry).
      To (at_rest found kept) (store_events once_more xs) (at_rest found (ks ++ xs)))
      (append-nil kept)
      (lost_leads kept xs (stored_once xs) (at_rest found ((kept ++ []) ++ xs)) archive
      (once_leads (kept ++ []) xs (with_none kept xs archive)))

  pub tail_leads : (tail : Tail) (kept : List Entry) → TailFollows (found ++ kept) tail
      → To (at_rest found kept) (tail_events tail) (tail_file found kept tail)
  tail_leads nothing kept follows = (tt, refl)
  tail_leads (taken xs) kept follows = offers_lead kept [] xs follows
  tail_leads (left_broken xs) kept follows = failed_leads kept xs follows
  tail_leads (not_opened xs) kept follows =
      then_to (at_rest found kept) (broken_in found kept xs) (broken_in found kept xs)
      (store_failed xs) (reopens refused ∷ []) (failed_leads kept xs follows)
      (((refl, up), tt), refl)
  tail_leads (lost_then_taken lost again) kept follows =
      lost_leads kept lost (map offers again) (waiting_in found (kept ++ []) again) follows.0
      (offers_lead (kept ++ []) [] again (with_none kept again follows.1))
  tail_leads (lost_then_failed lost again) kept follows =
      lost_leads kept lost (store_failed again) (broken_in found (kept ++ []) again) follows.0
      (failed_leads (kept ++ []) again (with_none kept again follows.1))
  tail_leads (unpublished way xs) kept follows = way_leads way kept xs follows
