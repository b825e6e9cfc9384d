-- An offline delivery whose link takes each offer hands over the buffers of its START one by one.
use Rattle.std.proofs.Common.{◌≡◌, ℕ, zero, suc, ◌+◌, ◌<◌, ◌≤◌, Bool, true, false, IsFalse}
use Rattle.std.proofs.Common.{Option, None, List, [], ◌∷◌, ◌++◌, length, map}
use Rattle.std.proofs.Common.{take, replicate, refl, ap, ◌∙◌, arith}
use Rattle.std.proofs.Math.Seq.{take-length}
use Rattle.std.proofs.lemmas.List.{append-nil, length-take, length-map, length-replicate}
use Rattle.std.proofs.lemmas.List.{map-append, length-append, replicate_more, take_all}
use Rattle.std.proofs.lemmas.List.Elements.{filter_map-append}
use Rattle.std.proofs.lemmas.List.FromFn.{length-enumerate_from}
use Rattle.std.proofs.lemmas.List.Sums.{length-filter, count_by-le-length}
use Rattle.std.specs.List.{flat_map, enumerate_from}
use Rattle.std.specs.Option.{option_or}
use Rattle.archive_terms.specs.Archive.{Entry}
use Rattle.archive_terms.specs.Selection.{Selection, picked, is_picked, is_stop_closed}
use Rattle.archive_terms.specs.Delivery.{Item, archived, archived_items, end_of_data, Terms}
use Rattle.archive_terms.specs.Delivery.{Delivery, is_online, is_complete, buffer, started}
use Rattle.archive_terms.specs.Delivery.{cut_onto, cut, offline_buffers}
use Rattle.archive_terms.specs.Rounds.{free_round, picked_at}
use Rattle.archive_terms.specs.Rounds.{ends_run, outcome, outcomes, after_round, after_rounds}
use Rattle.archive_terms.specs.Rounds.{handed_buffer, handed_buffers, last_front}
use Rattle.archive_terms.specs.Continuity.{frame_place, last_frame, told_items, told_buffers}
use Rattle.return_core.specs.Standing.{at_front, handed_over, due_told}
use Rattle.station_desk.specs.ToldBuffer.{ToldBuffer}
use Rattle.station_desk.specs.Cursor.{rounds}

pub rounds-more : (front n : ℕ) → rounds front n ++ free_round front 0 ∷ [] ≡ rounds front (n + 1)
rounds-more front n = cc (
  map-append (free_round front) (replicate n 0) (0 ∷ []),
  replicate_more {X = ℕ} n 0,
)

pub last_front-rounds : (first front n : ℕ) → first ≤ front
    → last_front first (rounds front n) ≤ front
last_front-rounds first front zero within = within
last_front-rounds first front (suc n) within = last_front-rounds front front n (omega arith)

-- ---- how many buffers there are

few_cut : (size : ℕ) (items held : List Item)
    → length (cut_onto size items held) ≤ length items + length held
few_cut size [] [] = omega arith
few_cut size [] (item ∷ held) = omega arith
few_cut size (item ∷ items) held = grind (
  arith,
  length-append held (item ∷ []),
  few_cut size items [],
  few_cut size items (held ++ item ∷ []),
)

-- ---- buffers as they are told, one more

last_frame-append : (before : Option ℕ) (xs ys : List Item)
    → last_frame before (xs ++ ys) ≡ last_frame (last_frame before xs) ys
last_frame-append before [] ys = refl
last_frame-append before (x ∷ xs) ys = last_frame-append (option_or (frame_place x) before) xs ys

told-more : (entries : List Entry) (before : Option ℕ) (buffers : List (List Item))
    (buffer : List Item)
    → told_buffers entries before (buffers ++ buffer ∷ [])
    ≡ told_buffers entries before buffers
    ++ told_items entries (last_frame before (flat_map (λ b. b) buffers)) buffer ∷ []
told-more entries before [] buffer = refl
told-more entries before (first ∷ buffers) buffer = cc (
  told-more entries (last_frame before first) buffers buffer,
  last_frame-append before first (flat_map (λ b. b) buffers),
)

take-told : (entries : List Entry) (before : Option ℕ) (n : ℕ) (buffers : List (List Item))
    → take n (told_buffers entries before buffers) ≡ told_buffers entries before (take n buffers)
take-told entries before (suc n) (buffer ∷ buffers) =
    cc (take-told entries (last_frame before buffer) n buffers)
take-told entries before _ _ = refl

told-next : (entries : List Entry) (n : ℕ) (buffers done : List (List Item)) (buffer : List Item)
    → take (n + 1) buffers ≡ take n buffers ++ buffer ∷ [] → done ≡ take n buffers
    → take (n + 1) (told_buffers entries None buffers) ≡ take n (told_buffers entries None buffers)
    ++ told_items entries (last_frame None (flat_map (λ b. b) done)) buffer ∷ []
told-next entries n buffers done buffer next all = cc (
  take-told entries None (n + 1) buffers,
  take-told entries None n buffers,
  told-more entries None done buffer,
)

length-told : (entries : List Entry) (before : Option ℕ) (buffers : List (List Item))
    → length (told_buffers entries before buffers) ≡ length buffers
length-told entries before [] = refl
length-told entries before (buffer ∷ buffers) =
    ap suc (length-told entries (last_frame before buffer) buffers)

-- as many as they are
pub few_told : (size : ℕ) (entries : List Entry) (s : Selection) (closed : Bool)
    → length (told_buffers entries None (offline_buffers size (picked entries s) closed))
    ≤ length entries + 1
few_told size entries s closed =
    let test = λ (x : ℕ × Entry). is_picked s entries x.0 x.1 in
    let buffers = cut size (archived_items (picked entries s)) in
    grind (
      arith,
      length-filter test (enumerate_from 0 entries),
      count_by-le-length test (enumerate_from 0 entries),
      length-enumerate_from 0 entries,
      length-map (picked entries s) (λ x. archived x.0 x.1),
      few_cut size (archived_items (picked entries s)) [],
      length-append buffers ((end_of_data ∷ []) ∷ []),
      length-filter (is_complete size) buffers,
      count_by-le-length (is_complete size) buffers,
      length-told entries None (offline_buffers size (picked entries s) closed),
    )

-- ---- one round more

module _ (t : Terms) (entries : List Entry) where
  goes_on : (front now : ℕ) (d : Delivery) → ends_run t entries (free_round front now) d ≡ false
  goes_on front now d = grind arith

  outcomes-more : (front now : ℕ) (moments : List ℕ) (d : Delivery)
      → outcomes t entries (map (free_round front) moments ++ free_round front now ∷ []) d
      ≡ outcomes t entries (map (free_round front) moments) d
      ++ outcome t entries (free_round front now)
      (after_rounds t entries (map (free_round front) moments) d) ∷ []
  outcomes-more front now [] d = rw (goes_on front now d) refl
  outcomes-more front now (moment ∷ moments) d =
      rw (goes_on front moment d) (ap (λ os. outcome t entries (free_round front moment) d ∷ os)
      (outcomes-more front now moments (after_round t entries (free_round front moment) d)))

-- what offline deliveries hand over round after round
abbrev pub OfflineRounds : Type 0
OfflineRounds =
    (t : Terms) (entries : List Entry) (front : ℕ) (moments : List ℕ) → 0 < t.size
    → IsFalse (is_online t.mode)
    → handed_buffers (outcomes t entries (map (free_round front) moments) started)
    ≡ take (length moments)
    (offline_buffers t.size (picked_at t entries front)
    (is_stop_closed t.selection (take front entries)))

module _ (law : OfflineRounds) (t : Terms) (entries : List Entry) (some : 0 < t.size)
    (offline : IsFalse (is_online t.mode)) where
  buffers : List (List Item)
  buffers = offline_buffers t.size (picked entries t.selection)
      (is_stop_closed t.selection entries)

  handed : (n : ℕ) → handed_over t entries (rounds (length entries) n) ≡ take n buffers
  unfolding buffers
  handed n = simp (length-replicate, take-length)
      at (law t entries (length entries) (replicate n 0) some offline)

  one_more : (n : ℕ) → take (n + 1) buffers ≡ take n buffers
      ++ handed_buffers (outcome t entries (free_round (length entries) 0)
      (after_rounds t entries (rounds (length entries) n) started) ∷ [])
  one_more n =
      let rounds = rounds (length entries) n in
      let last = outcome t entries (free_round (length entries) 0)
      (after_rounds t entries rounds started) in
      cc (
        handed n,
        handed (n + 1),
        rounds-more (length entries) n,
        outcomes-more t entries (length entries) 0 (replicate n 0) started,
        filter_map-append handed_buffer (outcomes t entries rounds started) (last ∷ []),
      )

  -- as they are told
  abbrev pub told_all : List ToldBuffer
  told_all = told_buffers entries None (offline_buffers t.size (picked entries t.selection)
      (is_stop_closed t.selection entries))

  -- a buffer that is due is the next one
  pub next_told : (n : ℕ)
      → (at_front t entries (rounds (length entries) n) (length entries) 0).fixed ≡ true
      → take (n + 1) told_all ≡ take n told_all
      ++ due_told t entries (rounds (length entries) n) (length entries) 0 ∷ []
  unfolding buffers
  next_told n fixed = told-next entries n buffers _ _ (rw fixed at (one_more n)) (handed n)

  -- where none is due all were handed over
  pub all_told : (n : ℕ)
      → (at_front t entries (rounds (length entries) n) (length entries) 0).fixed ≡ false
      → take n told_all ≡ told_all
  unfolding buffers
  all_told n none =
      let same : take (n + 1) buffers ≡ take n buffers =
      rw none at (one_more n) ∙ append-nil (take n buffers) in
      take_all n told_all (omega (
        arith,
        ap length same,
        length-take (n + 1) buffers,
        length-take n buffers,
        length-told entries None buffers,
      ))
