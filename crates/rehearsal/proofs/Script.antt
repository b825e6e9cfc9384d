-- The world behind scripts stores the frames of a rehearsal, and hands over its messages.
use Rattle.std.proofs.Common.{◌≡◌, ℕ, zero, suc, ◌+◌, ◌-◌, ◌*◌, ◌≤◌, ◌<◌, true, false}
use Rattle.std.proofs.Common.{nat_le, nat_lt, None, List, [], ◌∷◌, ◌++◌}
use Rattle.std.proofs.Common.{length}
use Rattle.std.proofs.Common.{unwrap_or, map, refl, sym, ap, ◌∙◌, add-one}
use Rattle.std.proofs.Common.{arith}
use Rattle.std.specs.List.{range_with_len, flat_map, sum_by}
use Rattle.std.proofs.lemmas.Bool.{lt-leb}
use Rattle.std.proofs.lemmas.List.{append-nil}
use Rattle.std.proofs.lemmas.List.FromFn.{length-map-range_with_len}
use Rattle.std.proofs.lemmas.List.FromFn.{sum_by-map-range_with_len_more}
use Rattle.archive_terms.specs.Archive.{Entry, seal, is_valid, is_short, keeps_order}
use Rattle.record_form.specs.Entry.{entry_of}
use Rattle.record_form.specs.declared.entry.Entry as form
use Rattle.record_form.specs.declared.entry.Entry.TheVariants as entries
use Rattle.drill_text.specs.declared.script_line.ScriptLine.{ScriptLine}
use Rattle.drill_text.specs.declared.script_line.ScriptLine.TheVariants.{Offer, Desk}
use Rattle.station_config.specs.declared.site.Site.{Site}
use Rattle.script_store.specs.Store.{Store, blank}
use Rattle.station_uplink.specs.Turns.{silent}
use Rattle.station_law.specs.Doors.{Doors, anew}
use Rattle.station_desk.specs.Start.{moment}
use Rattle.station_law.specs.State.{State, start}
use Rattle.station_desk.specs.ToldBuffer.{ToldBuffer}
use Rattle.script_store.specs.Said.{handed, texts}
use Rattle.script_store.specs.Entries.{need, used, free, stores}
use Rattle.station_law.specs.Lines.{step, recorded, doors_behind}
use Rattle.station_law.specs.Runs.{transcript_from, text_behind, after}
use Rattle.sle_numbers.specs.declared.requested_frame_quality.RequestedFrameQuality.TheVariants.{GoodFramesOnly}
use Rattle.rehearsal.specs.Frames.{time_at, entry_at, frames, archive}
use Rattle.rehearsal.specs.Rehearsal.{told}
use Rattle.rehearsal.specs.Script.{offered_at, line_at, script, capacity, sent, IsOfScript}
use Rattle.rehearsal.proofs.Archives.{time_is, moment_at, frame_valid, seal_valid, frames_follow}
use Rattle.rehearsal.proofs.Archives.{seal_follows, frames-more, frame_short}
use Rattle.rehearsal.proofs.Lengths.{length-frame, length-seal}

-- what is stored where these entries are published, and the world with it
abbrev store_with : List Entry → Store
store_with published =
    record { capacity = capacity; published = published; unsettled = []; order = None }

abbrev world_with : Doors → List Entry → State
world_with d published =
    record { store = store_with published; clock = 0; doors = d; uplink = silent }

-- doors at whose book an entry was published, and so many frames from one on
abbrev with_entry : Doors → Entry → Doors
with_entry d entry = doors_behind false d (entry ∷ []) []

abbrev with_frames : Doors → ℕ → ℕ → Doors
with_frames d i zero = d
with_frames d i (suc k) = with_frames (with_entry d (entry_at i)) (i + 1) k

-- ---- each entry is stored

stored_so : (state : State) (entry : form.Entry) → is_valid (entry_of entry) ≡ true
    → keeps_order state.store.published (entry_of entry) ≡ true
    → is_short (entry_of entry) ≡ true
    → nat_lt (free state.store) (need (entry_of entry)) ≡ false → state.store.order ≡ None
    → step state (Offer entry) ≡ recorded state (stores state.store (entry_of entry))
stored_so state entry valid ordered short enough unordered =
    rw (valid, ordered, short, enough, unordered) refl

sum_frames : (n : ℕ) → sum_by need (frames n) ≡ 1143 * n
sum_frames zero = refl
sum_frames (suc n) =
    let next : need (entry_at n) ≡ 1143 = omega (arith, length-frame n) in
    let more : sum_by need (frames (n + 1)) ≡ sum_by need (frames n) + need (entry_at n) =
    sum_by-map-range_with_len_more need entry_at 0 n n (omega arith) in
    ap (λ k. sum_by need (frames k)) (sym (add-one n))
    ∙ omega (arith, more, next, sum_frames n)

not_below : (a b : ℕ) → a ≤ b → nat_lt b a ≡ false
not_below a b le = grind arith

enough_for : (n wanted : ℕ) → n ≤ 20000 → wanted ≤ 1143
    → nat_lt (free (store_with (frames n))) wanted ≡ false
enough_for n wanted few small =
    let count : length (frames n) ≡ n = length-map-range_with_len entry_at 0 n in
    let below : nat_le 4194304 (length (frames n)) ≡ false =
    lt-leb 4194304 (length (frames n)) (omega (arith, count)) in
    let sum = sum_frames n in
    let left : wanted ≤ 268435456 - used (frames n) = omega (arith, sum) in
    rw below (not_below wanted (268435456 - used (frames n)) left)

module _ (n : ℕ) (few : n ≤ 20000) where
  frame_stored : (d : Doors) (i : ℕ) → i < n
      → step (world_with d (frames i)) (line_at i)
      ≡ recorded (world_with d (frames i)) (stores (store_with (frames i)) (entry_at i))
  frame_stored d i below =
      let small : i < 20000 = omega arith in
      stored_so (world_with d (frames i)) (offered_at i) (frame_valid i small)
      (frames_follow i small) (frame_short i)
      (enough_for i (need (entry_at i)) (omega arith) (omega (arith, length-frame i))) refl

  seal_stored : (d : Doors) (j : ℕ) → j < 20000
      → step (world_with d (frames n)) (Offer (entries.Seal (time_at j)))
      ≡ recorded (world_with d (frames n)) (stores (store_with (frames n)) (seal (time_at j)))
  seal_stored d j small =
      stored_so (world_with d (frames n)) (entries.Seal (time_at j)) (seal_valid j small)
      (seal_follows n j few) refl
      (enough_for n (need (seal (time_at j))) few (omega (arith, length-seal j))) refl

  -- ---- the lines of frames, one after another

  run_text : (d : Doors) (k i number : ℕ) (rest : List ScriptLine) → i + k ≤ n
      → transcript_from step number (world_with d (frames i))
      (map line_at (range_with_len i k) ++ rest)
      ≡ transcript_from step (number + k) (world_with (with_frames d i k) (frames (i + k))) rest
  run_text d zero i number rest within =
      let same : number + 0 ≡ number = omega arith in
      let there : i + 0 ≡ i = omega arith in
      rw (same, there) refl
  run_text d (suc k) i number rest within =
      let later : number + suc k ≡ number + 1 + k = omega arith in
      let there : i + suc k ≡ i + 1 + k = omega arith in
      rw (frame_stored d i (omega arith), ← frames-more i, later, there)
      (run_text (with_entry d (entry_at i)) k (i + 1) (number + 1) rest (omega arith))

  run_after : (d : Doors) (k i : ℕ) (rest : List ScriptLine) → i + k ≤ n
      → after step (world_with d (frames i)) (map line_at (range_with_len i k) ++ rest)
      ≡ after step (world_with (with_frames d i k) (frames (i + k))) rest
  run_after d zero i rest within =
      let there : i + 0 ≡ i = omega arith in
      rw there refl
  run_after d (suc k) i rest within =
      let there : i + 1 + k ≡ i + suc k = omega arith in
      let next = with_entry d (entry_at i) in
      ap (λ answer. after step answer.next (map line_at (range_with_len (i + 1) k) ++ rest))
      (frame_stored d i (omega arith))
      ∙ ap (λ stored. after step (world_with next stored)
      (map line_at (range_with_len (i + 1) k) ++ rest))
      (sym (frames-more i))
      ∙ run_after next k (i + 1) rest (omega arith)
      ∙ ap (λ m. after step (world_with (with_frames next (i + 1) k) (frames m)) rest) there

-- ---- the START

texts_handed : (buffers : List ToldBuffer) → texts (map (handed 0) buffers) ≡ flat_map sent buffers
texts_handed [] = refl
texts_handed (buffer ∷ buffers) = ap (λ rest. sent buffer ++ rest) (texts_handed buffers)

in_order : (n : ℕ) → n ≤ 20000 → nat_lt (moment (time_at (n - 1))) (moment (time_at 0)) ≡ false
in_order n few =
    let last : moment (time_at (n - 1)) ≡ moment_at (n - 1) =
    ap (λ t. unwrap_or t 0) (time_is (n - 1) (omega arith)) in
    not_below (moment (time_at 0)) (moment (time_at (n - 1))) (omega (arith, last))

-- the lines behind those of the frames
abbrev behind : ℕ → List ScriptLine
behind n =
    Offer (entries.Seal (time_at (n - 1))) ∷ Desk (time_at 0) (time_at (n - 1)) GoodFramesOnly ∷ []

start_text : (d : Doors) (n number : ℕ) → n ≤ 20000
    → transcript_from step number (world_with d (archive n))
    (Desk (time_at 0) (time_at (n - 1)) GoodFramesOnly ∷ [])
    ≡ flat_map sent (told n)
start_text d n number few = rw (in_order n few) (append-nil (texts (map (handed 0) (told n)))
    ∙ texts_handed (told n))

-- the world of a site begins with no entries
at_first : (site : Site) → site.capacity ≡ capacity
    → start site ≡ world_with (anew site []) (frames 0)
at_first site is =
    ap (λ n. record {
      store = blank n;
      clock = 0;
      doors = anew site [];
      uplink = silent;
    }) is

module _ (n : ℕ) (some : 1 ≤ n) (few : n ≤ 20000) (site : Site)
    (is : site.capacity ≡ capacity) where
  abbrev small : n - 1 < 20000
  small = omega arith

  abbrev all : 0 + n ≡ n
  all = omega arith

  -- the doors behind the frames, and behind the seal
  abbrev framed : Doors
  framed = with_frames (anew site []) 0 n

  abbrev sealed : Doors
  sealed = with_entry framed (seal (time_at (n - 1)))

  abbrev start_line : List ScriptLine
  start_line = Desk (time_at 0) (time_at (n - 1)) GoodFramesOnly ∷ []

  stored_all : (after step (start site) (script n)).store.published ≡ archive n
  stored_all =
      ap (λ s. s.store.published)
      (ap (λ first. after step first (script n)) (at_first site is)
      ∙ run_after n few (anew site []) n 0 (behind n) (omega arith)
      ∙ ap (λ k. after step (world_with framed (frames k)) (behind n)) all
      ∙ ap (λ answer. after step answer.next start_line)
      (seal_stored n few framed (n - 1) small))

  all_text : transcript_from step 1 (start site) (script n) ≡ flat_map sent (told n)
  all_text =
      ap (λ first. transcript_from step 1 first (script n)) (at_first site is)
      ∙ run_text n few (anew site []) n 0 1 (behind n) (omega arith)
      ∙ ap (λ k. transcript_from step (1 + n) (world_with framed (frames k)) (behind n)) all
      ∙ ap (λ answer. texts answer.said ++ text_behind answer.done (1 + n)
      (transcript_from step (1 + n + 1) answer.next start_line))
      (seal_stored n few framed (n - 1) small)
      ∙ start_text sealed n (1 + n + 1) few

pub of_script : (n : ℕ) → 1 ≤ n → n ≤ 20000 → IsOfScript n
of_script n some few = record {
  stored = λ site is. stored_all n some few site is;
  transcript = λ site is. all_text n some few site is;
}
