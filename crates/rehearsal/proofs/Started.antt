-- What is counted of a START, buffer by buffer.
use Rattle.std.proofs.Common.{◌≡◌, ℕ, ◌+◌, ◌-◌, ◌*◌, ◌<◌, ◌≤◌, Bool, true, false, cond, nat_lt}
use Rattle.std.proofs.Common.{List, [], ◌∷◌, ◌++◌, length, map, take, get_or, refl, sym, ap, subst}
use Rattle.std.proofs.Common.{◌∙◌, arith}
use Rattle.std.proofs.lemmas.List.{take_more, length-map}
use Rattle.std.proofs.lemmas.List.Sums.{count_by-le-length}
use Rattle.std.proofs.lemmas.Bool.Decides.{nat_tests}
use Rattle.std.specs.List.{count_by, list_any}
use Rattle.sha1.specs.Sha1.{Holds}
use Rattle.frame_select.specs.declared.item.Item.{Item}
use Rattle.frame_select.specs.Item.{items_of, item_of, said_of}
use Rattle.station_desk.specs.declared.limits.TheConstants.{BUFFER_ITEMS}
use Rattle.station_desk.specs.ToldBuffer.{ToldBuffer, message_octets}
use Rattle.station_desk.specs.Cursor.{Cursor, at_next, current}
use Rattle.rehearsal.specs.declared.tally.Tally.{Tally}
use Rattle.rehearsal.specs.Counts.{Counts, tells_frame, tells_end}
use Rattle.rehearsal.proofs.Tallies.{count_said, any_said, said_frame, said_end, counts_more}
use Rattle.rehearsal.proofs.Tallies.{frames_in, has_frame, ends_in}

-- the buffers so far are counted
pub record HasCounted (told : List ToldBuffer) (cursor : Cursor) (tally : Tally) : Type 0 where
  pub of_told : cursor.buffers ≡ told
  pub within : cursor.count ≤ length told
  pub counts : Counts tally (take cursor.count told)
  pub frames : tally.frames ≤ BUFFER_ITEMS * cursor.count
  pub buffers : tally.buffers ≤ cursor.count
  pub ends : tally.ends ≤ BUFFER_ITEMS * cursor.count

at_most_one : (b : Bool) → cond b 1 0 ≤ 1
at_most_one true = omega arith
at_most_one false = omega arith

few_of : (test : _) (items : List Item) → length items ≤ BUFFER_ITEMS
    → count_by test (items_of items) ≤ BUFFER_ITEMS
few_of test items few = omega (
  arith,
  count_by-le-length test (items_of items),
  length-map items item_of,
  few,
)

-- where a next one is found, it is the one behind those so far
pub next_count : (told : List ToldBuffer) (old new : Cursor) → old.buffers ≡ told → new
    ≡ at_next old → new.has_current ≡ true
    → (new.buffers ≡ told) × (new.count ≡ old.count + 1) × (old.count < length told)
next_count told old new is next has =
    let more : nat_lt old.count (length old.buffers) ≡ true =
    sym (ap (λ (c : Cursor). c.has_current) next) ∙ has in
    let count : new.count ≡ cond (nat_lt old.count (length old.buffers)) (old.count + 1) old.count =
    ap (λ (c : Cursor). c.count) next in
    let same : length old.buffers ≡ length told = ap length is in (
      ap (λ (c : Cursor). c.buffers) next ∙ is,
      count ∙ rw more refl,
      grind (arith, nat_tests),
    )

pub counted_more : (told : List ToldBuffer) (old new : Cursor) (before after : Tally)
    (items : List Item) (message : List ℕ) → HasCounted told old before → new ≡ at_next old
    → new.has_current ≡ true → items_of items ≡ map said_of (current new)
    → length items ≤ BUFFER_ITEMS
    → message ≡ message_octets (current new)
    → after.frames ≡ before.frames + count_by tells_frame (items_of items)
    → after.buffers ≡ before.buffers + cond (list_any tells_frame (items_of items)) 1 0
    → after.ends ≡ before.ends + count_by tells_end (items_of items)
    → ((octets : List ℕ) → Holds before.hasher octets → Holds after.hasher (octets ++ message))
    → HasCounted told new after
counted_more told old new before after items message counted next has said few sent frames buffers
    ends hashed =
    let is = next_count told old new counted.of_told next has in
    let place : new.count - 1 ≡ old.count = omega (arith, is.1) in
    let here : current new ≡ get_or told old.count [] =
    ap (λ (bs : List ToldBuffer). get_or bs (new.count - 1) []) is.0
    ∙ ap (λ (i : ℕ). get_or told i []) place in
    let buffer : ToldBuffer = get_or told old.count [] in
    let same : items_of items ≡ map said_of buffer = said ∙ ap (map said_of) here in
    let more : take new.count told ≡ take old.count told ++ buffer ∷ [] =
    ap (λ (n : ℕ). take n told) is.1 ∙ take_more told old.count [] is.2 in
    let f : count_by tells_frame (items_of items) ≡ frames_in buffer =
    ap (count_by tells_frame) same ∙ count_said tells_frame said_frame buffer in
    let b : cond (list_any tells_frame (items_of items)) 1 0 ≡ has_frame buffer =
    ap (λ (xs : ToldBuffer). cond {A = ℕ} (list_any tells_frame xs) 1 0) same
    ∙ ap (λ (x : Bool). cond {A = ℕ} x 1 0) (any_said buffer) in
    let e : count_by tells_end (items_of items) ≡ ends_in buffer =
    ap (count_by tells_end) same ∙ count_said tells_end said_end buffer in
    record {
      of_told = is.0;
      within = omega (arith, is.1, is.2);
      counts = subst (Counts after) (sym more)
          (counts_more before after (take old.count told) buffer counted.counts
          (frames ∙ ap (λ (n : ℕ). before.frames + n) f)
          (buffers ∙ ap (λ (n : ℕ). before.buffers + n) b)
          (ends ∙ ap (λ (n : ℕ). before.ends + n) e)
          (λ octets holds. subst (λ (m : List ℕ). Holds after.hasher (octets ++ m))
          (sent ∙ ap message_octets here) (hashed octets holds)));
      frames = omega (arith, frames, few_of tells_frame items few, counted.frames, is.1);
      buffers = omega (
        arith,
        buffers,
        at_most_one (list_any tells_frame (items_of items)),
        counted.buffers,
        is.1,
      );
      ends = omega (arith, ends, few_of tells_end items few, counted.ends, is.1);
    }
