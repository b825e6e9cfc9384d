-- What an offer needs: tests that came out so, and what waits with one entry more.
use Rattle.std.proofs.Common.{◌≡◌, ℕ, ◌+◌, ◌-◌, ◌≤◌, ◌<◌, nat_le, nat_lt, IfSome, take}
use Rattle.std.proofs.Common.{Bool, true, false, not, ◌&&◌, Option, Some, None, List, [], ◌∷◌, ◌++◌}
use Rattle.std.proofs.Common.{length, IsTrue, if◌then◌else◌, refl, sym, ap, subst, ◌∙◌}
use Rattle.std.proofs.Common.{append_assoc, arith, length-append}
use Rattle.std.specs.List.{list_all}
use Rattle.std.proofs.lemmas.Bool.Decides.{nat_tests}
use Rattle.std.proofs.lemmas.List.{take-append-le}
use Rattle.std.proofs.lemmas.List.Folds.{list_all-append}
use Rattle.std.proofs.lemmas.List.Concat.{flat_map-append}
use Rattle.archive_terms.specs.Archive.{Entry, IsArchive, is_archive, is_valid, is_short}
use Rattle.archive_terms.specs.Archive.{is_storable, may_follow, is_in_order, last_time, frame_time}
use Rattle.archive_terms.specs.Archive.{seal_time, frame, loss_of_sync, production, seal}
use Rattle.record_form.specs.Spelling.{entry_octets}
use Rattle.gate_journal.specs.File.{entries_octets}
use Rattle.gate_journal.specs.declared.order.Times.{Times}
use Rattle.disk_model.specs.Images.{Pending}
use Rattle.gate_journal.specs.JournalState.{JournalState, Keeps, IsOldOrNew}
use Rattle.frame_archive.specs.State.{ArchiveState, times_of, times_after, wanted}
use Rattle.frame_archive.specs.State.{need}
use Rattle.frame_archive.specs.Acknowledges.{Agrees, Acknowledges, IsPlaced, IsSound}
use Rattle.frame_archive.proofs.LastTimes.{times_of-push}

-- what follows from a refusal that didn't come
pub record Passes (ordered short full no_room : Bool) : Type 0 where
  pub in_order : ordered ≡ true
  pub is_short : short ≡ true
  pub is_open : full ≡ false
  pub has_room : no_room ≡ false

pub passes : {T : Type 0} (ordered short full no_room : Bool) (a b c d : T)
    → (if not ordered then Some a else if not short then Some b else if full then Some c
    else if no_room then Some d else None) ≡ None
    → Passes ordered short full no_room
passes true true false false a b c d none = record {
  in_order = refl;
  is_short = refl;
  is_open = refl;
  has_room = refl;
}
passes false short full no_room a b c d none = absurd (cc)
passes true false full no_room a b c d none = absurd (cc)
passes true true true no_room a b c d none = absurd (cc)
passes true true false true a b c d none = absurd (cc)

-- the octets that waiting entries want grow by what an entry needs
octets-push : (entries : List Entry) (e : Entry)
    → length (entries_octets (entries ++ e ∷ []))
    ≡ length (entries_octets entries) + length (entry_octets e)
octets-push entries e =
    ap length (flat_map-append entry_octets entries (e ∷ []))
    ∙ length-append (entries_octets entries) (entries_octets (e ∷ []))
    ∙ ap (λ (n : ℕ). length (entries_octets entries) + n) (length-append (entry_octets e) []
    ∙ omega arith)

pub wanted-push : (waiting : List Entry) (e : Entry)
    → wanted (waiting ++ e ∷ []) ≡ wanted waiting + need waiting e
wanted-push [] e = let same = octets-push [] e in omega arith
wanted-push (first ∷ others) e = let same = octets-push (first ∷ others) e in omega arith

both : (a b : Bool) → a ≡ true → b ≡ true → (a && b) ≡ true
both true true p q = refl
both false b p q = absurd (cc)
both true false p q = absurd (cc)

pub storable : (e : Entry) → IsTrue (is_valid e) → is_short e ≡ true → is_storable e ≡ true
storable e valid short = both (is_valid e) (is_short e) valid short

pub storable-push : (waiting : List Entry) (e : Entry) → IsTrue (list_all is_storable waiting)
    → is_storable e ≡ true → IsTrue (list_all is_storable (waiting ++ e ∷ []))
storable-push waiting e all one =
    list_all-append is_storable waiting (e ∷ [])
    ∙ both (list_all is_storable waiting) (list_all is_storable (e ∷ [])) all
    (both (is_storable e) true one refl)

module _ (grows : (a : List Entry) (e : Entry)
    → is_archive (a ++ e ∷ []) ≡ (is_archive a && may_follow a e))
    (follows : (a : List Entry) (e : Entry) → IsArchive a
    → let last_frame = last_time frame_time None a in let last_seal = last_time seal_time None a in
    may_follow a e ≡ (is_storable e && is_in_order last_frame last_seal e)) where
  pub agrees-push : (entries waiting : List Entry) (count : ℕ) (times : Times) (e : Entry)
      → is_storable e ≡ true → is_in_order times.frame times.seal e ≡ true
      → Agrees entries count times waiting
      → Agrees entries count (times_after times e) (waiting ++ e ∷ [])
  agrees-push entries waiting count times e storable in_order agrees =
      let all = entries ++ waiting in
      let behind : all ++ e ∷ [] ≡ entries ++ (waiting ++ e ∷ []) =
      append_assoc entries waiting (e ∷ []) in
      let ordered : is_in_order (times_of all).frame (times_of all).seal e ≡ true =
      subst (λ (t : Times). is_in_order t.frame t.seal e ≡ true) agrees.last in_order in
      let archive : is_archive (all ++ e ∷ []) ≡ true =
      grows all e ∙ both (is_archive all) (may_follow all e) agrees.archive
      (follows all e agrees.archive ∙ both (is_storable e) _ storable ordered) in
      record {
        counted = agrees.counted;
        archive = subst IsArchive behind archive;
        last = ap (λ (t : Times). times_after t e) agrees.last ∙ sym (times_of-push all e)
            ∙ ap times_of behind;
      }

-- an entry wants some octets
some_octets : (e : Entry) → 1 ≤ length (entry_octets e)
some_octets (frame f) = omega arith
some_octets (loss_of_sync l) = omega arith
some_octets (production status) = omega arith
some_octets (seal at) = omega arith

need_some : (waiting : List Entry) (e : Entry) → 1 ≤ need waiting e
need_some [] e = omega arith
need_some (first ∷ others) e = some_octets e

room_in : (b : Bool) (total room n : ℕ) → b ≡ nat_le 4194304 total → 1 ≤ n
    → nat_lt (if b then 0 else room) n ≡ false → (n ≤ room) × (total < 4194304)
room_in true total room n is some fits = absurd (grind (arith, nat_tests))
room_in false total room n is some fits = (grind (arith, nat_tests), grind (arith, nat_tests))

-- the tests of an offer that is taken
abbrev pub Taken : ℕ → ℕ → ℕ → Times → List Entry → Entry → Type 0
Taken capacity count used times waiting e =
    Passes (is_in_order times.frame times.seal e) (is_short e) (nat_le 256 (length waiting))
    (nat_lt (if nat_le 4194304 (count + length waiting) then 0
    else capacity - used - wanted waiting) (need waiting e))

-- there is room for it
pub record HasRoom (capacity count used : ℕ) (waiting : List Entry) (e : Entry) : Type 0 where
  pub octets : used + (wanted waiting + need waiting e) ≤ capacity
  pub entries : count + length waiting < 4194304
  pub batch : length waiting < 256

pub has_room : (capacity count used : ℕ) (times : Times) (waiting : List Entry) (e : Entry)
    → Taken capacity count used times waiting e → HasRoom capacity count used waiting e
has_room capacity count used times waiting e taken =
    let some : 1 ≤ need waiting e = need_some waiting e in
    let room : (need waiting e ≤ capacity - used - wanted waiting)
    × (count + length waiting < 4194304) =
    room_in (nat_le 4194304 (count + length waiting)) (count + length waiting)
    (capacity - used - wanted waiting) (need waiting e) refl some taken.has_room in
    let is_open : nat_le 256 (length waiting) ≡ false = taken.is_open in
    record {
      octets = omega (arith, room.0);
      entries = room.1;
      batch = grind (arith, nat_tests);
    }

with_all : (pending : Option Pending) (count : ℕ) (times after : Times) (waiting next : List Entry)
    → ((entries : List Entry) → Agrees entries count times waiting
    → Agrees entries count after next)
    → IfSome pending (λ _. (entries : List Entry) × Keeps pending entries
    × Agrees entries count times waiting)
    → IfSome pending (λ _. (entries : List Entry) × Keeps pending entries
    × Agrees entries count after next)
with_all (Some told) count times after waiting next step keeps =
    (keeps.0, keeps.1, step keeps.0 keeps.2)
with_all None count times after waiting next step keeps = tt

module _ (grows : (a : List Entry) (e : Entry)
    → is_archive (a ++ e ∷ []) ≡ (is_archive a && may_follow a e))
    (follows : (a : List Entry) (e : Entry) → IsArchive a
    → let last_frame = last_time frame_time None a in let last_seal = last_time seal_time None a in
    may_follow a e ≡ (is_storable e && is_in_order last_frame last_seal e)) where
  agrees_next : (entries waiting next : List Entry) (count : ℕ) (times after : Times) (e : Entry)
      → IsTrue (is_valid e) → is_short e ≡ true → is_in_order times.frame times.seal e ≡ true
      → after ≡ times_after times e → next ≡ waiting ++ e ∷ [] → Agrees entries count times waiting
      → Agrees entries count after next
  agrees_next entries waiting next count times after e valid short in_order after_is next_is agrees
      =
      subst (λ (t : Times). Agrees entries count t next) (sym after_is)
      (subst (λ (l : List Entry). Agrees entries count (times_after times e) l) (sym next_is)
      (agrees-push grows follows entries waiting count times e (storable e valid short) in_order
      agrees))

  pub sound_offered : {D : Type 0} (pending : D
      → Option Pending) (journal : JournalState D) (capacity count used failed octets needed : ℕ)
      (times after : Times)
      (waiting next : List Entry) (is_stale : Bool) (e : Entry) → IsTrue (is_valid e)
      → Taken capacity count used times waiting e → needed ≡ need waiting e
      → after ≡ times_after times e → next ≡ waiting ++ e ∷ []
      → IsSound pending journal capacity count used failed octets times waiting is_stale
      → IsSound pending journal capacity count used failed (octets + needed) after next is_stale
  sound_offered pending journal capacity count used failed octets needed times after waiting next
      is_stale e valid taken needed_is after_is next_is sound =
      let room = has_room capacity count used times waiting e taken in
      let more : wanted next ≡ wanted waiting + need waiting e = ap wanted next_is
      ∙ wanted-push waiting e in
      let longer : length next ≡ length waiting + 1 = ap length next_is
      ∙ length-append waiting (e ∷ []) in
      record {
        within = sound.within;
        waits = record {
          octets_are = omega (arith, sound.waits.octets_are, needed_is, more);
          most = omega (arith, room.batch, longer);
          storable = subst (λ (l : List Entry). IsTrue (list_all is_storable l)) (sym next_is)
              (storable-push waiting e sound.waits.storable (storable e valid taken.is_short));
          some_failed = omega (arith, sound.waits.some_failed, longer);
        };
        open_ = λ fresh. record {
          fresh = (sound.open_ fresh).fresh;
          none_failed = (sound.open_ fresh).none_failed;
          used_are = (sound.open_ fresh).used_are;
          fits = λ some. omega (arith, room.octets, more);
          few = λ some. omega (arith, room.entries, longer);
          keeps = with_all (pending journal.disk) count times after waiting next
              (λ entries agrees. agrees_next entries waiting next count times after e valid
              taken.is_short taken.in_order after_is next_is agrees) (sound.open_ fresh).keeps;
        };
        placed = λ stale. subst (IsPlaced (pending journal.disk) count used)
            (sym (ap (take failed) next_is
            ∙ take-append-le failed waiting (e ∷ []) sound.waits.some_failed))
            (sound.placed stale);
      }

  pub acknowledges_offered : {D : Type 0} (pending : D
      → Option Pending) (archive : ArchiveState D) (after : Times) (next : List Entry) (e : Entry)
      (entries : List Entry)
      → IsTrue (is_valid e) → Taken archive.capacity archive.count archive.used archive.times
      archive.waiting e → archive.failed ≤ length archive.waiting
      → after ≡ times_after archive.times e → next ≡ archive.waiting ++ e ∷ []
      → Acknowledges pending archive entries
      → Acknowledges pending (record archive { times = after; waiting = next }) entries
  acknowledges_offered pending archive after next e entries valid taken few after_is next_is old =
      let batch : take archive.failed archive.waiting ≡ take archive.failed next =
      sym (ap (take archive.failed) next_is
      ∙ take-append-le archive.failed archive.waiting (e ∷ []) few) in
      record {
        agrees = agrees_next entries archive.waiting next archive.count archive.times after e valid
            taken.is_short taken.in_order after_is next_is old.agrees;
        tells = old.tells;
        images = λ image is. subst (λ (b : List Entry). IsOldOrNew entries b image) batch
            (old.images image is);
        kept = old.kept;
      }

-- the octets that waiting entries want stay within a number's range
pub octets_fit : (capacity count used octets needed : ℕ) (times : Times) (waiting : List Entry)
    (e : Entry) → capacity ≤ 268435456 → octets ≡ wanted waiting → needed ≡ need waiting e
    → Taken capacity count used times waiting e → octets + needed ≤ 268435456
octets_fit capacity count used octets needed times waiting e within octets_are needed_is taken =
    let room = has_room capacity count used times waiting e taken in
    omega (arith, room.octets)
