-- A delivery that is filled as its definition says.
use Rattle.std.proofs.Common.{◌≡◌, ℕ, Bool, true, cond, not, ◌&&◌, ◌||◌, nat_eq, List, [], ◌∷◌}
use Rattle.std.proofs.Common.{◌++◌, length, take, Option, Some, None, refl, ap, ◌∙◌, arith}
use Rattle.std.proofs.lemmas.Bool.{and_parts, not-true}
use Rattle.std.proofs.lemmas.List.{map-append}
use Rattle.archive_terms.specs.Continuity.{frame_place, last_frame}
use Rattle.archive_terms.specs.Selection.{Selection}
use Rattle.archive_terms.specs.Delivery.{Item, Mode, backlog, end_of_data, is_due_of, contents}
use Rattle.archive_terms.specs.Glimpse.{Glimpse}
use Rattle.archive_terms.specs.Placed.{ToldItem, items_of}
use Rattle.return_core.specs.Holding.{Holding, headed, fitting, is_last_of, filled_at}
use Rattle.return_core.specs.Course.{Course, course_of, is_filling, limit_of_course, with_step}
use Rattle.return_core.specs.Course.{IsSound}
use Rattle.return_core.proofs.Filling.{last_frame-append}

-- the moment of the first item, where a backlog may have been put before the others
since_is : (told put : List ToldItem) (owed : Bool) (now since : ℕ) →
    let empty : Bool = nat_eq (length told) 0 in
    let front : List ToldItem = cond (owed && empty) ((backlog, None) ∷ []) told in
    cond (nat_eq (length front) 0 && not (nat_eq (length (front ++ put)) 0)) now
    (cond (owed && empty) now since)
    ≡ cond (empty && not (nat_eq (length (front ++ put)) 0)) now since
since_is told put owed now since = grind arith

-- the same as the definition's step
course_stepped : (mode : Mode) (latency : Option ℕ) (selection : Option Selection) (g : Glimpse)
    (now : ℕ) (h : Holding) (last : Option ℕ) (owed fixed ended : Bool) →
    let c : Course = course_of mode latency selection h last owed fixed ended in
    let e : Holding = filled_at h owed g now in
    is_filling c ≡ true
    → course_of mode latency selection e last owed
    (is_due_of h.size (limit_of_course c) now (is_last_of h owed g now)
    (contents e.since (items_of e.told))) ended
    ≡ with_step c g now
course_stepped mode latency None g now h last owed fixed ended fills = refl
course_stepped mode latency (Some selection) g now h last owed fixed ended fills =
    let front : Holding = headed h owed now in
    rw (
      not-true (fixed || ended) fills,
      since_is h.told (take (fitting front g.items) g.items) owed now h.since,
    )

-- an item that is no frame, where nothing is held, leaves the last frame
no_frame : (last : Option ℕ) (told : List ToldItem) (x : Item) (b : Bool) → frame_place x ≡ None
    → (b ≡ true → nat_eq (length told) 0 ≡ true)
    → last_frame last (items_of (cond b ((x, None) ∷ []) told)) ≡ last_frame last (items_of told)
no_frame last [] x b none empty = grind arith
no_frame last (y ∷ told) x b none empty = grind arith

-- the last frame that was put stays that of what is held, or of what was handed over before
frame_kept : (h : Holding) (owed : Bool) (g : Glimpse) (now : ℕ) (last : Option ℕ)
    → h.frame ≡ last_frame last (items_of h.told)
    → (filled_at h owed g now).frame ≡ last_frame last (items_of (filled_at h owed g now).told)
frame_kept h owed g now last is =
    rw (
      no_frame last (front ++ put) end_of_data _ refl (λ e. (and_parts _ _ e).0),
      map-append,
      last_frame-append,
      no_frame last h.told backlog _ refl (λ e. (and_parts _ _ e).1),
      is,
    )
  where
    front : List ToldItem
    front = (headed h owed now).told

    put : List ToldItem
    put = take (fitting (headed h owed now) g.items) g.items

-- the course of a delivery whose items were filled, and whose buffer is fixed where it is due
pub filled_course : (mode : Mode) (latency : Option ℕ) (selection : Option Selection) (g : Glimpse)
    (now : ℕ) (h : Holding) (last : Option ℕ) (owed fixed ended : Bool)
    → (c : Course) (new : Holding) (limit : Option ℕ) (is_last due : Bool)
    → course_of mode latency selection h last owed fixed ended ≡ c → is_filling c ≡ true
    → new ≡ filled_at h owed g now → limit ≡ limit_of_course c → is_last ≡ is_last_of h owed g now
    → due ≡ is_due_of new.size limit now is_last (contents new.since (items_of new.told))
    → course_of mode latency selection new last owed due ended ≡ with_step c g now
filled_course mode latency selection g now h last owed fixed ended c new limit is_last due view
    fills put limited lasts is =
    cc (course_stepped mode latency selection g now h last owed fixed ended
    (ap is_filling view ∙ fills))

-- it stays sound
pub sound_filled : (mode : Mode) (latency : Option ℕ) (h new : Holding) (last : Option ℕ)
    (owed : Bool) (g : Glimpse) (now : ℕ)
    → IsSound mode latency h last → new ≡ filled_at h owed g now → IsSound mode latency new last
sound_filled mode latency h new last owed g now sound is = rw is (record {
  some = sound.some;
  limited = sound.limited;
  frame = frame_kept h owed g now last sound.frame;
})
