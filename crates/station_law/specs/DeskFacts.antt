-- The facts of a START of the desk.
use Rattle.std.proofs.Common.{◌≡◌, ℕ, ◌≤◌, Bool, true, false, nat_lt, if◌then◌else◌}
use Rattle.std.proofs.Common.{List, [], ◌∷◌, ◌++◌, length, map, refl, sym, ap, ◌∙◌}
use Rattle.std.proofs.Common.{append_assoc, Option, arith}
use Rattle.std.proofs.lemmas.List.{append-nil}
use Rattle.std.proofs.lemmas.List.Sums.{sum_by-cons}
use Rattle.cds_time.specs.declared.cds.Cds.{Cds}
use Rattle.archive_terms.specs.Archive.{Entry}
use Rattle.archive_terms.specs.Delivery.{Item, Terms}
use Rattle.archive_terms.specs.Continuity.{told_items, told_buffers, last_frame}
use Rattle.station_desk.specs.Start.{moment}
use Rattle.script_store.specs.Store.{Store}
use Rattle.station_desk.specs.ToldBuffer.{ToldBuffer}
use Rattle.script_store.specs.Said.{Handed, told, refused, handed, handed_by}
use Rattle.script_store.specs.Said.{begun, buffers_handed, told_once, buffers_told}
use Rattle.script_store.specs.Answer.{says}
use Rattle.station_law.specs.Sound.{IsSound, Keeps}
use Rattle.station_law.specs.EntriesFacts.{leaves_all}
use Rattle.station_desk.specs.Start.{terms, told_desk}
use Rattle.station_law.specs.Desk.{said_at_start, handed_at_start, items_of, desk}

-- the items of what is told are those that were told
items_with : (entries : List Entry) (before : Option ℕ) (items : List Item)
    → map (λ x. x.0) (told_items entries before items) ≡ items
items_with entries before [] = refl
items_with entries before (item ∷ items) = ap (λ xs. item ∷ xs) (items_with entries _ items)

pub items_told : (entries : List Entry) (before : Option ℕ) (buffers : List (List Item))
    → items_of (told_buffers entries before buffers) ≡ buffers
items_told entries before [] = refl
items_told entries before (buffer ∷ buffers) =
    ap (λ first. first ∷ items_of (told_buffers entries (last_frame before buffer) buffers))
    (items_with entries before buffer)
    ∙ ap (λ rest. buffer ∷ rest) (items_told entries (last_frame before buffer) buffers)

-- a START of the desk that has handed over some buffers hands over more
hands_more : (t : Terms) (some more : List ToldBuffer) (earlier : List Handed)
    → handed_by (record { connection = 0; terms = t; buffers = some } ∷ earlier)
    (map (handed 0) more)
    ≡ record { connection = 0; terms = t; buffers = some ++ more } ∷ earlier
hands_more t some [] earlier =
    ap (λ bs. record { connection = 0; terms = t; buffers = bs } ∷ earlier) (sym (append-nil some))
hands_more t some (one ∷ more) earlier =
    hands_more t (some ++ one ∷ []) more earlier
    ∙ ap (λ bs. record { connection = 0; terms = t; buffers = bs } ∷ earlier)
    (append_assoc some (one ∷ []) more)

-- each buffer is told
count_told : (buffers : List ToldBuffer) → buffers_told (map (handed 0) buffers) ≡ length buffers
count_told [] = refl
count_told (buffer ∷ buffers) =
    let sum = sum_by-cons told_once (handed 0 buffer) (map (handed 0) buffers) in
    let rest = count_told buffers in
    omega (arith, sum, rest)

not_before : (a b : ℕ) → a ≤ b → nat_lt b a ≡ false
not_before a b le = grind arith

-- a START that isn't refused is the last one then, with all that it hands over
pub hands_over : (state : Store) (start stop : Cds) (quality : ℕ) (starts : List Handed)
    → moment start ≤ moment stop
    → handed_by starts (desk state start stop quality).said
    ≡ handed_at_start state.published start stop quality ∷ starts
hands_over state start stop quality starts ordered =
    rw (not_before (moment start) (moment stop) ordered)
    (hands_more (terms start stop quality) [] (told_desk state.published start stop quality) starts)

module _ (state : Store) (start stop : Cds) (quality : ℕ) where
  began : Handed
  began = handed_at_start state.published start stop quality

  by_case : (back : Bool) → IsSound state
      → Keeps state (says (if back then told refused ∷ []
      else said_at_start state.published start stop quality) state)
  unfolding began
  by_case true sound = leaves_all state state _ (told refused ∷ []) refl refl (λ starts. refl) refl
      sound
  by_case false sound = record {
    sound = record { archive = sound.archive; settled = sound.settled };
    moves = sym (append-nil state.published);
    whole = λ starts.
        let buffers = told_desk state.published start stop quality in
        let count = count_told buffers in
        let handed_are = ap buffers_handed (hands_more (terms start stop quality) [] buffers
        starts) in
        let sum = sum_by-cons (λ (one : Handed). length one.buffers) began starts in
        let said = sum_by-cons told_once (begun 0 (terms start stop quality))
        (map (handed 0) buffers) in
        handed_are ∙ omega (arith, count, sum, said);
  }

  pub facts : IsSound state → Keeps state (desk state start stop quality)
  facts sound = by_case (nat_lt (moment stop) (moment start)) sound
