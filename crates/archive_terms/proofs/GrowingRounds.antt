-- A delivery whose offers are taken while the archive grows.
use Rattle.std.proofs.Common.{◌≡◌, ℕ, suc, ◌+◌, ◌<◌, ◌≤◌, Bool, true, false, cond, ◌&&◌}
use Rattle.std.proofs.Common.{List, [], ◌∷◌, ◌++◌, length, take, drop, refl, ap, sym, ◌∙◌, arith, subst, None, Some}
use Rattle.std.specs.List.{filter}
use Rattle.std.proofs.lemmas.List.{append-nil, append_assoc, map-append, drop-append-le, take_at}
use Rattle.std.proofs.lemmas.Bool.{false≢true, true≢false, and_parts, not-true}
use Rattle.archive_terms.specs.Archive.{Entry, is_archive}
use Rattle.archive_terms.specs.Selection.{Selection, picked, is_stop_closed}
use Rattle.archive_terms.specs.Delivery.{Item, archived, backlog, end_of_data, archived_items, is_timely}
use Rattle.archive_terms.specs.Delivery.{is_complete}
use Rattle.archive_terms.specs.Delivery.{cut, cut_onto, Terms, Delivery, buffer, started, stepped}
use Rattle.archive_terms.specs.Delivery.{taken_whole}
use Rattle.archive_terms.specs.Rounds.{Round, Link, whole, stall, fail, free, blocked, waiting, broken, free_round, outcomes, handed_buffers}
use Rattle.archive_terms.specs.Rounds.{picked_at, FrontsRise, last_front, after_rounds, answer_on, handed_buffer, fate}
use Rattle.archive_terms.specs.Rounds.{answered, nothing, is_failed}
use Rattle.std.specs.List.{cons_option}
use Rattle.std.specs.Option.{option_map_or}
use Rattle.archive_terms.specs.Progress.{is_ready, ready_of, ready_after, ready_buffers, ready_at}
use Rattle.archive_terms.specs.Progress.{takes_whole, taken_rounds, keeps, all_keep, is_to_tell}
use Rattle.archive_terms.proofs.Buffers.{nothing_complete}
use Rattle.archive_terms.proofs.OfflineRounds.{same_notices}
use Rattle.archive_terms.proofs.Runs.{Run-all, Run-further, front_grows, is_archive-take, State-longer}
use Rattle.archive_terms.proofs.Picks.{picked_behind, picked-append, nothing_behind, stop_known}
use Rattle.archive_terms.proofs.Picks.{is_stop_closed-append}
use Rattle.archive_terms.proofs.States.{State, going, owing, telling, ending, over, held_of_more}
use Rattle.archive_terms.proofs.States.{State-stepped, State-answered}
use Rattle.archive_terms.proofs.StillRounds.{handed_from, handed_with, fixed_is_handed}
use Rattle.archive_terms.proofs.Steps.{Steps, hands, late, waits, rests, state_step}

-- one list is another with some more behind it
pub record Longer (short long : List (List Item)) : Type 0 where
  pub more : List (List Item)
  pub is : long ≡ short ++ more

-- of archived items a buffer is ready where it is complete
ready_is_complete : (size : ℕ) (entries : List (ℕ × Entry))
    → is_ready size (archived_items entries) ≡ is_complete size (archived_items entries)
ready_is_complete size entries = rw (same_notices entries) refl

abbrev ready_from : Bool → ℕ → List (List Item) → List (List Item)
ready_from closed size buffers = cond closed buffers (filter (is_ready size) buffers)

-- a ready buffer stays the first one
first_ready : (closed : Bool) (size : ℕ) (items : List Item) (buffers : List (List Item))
    → is_ready size items ≡ true
    → ready_from closed size (items ∷ buffers) ≡ items ∷ ready_from closed size buffers
first_ready true size items buffers ready = refl
first_ready false size items buffers ready = rw ready refl

-- with more items behind them the ready buffers stay
ready_grow : (closed : Bool) (size : ℕ) (entries held : List (ℕ × Entry)) (more : List Item)
    → 0 < size
    → is_complete size (archived_items held) ≡ false
    → Longer (filter (is_ready size) (cut_onto size (archived_items entries) (archived_items held)))
    (ready_from closed size (cut_onto size (archived_items entries ++ more) (archived_items held)))
ready_grow closed size [] [] more some still = record { more = _; is = refl }
ready_grow closed size [] (x ∷ held) more some still = record {
  more = ready_from closed size (cut_onto size more (archived_items (x ∷ held)));
  is =
      let unready : is_ready size (archived_items (x ∷ held)) ≡ false =
      ready_is_complete size (x ∷ held) ∙ still in
      ap (λ b. cond b (archived_items (x ∷ held) ∷ []) []
      ++ ready_from closed size (cut_onto size more (archived_items (x ∷ held)))) (sym unready);
}
ready_grow closed size (x ∷ entries) held more some still =
    on_test (is_complete size (archived_items held ++ item ∷ [])) refl
    (ready_grow closed size entries [] more some (nothing_complete size some))
    (ready_grow closed size entries (held ++ x ∷ []) more some)
  where
    item : Item
    item = archived x.0 x.1

    now_held : List Item
    now_held = archived_items held ++ item ∷ []

    pushed : archived_items (held ++ x ∷ []) ≡ now_held
    pushed = map-append (λ x. archived x.0 x.1) held (x ∷ [])

    Grows : List (List Item) → List (List Item) → Type 0
    Grows short long = Longer (filter (is_ready size) short) (ready_from closed size long)

    on_test : (b : Bool) → is_complete size now_held ≡ b
        → Grows (cut_onto size (archived_items entries) [])
        (cut_onto size (archived_items entries ++ more) [])
        → (is_complete size (archived_items (held ++ x ∷ [])) ≡ false
        → Grows (cut_onto size (archived_items entries) (archived_items (held ++ x ∷ [])))
        (cut_onto size (archived_items entries ++ more) (archived_items (held ++ x ∷ []))))
        → Grows (cond b (now_held ∷ cut_onto size (archived_items entries) [])
        (cut_onto size (archived_items entries) now_held))
        (cond b (now_held ∷ cut_onto size (archived_items entries ++ more) [])
        (cut_onto size (archived_items entries ++ more) now_held))
    on_test true is rest further =
        let ready : is_ready size now_held ≡ true =
        ap (is_ready size) (sym pushed) ∙ ready_is_complete size (held ++ x ∷ [])
        ∙ ap (is_complete size) pushed ∙ is in
        record {
          more = rest.more;
          is =
              first_ready closed size now_held
              (cut_onto size (archived_items entries ++ more) []) ready
              ∙ ap (λ buffers. now_held ∷ buffers) rest.is
              ∙ ap (λ buffers. buffers ++ rest.more)
              (sym (first_ready false size now_held (cut_onto size (archived_items entries) [])
              ready));
        }
    on_test false is rest further =
        subst (λ now_held. Grows (cut_onto size (archived_items entries) now_held)
        (cut_onto size (archived_items entries ++ more) now_held)) pushed
        (further (ap (is_complete size) pushed ∙ is))

-- of what waits with no backlog owed
ready_of-grow : (closed : Bool) (size : ℕ) (entries more : List (ℕ × Entry)) → 0 < size
    → Longer (ready_of size (archived_items entries) false)
    (ready_of size (archived_items (entries ++ more)) closed)
ready_of-grow closed size entries more some =
    by_stop closed (ready_grow closed size entries [] (archived_items more) some
    (nothing_complete size some))
  where
    split : archived_items (entries ++ more) ≡ archived_items entries ++ archived_items more
    split = map-append (λ x. archived x.0 x.1) entries more

    by_stop : (closed : Bool)
        → Longer (filter (is_ready size) (cut size (archived_items entries)))
        (ready_from closed size (cut size (archived_items entries ++ archived_items more)))
        → Longer (ready_of size (archived_items entries) false)
        (ready_of size (archived_items (entries ++ more)) closed)
    by_stop true l = record {
      more = l.more ++ (end_of_data ∷ []) ∷ [];
      is = rw split (ap (λ buffers. buffers ++ (end_of_data ∷ []) ∷ []) l.is
          ∙ append_assoc (filter (is_ready size) (cut size (archived_items entries))) l.more
          ((end_of_data ∷ []) ∷ []));
    }
    by_stop false l = record { more = l.more; is = rw split l.is }

behind-grow : (closed : Bool) (size : ℕ) (entries more : List (ℕ × Entry)) (n : ℕ) → 0 < size
    → n ≤ length entries
    → Longer (ready_of size (archived_items (drop n entries)) false)
    (ready_of size (archived_items (drop n (entries ++ more))) closed)
behind-grow closed size entries more n some within =
    rw (drop-append-le n entries more within)
    (ready_of-grow closed size (drop n entries) more some)

same_ready : (buffers : List (List Item)) → Longer buffers buffers
same_ready buffers = record { more = []; is = sym (append-nil buffers) }

first_longer : (items : List Item) (short long : List (List Item)) → Longer short long
    → Longer (items ∷ short) (items ∷ long)
first_longer items short long l = record { more = l.more; is = ap (λ xs. items ∷ xs) l.is }

abbrev held_at : ℕ → ℕ → ℕ → Bool → Delivery
held_at n k since fixed =
    record {
      settled = n;
      held = k;
      head = None;
      owed = false;
      fixed = fixed;
      since = since;
      ended = false;
    }

abbrev telling_at : ℕ → ℕ → ℕ → Delivery
telling_at n k since =
    record {
      settled = n;
      held = k;
      head = Some backlog;
      owed = true;
      fixed = true;
      since = since;
      ended = false;
    }

same_grow : (ready : List (ℕ × Entry) → Bool → List (List Item)) (entries more : List (ℕ × Entry))
    (later : Bool)
    → later ≡ true → more ≡ [] → Longer (ready entries true) (ready (entries ++ more) later)
same_grow ready entries more later is none =
    rw (is, none, append-nil entries) (same_ready (ready entries true))

held_grow : (held more : List Item) (short long : List (List Item)) → more ≡ held
    → Longer short long → Longer (held ∷ short) (more ∷ long)
held_grow held more short long same l = rw same (first_longer held short long l)

open_grow : (t : Terms) (entries more : List (ℕ × Entry)) (later : Bool) (n k since : ℕ)
    (fixed : Bool)
    → 0 < t.size → n + k ≤ length entries
    → Longer (ready_buffers t entries false (held_at n k since fixed))
    (ready_buffers t (entries ++ more) later (held_at n k since fixed))
open_grow t entries more later n k since true some fits =
    held_grow (archived_items (take k (drop n entries)))
    (archived_items (take k (drop n (entries ++ more))))
    (ready_of t.size (archived_items (drop (n + k) entries)) false)
    (ready_of t.size (archived_items (drop (n + k) (entries ++ more))) later)
    (ap archived_items (held_of_more n k entries more fits))
    (behind-grow later t.size entries more (n + k) some fits)
open_grow t entries more later n k since false some fits =
    behind-grow later t.size entries more n some (omega arith)

-- the ready buffers of a delivery that has no backlog to tell stay as the archive grows
told_grow : (t : Terms) (entries more : List (ℕ × Entry)) (later : Bool) (n k since : ℕ)
    → n + k ≤ length entries → 0 < t.size
    → Longer (ready_buffers t entries false (telling_at n k since))
    (ready_buffers t (entries ++ more) later (telling_at n k since))
told_grow t entries more later n k since fits some =
    held_grow (backlog ∷ archived_items (take k (drop n entries)))
    (backlog ∷ archived_items (take k (drop n (entries ++ more))))
    (ready_of t.size (archived_items (drop (n + k) entries)) false)
    (ready_of t.size (archived_items (drop (n + k) (entries ++ more))) later)
    (ap (λ xs. backlog ∷ archived_items xs) (held_of_more n k entries more fits))
    (behind-grow later t.size entries more (n + k) some fits)

ready_buffers-grow : (t : Terms) (entries more : List (ℕ × Entry)) (closed later : Bool)
    (d : Delivery)
    → 0 < t.size → is_to_tell d ≡ false
    → (closed ≡ true → later ≡ true) → (closed ≡ true → more ≡ [])
    → State t entries closed d
    → Longer (ready_buffers t entries closed d) (ready_buffers t (entries ++ more) later d)
ready_buffers-grow t entries more true later d some told stays last state =
    same_grow (λ xs b. ready_buffers t xs b d) entries more later (stays refl) (last refl)
ready_buffers-grow t entries more false later d some told stays last
    (going n k fixed since fits limits) = open_grow t entries more later n k since fixed some fits
ready_buffers-grow t entries more false later d some told stays last (owing n since fits timely) =
    absurd (true≢false told)
ready_buffers-grow t entries more false later d some told stays last
    (telling n k true since fits limits timely) =
    told_grow t entries more later n k since fits some
ready_buffers-grow t entries more false later d some told stays last
    (telling n k false since fits limits timely) =
    absurd (true≢false told)
ready_buffers-grow t entries more false later d some told stays last
    (ending n k fixed since all none is shut) =
    absurd (false≢true shut)
ready_buffers-grow t entries more false later d some told stays last
    (over n k fixed since all none is shut) =
    absurd (false≢true shut)

-- so they do up to a later front
ready_at-grow : (t : Terms) (a : List Entry) (f g : ℕ) (d : Delivery) → 0 < t.size
    → is_to_tell d ≡ false → is_archive a ≡ true → f ≤ g
    → State t (picked_at t a f) (is_stop_closed t.selection (take f a)) d
    → Longer (ready_at t a f d) (ready_at t a g d)
ready_at-grow t a f g d some told archive rise state =
    let s : Selection = t.selection in
    let front : List Entry = take f a in
    let rest : List Entry = drop f (take g a) in
    let whole : front ++ rest ≡ take g a = front_grows a f g rise in
    let longer : is_archive (front ++ rest) ≡ true = ap is_archive whole
    ∙ is_archive-take a g archive in
    subst (λ b. Longer (ready_at t a f d) (ready_buffers t (picked b s) (is_stop_closed s b) d)) whole
    (subst (λ xs. Longer (ready_at t a f d) (ready_buffers t xs (is_stop_closed s (front ++ rest)) d))
    (sym (picked-append front rest s))
    (ready_buffers-grow t (picked front s) (picked_behind front rest s) (is_stop_closed s front)
    (is_stop_closed s (front ++ rest)) d some told (is_stop_closed-append s front rest)
    (λ closed. let known = stop_known s front closed in
    nothing_behind front rest s known.0 known.1 known.2 longer) state))

whole_link : (l : Link) → takes_whole l ≡ true → l ≡ free whole
whole_link (free whole) is = refl
whole_link (free stall) is = absurd (false≢true is)
whole_link (free fail) is = absurd (false≢true is)
whole_link blocked is = absurd (false≢true is)
whole_link waiting is = absurd (false≢true is)
whole_link broken is = absurd (false≢true is)

pub not_both : (buffers : List (List Item)) (items : List Item) (rest : List (List Item))
    → buffers ≡ [] → buffers ≡ items ∷ rest → ⊥
not_both buffers items rest none some =
    let empty : length buffers ≡ 0 = ap length none in
    let more : length buffers ≡ suc (length rest) = ap length some in omega arith

abbrev pub tail : List (List Item) → List (List Item)
tail [] = []
tail (x ∷ xs) = xs

abbrev pub head_or : List Item → List (List Item) → List Item
head_or items [] = items
head_or items (x ∷ xs) = x

longer_still : (short mid long : List (List Item)) → Longer short mid → Longer mid long
    → Longer short long
longer_still short mid long l m = record {
  more = l.more ++ m.more;
  is = m.is ∙ ap (λ xs. xs ++ m.more) l.is ∙ append_assoc short l.more m.more;
}

-- a fixed buffer is the first that is ready
fixed_ready : (t : Terms) (entries : List (ℕ × Entry)) (closed : Bool) (s : Delivery)
    → s.fixed ≡ true
    → ready_buffers t entries closed s
    ≡ buffer entries s ∷ ready_buffers t entries closed (taken_whole s)
fixed_ready t entries closed s fixed =
    ap (λ b. cond b (buffer entries s ∷ ready_after t entries closed (taken_whole s))
    (ready_after t entries closed s)) fixed

none_of_none : (buffers ready : List (List Item)) → buffers ≡ [] → Longer ready buffers
    → ready ≡ []
none_of_none buffers [] none l = refl
none_of_none buffers (items ∷ ready) none l =
    absurd (not_both buffers items (ready ++ l.more) none l.is)

-- with a step alone what is ready stays so
step_keeps : (t : Terms) (entries : List (ℕ × Entry)) (closed : Bool) (now : ℕ) (d s : Delivery)
    (ready : List (List Item))
    → Steps t entries closed now d s → Longer ready (ready_buffers t entries closed d)
    → Longer ready (ready_buffers t entries closed s)
step_keeps t entries closed now d s ready (hands fixed is rest) l = record {
  more = l.more;
  is = fixed_ready t entries closed s fixed ∙ sym is ∙ l.is;
}
step_keeps t entries closed now d s ready (late fixed none last none_more none_last is) l =
    record {
      more = ready_buffers t entries closed s;
      is = ap (λ xs. xs ++ ready_buffers t entries closed s)
          (sym (none_of_none (ready_buffers t entries closed d) ready none l));
    }
step_keeps t entries closed now d s ready (waits open_yet none none_yet same is put held) l =
    record {
      more = ready_buffers t entries closed s;
      is = ap (λ xs. xs ++ ready_buffers t entries closed s)
          (sym (none_of_none (ready_buffers t entries closed d) ready none l));
    }
step_keeps t entries closed now d s ready (rests open_yet none none_yet no_last no_last_yet) l =
    record {
      more = ready_buffers t entries closed s;
      is = ap (λ xs. xs ++ ready_buffers t entries closed s)
          (sym (none_of_none (ready_buffers t entries closed d) ready none l));
    }

-- after a fixed buffer was taken no backlog is to be told
taken_told : (t : Terms) (entries : List (ℕ × Entry)) (closed : Bool) (s : Delivery)
    → State t entries closed s → s.fixed ≡ true → is_to_tell (taken_whole s) ≡ false
taken_told t entries closed s (going n k fixed since fits limits) is = refl
taken_told t entries closed s (owing n since fits timely) is = absurd (false≢true is)
taken_told t entries closed s (telling n k fixed since fits limits timely) is = refl
taken_told t entries closed s (ending n k fixed since all none fix shut) is = refl
taken_told t entries closed s (over n k fixed since all none fix shut) is = refl

-- after a step none is, but in the fixed buffer
step_told : (t : Terms) (entries : List (ℕ × Entry)) (closed : Bool) (now : ℕ) (d : Delivery)
    → 0 < t.size
    → is_to_tell d ≡ false → State t entries closed d
    → is_to_tell (stepped t entries closed now d) ≡ false
step_told t entries closed now d some told (going n k true since fits limits) = refl
step_told t entries closed now d some told (going n k false since fits limits) = refl
step_told t entries closed now d some told (owing n since fits timely) = absurd (true≢false told)
step_told t entries closed now d some told (telling n k true since fits limits timely) = refl
step_told t entries closed now d some told (telling n k false since fits limits timely) =
    absurd (true≢false told)
step_told t entries closed now d some told (ending n k true since all none is shut) = refl
step_told t entries closed now d some told (ending n k false since all none is shut) = refl
step_told t entries closed now d some told (over n k true since all none is shut) = refl
step_told t entries closed now d some told (over n k false since all none is shut) = refl

-- from a delivery on
module _ (t : Terms) (a : List Entry) (some : 0 < t.size) (archive : is_archive a ≡ true) where
  abbrev Hands : ℕ → List Round → Delivery → Type 0
  Hands f later d = (ready : List (List Item)) → Longer ready (ready_at t a f d)
      → Longer (take (taken_rounds later) ready) (handed_buffers (outcomes t a later d))

  abbrev StateAt : ℕ → Delivery → Type 0
  StateAt f d = State t (picked_at t a f) (is_stop_closed t.selection (take f a)) d

  -- the same state up to a later front
  state_further : (f g : ℕ) (d : Delivery) → f ≤ g → StateAt f d → StateAt g d
  state_further f g d rise state =
      let rest : List Entry = drop f (take g a) in
      let whole : take f a ++ rest ≡ take g a = front_grows a f g rise in
      subst (λ b. State t (picked b t.selection) (is_stop_closed t.selection b) d) whole
      (State-longer t (take f a) rest d
      (ap is_archive whole ∙ is_archive-take a g archive) state)

  -- the first of some ready buffers goes in a round, and the others stay ready
  on_step : (g now : ℕ) (later : List Round) (d s : Delivery) (items : List Item)
      (ready : List (List Item))
      → Steps t (picked_at t a g) (is_stop_closed t.selection (take g a)) now d s
      → Longer (items ∷ ready) (ready_at t a g d)
      → (s.fixed ≡ true → Hands g later (taken_whole s))
      → Longer (items ∷ take (taken_rounds later) ready) (handed_with t a g later s.fixed s)
  on_step g now later d s items ready (hands fixed is rest) l further =
      let both : buffer (picked_at t a g) s ∷ ready_at t a g (taken_whole s)
      ≡ items ∷ (ready ++ l.more) = sym is ∙ l.is in
      let goes = further fixed ready (record { more = l.more; is = ap tail both }) in
      record {
        more = goes.more;
        is =
            fixed_is_handed t a g later s s.fixed fixed
            ∙ ap (λ x. x ∷ handed_from t a g later (taken_whole s)) (ap (head_or items) both)
            ∙ ap (λ xs. items ∷ xs) goes.is;
      }
  on_step g now later d s items ready (late fixed none last none_more none_last is) l further =
      absurd (not_both (ready_at t a g d) items (ready ++ l.more) none l.is)
  on_step g now later d s items ready (waits open_yet none none_yet same is put held) l further =
      absurd (not_both (ready_at t a g d) items (ready ++ l.more) none l.is)
  on_step g now later d s items ready (rests open_yet none none_yet no_last no_last_yet) l further =
      absurd (not_both (ready_at t a g d) items (ready ++ l.more) none l.is)

  -- what a round and those behind it hand over, by its link, where its step has led to a delivery
  abbrev handed_on : ℕ → List Round → Link → Bool → Delivery → List (List Item)
  handed_on g later link fixed s =
      let answer = cond fixed (answer_on link) None in
      cons_option
      (handed_buffer (option_map_or (λ x. fate t x s (buffer (picked_at t a g) s)) answer nothing))
      (handed_buffers (cond (is_failed link answer) []
      (outcomes t a later (option_map_or (λ x. answered t x s) answer s))))

  blocked_on : (g : ℕ) (later : List Round) (fixed : Bool) (s : Delivery)
      → handed_on g later blocked fixed s ≡ handed_buffers (outcomes t a later s)
  blocked_on g later true s = refl
  blocked_on g later false s = refl

  waiting_on : (g : ℕ) (later : List Round) (fixed : Bool) (s : Delivery)
      → handed_on g later waiting fixed s ≡ handed_buffers (outcomes t a later s)
  waiting_on g later true s = refl
  waiting_on g later false s = refl

  stalled_on : (g : ℕ) (later : List Round) (fixed : Bool) (s : Delivery)
      → is_timely t.mode ≡ false
      → handed_on g later (free stall) fixed s ≡ handed_buffers (outcomes t a later s)
  stalled_on g later true s mode = rw mode refl
  stalled_on g later false s mode = refl

  -- a round whose step alone counts, and whose buffer stays
  on_kept : (g now : ℕ) (later : List Round) (d : Delivery) (ready handed : List (List Item)) →
      let s = stepped t (picked_at t a g) (is_stop_closed t.selection (take g a)) now d in
      handed ≡ handed_buffers (outcomes t a later s)
      → Longer ready (ready_at t a g d) → StateAt g d
      → Hands g later s
      → Longer (take (taken_rounds later) ready) handed
  on_kept g now later d ready handed is l state further =
      let closed : Bool = is_stop_closed t.selection (take g a) in
      let s : Delivery = stepped t (picked_at t a g) closed now d in
      let goes = further ready (step_keeps t (picked_at t a g) closed now d s ready
      (state_step t (picked_at t a g) closed now d some state) l) in
      record { more = goes.more; is = is ∙ goes.is }

  -- a round by its link
  on_link : (g now : ℕ) (link : Link) (later : List Round) (d : Delivery)
      (ready : List (List Item))
      → keeps t.mode link ≡ true → Longer ready (ready_at t a g d) → StateAt g d
      → is_to_tell d ≡ false
      → ((e : Delivery) → StateAt g e → is_to_tell e ≡ false → Hands g later e)
      → Longer (take (taken_rounds (record { front = g; now = now; link = link } ∷ later)) ready)
      (handed_buffers (outcomes t a (record { front = g; now = now; link = link } ∷ later) d))
  on_link g now (free whole) later d [] kept l state told further = record {
    more = handed_buffers (outcomes t a (free_round g now ∷ later) d);
    is = refl;
  }
  on_link g now (free whole) later d (items ∷ ready) kept l state told further =
      let entries : List (ℕ × Entry) = picked_at t a g in
      let closed : Bool = is_stop_closed t.selection (take g a) in
      let s : Delivery = stepped t entries closed now d in
      let next : State t entries closed s = State-stepped t entries closed now d some state in
      on_step g now later d s items ready (state_step t entries closed now d some state) l
      (λ fixed. further (taken_whole s) (State-answered t entries closed whole s fixed next)
      (taken_told t entries closed s next fixed))
  on_link g now (free stall) later d ready kept l state told further =
      let entries : List (ℕ × Entry) = picked_at t a g in
      let closed : Bool = is_stop_closed t.selection (take g a) in
      let s : Delivery = stepped t entries closed now d in
      on_kept g now later d ready _ (stalled_on g later s.fixed s (not-true (is_timely t.mode) kept))
      l state
      (further s (State-stepped t entries closed now d some state)
      (step_told t entries closed now d some told state))
  on_link g now (free fail) later d ready kept l state told further = absurd (false≢true kept)
  on_link g now waiting later d ready kept l state told further =
      let entries : List (ℕ × Entry) = picked_at t a g in
      let closed : Bool = is_stop_closed t.selection (take g a) in
      let s : Delivery = stepped t entries closed now d in
      on_kept g now later d ready _ (waiting_on g later s.fixed s) l state
      (further s (State-stepped t entries closed now d some state)
      (step_told t entries closed now d some told state))
  on_link g now blocked later d ready kept l state told further =
      let goes = further d state told ready l in
      record { more = goes.more; is = blocked_on g later d.fixed d ∙ goes.is }
  on_link g now broken later d ready kept l state told further = absurd (false≢true kept)

  pub hands_ready : (f : ℕ) (later : List Round) (d : Delivery) → FrontsRise f later
      → all_keep t.mode later ≡ true → is_to_tell d ≡ false → StateAt f d → Hands f later d
  hands_ready f [] d rise kept told state ready l = record {
    more = handed_buffers (outcomes t a [] d);
    is = refl;
  }
  hands_ready f (r ∷ later) d rise kept told state ready l =
      let parts = and_parts (keeps t.mode r.link) (all_keep t.mode later) kept in
      on_link r.front r.now r.link later d ready parts.0
      (longer_still ready (ready_at t a f d) (ready_at t a r.front d) l
      (ready_at-grow t a f r.front d some told archive rise.0 state))
      (state_further f r.front d rise.0 state) told
      (λ e at_e told_e. hands_ready r.front later e rise.1 parts.1 told_e at_e)

complete_told : (t : Terms) (entries : List (ℕ × Entry)) (closed : Bool) (d : Delivery)
    → State t entries closed d → (is_timely t.mode && is_to_tell d) ≡ false
    → is_to_tell d ≡ false
complete_told t entries closed d (going n k fixed since fits limits) is = refl
complete_told t entries closed d (owing n since fits timely) is = rw timely at is
complete_told t entries closed d (telling n k fixed since fits limits timely) is = rw timely at is
complete_told t entries closed d (ending n k fixed since all none fix shut) is = refl
complete_told t entries closed d (over n k fixed since all none fix shut) is = refl

pub growing_rounds_lem : (t : Terms) (entries : List Entry) (rounds later : List Round) (front : ℕ)
    → 0 < t.size → is_archive entries ≡ true → FrontsRise 0 rounds
    → last_front 0 rounds ≤ front → FrontsRise front later → all_keep t.mode later ≡ true
    → (is_timely t.mode && is_to_tell (after_rounds t entries rounds started)) ≡ false
    → take (length (take (taken_rounds later) (ready_at t entries front
    (after_rounds t entries rounds started))))
    (handed_buffers (outcomes t entries later (after_rounds t entries rounds started)))
    ≡ take (taken_rounds later) (ready_at t entries front (after_rounds t entries rounds started))
growing_rounds_lem t entries rounds later front some archive rise behind further kept told =
    let d : Delivery = after_rounds t entries rounds started in
    let state : State t (picked_at t entries front) (is_stop_closed t.selection (take front entries))
    d = (Run-further t entries (last_front 0 rounds) front (outcomes t entries rounds started) d
    archive behind (Run-all t entries rounds some archive rise)).state in
    let due : List (List Item) = take (taken_rounds later) (ready_at t entries front d) in
    let l : Longer due (handed_buffers (outcomes t entries later d)) =
    hands_ready t entries some archive front later d further kept
    (complete_told t (picked_at t entries front) (is_stop_closed t.selection (take front entries)) d
    state told) state (ready_at t entries front d)
    (same_ready (ready_at t entries front d)) in
    ap (take (length due)) l.is ∙ take_at due l.more (length due) refl
