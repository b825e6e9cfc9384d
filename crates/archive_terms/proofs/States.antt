-- The states that a delivery comes through, and that a step and an answer lead from state to state.
use Rattle.std.proofs.Common.{◌≡◌, ℕ, ◌+◌, ◌<◌, ◌≤◌, Bool, true, false, cond, ◌&&◌, nat_eq, nat_lt}
use Rattle.std.proofs.Common.{List, [], ◌∷◌, ◌++◌, length, take, drop, Some, None, refl, ap, sym}
use Rattle.std.proofs.Common.{◌∙◌, arith, subst}
use Rattle.std.proofs.lemmas.List.{length-append, length-drop, drop-append-le, take-append-le}
use Rattle.std.proofs.lemmas.List.{append-nil}
use Rattle.std.proofs.lemmas.Bool.{and_parts, false≢true, true≢false, eqb-true, ltb-true, lt-ltb}
use Rattle.std.proofs.lemmas.Bool.{and_left}
use Rattle.archive_terms.specs.Archive.{Entry}
use Rattle.archive_terms.specs.Delivery.{Mode, is_timely, backlog, end_of_data, archived_items}
use Rattle.archive_terms.specs.Delivery.{Terms, Delivery, is_due, with_due_fixed, stepped, released}
use Rattle.archive_terms.specs.Delivery.{is_discardable}
use Rattle.archive_terms.specs.Rounds.{Answer, whole, stall, fail, answered}
use Rattle.archive_terms.proofs.Buffers.{InLimits, room, room-le, room-limits}

-- a delivery of these picked entries, with `closed` for a known and closed stop
pub data State (t : Terms) (entries : List (ℕ × Entry)) (closed : Bool) : Delivery → Type 0 where
  -- nothing is owed
  going : (n k : ℕ) (fixed : Bool) (since : ℕ) → n + k ≤ length entries
      → InLimits t.size (archived_items (take k (drop n entries)))
      → State t entries closed (record {
        settled = n;
        held = k;
        head = None;
        owed = false;
        fixed = fixed;
        since = since;
        ended = false;
      })
  -- a buffer was discarded
  owing : (n since : ℕ) → n ≤ length entries → is_timely t.mode ≡ true
      → State t entries closed (record {
        settled = n;
        held = 0;
        head = None;
        owed = true;
        fixed = false;
        since = since;
        ended = false;
      })
  -- a backlog is about to be told
  telling : (n k : ℕ) (fixed : Bool) (since : ℕ) → n + k ≤ length entries
      → InLimits t.size (backlog ∷ archived_items (take k (drop n entries)))
      → is_timely t.mode ≡ true
      → State t entries closed (record {
        settled = n;
        held = k;
        head = Some backlog;
        owed = true;
        fixed = fixed;
        since = since;
        ended = false;
      })
  -- end of data is about to be told
  ending : (n k : ℕ) (fixed : Bool) (since : ℕ) → n ≡ length entries → k ≡ 0 → fixed ≡ true
      → closed ≡ true
      → State t entries closed (record {
        settled = n;
        held = k;
        head = Some end_of_data;
        owed = false;
        fixed = fixed;
        since = since;
        ended = false;
      })
  -- end of data was told
  over : (n k : ℕ) (fixed : Bool) (since : ℕ) → n ≡ length entries → k ≡ 0 → fixed ≡ false
      → closed ≡ true
      → State t entries closed (record {
        settled = n;
        held = k;
        head = None;
        owed = false;
        fixed = fixed;
        since = since;
        ended = true;
      })

-- the same picked entries are held of a longer list
pub held_of_more : (n k : ℕ) (entries more : List (ℕ × Entry)) → n + k ≤ length entries
    → take k (drop n (entries ++ more)) ≡ take k (drop n entries)
held_of_more n k entries more fits =
    ap (take k) (drop-append-le n entries more (omega arith))
    ∙ take-append-le k (drop n entries) more (omega (arith, length-drop n entries))

-- more entries change nothing of what is held; once the stop is closed there are none
pub State-grow : (t : Terms) (entries more : List (ℕ × Entry)) (closed later : Bool) (d : Delivery)
    → (closed ≡ true → later ≡ true) → (closed ≡ true → more ≡ [])
    → State t entries closed d → State t (entries ++ more) later d
State-grow t entries more closed later d stays last (going n k fixed since fits limits) =
    going n k fixed since (omega (arith, length-append entries more))
    (subst (λ xs. InLimits t.size (archived_items xs)) (sym (held_of_more n k entries more fits))
    limits)
State-grow t entries more closed later d stays last (owing n since fits timely) =
    owing n since (omega (arith, length-append entries more)) timely
State-grow t entries more closed later d stays last (telling n k fixed since fits limits timely) =
    telling n k fixed since (omega (arith, length-append entries more))
    (subst (λ xs. InLimits t.size (backlog ∷ archived_items xs))
    (sym (held_of_more n k entries more fits)) limits) timely
State-grow t entries more closed later d stays last (ending n k fixed since all none is shut) =
    ending n k fixed since (all ∙ ap length (sym (ap (λ xs. entries ++ xs) (last shut)
    ∙ append-nil entries))) none is (stays shut)
State-grow t entries more closed later d stays last (over n k fixed since all none is shut) =
    over n k fixed since (all ∙ ap length (sym (ap (λ xs. entries ++ xs) (last shut)
    ∙ append-nil entries))) none is (stays shut)

-- a filled buffer, with end of data where the test for it holds
going_on : (t : Terms) (entries : List (ℕ × Entry)) (closed : Bool) (now n k since : ℕ)
    (fixed ends : Bool)
    → (ends ≡ true → (k ≡ 0) × (closed ≡ true) × (n ≡ length entries))
    → n + k ≤ length entries → InLimits t.size (archived_items (take k (drop n entries)))
    → State t entries closed
    (with_due_fixed t entries closed now
    (record {
      settled = n;
      held = k;
      head = cond ends (Some end_of_data) None;
      owed = false;
      fixed = fixed;
      since = since;
      ended = false;
    }))
going_on t entries closed now n k since fixed true why fits limits =
    let w : (k ≡ 0) × (closed ≡ true) × (n ≡ length entries) = why refl in
    ending n k
    (is_due t entries closed now (record {
      settled = n;
      held = k;
      head = Some end_of_data;
      owed = false;
      fixed = fixed;
      since = since;
      ended = false;
    }))
    since w.2 w.0
    (ap (λ b. b && true) (lt-ltb 0 (length (end_of_data ∷ archived_items (take k (drop n entries))))
    (omega arith))) w.1
going_on t entries closed now n k since fixed false why fits limits =
    going n k
    (is_due t entries closed now (record {
      settled = n;
      held = k;
      head = None;
      owed = false;
      fixed = fixed;
      since = since;
      ended = false;
    }))
    since fits limits

pub end_is_due : (k n all : ℕ) (closed : Bool)
    → ((true && nat_eq k 0) && closed && nat_eq n all) ≡ true
    → (k ≡ 0) × (closed ≡ true) × (n ≡ all)
end_is_due k n all closed ends =
    let outer : (((true && nat_eq k 0) && closed) ≡ true) × (nat_eq n all ≡ true) =
    and_parts ((true && nat_eq k 0) && closed) (nat_eq n all) ends in
    let inner : ((true && nat_eq k 0) ≡ true) × (closed ≡ true) =
    and_parts (true && nat_eq k 0) closed outer.0 in
    (eqb-true k 0 inner.0, inner.1, eqb-true n all outer.1)

pub State-stepped : (t : Terms) (entries : List (ℕ × Entry)) (closed : Bool) (now : ℕ)
    (d : Delivery)
    → 0 < t.size
    → State t entries closed d → State t entries closed (stepped t entries closed now d)
State-stepped t entries closed now d some (going n k true since fits limits) =
    going n k true since fits limits
State-stepped t entries closed now d some (going n k false since fits limits) =
    let more : ℕ = room t.size None (drop n entries) in
    going_on t entries closed now n more _ false ((true && nat_eq more 0) && closed
    && nat_eq n (length entries))
    (end_is_due more n (length entries) closed)
    (omega (arith, room-le t.size None (drop n entries), length-drop n entries))
    (room-limits t.size None (drop n entries) some)
State-stepped t entries closed now d some (owing n since fits timely) =
    telling n (room t.size (Some backlog) (drop n entries)) _ _
    (omega (arith, room-le t.size (Some backlog) (drop n entries), length-drop n entries))
    (room-limits t.size (Some backlog) (drop n entries) some) timely
State-stepped t entries closed now d some (telling n k true since fits limits timely) =
    telling n k true since fits limits timely
State-stepped t entries closed now d some (telling n k false since fits limits timely) =
    telling n (room t.size (Some backlog) (drop n entries)) _ _
    (omega (arith, room-le t.size (Some backlog) (drop n entries), length-drop n entries))
    (room-limits t.size (Some backlog) (drop n entries) some) timely
State-stepped t entries closed now d some (ending n k true since all none is shut) =
    ending n k true since all none is shut
State-stepped t entries closed now d some (ending n k false since all none is shut) =
    absurd (false≢true is)
State-stepped t entries closed now d some (over n k true since all none is shut) =
    absurd (true≢false is)
State-stepped t entries closed now d some (over n k false since all none is shut) =
    let more : ℕ = room t.size None (drop n entries) in
    let none_more : more ≡ 0 = omega (
      arith,
      room-le t.size None (drop n entries),
      length-drop n entries,
    ) in
    over n more _ _ all none_more
    (and_left (nat_lt 0 (length (archived_items (take more (drop n entries))))) _
    (ap (λ k. nat_lt 0 (length (archived_items (take k (drop n entries))))) none_more)) shut

-- a stalled buffer, which is discarded where `discards` holds
stalled_on : (t : Terms) (entries : List (ℕ × Entry)) (closed : Bool) (d : Delivery)
    (discards : Bool)
    → (discards ≡ true → (is_timely t.mode ≡ true) × (0 < d.held))
    → State t entries closed d
    → State t entries closed (cond discards (record (released d) { owed = true }) d)
stalled_on t entries closed d false why s = s
stalled_on t entries closed d true why (going n k fixed since fits limits) =
    owing (n + k) since fits (why refl).0
stalled_on t entries closed d true why (owing n since fits timely) =
    absurd (let h : 0 < 0 = (why refl).1 in omega arith)
stalled_on t entries closed d true why (telling n k fixed since fits limits timely) =
    owing (n + k) since fits timely
stalled_on t entries closed d true why (ending n k fixed since all none is shut) =
    absurd (let h : 0 < k = (why refl).1 in omega arith)
stalled_on t entries closed d true why (over n k fixed since all none is shut) =
    absurd (let h : 0 < k = (why refl).1 in omega arith)

pub is_discardable-parts : (mode : Mode) (d : Delivery) → is_discardable mode d ≡ true
    → (is_timely mode ≡ true) × (0 < d.held)
is_discardable-parts mode d is =
    let parts : (is_timely mode ≡ true) × (nat_lt 0 d.held ≡ true) =
    and_parts (is_timely mode) (nat_lt 0 d.held) is in
    (parts.0, ltb-true 0 d.held parts.1)

nothing_in_limits : (size : ℕ) → InLimits size []
nothing_in_limits size = record { open_before = λ j below. absurd (omega arith) }

pub State-answered : (t : Terms) (entries : List (ℕ × Entry)) (closed : Bool) (answer : Answer)
    (d : Delivery)
    → d.fixed ≡ true
    → State t entries closed d → State t entries closed (answered t answer d)
State-answered t entries closed stall d is s =
    stalled_on t entries closed d (is_discardable t.mode d) (is_discardable-parts t.mode d) s
State-answered t entries closed fail d is s = s
State-answered t entries closed whole d is (going n k fixed since fits limits) =
    going (n + k) 0 false since (omega arith) (nothing_in_limits t.size)
State-answered t entries closed whole d is (owing n since fits timely) = absurd (false≢true is)
State-answered t entries closed whole d is (telling n k fixed since fits limits timely) =
    going (n + k) 0 false since (omega arith) (nothing_in_limits t.size)
State-answered t entries closed whole d is (ending n k fixed since all none fix shut) =
    over (n + k) 0 false since (omega arith) refl refl shut
State-answered t entries closed whole d is (over n k fixed since all none fix shut) =
    absurd (false≢true (sym fix ∙ is))
