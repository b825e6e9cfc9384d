-- One call more, and the end.
use Rattle.std.proofs.Common.{◌≡◌, ℕ, ◌+◌, true, false, List, [], ◌∷◌, ◌++◌, length, length-append}
use Rattle.std.proofs.Common.{map, Some, None, refl, ap, sym, subst, ◌∙◌, append_assoc, append-nil}
use Rattle.std.proofs.Common.{arith}
use Rattle.std.proofs.lemmas.List.{map-append}
use Rattle.turn_lock.specs.PassState.{PassState, Lock}
use Rattle.turn_lock.specs.Own.{mark}
use Rattle.turn_lock.specs.declared.view.Mark.{Mark}
use Rattle.turn_lock.specs.declared.pass.Standing.TheVariants.{Ready}
use Rattle.sample_lock.specs.Ledger.{opened, IsLegal}
use Rattle.sample_lock.specs.DeskReport.{DeskReport, Adds}
use Rattle.sample_lock.specs.Served.{booked, MadeOne, AreOf, answers_of, readings_of, replies_of}
use Rattle.sample_lock.specs.Served.{Served, HasServed}
use Rattle.sample_lock.specs.declared.account.Opening.{Opening}
use Rattle.sample_lock.specs.declared.booking.Booking.{Booking}
use Rattle.sample_lock.specs.declared.order.Order.{Order}
use Rattle.sample_lock.specs.declared.order.Reply.{Reply}
use Rattle.sample_lock.proofs.Tellings.{adds_nothing, adds_on}

are_of_last : (clerk : ℕ) (ms : List (Mark Booking)) (m : Mark Booking) → AreOf clerk ms
    → m.event.clerk ≡ clerk → AreOf clerk (ms ++ m ∷ [])
are_of_last clerk [] m all now = (now, tt)
are_of_last clerk (x ∷ ms) m all now = (all.0, are_of_last clerk ms m all.1 now)

pub served_nothing : (clerk : ℕ) (own : List (Mark Booking)) (told : DeskReport)
    → Served clerk true own own told told
served_nothing clerk own told = record {
  gained = [];
  adds = sym (append-nil own);
  clerks = tt;
  told = adds_nothing told;
}

-- one order more was answered
served_more : (clerk reading : ℕ) (o : Order) (reply : Reply) (own own₁ own₂ : List (Mark Booking))
    (a b c d : DeskReport) (m : Mark Booking)
    → Served clerk true own own₁ a b → Adds b c (Some o ∷ []) (reading ∷ []) []
    → Adds c d [] [] (reply ∷ []) → own₂ ≡ own₁ ++ m ∷ []
    → m.event.clerk ≡ clerk → m.event.reading ≡ reading → m.event.order ≡ o → m.event.reply ≡ reply
    → Served clerk true own own₂ a d
served_more clerk reading o reply own own₁ own₂ a b c d m so asked took adds by at of to =
    let ms = so.gained in
    let both = adds_on b c d (Some o ∷ []) [] (reading ∷ []) [] [] (reply ∷ []) asked took in
    let whole = adds_on a b d (answers_of ms true) (Some o ∷ []) (readings_of ms) (reading ∷ [])
    (replies_of ms) (reply ∷ []) so.told both in
    let answers : answers_of ms true ++ Some o ∷ [] ≡ answers_of (ms ++ m ∷ []) true =
    ap (λ xs. xs ++ Some o ∷ []) (append-nil (map (λ (x : Mark Booking). Some x.event.order) ms))
    ∙ (ap (λ x. map (λ (y : Mark Booking). Some y.event.order) ms ++ Some x ∷ []) (sym of)
    ∙ (sym (map-append (λ (x : Mark Booking). Some x.event.order) ms (m ∷ []))
    ∙ sym (append-nil _))) in
    let readings : readings_of ms ++ reading ∷ [] ≡ readings_of (ms ++ m ∷ []) =
    ap (λ x. readings_of ms ++ x ∷ []) (sym at)
    ∙ sym (map-append (λ (x : Mark Booking). x.event.reading) ms (m ∷ [])) in
    let replies : replies_of ms ++ reply ∷ [] ≡ replies_of (ms ++ m ∷ []) =
    ap (λ x. replies_of ms ++ x ∷ []) (sym to)
    ∙ sym (map-append (λ (x : Mark Booking). x.event.reply) ms (m ∷ [])) in
    record {
      gained = ms ++ m ∷ [];
      adds = adds ∙ (ap (λ x. x ++ m ∷ []) so.adds ∙ append_assoc own ms (m ∷ []));
      clerks = are_of_last clerk ms m so.clerks by;
      told = subst (λ x. Adds a d x (readings_of (ms ++ m ∷ [])) (replies_of (ms ++ m ∷ [])))
          answers
          (subst (λ x. Adds a d (answers_of ms true ++ Some o ∷ []) x (replies_of (ms ++ m ∷ [])))
          readings
          (subst (λ x. Adds a d (answers_of ms true ++ Some o ∷ []) (readings_of ms ++ reading ∷ [])
          x) replies whole));
    }

-- the desk was closed
served_end : (clerk : ℕ) (own own' : List (Mark Booking)) (a b c : DeskReport)
    → Served clerk true own own' a b → Adds b c (None ∷ []) [] [] → Served clerk false own own' a c
served_end clerk own own' a b c so closed =
    let ms = so.gained in
    let whole = adds_on a b c (answers_of ms true) (None ∷ []) (readings_of ms) [] (replies_of ms)
    [] so.told closed in
    let answers : answers_of ms true ++ None ∷ [] ≡ answers_of ms false =
    ap (λ xs. xs ++ None ∷ []) (append-nil (map (λ (x : Mark Booking). Some x.event.order) ms))
    in
    record {
      gained = ms;
      adds = so.adds;
      clerks = so.clerks;
      told = subst (λ x. Adds a c x (readings_of ms) (replies_of ms)) answers
          (subst (λ x. Adds a c (answers_of ms true ++ None ∷ []) x (replies_of ms))
          (append-nil (readings_of ms))
          (subst (λ x. Adds a c (answers_of ms true ++ None ∷ []) (readings_of ms ++ []) x)
          (append-nil (replies_of ms)) whole));
    }

-- so far a clerk served its desk, whose turns weren't spent
pub record Serving (lock : Lock Opening) (clerk : ℕ) (old new : PassState Booking Opening)
    (before after : DeskReport) : Type 0 where
  pub lock_is : new.lock ≡ Some lock
  pub ready : new.standing ≡ Ready
  pub joined : new.joined ≡ old.joined
  pub turns : new.left + new.entered ≡ old.left + old.entered
  pub each_turn : new.entered + length old.own ≡ old.entered + length new.own
  pub served : Served clerk true old.own new.own before after
  pub legal : IsLegal (opened lock.origin) old.seen → IsLegal (opened lock.origin) new.seen

pub serving_nothing : (lock : Lock Opening) (clerk : ℕ) (pass : PassState Booking Opening)
    (told : DeskReport)
    → pass.lock ≡ Some lock → pass.standing ≡ Ready → Serving lock clerk pass pass told told
serving_nothing lock clerk pass told l r = record {
  lock_is = l;
  ready = r;
  joined = refl;
  turns = refl;
  each_turn = refl;
  served = served_nothing clerk pass.own told;
  legal = λ x. x;
}

pub serving_more : (lock : Lock Opening) (clerk reading : ℕ) (o : Order) (reply : Reply)
    (p q r : PassState Booking Opening) (a b c d : DeskReport)
    → Serving lock clerk p q a b → Adds b c (Some o ∷ []) (reading ∷ []) []
    → Adds c d [] [] (reply ∷ []) → MadeOne lock.origin clerk reading o reply q r
    → (r.lock ≡ q.lock) × (r.standing ≡ Ready) × (r.joined ≡ q.joined)
    → (r.left + 1 ≡ q.left) × (r.entered ≡ q.entered + 1) → IsLegal (opened lock.origin) r.seen
    → Serving lock clerk p r a d
serving_more lock clerk reading o reply p q r a b c d so asked took made still turn legal =
    let e = booked lock.origin made.before clerk reading o in
    let one = ap length made.own ∙ length-append q.own (mark made.before e ∷ []) in
    record {
      lock_is = still.0 ∙ so.lock_is;
      ready = still.1;
      joined = still.2 ∙ so.joined;
      turns = omega (arith, so.turns, turn.0, turn.1);
      each_turn = omega (arith, so.each_turn, turn.1, one);
      served = served_more clerk reading o reply p.own q.own r.own a b c d (mark made.before e)
          so.served asked took made.own refl refl refl (sym made.replied);
      legal = λ _. legal;
    }

pub serving_spent : (lock : Lock Opening) (clerk : ℕ) (p q : PassState Booking Opening)
    (a b : DeskReport) → Serving lock clerk p q a b → q.left ≡ 0 → HasServed lock clerk true p q a b
serving_spent lock clerk p q a b so none = record {
  lock_is = so.lock_is;
  ready = so.ready;
  joined = so.joined;
  turns = so.turns;
  each_turn = so.each_turn;
  ended = λ _. none;
  served = so.served;
  legal = so.legal;
}

pub serving_end : (lock : Lock Opening) (clerk : ℕ) (p q : PassState Booking Opening)
    (a b c : DeskReport)
    → Serving lock clerk p q a b → Adds b c (None ∷ []) [] [] → HasServed lock clerk false p q a c
serving_end lock clerk p q a b c so closed = record {
  lock_is = so.lock_is;
  ready = so.ready;
  joined = so.joined;
  turns = so.turns;
  each_turn = so.each_turn;
  ended = λ e. absurd (cc e);
  served = served_end clerk p.own q.own a b c so.served closed;
  legal = so.legal;
}
