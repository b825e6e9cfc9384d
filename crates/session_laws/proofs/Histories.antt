-- The events of a door in a history.
use Rattle.std.proofs.Common.{◌≡◌, ℕ, Bool, true, false, ◌||◌, cond, List, [], ◌∷◌, ◌++◌, refl, sym, ap}
use Rattle.std.proofs.Common.{◌∙◌, arith}
use Rattle.std.specs.List.{list_any}
use Rattle.station_book.specs.State.{State as Book, Event}
use Rattle.station_book.specs.History.{IsLegal, replay, then_after}
use Rattle.station_book.specs.Doors.{is_by}
use Rattle.session_laws.specs.Losing.{own_in}

-- ---- a history's events at a door

pub record Split (door : ℕ) (h : List Event) (e : Event) (rest : List Event) : Type 0 where
  pub others : List Event
  pub later : List Event
  pub so : h ≡ others ++ e ∷ later
  pub none : list_any (λ x. is_by door x.call) others ≡ false
  pub own : own_in door later ≡ rest

pub or_none : (a b : Bool) → a ≡ false → b ≡ false → (a || b) ≡ false
or_none a b e f = grind arith

cond_true : (b : Bool) (x y : List Event) → b ≡ true → cond b x y ≡ x
cond_true b x y e = ap (λ (c : Bool). cond c x y) e

cond_false : (b : Bool) (x y : List Event) → b ≡ false → cond b x y ≡ y
cond_false b x y e = ap (λ (c : Bool). cond c x y) e

pub split : (door : ℕ) (h : List Event) (e : Event) (rest : List Event)
    → own_in door h ≡ e ∷ rest → Split door h e rest
split door [] e rest is = absurd (cc)
split door (x ∷ h) e rest is = by (is_by door x.call) refl (split door h e rest)
  where
    by : (b : Bool) → is_by door x.call ≡ b
        → (own_in door h ≡ e ∷ rest → Split door h e rest) → Split door (x ∷ h) e rest
    by true own more =
        let same : x ∷ own_in door h ≡ e ∷ rest =
        sym (cond_true (is_by door x.call) (x ∷ own_in door h) (own_in door h) own) ∙ is in
        record {
          others = [];
          later = h;
          so = cc;
          none = refl;
          own = cc;
        }
    by false own more =
        let s =
        more (sym (cond_false (is_by door x.call) (x ∷ own_in door h) (own_in door h) own) ∙ is) in
        record {
          others = x ∷ s.others;
          later = s.later;
          so = ap (λ (xs : List Event). x ∷ xs) s.so;
          none = or_none (is_by door x.call) _ own s.none;
          own = s.own;
        }

pub legal_behind : (s : Book) (h k : List Event) → IsLegal s (h ++ k) → IsLegal (replay s h) k
legal_behind s [] k is = is
legal_behind s (e ∷ h) k is = legal_behind (then_after s e) h k is.1

pub replay_both : (s : Book) (h k : List Event) → replay s (h ++ k) ≡ replay (replay s h) k
replay_both s [] k = refl
replay_both s (e ∷ h) k = replay_both (then_after s e) h k
