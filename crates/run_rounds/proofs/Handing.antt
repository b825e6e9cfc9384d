-- What the sessions of a door see of what is published, each where it stands in the history.
use mathlib.Core.List.{IsPrefix}
use Rattle.std.proofs.Common.{◌≡◌, ℕ, Bool, true, false, cond, List, [], ◌∷◌, ◌++◌, refl, sym, ap}
use Rattle.std.proofs.Common.{subst, ◌∙◌, append_assoc, arith}
use Rattle.archive_terms.specs.Archive.{Entry}
use Rattle.station_config.specs.declared.site.Site.{Site}
use Rattle.station_book.specs.State.{State as Book, Event}
use Rattle.station_book.specs.History.{IsLegal, replay, then_after}
use Rattle.station_book.specs.Doors.{is_by}
use Rattle.session_core.specs.Session.{session_events}
use Rattle.session_laws.specs.Losing.{own_in}
use Rattle.session_laws.specs.Deliveries.{SeesPublished, SeeEntries}
use Rattle.run_rounds.specs.Sessions.{Session, first_of, AreAsked}

-- ---- a history's events at a door, up to one of them

record Split (door : ℕ) (h : List Event) (e : Event) (rest : List Event) : Type 0 where
  others : List Event
  later : List Event
  so : h ≡ others ++ e ∷ later
  own : own_in door later ≡ rest

cond_true : (b : Bool) (x y : List Event) → b ≡ true → cond b x y ≡ x
cond_true b x y e = ap (λ (c : Bool). cond c x y) e

cond_false : (b : Bool) (x y : List Event) → b ≡ false → cond b x y ≡ y
cond_false b x y e = ap (λ (c : Bool). cond c x y) e

no_nil : (xs : List Event) (e : Event) (rest : List Event) → [] ≡ xs ++ e ∷ rest → ⊥
no_nil [] e rest is = cc is
no_nil (x ∷ xs) e rest is = cc is

with_front : (door : ℕ) (x : Event) (h : List Event) (e : Event) (rest : List Event)
    → Split door h e rest → Split door (x ∷ h) e rest
with_front door x h e rest s = record {
  others = x ∷ s.others;
  later = s.later;
  so = ap (λ (xs : List Event). x ∷ xs) s.so;
  own = s.own;
}

split : (door : ℕ) (h xs : List Event) (e : Event) (rest : List Event)
    → own_in door h ≡ xs ++ e ∷ rest → Split door h e rest
split door [] xs e rest is = absurd (no_nil xs e rest is)
split door (x ∷ h) xs e rest is = by (is_by door x.call) refl (split door h)
  where
    own_here : (ys : List Event) → x ∷ own_in door h ≡ ys ++ e ∷ rest
        → ((zs : List Event) (y : Event) (ws : List Event) → own_in door h ≡ zs ++ y ∷ ws
        → Split door h y ws)
        → Split door (x ∷ h) e rest
    own_here [] same goes = record {
      others = [];
      later = h;
      so = cc;
      own = cc;
    }
    own_here (y ∷ ys) same goes = with_front door x h e rest (goes ys e rest (cc same))

    by : (b : Bool) → is_by door x.call ≡ b
        → ((zs : List Event) (y : Event) (ws : List Event) → own_in door h ≡ zs ++ y ∷ ws
        → Split door h y ws)
        → Split door (x ∷ h) e rest
    by true own goes =
        own_here xs
        (sym (cond_true (is_by door x.call) (x ∷ own_in door h) (own_in door h) own) ∙ is) goes
    by false own goes =
        with_front door x h e rest
        (goes xs e rest
        (sym (cond_false (is_by door x.call) (x ∷ own_in door h) (own_in door h) own) ∙ is))

legal_behind : (s : Book) (h k : List Event) → IsLegal s (h ++ k) → IsLegal (replay s h) k
legal_behind s [] k is = is
legal_behind s (e ∷ h) k is = legal_behind (then_after s e) h k is.1

replay_both : (s : Book) (h k : List Event) → replay s (h ++ k) ≡ replay (replay s h) k
replay_both s [] k = refl
replay_both s (e ∷ h) k = replay_both (then_after s e) h k

-- ---- the sessions, one behind the other

module _ (sees : SeesPublished) (site : Site) (door : ℕ) (entries : List Entry) where
  pub sees_at : (sessions : List Session) (b : Book) (h es : List Event) → IsLegal b h
      → own_in door h ≡ es → AreAsked site door es sessions
      → IsPrefix (replay b h).published entries → (earlier later : List Session) (a : Session)
      → sessions ≡ earlier ++ a ∷ later
      → SeeEntries entries 0 site (first_of site door a) a.rounds
  sees_at [] b h es legal own asked front [] later a is = absurd (cc is)
  sees_at [] b h es legal own asked front (y ∷ earlier) later a is = absurd (cc is)
  sees_at (x ∷ sessions) b h es legal own asked front [] later a is =
      let x_is : x ≡ a = cc is in
      subst (λ (s : Session). SeeEntries entries 0 site (first_of site door s) s.rounds) x_is
      (sees site door b h (asked.0 ∷ asked.1) (first_of site door x) x.rounds 0 entries legal
      (own ∙ asked.2) (omega arith) front)
  sees_at (x ∷ sessions) b h es legal own asked front (y ∷ earlier) later a is =
      let cut = split door h (session_events site door (first_of site door x) x.rounds) asked.0
      asked.1 (own ∙ asked.2) in
      let first : List Event = cut.others ++ asked.0 ∷ [] in
      let so : h ≡ first ++ cut.later =
      cut.so ∙ sym (append_assoc cut.others (asked.0 ∷ []) cut.later) in
      let same : replay b h ≡ replay (replay b first) cut.later =
      ap (replay b) so ∙ replay_both b first cut.later in
      sees_at sessions (replay b first) cut.later asked.1
      (legal_behind b first cut.later (subst (IsLegal b) so legal)) cut.own asked.4
      (subst (λ (s : Book). IsPrefix s.published entries) same front) earlier later a (cc is)
