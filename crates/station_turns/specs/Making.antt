-- A call that was made in a turn, by what the turn's calls ensure.
use Rattle.std.proofs.Common.{◌≡◌, ℕ, ◌+◌, ◌-◌, List, [], ◌∷◌, ◌++◌, ap, sym, ◌∙◌}
use Rattle.turn_lock.specs.PassState.{PassState}
use Rattle.turn_lock.specs.Own.{mark}
use Rattle.turn_lock.specs.declared.pass.Standing.TheVariants.{Ready, InTurn}
use Rattle.station_book.specs.State.{Opening, State, opened, Call, Event}
use Rattle.station_book.specs.History.{event_at, replay, StandsAs}
use Rattle.station_book.specs.Named.{IsMadeBy}
use Rattle.station_turns.specs.Turned.{called}

-- the book of a turn is the replay of the turn's list
pub book_is : (o : Opening) (h : List Event) (b b1 : State) → StandsAs b h → b.opening ≡ o
    → b1 ≡ b → b1 ≡ replay (opened o) h
book_is o h b b1 stands origin same =
    same ∙ (stands.replayed ∙ ap (λ x. replay (opened x) h) origin)

pub event_is : (o : Opening) (h : List Event) (call : Call) (b b1 b2 : State) (e : Event)
    → StandsAs b h → b.opening ≡ o → b1 ≡ b → IsMadeBy call b1 b2 e → e ≡ called o h call
event_is o h call b b1 b2 e stands origin same made =
    made.event_is ∙ ap (λ x. event_at x call) (book_is o h b b1 stands origin same)

pub pass_by : (p m q : PassState Event Opening) (h : List Event) (e now : Event)
    → p.standing ≡ Ready
    → m ≡ record p { standing = InTurn; left = p.left - 1; entered = p.entered + 1 }
    → q ≡ record m {
      standing = Ready;
      seen = h ++ e ∷ [];
      own = m.own ++ mark h e ∷ [];
    }
    → e ≡ now
    → q ≡ record p {
      left = p.left - 1;
      entered = p.entered + 1;
      seen = h ++ now ∷ [];
      own = p.own ++ mark h now ∷ [];
    }
pass_by p m q h e now ready first second is =
    second
    ∙ (ap (λ (x : PassState Event Opening). record x {
      standing = Ready;
      seen = h ++ e ∷ [];
      own = x.own ++ mark h e ∷ [];
    }) first
    ∙ (ap (λ s. record p {
      standing = s;
      left = p.left - 1;
      entered = p.entered + 1;
      seen = h ++ e ∷ [];
      own = p.own ++ mark h e ∷ [];
    }) (sym ready)
    ∙ ap (λ y. record p {
      left = p.left - 1;
      entered = p.entered + 1;
      seen = h ++ y ∷ [];
      own = p.own ++ mark h y ∷ [];
    }) is))
