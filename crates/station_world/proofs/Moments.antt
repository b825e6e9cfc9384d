-- What holds after every list of events holds at each moment of events that follow others.
use Rattle.std.proofs.Common.{◌≡◌, List, [], ◌∷◌, ◌++◌, refl, sym, ap, subst, ◌∙◌, append_assoc}
use Rattle.station_world.specs.World.{World, before_all, Event, after_event, after_events}
use Rattle.station_world.specs.Comes.{AllCome}
use Rattle.station_world.specs.Stays.{AtEachMoment}

-- events after others lead on
pub after_both : (w : World) (a b : List Event)
    → after_events w (a ++ b) ≡ after_events (after_events w a) b
after_both w [] b = refl
after_both w (e ∷ a) b = after_both (after_event w e) a b

pub come_both : (w : World) (a b : List Event) → AllCome w a → AllCome (after_events w a) b
    → AllCome w (a ++ b)
come_both w [] b first second = second
come_both w (e ∷ a) b first second = (first.0, come_both (after_event w e) a b first.1 second)

-- what a law says of all events and of all that come after them
abbrev IsLaw : (World → World → Type 0) → Type 0
IsLaw holds = (events more : List Event) → AllCome before_all (events ++ more)
    → holds (after_events before_all events) (after_events before_all (events ++ more))

pub at_each_moment : (holds : World → World → Type 0) → IsLaw holds → (w : World)
    (events : List Event) → AtEachMoment holds w events
at_each_moment holds law w events = λ earlier prefix next before is begins come.
    let joined : (earlier ++ prefix) ++ next ≡ earlier ++ (prefix ++ next) =
    append_assoc earlier prefix next in
    let all : AllCome before_all (earlier ++ (prefix ++ next)) =
    come_both before_all earlier (prefix ++ next) before
    (subst (λ (v : World). AllCome v (prefix ++ next)) (sym is) come) in
    let now : after_events before_all (earlier ++ prefix) ≡ after_events w prefix =
    after_both before_all earlier prefix ∙ ap (λ (v : World). after_events v prefix) is in
    let end : after_events before_all ((earlier ++ prefix) ++ next)
    ≡ after_events w (prefix ++ next) =
    ap (after_events before_all) joined ∙ after_both before_all earlier (prefix ++ next)
    ∙ ap (λ (v : World). after_events v (prefix ++ next)) is in
    subst (λ (v : World). holds v (after_events w (prefix ++ next))) now
    (subst (holds (after_events before_all (earlier ++ prefix))) end
    (law (earlier ++ prefix) next (subst (AllCome before_all) (sym joined) all)))
