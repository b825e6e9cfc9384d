-- A session's step and its event.
use Rattle.std.proofs.Common.{◌≡◌, ℕ, false, List, [], ◌∷◌, ◌++◌, if◌then◌else◌, ap, subst, ◌∙◌}
use Rattle.station_config.specs.declared.site.Site.{Site}
use Rattle.station_book.specs.State as book
use Rattle.station_book.specs.History.{after, replay}
use Rattle.session_core.specs.SessionState.{SessionState}
use Rattle.session_core.specs.Outcome.{has_ended}
use Rattle.session_core.specs.Lists.{GoesStep, StandsAt, to_speak}
use Rattle.session_turns.specs.Stepping.{call_now, event_now, StepsBy}

pub book_by : (site : Site) (reading : ℕ) (b c : book.State) (v w : SessionState)
    → has_ended v ≡ false → GoesStep site reading b c v w
    → c ≡ after b (call_now site v b reading)
book_by site reading b c v w going goes =
    goes.book_is
    ∙ ap (λ x. replay b (if x then [] else event_now site v b reading ∷ [])) going

pub steps_by : (site : Site) (reading : ℕ) (b c : book.State) (v w : SessionState)
    → has_ended v ≡ false → GoesStep site reading b c v w
    → StepsBy site (event_now site v b reading) v w
steps_by site reading b c v w going goes = record {
  failed = goes.failed;
  stands = λ began calls events same h.
      subst
      (λ x. StandsAt to_speak began w calls
      (events ++ (if x then [] else event_now site v b reading ∷ [])))
      going (goes.stands began calls events same h);
}
