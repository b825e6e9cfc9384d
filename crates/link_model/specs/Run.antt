-- Whole runs of a link in memory: what comes and what is ordered, between its polls and offers.
use Rattle.std.specs.Prelude.{ℕ, if◌then◌else◌, List, [], ◌∷◌, ◌++◌}
use Rattle.std.specs.List.{flat_map}
use Rattle.link_model.specs.Calls.{arrived_at}
use Rattle.link_model.specs.Steering.{Steering, with_piece, shut_behind, broken_next}
use Rattle.link_model.specs.Steering.{stalling_for, heard_by, after_poll, after_offer}

-- a step of a run: something comes or is ordered, or the link is called
pub data Step : Type 0 where
  comes : List ℕ → Step
  shuts : Step
  breaks : Step
  stalls_for : ℕ → Step
  is_polled : ℕ → Step
  is_offered : Step

abbrev pub after_step : Steering → Step → Steering
after_step steering (comes piece) = with_piece steering piece
after_step steering shuts = shut_behind steering
after_step steering breaks = broken_next steering
after_step steering (stalls_for offers) = stalling_for steering offers
after_step steering (is_polled space) = after_poll steering space
after_step steering is_offered = after_offer steering

abbrev pub after_run : Steering → List Step → Steering
after_run steering [] = steering
after_run steering (step ∷ steps) = after_run (after_step steering step) steps

-- the octets that come in a step: those of a piece, but behind the close none
abbrev pub come_in : Steering → Step → List ℕ
come_in steering (comes piece) = if steering.is_shut then [] else piece
come_in steering shuts = []
come_in steering breaks = []
come_in steering (stalls_for offers) = []
come_in steering (is_polled space) = []
come_in steering is_offered = []

-- the octets that a step's poll hears
abbrev pub heard_in : Steering → Step → List ℕ
heard_in steering (is_polled space) = arrived_at (heard_by steering space)
heard_in steering (comes piece) = []
heard_in steering shuts = []
heard_in steering breaks = []
heard_in steering (stalls_for offers) = []
heard_in steering is_offered = []

abbrev pub come_in_run : Steering → List Step → List ℕ
come_in_run steering [] = []
come_in_run steering (step ∷ steps) =
    come_in steering step ++ come_in_run (after_step steering step) steps

abbrev pub heard_in_run : Steering → List Step → List ℕ
heard_in_run steering [] = []
heard_in_run steering (step ∷ steps) =
    heard_in steering step ++ heard_in_run (after_step steering step) steps

-- the octets that came and weren't heard yet
abbrev pub octets_left : Steering → List ℕ
octets_left steering = flat_map (λ piece. piece) steering.pieces
