-- What a link in memory answers, by what came and what was ordered. This product's own rule.
use Rattle.std.specs.Prelude.{ℕ, ◌-◌, ◌==◌, ◌||◌, Bool, true, false, min, if◌then◌else◌}
use Rattle.std.specs.Prelude.{List, [], ◌∷◌, ◌++◌, length, take, drop}
use Rattle.octet_core.specs.FailingCalls.{Calls, fails_next, after_call}
use Rattle.octet_core.specs.declared.offer.Offer.{Offer}
use Rattle.octet_core.specs.declared.offer.Offer.TheVariants.{Whole, Stalled, Failed as Refused}
use Rattle.link_model.specs.declared.call.Heard.{Heard}
use Rattle.link_model.specs.declared.call.Heard.TheVariants.{Arrived, Nothing, Closed, Failed}

-- the pieces that came and are left, the oldest first; whether the peer has closed behind them;
-- whether the next poll is broken; how many of the next offers stall; and which of all calls fail
pub record Steering : Type 0 where
  pub pieces : List (List ℕ)
  pub is_shut : Bool
  pub is_broken : Bool
  pub stalling : ℕ
  pub failing : Calls

-- nothing came, and nothing was ordered but that these calls fail
abbrev pub unsteered : List ℕ → Steering
unsteered failing = record {
  pieces = [];
  is_shut = false;
  is_broken = false;
  stalling = 0;
  failing = record { failing = failing; made = 0 };
}

-- ---- what comes, and what is ordered

-- a piece comes behind those that are left; none is read behind the peer's close
abbrev pub with_piece : Steering → List ℕ → Steering
with_piece steering piece = record steering {
  pieces = if steering.is_shut then steering.pieces else steering.pieces ++ piece ∷ [];
}

-- the peer closes behind the pieces that are left
abbrev pub shut_behind : Steering → Steering
shut_behind steering = record steering { is_shut = true }

-- the next poll is broken
abbrev pub broken_next : Steering → Steering
broken_next steering = record steering { is_broken = true }

-- so many of the next offers stall, in place of what was ordered before
abbrev pub stalling_for : Steering → ℕ → Steering
stalling_for steering offers = record steering { stalling = offers }

-- ---- a poll

abbrev pub poll_fails : Steering → Bool
poll_fails steering = steering.is_broken || fails_next steering.failing

-- how many octets of a piece arrive in so much space: as many as fit
abbrev pub arriving : List ℕ → ℕ → ℕ
arriving piece space = min (length piece) space

-- so many octets of a piece arrive; where they are none, nothing does
abbrev pub arrival : List ℕ → ℕ → Heard
arrival piece n = if n == 0 then Nothing else Arrived (take n piece)

-- the oldest piece arrives, and none of the next one; behind the last one the close is heard
abbrev pub next_heard : List (List ℕ) → Bool → ℕ → Heard
next_heard (piece ∷ pieces) is_shut space = arrival piece (arriving piece space)
next_heard [] true space = Closed
next_heard [] false space = Nothing

abbrev pub heard_by : Steering → ℕ → Heard
heard_by steering space =
    if poll_fails steering then Failed else next_heard steering.pieces steering.is_shut space

-- a piece in front of the others, where any of it is left
abbrev pub left_before : List ℕ → List (List ℕ) → List (List ℕ)
left_before piece pieces = if length piece == 0 then pieces else piece ∷ pieces

abbrev pub pieces_left : List (List ℕ) → ℕ → List (List ℕ)
pieces_left (piece ∷ pieces) space = left_before (drop (arriving piece space) piece) pieces
pieces_left [] space = []

-- a poll that fails takes nothing, and is the one that was to break
abbrev pub after_poll : Steering → ℕ → Steering
after_poll steering space = record steering {
  pieces = if poll_fails steering then steering.pieces else pieces_left steering.pieces space;
  is_broken = false;
  failing = after_call steering.failing;
}

-- ---- an offer

-- a listed offer fails; of the others the next ones stall as ordered
abbrev pub answer_to_offer : Steering → Offer
answer_to_offer steering =
    if fails_next steering.failing then Refused else
    if steering.stalling == 0 then Whole else Stalled

-- every offer is one of the next ones, also one that fails
abbrev pub after_offer : Steering → Steering
after_offer steering = record steering {
  stalling = steering.stalling - 1;
  failing = after_call steering.failing;
}
