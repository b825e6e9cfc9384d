-- Whether a session goes on.
use Rattle.std.specs.Prelude.{Bool, true, false}
use Rattle.session_core.specs.declared.arrival.Arrival.{Arrival}
use Rattle.session_core.specs.declared.arrival.Arrival.TheVariants.{Blocked, Octets, Closed}
use Rattle.session_core.specs.declared.course.Course.{Course}
use Rattle.session_core.specs.declared.course.Course.TheVariants.{Going, Closing, Over, LinkFailed}
use Rattle.session_core.specs.declared.course.Course.TheVariants.{Spent}

-- it handles messages
abbrev pub is_going : Course → Bool
is_going Going = true
is_going _ = false

-- it has a link: it handles messages, or waits until its last block was taken
abbrev pub is_live : Course → Bool
is_live Going = true
is_live (Closing _) = true
is_live _ = false

-- it has ended, by its link's failure too
abbrev pub is_over : Course → Bool
is_over (Over _) = true
is_over LinkFailed = true
is_over _ = false

-- a step of it wanted memory: no session comes to this by the answers of its link and of the book
abbrev pub is_spent : Course → Bool
is_spent Spent = true
is_spent _ = false

-- it goes on, closes, or has ended by no fault of its link
abbrev pub is_plain : Course → Bool
is_plain (Over _) = true
is_plain course = is_live course

abbrev pub is_blocked : Arrival → Bool
is_blocked Blocked = true
is_blocked _ = false

abbrev pub has_arrived : Arrival → Bool
has_arrived Octets = true
has_arrived _ = false

abbrev pub has_closed : Arrival → Bool
has_closed Closed = true
has_closed _ = false
