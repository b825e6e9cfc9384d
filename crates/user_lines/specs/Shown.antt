-- The lines of a stream of messages, up to the first that is bad.
use Rattle.std.specs.Prelude.{ℕ, ◌+◌, Bool, true, false, Option, Some, None, is_some}
use Rattle.std.specs.Prelude.{List, [], ◌∷◌, ◌++◌, length}
use Rattle.isp1_tml.specs.Message.{Content, spelling}
use Rattle.isp1_tml.specs.Fault.{capped}
use Rattle.isp1_tml.specs.Unread.{Unread, unread_of}
use Rattle.sle_numbers.specs.declared.service_type.ServiceType.{ServiceType}
use Rattle.user_lines.specs.declared.told.Told.{Told}
use Rattle.user_lines.specs.Told.{told_in}
use Rattle.user_lines.specs.Lines.{lines_of, bad_line}

-- the lines, whether the last one tells a bad message, and the place of that one, or that behind
-- the last message
pub record Shown : Type 0 where
  pub text : List ℕ
  pub bad : Bool
  pub place : ℕ

-- a message at a place, before later ones; nothing is told of what stands behind a bad one
abbrev pub shown_by : ℕ → Option Told → Shown → Shown
shown_by place None later = record { text = bad_line place; bad = true; place = place }
shown_by place (Some told) later = record later { text = lines_of told ++ later.text }

-- behind the last message the octets are refused, or less than a message
abbrev pub shown_last : ℕ → Bool → Shown
shown_last place true = record { text = bad_line place; bad = true; place = place }
shown_last place false = record { text = []; bad = false; place = place }

-- messages from a place on
abbrev pub shown : ServiceType → ℕ → Bool → List Content → Shown
shown s place refused [] = shown_last place refused
shown s place refused (m ∷ messages) =
    shown_by place (told_in s m)
    (shown s (capped (place + length (spelling m))) refused messages)

abbrev pub shown_of : ServiceType → Unread → Shown
shown_of s u = shown s u.place (is_some u.fault) u.messages

-- what a stream of a service prints: one function of all its octets
abbrev pub lines : ServiceType → List ℕ → Shown
lines s octets = shown_of s (unread_of 0 octets)

-- what is left of octets once all their messages were told
abbrev pub all_told : ServiceType → Unread → Unread
all_told s u = record u { place = (shown_of s u).place; messages = [] }
