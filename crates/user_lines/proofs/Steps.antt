-- The lines of messages, one message after the other.
use Rattle.std.proofs.Common.{◌≡◌, ℕ, ◌<◌, List, [], ◌∷◌, ◌++◌, length, Option, Some, None, Ok, refl}
use Rattle.std.proofs.Common.{true, ◌∙◌, arith}
use Rattle.std.specs.Prelude.{is_some}
use Rattle.isp1_tml.specs.declared.tml_fault.TmlFault.{TmlFault}
use Rattle.isp1_tml.specs.Message.{Content}
use Rattle.isp1_tml.specs.Unread.{Unread, first_by, first_of, behind_by, behind_first}
use Rattle.sle_numbers.specs.declared.service_type.ServiceType.{ServiceType}
use Rattle.user_lines.specs.declared.told.Told.{Told}
use Rattle.user_lines.specs.Told.{told_in}
use Rattle.user_lines.specs.Lines.{lines_of, bad_line}
use Rattle.user_lines.specs.Shown.{shown, shown_by, shown_of, all_told}

first_shown : (s : ServiceType) (place : ℕ) (rest : List ℕ) (fault : Option TmlFault)
    (messages : List Content) (m : Content) → Ok (Some m) ≡ first_by messages fault
    → shown s place (is_some fault) messages
    ≡ shown_by place (told_in s m)
    (shown_of s
    (behind_by (record { place = place; messages = messages; rest = rest; fault = fault })
    messages))
first_shown s place rest fault (n ∷ messages) m e = let same : m ≡ n = cc in rw same refl
first_shown s place rest None [] m e = absurd cc
first_shown s place rest (Some f) [] m e = absurd cc

-- a message, and what is left behind it
pub first_of_all : (s : ServiceType) (u v : Unread) (m : Content) → Ok (Some m) ≡ first_of u
    → v ≡ behind_first u → shown_of s u ≡ shown_by u.place (told_in s m) (shown_of s v)
first_of_all s u v m e is =
    first_shown s u.place u.rest u.fault u.messages m e ∙ rw is refl

-- the lines of a message, and those of what is left behind it
pub step : (s : ServiceType) (u v : Unread) (m : Content) (t : Told) → Ok (Some m) ≡ first_of u
    → v ≡ behind_first u → Some t ≡ told_in s m
    → shown_of s u ≡ record (shown_of s v) { text = lines_of t ++ (shown_of s v).text }
step s u v m t e is told = first_of_all s u v m e is ∙ rw (← told) refl

left_by : (s : ServiceType) (place : ℕ) (rest : List ℕ) (fault : Option TmlFault)
    (messages : List Content) (m : Content) (t : Told) → Ok (Some m) ≡ first_by messages fault
    → Some t ≡ told_in s m
    → all_told s (record { place = place; messages = messages; rest = rest; fault = fault })
    ≡ all_told s
    (behind_by (record { place = place; messages = messages; rest = rest; fault = fault })
    messages)
left_by s place rest fault (n ∷ messages) m t e told =
    let same : m ≡ n = cc in
    let is : Some t ≡ told_in s n = rw same at told in
    rw (← is) refl
left_by s place rest None [] m t e told = absurd cc
left_by s place rest (Some f) [] m t e told = absurd cc

-- a message that is told changes nothing of what is left once all are
pub left : (s : ServiceType) (u v : Unread) (m : Content) (t : Told) → Ok (Some m) ≡ first_of u
    → v ≡ behind_first u → Some t ≡ told_in s m → all_told s u ≡ all_told s v
left s u v m t e is told = rw is (left_by s u.place u.rest u.fault u.messages m t e told)

-- a bad message
pub bad : (s : ServiceType) (u v : Unread) (m : Content) → Ok (Some m) ≡ first_of u
    → v ≡ behind_first u → None ≡ told_in s m
    → shown_of s u ≡ record { text = bad_line u.place; bad = true; place = u.place }
bad s u v m e is told = first_of_all s u v m e is ∙ rw (← told) refl

smaller_by : (u : Unread) (messages : List Content) (fault : Option TmlFault) (m : Content)
    → Ok (Some m) ≡ first_by messages fault
    → length (behind_by u messages).messages < length messages
smaller_by u (n ∷ messages) fault m e = omega arith
smaller_by u [] None m e = absurd cc
smaller_by u [] (Some f) m e = absurd cc

-- a message less is left
pub smaller : (u v : Unread) (m : Content) → Ok (Some m) ≡ first_of u → v ≡ behind_first u
    → length v.messages < length u.messages
smaller u v m e is = rw is (smaller_by u u.messages u.fault m e)
