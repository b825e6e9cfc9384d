-- The lines of a stream that ends, and how a program that prints it ends. This product's own.
use Rattle.std.specs.Prelude.{ℕ, Bool, true, false, List, [], ◌∷◌, ◌++◌}
use Rattle.isp1_tml.specs.Unread.{Unread, unread_of}
use Rattle.sle_numbers.specs.declared.service_type.ServiceType.{ServiceType}
use Rattle.user_lines.specs.Lines.{bad_line}
use Rattle.user_lines.specs.Shown.{Shown, shown_of}
use Rattle.user_show.specs.declared.ending.Ending.{Ending}
use Rattle.user_show.specs.declared.ending.Ending.TheVariants as ending

-- octets left over are a bad message
abbrev pub rest_line : ℕ → List ℕ → List ℕ
rest_line place [] = []
rest_line place (octet ∷ rest) = bad_line place

abbrev pub rest_ending : List ℕ → Ending
rest_ending [] = ending.Done
rest_ending (octet ∷ rest) = ending.BadMessage

-- nothing is told of what stands behind a bad message
abbrev pub text_by : Bool → List ℕ → List ℕ → List ℕ
text_by true text line = text
text_by false text line = text ++ line

abbrev pub ending_by : Bool → List ℕ → Ending
ending_by true rest = ending.BadMessage
ending_by false rest = rest_ending rest

abbrev pub text_in : ServiceType → Unread → List ℕ
text_in service u =
    text_by (shown_of service u).bad (shown_of service u).text
    (rest_line (shown_of service u).place u.rest)

abbrev pub ending_in : ServiceType → Unread → Ending
ending_in service u = ending_by (shown_of service u).bad u.rest

-- the lines of all octets of a stream, whose last ones may be less than a message
abbrev pub text_of : ServiceType → List ℕ → List ℕ
text_of service octets = text_in service (unread_of 0 octets)

-- done, or a bad message
abbrev pub ending_of : ServiceType → List ℕ → Ending
ending_of service octets = ending_in service (unread_of 0 octets)

-- the endings of a stream that was printed whole
abbrev pub EndsOwn : Ending → Type 0
EndsOwn ending.Done = Unit {0}
EndsOwn ending.BadMessage = Unit {0}
EndsOwn _ = ⊥

-- how the printing of octets ends
abbrev pub IsOfText : Ending → Type 0
IsOfText ending.Done = Unit {0}
IsOfText ending.BadMessage = Unit {0}
IsOfText ending.WriteFault = Unit {0}
IsOfText ending.Memory = Unit {0}
IsOfText _ = ⊥

-- how the printing of an input ends
abbrev pub IsOfShow : Ending → Type 0
IsOfShow ending.ReadFault = Unit {0}
IsOfShow ending.InputTooLong = Unit {0}
IsOfShow e = IsOfText e
