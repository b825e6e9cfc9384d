-- The lines of what is told. This product's own.
use Rattle.std.specs.Prelude.{ℕ, ℤ, Bool, true, false, List, [], ◌∷◌, ◌++◌, Option, Some}
use Rattle.std.specs.Prelude.{None, codes}
use Rattle.std.specs.Fmt.{decimal, signed_decimal}
use Rattle.std.specs.List.{flat_map, list_any}
use Rattle.hex.specs.Hex.{encode_lower}
use Rattle.cds_time.specs.declared.cds.Cds.{Cds}
use Rattle.cds_time.specs.declared.cds.Rest.{Rest}
use Rattle.cds_time.specs.declared.cds.Rest.TheVariants.{Micros, Picos}
use Rattle.sle_numbers.specs.FrameQuality as qualities
use Rattle.sle_numbers.specs.LockStatus as locks
use Rattle.sle_numbers.specs.declared.frame_quality.FrameQuality.{FrameQuality}
use Rattle.sle_common.specs.Antenna.{Antenna, global, local}
use Rattle.return_pdu.specs.declared.notification.Notification.{Notification}
use Rattle.return_pdu.specs.declared.notification.Notification.TheVariants.{Loss, Production}
use Rattle.return_pdu.specs.declared.notification.Notification.TheVariants.{Backlog, EndOfData}
use Rattle.return_pdu.specs.Frames.{FrameContent}
use Rattle.return_pdu.specs.TransferItem.{ItemContent, frame, told}
use Rattle.fcltu_numbers.specs.CltuNotificationType as kinds
use Rattle.user_lines.specs.declared.told.Told.{Told}
use Rattle.user_lines.specs.declared.told.Told.TheVariants.{Nothing, Invoked, Returned, Transferred}
use Rattle.user_lines.specs.declared.told.Told.TheVariants.{Parameter, Items, Notice, Report}
use Rattle.user_lines.specs.declared.told.Told.TheVariants.{Aborted}
use Rattle.user_lines.specs.Tag.{number_of}

-- words, each behind a blank
abbrev pub behind : List (List ℕ) → List ℕ
behind [] = []
behind (word ∷ words) = 32 ∷ (word ++ behind words)

-- a first word, the words behind it, one blank apart, and the line's end
abbrev pub line : List ℕ → List (List ℕ) → List ℕ
line first words = first ++ (behind words ++ 10 ∷ [])

-- ---- words

abbrev pub rest_word : Rest → List ℕ
rest_word (Micros micros) = decimal micros
rest_word (Picos picos) = decimal picos ++ 112 ∷ []

-- days, milliseconds, and microseconds or picoseconds, as they stand: no moment need be named
abbrev pub time_word : Cds → List ℕ
time_word at = decimal at.days ++ 47 ∷ (decimal at.millis ++ 47 ∷ rest_word at.rest)

abbrev pub antenna_word : Antenna → List ℕ
antenna_word (global octets) = codes "oid:" ++ encode_lower octets
antenna_word (local octets) = encode_lower octets

abbrev pub number_words : Option ℤ → List (List ℕ)
number_words None = []
number_words (Some number) = signed_decimal number ∷ []

abbrev pub quality_words : Option FrameQuality → List (List ℕ)
quality_words None = []
quality_words (Some quality) = decimal (qualities.number_of quality) ∷ []

-- ---- items of a transfer buffer

abbrev pub content_words : ℤ → Antenna → List ℕ → List (List ℕ)
content_words continuity antenna octets =
    signed_decimal continuity ∷ antenna_word antenna ∷ encode_lower octets ∷ []

-- time, the quality for RAF alone, continuity, antenna, octets
abbrev pub frame_line : FrameContent → List ℕ
frame_line f =
    line (codes "frame")
    (time_word f.ert
    ∷ (quality_words f.quality ++ content_words f.continuity f.antenna f.octets))

abbrev pub notice_line : Notification → List ℕ
notice_line (Loss at carrier subcarrier symbol) =
    line (codes "loss")
    (time_word at ∷ decimal (locks.number_of carrier) ∷ decimal (locks.number_of subcarrier)
    ∷ decimal (locks.number_of symbol) ∷ [])
notice_line (Production status) = line (codes "production") (signed_decimal status ∷ [])
notice_line Backlog = line (codes "backlog") []
notice_line EndOfData = line (codes "end") []

abbrev pub item_line : ItemContent → List ℕ
item_line (frame f) = frame_line f
item_line (told t) = notice_line t.notice

-- whether an item is the end of the data that START asked for
abbrev pub notice_ends : Notification → Bool
notice_ends EndOfData = true
notice_ends _ = false

abbrev pub item_ends : ItemContent → Bool
item_ends (frame f) = false
item_ends (told t) = notice_ends t.notice

-- ---- returns

-- what each return begins with: positive, or negative with its diagnostic, and the tag's number
abbrev pub outcome : ℕ → Option ℤ → List ℕ
outcome number None = codes "ok" ++ behind (decimal number ∷ [])
outcome number (Some diagnostic) =
    codes "no" ++ behind (decimal number ∷ signed_decimal diagnostic ∷ [])

-- with what it says beside
abbrev pub return_line : ℕ → Option ℤ → List (List ℕ) → List ℕ
return_line number refusal words = outcome number refusal ++ (behind words ++ 10 ∷ [])

-- ---- status reports

abbrev pub SixNumbers : Type 0
SixNumbers = ℤ × ℤ × ℤ × ℤ × ℤ × ℤ

abbrev pub six_words : SixNumbers → List (List ℕ)
six_words n =
    signed_decimal n.0 ∷ signed_decimal n.1 ∷ signed_decimal n.2 ∷ signed_decimal n.3
    ∷ signed_decimal n.4 ∷ signed_decimal n.5 ∷ []

-- the error-free frames of RAF, and the numbers behind them
abbrev pub report_line : Option ℤ → SixNumbers → List ℕ
report_line error_free numbers =
    codes "report" ++ (behind (number_words error_free) ++ (behind (six_words numbers) ++ 10 ∷ []))

-- ---- what is told

abbrev pub lines_of : Told → List ℕ
lines_of Nothing = []
lines_of (Invoked tag) = line (codes "invoke") (decimal (number_of tag) ∷ [])
lines_of (Returned tag invoke refusal) = return_line (number_of tag) refusal []
lines_of (Transferred invoke refusal next free) =
    return_line 11 refusal (decimal next ∷ signed_decimal free ∷ [])
lines_of (Parameter invoke name) = line (codes "parameter") (decimal name ∷ [])
lines_of (Items items) = flat_map item_line items
lines_of (Notice kind last_ok) = line (codes "notice") (decimal (kinds.number_of kind) ∷ [])
lines_of (Report error_free numbers) = report_line error_free numbers
lines_of (Aborted diagnostic) = line (codes "abort") (decimal diagnostic ∷ [])

-- whether a message tells the end of the data
abbrev pub tells_end : Told → Bool
tells_end (Items items) = list_any item_ends items
tells_end _ = false

-- a bad message, whose first octet is at this place of the stream
abbrev pub bad_line : ℕ → List ℕ
bad_line place = line (codes "bad message") (decimal place ∷ [])
