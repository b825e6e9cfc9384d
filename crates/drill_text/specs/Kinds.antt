-- The kinds of words that only scripts have.
use Rattle.std.proofs.Common.{◌≡◌, ℕ, ◌⊎◌, inl, inr, Bool, true, false, List, [], ◌∷◌, Option, Some}
use Rattle.std.proofs.Common.{None, refl, sym, ◌∙◌, ap, append-nil}
use Rattle.std.specs.Char.{is_ascii_digit}
use Rattle.std.specs.Prelude.{codes}
use Rattle.sle_common.specs.declared.gvcid.Channel.{Channel}
use Rattle.sle_common.specs.declared.gvcid.Gvcid.{Gvcid}
use Rattle.sle_common.specs.declared.report_kind.ReportKind.{ReportKind}
use Rattle.sle_common.specs.declared.report_kind.ReportKind.TheVariants.{Now, Cycle, Stop}
use Rattle.fcltu_numbers.specs.CltuProductionStatus as forward_status
use Rattle.fcltu_numbers.specs.UplinkStatus as uplink_status
use Rattle.fcltu_numbers.specs.declared.cltu_production_status.CltuProductionStatus.{CltuProductionStatus}
use Rattle.fcltu_numbers.specs.declared.uplink_status.UplinkStatus.{UplinkStatus}
use Rattle.sle_numbers.specs.FrameQuality as frame_quality
use Rattle.sle_numbers.specs.LockStatus as lock_status
use Rattle.sle_numbers.specs.RequestedFrameQuality as requested_quality
use Rattle.sle_numbers.specs.ReturnProductionStatus as production_status
use Rattle.sle_numbers.specs.declared.frame_quality.FrameQuality.{FrameQuality}
use Rattle.sle_numbers.specs.declared.lock_status.LockStatus.{LockStatus}
use Rattle.sle_numbers.specs.declared.requested_frame_quality.RequestedFrameQuality.{RequestedFrameQuality}
use Rattle.sle_numbers.specs.declared.return_production_status.ReturnProductionStatus.{ReturnProductionStatus}
use Rattle.words.specs.Channels.{channel, gvcid}
use Rattle.words.specs.Either.{either}
use Rattle.words.specs.Fixed.{fixed, word_or}
use Rattle.words.specs.Kind.{Kind, kind_as}
use Rattle.words.specs.Last.{last}
use Rattle.words.specs.Listed.{AreListed, listed}
use Rattle.words.specs.Maybe.{maybe}
use Rattle.words.specs.Number.{number, number_read}
use Rattle.words.specs.Numbers.{numbered}
use Rattle.words.specs.Parts.{parts, to_parts}
use Rattle.words.specs.Row.{Row, row_as}
use Rattle.words.specs.Steps.{◌>>=◌}
use Rattle.words.specs.Then.{◌▸◌, pair_read}
use Rattle.drill_text.specs.declared.pick.Pick.{Pick}
use Rattle.drill_text.specs.declared.pick.Pick.TheVariants.{Old, New, Torn}
use Rattle.drill_text.specs.declared.wanted.Wanted.{Wanted}
use Rattle.drill_text.specs.declared.wanted.Wanted.TheVariants.{OfChannel, OfQuality}

-- a connection, 1 to 16
abbrev pub connection : Kind ℕ
connection = number 1 16

-- rounds, offers and device calls, 1 to 1000
abbrev pub times : Kind ℕ
times = number 1 1000

-- how a frame was received, a lock's status and that of production, and which frames a START asks
-- for: their numbers
abbrev pub quality : Kind FrameQuality
quality = numbered frame_quality.number_of frame_quality.all frame_quality.each

abbrev pub lock : Kind LockStatus
lock = numbered lock_status.number_of lock_status.all lock_status.each

abbrev pub production : Kind ReturnProductionStatus
production = numbered production_status.number_of production_status.all production_status.each

abbrev pub requested : Kind RequestedFrameQuality
requested = numbered requested_quality.number_of requested_quality.all requested_quality.each

-- the status of forward production, and that of the uplink: their numbers
abbrev pub forward_production : Kind CltuProductionStatus
forward_production = numbered forward_status.number_of forward_status.all forward_status.each

abbrev pub uplink : Kind UplinkStatus
uplink = numbered uplink_status.number_of uplink_status.all uplink_status.each

-- what a read gives after a stop
abbrev pub pick_word : Pick → List ℕ
pick_word Old = codes "old"
pick_word New = codes "new"
pick_word Torn = codes "torn"

abbrev pub picks : List Pick
picks = Old ∷ New ∷ Torn ∷ []

pub picks_are_listed : AreListed pick_word picks
picks_are_listed Old = refl
picks_are_listed New = refl
picks_are_listed Torn = refl

abbrev pub pick : Kind Pick
pick = listed pick_word picks picks_are_listed

-- whether a notice is wanted: 0 it is, 1 it isn't
abbrev pub notice_word : Bool → List ℕ
notice_word true = codes "0"
notice_word false = codes "1"

abbrev pub notices : List Bool
notices = true ∷ false ∷ []

pub notices_are_listed : AreListed notice_word notices
notices_are_listed true = refl
notices_are_listed false = refl

abbrev pub notice : Kind Bool
notice = listed notice_word notices notices_are_listed

-- `now`, `stop`, or seconds from report to report
abbrev pub report_of : Option (Option ℕ) → ReportKind
report_of None = Now
report_of (Some None) = Stop
report_of (Some (Some seconds)) = Cycle seconds

abbrev pub of_report : ReportKind → Option (Option ℕ)
of_report Now = None
of_report Stop = Some None
of_report (Cycle seconds) = Some (Some seconds)

pub report_there : (r : ReportKind) → report_of (of_report r) ≡ r
report_there Now = refl
report_there Stop = refl
report_there (Cycle seconds) = refl

pub report_back : (o : Option (Option ℕ)) → of_report (report_of o) ≡ o
report_back None = refl
report_back (Some None) = refl
report_back (Some (Some seconds)) = refl

abbrev pub report : Kind ReportKind
report = kind_as (word_or (codes "now") (word_or (codes "stop") (number 0 65535) refl) refl)
    (record { to = report_of; from = of_report; there = report_there; back = report_back })

-- the last word of a START for frames: a channel, or a quality
abbrev pub wanted_of : Gvcid ⊎ RequestedFrameQuality → Wanted
wanted_of (inl g) = OfChannel g
wanted_of (inr q) = OfQuality q

abbrev pub of_wanted : Wanted → Gvcid ⊎ RequestedFrameQuality
of_wanted (OfChannel g) = inl g
of_wanted (OfQuality q) = inr q

pub wanted_there : (w : Wanted) → wanted_of (of_wanted w) ≡ w
wanted_there (OfChannel g) = refl
wanted_there (OfQuality q) = refl

pub wanted_back : (s : Gvcid ⊎ RequestedFrameQuality) → of_wanted (wanted_of s) ≡ s
wanted_back (inl g) = refl
wanted_back (inr q) = refl

pair_alone : {X Y : Type 0} (first : List ℕ → Option X) (others : List (List ℕ)
    → Option Y) (w : List ℕ) → others [] ≡ None → pair_read first others (w ∷ []) ≡ None
pair_alone {X} {Y} first others w e = elim (first w) as
    (λ o. ◌>>=◌ {A = X} {B = X × Y} o (λ x. ◌>>=◌ {A = Y} {B = X × Y} (others [])
    (λ y. Some (x, y))) ≡ None) [ None ↦ refl | Some x ↦ rw e refl ]

abbrev channel_fields : Row (ℕ × (ℕ × Channel))
channel_fields = number 0 1023 ▸ number 0 3 ▸ last channel

-- a number has no part behind a slash
pub no_channel : (w : List ℕ) (q : RequestedFrameQuality) → requested.Fits q → requested.Spells q w
    → gvcid.read w ≡ None
no_channel w q fits e =
    let one : parts 47 w ≡ w ∷ [] = ap (parts 47) (sym (append-nil w))
    ∙ to_parts 47 is_ascii_digit refl w [] (requested.clean w q fits e) tt in
    let none : channel_fields.read (parts 47 w) ≡ None = ap channel_fields.read one
    ∙ pair_alone (number_read 0 1023) (number 0 3 ▸ last channel).read w refl in
    rw none refl

abbrev pub wanted : Kind Wanted
wanted = kind_as (either gvcid requested no_channel)
    (record { to = wanted_of; from = of_wanted; there = wanted_there; back = wanted_back })

-- `fail`, or no word
abbrev pub fails_of : Option (Unit {0}) → Bool
fails_of None = false
fails_of (Some fail) = true

abbrev pub of_fails : Bool → Option (Unit {0})
of_fails false = None
of_fails true = Some tt

pub fails_there : (b : Bool) → fails_of (of_fails b) ≡ b
fails_there false = refl
fails_there true = refl

pub fails_back : (o : Option (Unit {0})) → of_fails (fails_of o) ≡ o
fails_back None = refl
fails_back (Some fail) = refl

abbrev pub fails : Row Bool
fails = row_as (maybe (fixed (codes "fail")))
    (record { to = fails_of; from = of_fails; there = fails_there; back = fails_back })
