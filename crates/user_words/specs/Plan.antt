-- What the words of a user's command line ask for. This product's own.
use Rattle.std.specs.Prelude.{◌≡◌, ℕ, ◌≤◌, IsTrue, Option, Some, None, List, [], ◌∷◌}
use Rattle.cds_time.specs.declared.cds.Cds.{Cds}
use Rattle.sle_common.specs.declared.gvcid.Gvcid.{Gvcid}
use Rattle.sle_common.specs.declared.instance_id.InstancePart.{InstancePart}
use Rattle.sle_numbers.specs.RequestedFrameQuality as qualities
use Rattle.sle_numbers.specs.declared.requested_frame_quality.RequestedFrameQuality.{RequestedFrameQuality}
use Rattle.sle_numbers.specs.declared.service_type.ServiceType.{ServiceType}
use Rattle.user_line.specs.Line.{Text, line_of}
use Rattle.user_line.specs.declared.form.Form.{Form}
use Rattle.user_line.specs.declared.form.Form.TheVariants as form
use Rattle.user_task.specs.Fitting.{is_name, fits_gvcid}
use Rattle.user_task.specs.declared.task.Signing.{Signing}
use Rattle.words.specs.Channels.{gvcid}
use Rattle.words.specs.Identifiers.{identifier}
use Rattle.words.specs.Names.{name}
use Rattle.words.specs.Number.{number_read}
use Rattle.words.specs.Numbers.{numbered}
use Rattle.words.specs.Times.{when}
use Rattle.user_words.specs.Kinds.{service, pass}
use Rattle.user_words.specs.declared.asked.Asked.{Asked}
use Rattle.user_words.specs.declared.asked.Asked.TheVariants.{Raf, Rcf, Cltu}
use Rattle.user_words.specs.declared.identity.Identity.{Identity}
use Rattle.user_words.specs.declared.plan.Plan.{Plan}
use Rattle.user_words.specs.declared.plan.Plan.TheVariants.{Show, Talk}

-- a value that was found is the one that a word says, and none was where it says none
abbrev pub Finds : {A X : Type 0} → (A → X) → Option A → Option X → Type 0
Finds seen (Some value) said = said ≡ Some (seen value)
Finds seen None said = said ≡ None

-- ---- single words

-- `raf`, `rcf` or `cltu`
unfoldable pub service_read : Text → Option ServiceType
service_read word = service.read word

unfoldable pub port_read : Text → Option ℕ
port_read word = number_read 1 65535 word

-- 3 to 16 characters from 21 to 7E
unfoldable pub name_read : Text → Option (List ℕ)
name_read word = (name 3 16).read word

-- `none`, `sha1:HEX` or `sha256:HEX`, of 6 to 16 octets
unfoldable pub pass_read : Text → Option Signing
pass_read word = pass.read word

-- attribute=value, 1 to 8 of these, joined by dots
unfoldable pub instance_read : Text → Option (List InstancePart)
instance_read word = identifier.read word

-- a time, or `none`
unfoldable pub when_read : Text → Option (Option Cds)
when_read word = when.read word

-- the number of a frame quality
unfoldable pub quality_read : Text → Option RequestedFrameQuality
quality_read word = (numbered qualities.number_of qualities.all qualities.each).read word

-- S/V/C or S/V/*
unfoldable pub channel_read : Text → Option Gvcid
channel_read word = gvcid.read word

unfoldable pub first_read : Text → Option ℕ
first_read word = number_read 0 4294967295 word

-- 1 to 2^40
unfoldable pub turns_read : Text → Option ℕ
turns_read word = number_read 1 1099511627776 word

-- a cycle of status reports: seconds from 2 to 600
unfoldable pub cycle_read : Text → Option ℕ
cycle_read word = number_read 2 600 word

-- the further last word: the cycle of status reports, where they are wanted
abbrev pub cycle_found : Option ℕ → Option (Option ℕ)
cycle_found (Some cycle) = Some (Some cycle)
cycle_found None = None

abbrev pub report_read : List Text → Option (Option ℕ)
report_read [] = Some None
report_read (word ∷ []) = cycle_found (cycle_read word)
report_read _ = None

-- ---- several words

abbrev pub identity_with : Option (List ℕ) → Option Signing → Option (List InstancePart)
    → Option Identity
identity_with (Some n) (Some s) (Some i) = Some (record { name = n; signing = s; instance = i })
identity_with _ _ _ = None

-- NAME PASS INSTANCE
abbrev pub identity_of : Text → Text → Text → Option Identity
identity_of n p i = identity_with (name_read n) (pass_read p) (instance_read i)

abbrev pub raf_with : Option (Option Cds) → Option (Option Cds) → Option RequestedFrameQuality
    → Option (Option ℕ) → Option Asked
raf_with (Some from) (Some to) (Some quality) (Some report) = Some (Raf from to quality report)
raf_with _ _ _ _ = None

abbrev pub rcf_with : Option (Option Cds) → Option (Option Cds) → Option Gvcid
    → Option (Option ℕ) → Option Asked
rcf_with (Some from) (Some to) (Some channel) (Some report) = Some (Rcf from to channel report)
rcf_with _ _ _ _ = None

abbrev pub cltu_with : Option ℕ → Option (Option ℕ) → Option Asked
cltu_with (Some n) (Some report) = Some (Cltu n report)
cltu_with _ _ = None

-- START STOP QUALITY, and REPORT where it is there
abbrev pub raf_of : Text → Text → Text → List Text → Option Asked
raf_of from to quality more =
    raf_with (when_read from) (when_read to) (quality_read quality) (report_read more)

-- START STOP CHANNEL, and REPORT where it is there
abbrev pub rcf_of : Text → Text → Text → List Text → Option Asked
rcf_of from to channel more =
    rcf_with (when_read from) (when_read to) (channel_read channel) (report_read more)

-- FIRST, and REPORT where it is there
abbrev pub cltu_of : Text → List Text → Option Asked
cltu_of first more = cltu_with (first_read first) (report_read more)

abbrev pub and_turns : Option Asked → Option ℕ → Option (Asked × ℕ)
and_turns (Some asked) (Some turns) = Some (asked, turns)
and_turns _ _ = None

-- what a command asks for by its last words: TURNS, after which REPORT may come
abbrev pub asked_by : Form → List Text → Option (Asked × ℕ)
asked_by form.Raf (from ∷ to ∷ quality ∷ turns ∷ more) =
    and_turns (raf_of from to quality more) (turns_read turns)
asked_by form.Rcf (from ∷ to ∷ channel ∷ turns ∷ more) =
    and_turns (rcf_of from to channel more) (turns_read turns)
asked_by form.Cltu (first ∷ turns ∷ more) =
    and_turns (cltu_of first more) (turns_read turns)
asked_by _ _ = None

-- ---- lines

abbrev pub talk_with : Option ℕ → Option Identity → Option (Asked × ℕ) → Option Plan
talk_with (Some port) (Some identity) (Some (asked, turns)) = Some (Talk port identity asked turns)
talk_with _ _ _ = None

-- PORT NAME PASS INSTANCE, and what is asked for
abbrev pub talk_by : Form → List Text → Option Plan
talk_by f (port ∷ n ∷ p ∷ i ∷ others) =
    talk_with (port_read port) (identity_of n p i) (asked_by f others)
talk_by f _ = None

abbrev pub show_with : Option ServiceType → Option Plan
show_with (Some s) = Some (Show s)
show_with None = None

-- SERVICE
abbrev pub show_by : List Text → Option Plan
show_by (s ∷ []) = show_with (service_read s)
show_by _ = None

-- what a command with its words asks for
abbrev pub plan_by : Form → List Text → Option Plan
plan_by form.Show words = show_by words
plan_by f words = talk_by f words

abbrev pub plan_with : Option (Form × List Text) → Option Plan
plan_with (Some (f, words)) = plan_by f words
plan_with None = None

-- what a command line asks for: none where it is outside the grammar
abbrev pub asked_of_line : List Text → Option Plan
asked_of_line words = plan_with (line_of words)

-- ---- what was read can be said

abbrev pub FitsAsked : Asked → Type 0
FitsAsked (Raf from to quality report) = Unit {0}
FitsAsked (Rcf from to channel report) = IsTrue (fits_gvcid channel)
FitsAsked (Cltu first report) = Unit {0}

-- PDUs can say the name and what is asked for, and there is a poll
pub record FitsTalk (identity : Identity) (asked : Asked) (turns : ℕ) : Type 0 where
  pub named : IsTrue (is_name identity.name)
  pub asks : FitsAsked asked
  pub polls : (1 ≤ turns) × (turns ≤ 1099511627776)

abbrev pub FitsPlan : Plan → Type 0
FitsPlan (Show s) = Unit {0}
FitsPlan (Talk port identity asked turns) = FitsTalk identity asked turns
