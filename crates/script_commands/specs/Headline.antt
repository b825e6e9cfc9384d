-- What holds for a script: for its text, for the world of its lines, and for each START of the desk,
-- one fact each.
use Rattle.std.specs.Prelude.{◌≡◌, ℕ, ◌+◌, None, List, [], ◌++◌, length}
use Rattle.std.specs.List.{flat_map}
use Rattle.isp1_tml.specs.Message.{Content, spelling, spellings}
use Rattle.isp1_tml.specs.Stream.{IsStream}
use Rattle.station_config.specs.declared.site.Site.{Site}
use Rattle.station_law.specs.State.{start as new_world}
use Rattle.script_store.specs.Said.{sent_text}
use Rattle.station_law.specs.Lines.{step_text}
use Rattle.station_law.specs.Runs.{transcript, transcript_from, AreTold}
use Rattle.script_world.specs.Script.{IsInWorld}
use Rattle.drill_text.specs.Reading.{reading}
use Rattle.script_head.specs.Lines.{lines_of}
use Rattle.script_commands.specs.Script.{script_of, runs}
use Rattle.script_commands.specs.Start.{Start, world_at, archive_at, told_by, messages_of}
use Rattle.station_desk.specs.Readable.{AreReadable}
use Rattle.script_commands.specs.Drilled.{text_by}

-- The text of each line that runs after others in order, whatever its form is, comes after theirs
-- and before that of the later ones, and each buffer that it tells is a START's.
abbrev pub HasTranscript : List ℕ → Type 0
HasTranscript script =
    (site : Site) (lines : List (List ℕ)) → script_of (lines_of script) ≡ runs site lines
    → AreTold step_text (new_world site) lines

-- The lines that run are events of a station's world. After each prefix of them its state is the
-- script's, its STARTs of the desk did what was handed over, its users have the STARTs that the
-- rounds of their connections make, and what the lines tell as radiated is what its antenna was
-- sent. And at each moment, also within a line, the headline holds against each later world.
abbrev pub HasWorld : List ℕ → Type 0
HasWorld script =
    (site : Site) (first more rest : List (List ℕ))
    → script_of (lines_of script) ≡ runs site (first ++ more ++ rest)
    → IsInWorld reading site first more

-- connection 0 was handed a message
abbrev pub sent : Content → List ℕ
sent message = sent_text 0 (spelling message)

-- The script's text is that of the earlier lines, then its messages, then that of the later lines.
abbrev pub IsPlaced : List ℕ → Start → Type 0
IsPlaced script s =
    text_by script ≡ transcript step_text (new_world s.site) s.earlier
    ++ flat_map sent (messages_of s)
    ++ transcript_from step_text (length s.earlier + 2) (world_at s) s.later

-- Its messages are a stream of the transport, from any place of the connection's octets on.
abbrev pub IsStreamed : Start → Type 0
IsStreamed s = (place : ℕ) → IsStream place (spellings (messages_of s)) (messages_of s) [] None

-- A user reads of each message just what it says.
abbrev pub IsReadOf : Start → Type 0
IsReadOf s = AreReadable (told_by (archive_at s) s)
