-- The script of a rehearsal, and what the world behind scripts does by it.
use Rattle.std.specs.Prelude.{◌≡◌, ℕ, ◌-◌, List, [], ◌∷◌, ◌++◌, map}
use Rattle.std.specs.List.{range_with_len, flat_map}
use Rattle.record_form.specs.declared.entry.Entry as form
use Rattle.record_form.specs.declared.entry.Entry.TheVariants as entries
use Rattle.drill_text.specs.declared.script_line.ScriptLine.{ScriptLine}
use Rattle.drill_text.specs.declared.script_line.ScriptLine.TheVariants.{Offer, Desk}
use Rattle.sle_numbers.specs.declared.requested_frame_quality.RequestedFrameQuality.TheVariants.{GoodFramesOnly}
use Rattle.station_config.specs.declared.site.Site.{Site}
use Rattle.station_law.specs.State.{start}
use Rattle.station_desk.specs.ToldBuffer.{ToldBuffer, message_octets}
use Rattle.script_store.specs.Said.{sent_text}
use Rattle.station_law.specs.Lines.{step}
use Rattle.station_law.specs.Runs.{transcript, after}
use Rattle.rehearsal.specs.Frames.{time_at, quality_at, octets_at, archive}
use Rattle.rehearsal.specs.Rehearsal.{told}

-- a line that offers frame i
abbrev pub offered_at : ℕ → form.Entry
offered_at i = entries.Frame (time_at i) (quality_at i) (0x41 ∷ []) 0 (octets_at i)

abbrev pub line_at : ℕ → ScriptLine
line_at i = Offer (offered_at i)

-- so many frames, a seal at the last one's time, and a START over all of them for good frames
abbrev pub script : ℕ → List ScriptLine
script n =
    map line_at (range_with_len 0 n)
    ++ Offer (entries.Seal (time_at (n - 1))) ∷ Desk (time_at 0) (time_at (n - 1)) GoodFramesOnly
    ∷ []

-- the capacity of a station that says none
abbrev pub capacity : ℕ
capacity = 268435456

-- connection 0 was handed a buffer
abbrev pub sent : ToldBuffer → List ℕ
sent buffer = sent_text 0 (message_octets buffer)

-- The world of a site with this capacity stores each frame and the seal, and its transcript is a
-- line for each message.
pub record IsOfScript (n : ℕ) : Type 0 where
  pub stored : (site : Site) → site.capacity ≡ capacity
      → (after step (start site) (script n)).store.published ≡ archive n
  pub transcript : (site : Site) → site.capacity ≡ capacity
      → transcript step (start site) (script n) ≡ flat_map sent (told n)
