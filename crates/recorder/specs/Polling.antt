-- Which entries a step polls, and by which answers of its source. This product's own rule.
use Rattle.std.specs.Prelude.{◌≡◌, ◌⊎◌, ◌<◌, ◌≤◌, Bool, true, false, Option, List, [], ◌∷◌, ◌++◌}
use Rattle.std.specs.Prelude.{length, map}
use Rattle.archive_terms.specs.Archive.{Entry}
use Rattle.octet_core.specs.Told.{Tells}
use Rattle.recorder.specs.Feeds.{Answer, gave, not_yet, at_end, failed}

-- fewer entries than a batch has at most were given, and then another answer
abbrev pub EndsWith : Answer → List Entry → Option (List Answer) → Option (List Answer) → Type 0
EndsWith answer entries before after =
    (length entries < 256) × Tells before after (map gave entries ++ answer ∷ [])

-- as many entries were given as a batch has at most
abbrev pub FillsBatch : List Entry → Option (List Answer) → Option (List Answer) → Type 0
FillsBatch entries before after = (length entries ≡ 256) × Tells before after (map gave entries)

-- Entries are polled until they are 256, or an answer is none. The last answer is the end of them,
-- or it isn't.
abbrev pub IsPolled : Bool → List Entry → Option (List Answer) → Option (List Answer) → Type 0
IsPolled true entries before after = EndsWith at_end entries before after
IsPolled false entries before after =
    EndsWith not_yet entries before after ⊎ FillsBatch entries before after

-- the source failed, before or behind entries that it gave
abbrev pub BreaksOff : Option (List Answer) → Option (List Answer) → Type 0
BreaksOff before after = (entries : List Entry) × EndsWith failed entries before after

-- The source gave these entries in a step, and answered something else behind them at most.
abbrev pub Gave : List Entry → Option (List Answer) → Option (List Answer) → Type 0
Gave entries before after = (behind : List Answer) × (length behind ≤ 1)
    × Tells before after (map gave entries ++ behind)
