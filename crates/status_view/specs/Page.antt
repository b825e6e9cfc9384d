-- The page for people. This product's own.
use Rattle.std.specs.Prelude.{ℕ, ◌-◌, ◌==◌, Bool, length, List, [], ◌∷◌, ◌++◌, codes, decimal, string_bytes}
use Rattle.std.specs.Prelude.{if◌then◌else◌}
use Rattle.std.specs.List.{flat_map}
use Rattle.picture_page.specs.Attributes.{Said}
use Rattle.picture_page.specs.Content.{start, finish, doctype}
use Rattle.picture_page.specs.Escape.{escaped}
use Rattle.picture_page.specs.Meta.{meta_text}
use Rattle.picture_page.specs.declared.attribute.Name.TheVariants as name
use Rattle.picture_page.specs.declared.meta.Meta.TheVariants as meta
use Rattle.picture_page.specs.declared.tag.Tag.TheVariants as tag
use Rattle.station_snapshot.specs.declared.snapshot.Snapshot.{Snapshot}
use Rattle.station_snapshot.specs.declared.door_now.DoorNow.{DoorNow}
use Rattle.station_snapshot.specs.declared.door_now.EndNow.{EndNow}
use Rattle.station_snapshot.specs.declared.door_now.DoorState.{DoorState}
use Rattle.station_snapshot.specs.declared.door_now.DoorState.TheVariants as state
use Rattle.station_health.specs.declared.trouble.Trouble.{Trouble}
use Rattle.station_health.specs.Health.{troubles, is_there, is_healthy, line_of}
use Rattle.status_view.specs.declared.style.TheConstants.{STYLE}
use Rattle.status_view.specs.Texts.{age_text, octets_text, time_text}
use Rattle.status_view.specs.Parts.{class, cell, box, card_head, fact, count, faults, age, size}

-- ---- the top: what it is, how long it runs, and the time

abbrev pub top_parts : Snapshot → List ℕ
top_parts s = cell tag.H1 (codes "what") (codes "Ground station")
    ++ cell tag.Span (codes "version") (string_bytes s.version)
    ++ cell tag.Span (codes "time") (time_text s.at)
    ++ cell tag.Span (codes "zone") (codes "UTC")

-- ---- the verdict: whether it is healthy, and each trouble

abbrev pub verdict_word : Bool → List ℕ
verdict_word healthy = if healthy then codes "Healthy" else codes "Unhealthy"

abbrev pub verdict_class : Bool → List ℕ
verdict_class healthy = if healthy then codes "verdict well" else codes "verdict ill"

abbrev pub trouble_part : Snapshot → Trouble → List ℕ
trouble_part s t = if is_there t s then cell tag.P (codes "trouble") (line_of t) else []

abbrev pub verdict_parts : Snapshot → List ℕ
verdict_parts s = cell tag.Div (codes "word") (verdict_word (is_healthy s))
    ++ flat_map (trouble_part s) troubles

unfoldable pub verdict : Snapshot → List ℕ
verdict s = box tag.Div (verdict_class (is_healthy s)) (verdict_parts s)

-- ---- the cards

unfoldable pub peer_text : List ℕ → List ℕ
peer_text peer = if length peer == 0 then codes "not connected" else peer

abbrev pub entry_counts : Snapshot → List ℕ
entry_counts s = count (codes "frames") s.source.frames
    ++ count (codes "losses of synchronisation") s.source.losses
    ++ count (codes "production changes") s.source.productions
    ++ count (codes "seals") s.source.seals

unfoldable pub source_lines : Snapshot → List ℕ
source_lines s = count (codes "lines") s.source.lines ++ faults (codes "faults") s.source.faults

unfoldable pub source_counts : Snapshot → List ℕ
source_counts s = count (codes "connections") s.source.connections ++ source_lines s

abbrev pub source_fact : List ℕ → List ℕ
source_fact peer = fact (codes "source") (codes "value") (peer_text peer)

abbrev pub source_facts : Snapshot → List ℕ
source_facts s = source_counts s ++ source_fact (string_bytes s.source.peer)

abbrev pub entries_card : Snapshot → List ℕ
entries_card s = card_head (codes "Entries") (age_text s.at s.source.entered) (codes "since the last")
    ++ entry_counts s ++ source_facts s

abbrev pub archive_store : Snapshot → List ℕ
archive_store s = size (codes "capacity") s.archive.capacity
    ++ age (codes "since the last sync") s.at s.archive.synced

unfoldable pub archive_faults : Snapshot → List ℕ
archive_faults s = faults (codes "failed syncs") s.archive.failed_syncs
    ++ faults (codes "other faults") s.archive.faults

abbrev pub archive_facts : Snapshot → List ℕ
archive_facts s = archive_store s ++ archive_faults s

abbrev pub archive_card : Snapshot → List ℕ
archive_card s = card_head (codes "Archive") (octets_text s.archive.octets) (codes "in its file")
    ++ archive_facts s

abbrev pub antenna_facts : Snapshot → List ℕ
antenna_facts s = faults (codes "failed") s.antenna.failed
    ++ age (codes "since the last") s.at s.antenna.ended
    ++ age (codes "since the worker's turn") s.at s.antenna.turned

abbrev pub sent_head : ℕ → List ℕ
sent_head n = card_head (codes "Telecommands") (decimal n) (codes "sent")

abbrev pub antenna_card : Snapshot → List ℕ
antenna_card s = sent_head s.antenna.sent ++ antenna_facts s

abbrev pub clock_facts : ℕ → ℕ → List ℕ
clock_facts at wall = count (codes "clock ahead, ms") (wall - at)
    ++ count (codes "clock behind, ms") (at - wall)

abbrev pub station_facts : Snapshot → List ℕ
station_facts s = age (codes "since the recorder's turn") s.at s.recorder.turned
    ++ clock_facts s.at s.wall

abbrev pub station_card : Snapshot → List ℕ
station_card s = card_head (codes "Station") (age_text s.at s.began) (codes "since it began")
    ++ station_facts s

unfoldable pub entries_box : Snapshot → List ℕ
entries_box s = box tag.Div (codes "card") (entries_card s)

unfoldable pub archive_box : Snapshot → List ℕ
archive_box s = box tag.Div (codes "card") (archive_card s)

unfoldable pub antenna_box : Snapshot → List ℕ
antenna_box s = box tag.Div (codes "card") (antenna_card s)

unfoldable pub station_box : Snapshot → List ℕ
station_box s = box tag.Div (codes "card") (station_card s)

abbrev pub cards : Snapshot → List ℕ
cards s = entries_box s ++ archive_box s ++ antenna_box s ++ station_box s

-- ---- the doors

abbrev pub state_text : DoorState → List ℕ
state_text state.Waiting = codes "free"
state_text state.Serving = codes "serving"
state_text state.Spent = codes "spent"
state_text state.Failed = codes "failed"
state_text state.Closed = codes "closed"

abbrev pub field : List ℕ → List ℕ
field text = cell tag.Td (codes "t") text

abbrev pub number : ℕ → List ℕ
number n = cell tag.Td (codes "n") (decimal n)

abbrev pub door_place : DoorNow → List ℕ
door_place d = number d.number ++ field (string_bytes d.address) ++ field (state_text d.state)

abbrev pub door_names : DoorNow → List ℕ
door_names d = field (string_bytes d.peer) ++ field (string_bytes d.user)
    ++ field (string_bytes d.instance)

abbrev pub door_ages : ℕ → DoorNow → List ℕ
door_ages at d = field (age_text at d.since) ++ field (age_text at d.heard)

abbrev pub door_octets : DoorNow → List ℕ
door_octets d = field (octets_text d.octets_in) ++ field (octets_text d.octets_out)

abbrev pub door_counts : DoorNow → List ℕ
door_counts d = number d.stalls ++ number d.faults ++ number d.links ++ number d.most_links

abbrev pub end_text : EndNow → List ℕ
end_text e = cell tag.Div (codes "end") (string_bytes e.how)

abbrev pub door_ends : List EndNow → List ℕ
door_ends ends = box tag.Td (codes "ends") (flat_map end_text ends)

abbrev pub late_fields : DoorNow → List ℕ
late_fields d = door_octets d ++ door_counts d ++ door_ends d.ends.items

abbrev pub door_fields : ℕ → DoorNow → List ℕ
door_fields at d = door_place d ++ door_names d ++ door_ages at d ++ late_fields d

unfoldable pub door_row : ℕ → DoorNow → List ℕ
door_row at d = box tag.Tr (state_text d.state) (door_fields at d)

abbrev pub title : List ℕ → List ℕ
title text = cell tag.Th (codes "h") text

abbrev pub first_titles : List ℕ
first_titles = title (codes "door") ++ title (codes "address") ++ title (codes "state")
    ++ title (codes "peer") ++ title (codes "user")

abbrev pub second_titles : List ℕ
second_titles = title (codes "instance") ++ title (codes "connected") ++ title (codes "heard")
    ++ title (codes "in") ++ title (codes "out")

abbrev pub third_titles : List ℕ
third_titles = title (codes "stalls") ++ title (codes "faults") ++ title (codes "links")
    ++ title (codes "of") ++ title (codes "last ends")

abbrev pub titles : List ℕ
titles = box tag.Tr (codes "head") (first_titles ++ second_titles ++ third_titles)

unfoldable pub table : Snapshot → List ℕ
table s = box tag.Table (codes "doors")
    (titles ++ flat_map (door_row s.at) s.doors.items)

-- ---- the same for programs

abbrev pub link : List ℕ → List ℕ
link path = start tag.A (record { name = name.Href; octets = path } ∷ [])
    ++ (escaped path ++ finish tag.A)

abbrev pub links : List ℕ
links = box tag.P (codes "links") (link (codes "/status.json") ++ link (codes "/metrics")
    ++ link (codes "/health"))

-- ---- the whole

unfoldable pub style : List ℕ
style = STYLE.now

abbrev pub style_part : List ℕ
style_part = cell tag.Style (codes "all") style

abbrev pub page_head : List ℕ
page_head = meta_text meta.Charset ++ meta_text meta.Viewport ++ meta_text (meta.Refresh 5)
    ++ cell tag.Title (codes "title") (codes "Ground station") ++ style_part

unfoldable pub top : Snapshot → List ℕ
top s = box tag.Div (codes "top") (top_parts s)

unfoldable pub all_cards : Snapshot → List ℕ
all_cards s = box tag.Div (codes "cards") (cards s)

unfoldable pub users : Snapshot → List ℕ
users s = box tag.Div (codes "users") (table s)

abbrev pub upper : Snapshot → List ℕ
upper s = top s ++ verdict s ++ all_cards s

abbrev pub lower : Snapshot → List ℕ
lower s = users s ++ links

abbrev pub html : Snapshot → List ℕ
html s = box tag.Head (codes "head") page_head ++ box tag.Body (codes "page") (upper s ++ lower s)

abbrev pub document : Snapshot → List ℕ
document s = start tag.Html (record { name = name.Lang; octets = codes "en" } ∷ [])
    ++ (html s ++ finish tag.Html)

abbrev pub page_text : Snapshot → List ℕ
page_text s = doctype ++ document s
