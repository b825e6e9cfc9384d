-- The status as metrics (Prometheus' text exposition format, version 0.0.4). Names and helps are this
-- product's own.
use Rattle.std.specs.Prelude.{ℕ, Bool, false, List, [], ◌∷◌, ◌++◌, codes, decimal, if◌then◌else◌}
use Rattle.std.specs.List.{flat_map}
use Rattle.station_snapshot.specs.declared.snapshot.Snapshot.{Snapshot}
use Rattle.station_snapshot.specs.declared.door_now.DoorNow.{DoorNow}
use Rattle.station_health.specs.declared.trouble.Trouble.{Trouble}
use Rattle.station_health.specs.Health.{troubles, is_there, is_healthy, trouble_name}
use Rattle.status_page.specs.declared.number.Number.{Number}
use Rattle.status_page.specs.declared.door_number.DoorNumber.{DoorNumber}
use Rattle.status_page.specs.Numbers.{flag, numbers, number_word, number_help, number_of, is_total}
use Rattle.status_page.specs.Numbers.{door_numbers, door_word, door_help, door_total, door_number_of}

abbrev pub kind_word : Bool → List ℕ
kind_word total = if total then codes "counter" else codes "gauge"

-- a text, a word, a blank and a text, as a line
unfoldable pub words_line : List ℕ → List ℕ → List ℕ → List ℕ
words_line front word rest = front ++ word ++ 32 ∷ (rest ++ 10 ∷ [])

-- what a metric is, and its kind; each of a door has a name that begins so
unfoldable pub heads : List ℕ → List ℕ → Bool → List ℕ
heads word help total = words_line (codes "# HELP station_") word help
    ++ words_line (codes "# TYPE station_") word (kind_word total)

unfoldable pub door_heads : List ℕ → List ℕ → Bool → List ℕ
door_heads word help total = words_line (codes "# HELP station_door_") word help
    ++ words_line (codes "# TYPE station_door_") word (kind_word total)

unfoldable pub metric : List ℕ → List ℕ → Bool → ℕ → List ℕ
metric word help total value =
    heads word help total ++ words_line (codes "station_") word (decimal value)

-- ---- the numbers of the station

abbrev pub healthy_text : Snapshot → List ℕ
healthy_text s = metric (codes "healthy") (codes "1 if the station is healthy.") false
    (flag (is_healthy s))

abbrev pub metric_text : Snapshot → Number → List ℕ
metric_text s n = metric (number_word n) (number_help n) (is_total n) (number_of n s)

-- ---- its troubles: one metric, with a sample for each

unfoldable pub labelled : List ℕ → List ℕ → ℕ → List ℕ
labelled front label value = front ++ label ++ codes "\"} " ++ (decimal value ++ 10 ∷ [])

abbrev pub trouble_sample : Snapshot → Trouble → List ℕ
trouble_sample s t = labelled (codes "station_trouble{name=\"") (trouble_name t)
    (flag (is_there t s))

unfoldable pub troubles_text : Snapshot → List ℕ
troubles_text s = heads (codes "trouble") (codes "1 while the station has this trouble.") false
    ++ flat_map (trouble_sample s) troubles

-- ---- the numbers of the doors: one metric for each number, with a sample for each door

unfoldable pub between : List ℕ → List ℕ → List ℕ → List ℕ
between before word after = before ++ word ++ after

abbrev pub door_front : List ℕ → List ℕ
door_front word = between (codes "station_door_") word (codes "{door=\"")

unfoldable pub door_sample : DoorNumber → DoorNow → List ℕ
door_sample n d = door_front (door_word n)
    ++ labelled [] (decimal d.number) (door_number_of n d)

unfoldable pub door_metric : List DoorNow → DoorNumber → List ℕ
door_metric doors n = door_heads (door_word n) (door_help n) (door_total n)
    ++ flat_map (door_sample n) doors

abbrev pub metrics_text : Snapshot → List ℕ
metrics_text s = healthy_text s ++ troubles_text s ++ flat_map (metric_text s) numbers
    ++ flat_map (door_metric s.doors.items) door_numbers
