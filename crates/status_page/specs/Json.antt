-- The status as JSON (RFC 8259), as tokens. Its members are this product's own.
use Rattle.std.specs.Prelude.{ℕ, ◌/◌, Bool, List, [], ◌∷◌, ◌++◌, codes, decimal, string_bytes, if◌then◌else◌}
use Rattle.std.specs.List.{flat_map}
use Rattle.json.specs.Token.{Token, begin_object, end_object, begin_array, end_array, key, string, number, boolean}
use Rattle.json.specs.Print.{print}
use Rattle.station_snapshot.specs.declared.snapshot.Snapshot.{Snapshot}
use Rattle.station_snapshot.specs.declared.door_now.DoorNow.{DoorNow}
use Rattle.station_snapshot.specs.declared.door_now.EndNow.{EndNow}
use Rattle.station_snapshot.specs.declared.door_now.DoorState.{DoorState}
use Rattle.station_snapshot.specs.declared.door_now.DoorState.TheVariants as state
use Rattle.station_health.specs.declared.trouble.Trouble.{Trouble}
use Rattle.station_health.specs.Health.{troubles, is_there, is_serious, is_healthy}
use Rattle.station_health.specs.Health.{trouble_name, trouble_words, trouble_advice}
use Rattle.status_page.specs.declared.number.Number.{Number}
use Rattle.status_page.specs.declared.door_number.DoorNumber.{DoorNumber}
use Rattle.status_page.specs.Numbers.{numbers, number_word, number_of, door_numbers, door_word, door_number_of}

-- a member that is a number, one that is a text, and one that is true or false
unfoldable pub number_member : List ℕ → ℕ → List Token
number_member name value = key name ∷ (number (decimal value) ∷ [])

-- one that is a moment in milliseconds, as seconds
unfoldable pub seconds_member : List ℕ → ℕ → List Token
seconds_member name millis = number_member name (millis / 1000)

unfoldable pub text_member : List ℕ → List ℕ → List Token
text_member name text = key name ∷ (string text ∷ [])

unfoldable pub flag_member : List ℕ → Bool → List Token
flag_member name value = key name ∷ (boolean value ∷ [])

-- ---- the troubles that are there

unfoldable pub trouble_members : Trouble → List Token
trouble_members t = text_member (codes "name") (trouble_name t)
    ++ flag_member (codes "serious") (is_serious t)
    ++ text_member (codes "words") (trouble_words t)
    ++ text_member (codes "advice") (trouble_advice t)

unfoldable pub trouble_tokens : Trouble → List Token
trouble_tokens t = begin_object ∷ [] ++ trouble_members t ++ end_object ∷ []

abbrev pub tokens_if_there : Snapshot → Trouble → List Token
tokens_if_there s t = if is_there t s then trouble_tokens t else []

unfoldable pub troubles_tokens : Snapshot → List Token
troubles_tokens s = key (codes "troubles") ∷ (begin_array ∷ [])
    ++ flat_map (tokens_if_there s) troubles ++ end_array ∷ []

-- ---- the doors

abbrev pub state_word : DoorState → List ℕ
state_word state.Waiting = codes "waiting"
state_word state.Serving = codes "serving"
state_word state.Spent = codes "spent"
state_word state.Failed = codes "failed"
state_word state.Closed = codes "closed"

unfoldable pub end_words : EndNow → List Token
end_words e = text_member (codes "peer") (string_bytes e.peer)
    ++ text_member (codes "how") (string_bytes e.how)

unfoldable pub end_members : EndNow → List Token
end_members e = seconds_member (codes "time_seconds") e.at ++ end_words e

unfoldable pub end_tokens : EndNow → List Token
end_tokens e = begin_object ∷ [] ++ end_members e ++ end_object ∷ []

unfoldable pub ends_tokens : List EndNow → List Token
ends_tokens ends = key (codes "ends") ∷ (begin_array ∷ [])
    ++ flat_map end_tokens ends ++ end_array ∷ []

unfoldable pub door_places : DoorNow → List Token
door_places d = number_member (codes "door") d.number
    ++ text_member (codes "address") (string_bytes d.address)
    ++ text_member (codes "state") (state_word d.state)

unfoldable pub door_names : DoorNow → List Token
door_names d = text_member (codes "peer") (string_bytes d.peer)
    ++ text_member (codes "user") (string_bytes d.user)
    ++ text_member (codes "instance") (string_bytes d.instance)

abbrev pub door_member_of : DoorNow → DoorNumber → List Token
door_member_of d n = number_member (door_word n) (door_number_of n d)

unfoldable pub door_members : DoorNow → List Token
door_members d = door_places d ++ door_names d ++ flat_map (door_member_of d) door_numbers
    ++ ends_tokens d.ends.items

unfoldable pub door_tokens : DoorNow → List Token
door_tokens d = begin_object ∷ [] ++ door_members d ++ end_object ∷ []

unfoldable pub doors_tokens : List DoorNow → List Token
doors_tokens doors = key (codes "doors") ∷ (begin_array ∷ [])
    ++ flat_map door_tokens doors ++ end_array ∷ []

-- ---- the whole

abbrev pub member_of : Snapshot → Number → List Token
member_of s n = number_member (number_word n) (number_of n s)

unfoldable pub head_members : Snapshot → List Token
head_members s = flag_member (codes "healthy") (is_healthy s)
    ++ text_member (codes "version") (string_bytes s.version)
    ++ text_member (codes "source_address") (string_bytes s.source.address)
    ++ text_member (codes "source_peer") (string_bytes s.source.peer)

unfoldable pub members : Snapshot → List Token
members s = head_members s ++ troubles_tokens s ++ flat_map (member_of s) numbers
    ++ doors_tokens s.doors.items

abbrev pub status_tokens : Snapshot → List Token
status_tokens s = begin_object ∷ [] ++ members s ++ end_object ∷ []

abbrev pub json_text : Snapshot → List ℕ
json_text s = print (status_tokens s)
