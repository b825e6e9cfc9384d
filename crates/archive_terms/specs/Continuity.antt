-- The data link continuity of the frames that are handed over (CCSDS 911.1-B, RAF-TRANSFER-DATA,
-- data-link-continuity).
use Rattle.std.specs.Prelude.{ℕ, ◌+◌, min, ℤ, pos, negsuc, Option, Some, None, List, [], ◌∷◌, map}
use Rattle.std.specs.Prelude.{take, drop}
use Rattle.std.specs.List.{sum_by, filter_map}
use Rattle.std.specs.Option.{option_map, option_or}
use Rattle.archive_terms.specs.Archive.{Entry, frame}
use Rattle.archive_terms.specs.declared.limits.TheConstants.{GREATEST_LOST}
use Rattle.archive_terms.specs.Delivery.{Item, archived}

abbrev pub lost_of : Entry → ℕ
lost_of (frame f) = f.lost
lost_of _ = 0

-- the sum of `lost` over the frames after a place, up to and including another
abbrev pub lost_between : List Entry → ℕ → ℕ → ℕ
lost_between entries before place = sum_by lost_of (drop (before + 1) (take (place + 1) entries))

-- what was lost before a place: the running sum
abbrev pub lost_up_to : List Entry → ℕ → ℕ
lost_up_to entries place = sum_by lost_of (take place entries)

-- the sum between two places as it is told: at most 16,777,215
abbrev pub gap : List Entry → ℕ → ℕ → ℕ
gap entries before place = min GREATEST_LOST (lost_between entries before place)

-- the continuity of the frame at a place: -1 where no frame of this START was handed over before it
-- or stands earlier in its buffer, else how many frames were lost since the last such one
abbrev pub continuity : List Entry → Option ℕ → ℕ → ℤ
continuity entries None place = negsuc 0
continuity entries (Some before) place = pos (gap entries before place)

-- the place of a frame
abbrev pub frame_place : Item → Option ℕ
frame_place (archived place (frame f)) = Some place
frame_place _ = None

abbrev pub frame_places : List Item → List ℕ
frame_places items = filter_map frame_place items

-- the place of the last frame among items, or of the last one before them
abbrev pub last_frame : Option ℕ → List Item → Option ℕ
last_frame before [] = before
last_frame before (item ∷ items) = last_frame (option_or (frame_place item) before) items

-- each item with the place of the last frame before it
abbrev pub with_frame_before : Option ℕ → List Item → List (Option ℕ × Item)
with_frame_before before [] = []
with_frame_before before (item ∷ items) = (before, item)
    ∷ with_frame_before (option_or (frame_place item) before) items

-- a frame's continuity; a notification has none
abbrev pub continuity_of : List Entry → Option ℕ × Item → Option ℤ
continuity_of entries x = option_map (continuity entries x.0) (frame_place x.1)

-- the continuities of the frames among the items that a START hands over, in order
abbrev pub continuities : List Entry → List Item → List ℤ
continuities entries items = filter_map (continuity_of entries) (with_frame_before None items)

-- items as they are told, each with its continuity, behind a frame that was handed over last
abbrev pub told_items : List Entry → Option ℕ → List Item → List (Item × Option ℤ)
told_items entries before items = map (λ x. (x.1, continuity_of entries x))
    (with_frame_before before items)

-- buffers that are handed over one after another, as they are told
abbrev pub told_buffers : List Entry → Option ℕ → List (List Item) → List (List (Item × Option ℤ))
told_buffers entries before [] = []
told_buffers entries before (buffer ∷ buffers) =
    told_items entries before buffer ∷ told_buffers entries (last_frame before buffer) buffers

-- the continuities of frames that follow a frame, by their places
abbrev pub gaps : List Entry → ℕ → List ℕ → List ℕ
gaps entries before [] = []
gaps entries before (place ∷ places) = gap entries before place ∷ gaps entries place places
