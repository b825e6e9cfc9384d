-- A walk over what a selection picks.
use Rattle.std.specs.Prelude.{◌≡◌, ℕ, ◌+◌, ◌-◌, min, List, Option, Some, None, drop, slice_get, true}
use Rattle.std.specs.Prelude.{Bool, not, ◌&&◌, nat_le, nat_lt, take, if◌then◌else◌}
use Rattle.std.specs.List.{filter}
use Rattle.std.specs.Option.{option_map, option_map_or, option_or}
use Rattle.archive_terms.specs.Archive.{Entry, frame}
use Rattle.archive_terms.specs.Selection.{Selection, is_not_after, is_notice, is_started}
use Rattle.archive_terms.specs.Selection.{is_stop_closed}
use Rattle.archive_terms.specs.Delivery.{archived}
use Rattle.archive_terms.specs.Continuity.{lost_up_to, gap, frame_place}
use Rattle.archive_terms.specs.declared.limits.TheConstants.{GREATEST_LOST}
use Rattle.frame_select.specs.Selection.{filter_of}
use Rattle.archive_index.specs.Rows.{rows_of, passes, is_wanted}
use Rattle.archive_index.specs.declared.row.Row.{Row}
use Rattle.archive_index.specs.declared.walk.Walk.{Walk}

-- what was lost since a frame before, up to and including the one at a place
abbrev pub lost_told : List Entry → Option ℕ → ℕ → ℕ
lost_told entries since place = option_map_or (λ before. gap entries before place) since 0

abbrev pub lost_since : Option ℕ → ℕ → ℕ
lost_since before through = option_map_or (λ sum. min (through - sum) GREATEST_LOST) before 0

-- what is told of the entry at a place: a notice tells no lost frames
abbrev pub lost_found : List Entry → Option ℕ → ℕ → Entry → ℕ
lost_found entries since place (frame _) = lost_told entries since place
lost_found entries since place _ = 0

-- the last frame's place after the entry at a place
abbrev pub since_behind : Option ℕ → ℕ → Entry → Option ℕ
since_behind since place entry = option_or (frame_place (archived place entry)) since

-- whether a selection tells the notice of a row from a place on
abbrev pub is_told_from : Selection → List Entry → ℕ → Row → Bool
is_told_from s entries from r =
    nat_le from r.place && s.notices && nat_le s.first r.place
    && is_started s (take r.place entries) && not (is_stop_closed s (take r.place entries))

-- the notices' rows that are left of a walk are those that are told
abbrev pub AreNotices : List Entry → Selection → ℕ → ℕ → ℕ → Type 0
AreNotices entries s place notice until =
    filter (is_told_from s entries place) (rows_of is_notice entries)
    ≡ filter (λ (r : Row). nat_le r.place until) (drop notice (rows_of is_notice entries))

-- how far a walk from a place on has come, after a frame
pub record IsWalk (entries : List Entry) (s : Selection) (place : ℕ) (since : Option ℕ) (w : Walk)
    : Type 0 where
  pub same_filter : filter_of w.filter ≡ s.filter
  pub stop : w.stop ≡ s.stop
  pub frames : filter (is_wanted s place) (rows_of (passes s.filter) entries)
      ≡ filter (λ r. is_not_after s.stop r.moment) (drop w.frame (rows_of (passes s.filter) entries))
  pub notices : AreNotices entries s place w.notice w.until
  pub lost : w.lost ≡ option_map (λ p. lost_up_to entries (p + 1)) since

-- the row of a walk's next frame
pub record IsNextFrame (entries : List Entry) (s : Selection) (place : ℕ) (w : Walk)
    (found : Option Row) : Type 0 where
  pub first : found
      ≡ slice_get (filter (is_wanted s place) (rows_of (passes s.filter) entries)) 0
  pub there : (r : Row) → found ≡ Some r
      → (slice_get (rows_of (passes s.filter) entries) w.frame ≡ Some r)
      × (is_not_after s.stop r.moment ≡ true)

-- the row of a walk's next notice
pub record IsNextNotice (entries : List Entry) (s : Selection) (place : ℕ) (w : Walk)
    (found : Option Row) : Type 0 where
  pub first : found
      ≡ slice_get (filter (is_told_from s entries place) (rows_of is_notice entries)) 0
  pub there : (r : Row) → found ≡ Some r
      → (slice_get (rows_of is_notice entries) w.notice ≡ Some r) × (nat_le r.place w.until ≡ true)

-- the row of a notice, where it comes before that of a frame
abbrev pub sooner : Option Row → Option Row → Option Row
sooner None other = None
sooner (Some n) None = Some n
sooner (Some n) (Some f) = if nat_lt f.place n.place then None else Some n
