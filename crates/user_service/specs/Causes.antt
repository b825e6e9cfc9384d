-- Why a user ends: what it heard that brought its status. This product's own.
use Rattle.std.specs.Prelude.{◌≡◌, Bool, true, false, not, ◌&&◌, ◌||◌, Option, Some, None, is_some, List, []}
use Rattle.std.specs.Prelude.{◌∷◌}
use Rattle.std.specs.List.{list_any}
use Rattle.isp1_tml.specs.Message.{Content}
use Rattle.isp1_tml.specs.Unread.{Unread}
use Rattle.sle_numbers.specs.declared.service_type.ServiceType.{ServiceType}
use Rattle.user_core.specs.declared.course.Awaited.{Awaited}
use Rattle.user_core.specs.declared.event.Event.{Event}
use Rattle.user_core.specs.declared.event.Event.TheVariants.{Returned, Aborted}
use Rattle.user_core.specs.declared.status.Status.{Status}
use Rattle.user_core.specs.declared.status.Status.TheVariants.{Done, Refused, BadMessage, PeerEnded}
use Rattle.user_core.specs.Course.{is_awaited}
use Rattle.user_core.specs.Event.{event_of}
use Rattle.user_core.specs.Hearing.{Kept, Hearing, nothing, came, ended, unread_in}
use Rattle.user_core.specs.Laws.{Turn, after_turn}
use Rattle.user_core.specs.Turn.{Standing}
use Rattle.user_lines.specs.declared.tag.Tag.TheVariants as tag
use Rattle.user_lines.specs.declared.told.Told.{Told}
use Rattle.user_lines.specs.Told.{told_in}
use Rattle.user_show.specs.declared.ending.Ending.{Ending}
use Rattle.user_show.specs.declared.ending.Ending.TheVariants as ending

-- the return of UNBIND
abbrev pub unbound : Awaited
unbound = record { tag = tag.UnbindReturn; invoke = None }

-- the positive return of UNBIND is the last, a negative return refuses, and a PEER-ABORT ends
abbrev pub brings_by : Status → Event → Bool
brings_by Done (Returned tag invoke refused) =
    is_awaited (Some unbound) tag invoke && not refused
brings_by Refused (Returned tag invoke refused) = refused
brings_by PeerEnded Aborted = true
brings_by _ _ = false

-- a message that tells nothing is bad
abbrev pub brings_told : Status → Option Told → Bool
brings_told status (Some told) = brings_by status (event_of told)
brings_told BadMessage None = true
brings_told _ None = false

-- a message that came whole, or octets that can't be one
abbrev pub brings_unread : Status → ServiceType → Unread → Bool
brings_unread status service u =
    list_any (λ (m : Content). brings_told status (told_in service m)) u.messages
    || (is_some u.fault && brings_told status None)

abbrev pub is_peer_end : Status → Bool
is_peer_end PeerEnded = true
is_peer_end _ = false

-- what a turn heard; the end of the stream is that of the peer
abbrev pub brings : Status → ServiceType → Kept → Hearing → Bool
brings status service k nothing = false
brings status service k (came octets) = brings_unread status service (unread_in k octets)
brings status service k ended = is_peer_end status

abbrev pub brings_in : Status → ServiceType → Standing → List Turn → Bool
brings_in status service s [] = false
brings_in status service s (t ∷ turns) =
    brings status service s.stream t.hearing || brings_in status service (after_turn s t) turns

-- Why a talk ended so: behind the positive return of UNBIND; behind a negative return; behind a bad message, or octets that can't be one; or
-- behind the peer's end or its PEER-ABORT.
abbrev pub IsCaused : Ending → ServiceType → Standing → List Turn → Type 0
IsCaused ending.Done service s turns = brings_in Done service s turns ≡ true
IsCaused ending.Refused service s turns = brings_in Refused service s turns ≡ true
IsCaused ending.BadMessage service s turns = brings_in BadMessage service s turns ≡ true
IsCaused ending.PeerEnded service s turns = brings_in PeerEnded service s turns ≡ true
IsCaused _ service s turns = Unit {0}
