-- The returns of association (CCSDS 911.1-B, annex A), and whose credentials are checked and made in
-- a session.
use Rattle.std.specs.Prelude.{ℕ, ℤ, pos, List, Option, Result, Ok, Err}
use Rattle.std.specs.Prelude.{option_and_then, option_map, slice_get}
use Rattle.bind_pdu.specs.Binding.{bind_return}
use Rattle.bind_pdu.specs.Unbinding.{unbind_return}
use Rattle.sle_numbers.specs.BindDiagnostic.{number_of}
use Rattle.sle_numbers.specs.declared.bind_diagnostic.BindDiagnostic.{BindDiagnostic}
use Rattle.station_config.specs.declared.peer.Peer.{Peer}
use Rattle.station_config.specs.declared.site.Site.{Site}
use Rattle.assoc_core.specs.declared.state.State.{State}
use Rattle.assoc_core.specs.Kind.{Kind}
use Rattle.assoc_core.specs.State.{binding_of}
use Rattle.session_services.specs.Returns.{own_credentials, number_after, return_message}
use Rattle.session_core.specs.declared.standing.Standing.{Standing}

-- the peer at a place, and the place of the peer that is bound
abbrev pub peer_at : List Peer → Option ℕ → Option Peer
peer_at peers place = option_and_then (λ place. slice_get peers place) place

abbrev pub bound_place : State → Option ℕ
bound_place state = option_map (λ binding. binding.peer) (binding_of state)

-- the peer that is bound, which sends all that comes behind its BIND
abbrev pub bound_peer : Site → Standing → Option Peer
bound_peer site s = peer_at site.peers (bound_place s.association)

-- ---- messages

-- What the bound peer invoked is answered: its return, with this provider's credentials, is the
-- round's block.
abbrev pub with_return : Site → Standing → Kind → (Option (List ℕ) → List ℕ) → Standing
with_return site s k message =
    record s {
      numbers = number_after (bound_peer site s) k s.numbers;
      block = message (own_credentials site (bound_peer site s) k s.numbers s.moment);
    }

-- a version or a diagnostic as a return has it
abbrev pub as_integers : Result ℕ BindDiagnostic → Result ℤ ℤ
as_integers (Ok version) = Ok (pos version)
as_integers (Err why) = Err (pos (number_of why))

-- the return of BIND: the version, or why there is none
abbrev pub bind_return_message : Site → Option (List ℕ) → Result ℕ BindDiagnostic → List ℕ
bind_return_message site credentials bound =
    return_message bind_return
    (record { credentials = credentials; responder = site.provider; result = as_integers bound })

-- the return of UNBIND
abbrev pub unbind_return_message : Option (List ℕ) → List ℕ
unbind_return_message credentials =
    return_message unbind_return (record { credentials = credentials })
