-- The messages that rounds handle are the first ones of the stream.
use Rattle.std.proofs.Common.{◌≡◌, ℕ, zero, suc, ◌+◌, ◌<◌, Bool, false, not, ◌&&◌, Option, Some}
use Rattle.std.proofs.Common.{None, List, [], ◌∷◌, ◌++◌, length, refl, sym, ap, ◌∙◌, append_assoc}
use Rattle.std.proofs.Common.{arith, take, drop, ◌≤◌}
use Rattle.std.proofs.lemmas.List.{append-nil, length-append, take_more, take-append-le}
use Rattle.std.proofs.lemmas.List.{take-append-drop}
use Rattle.std.specs.Prelude.{slice_get, slice_index}
use Rattle.octet_core.specs.declared.offer.Offer.{Offer}
use Rattle.isp1_tml.specs.declared.tml_fault.TmlFault.{TmlFault}
use Rattle.isp1_tml.specs.Message.{Content}
use Rattle.isp1_tml.specs.Stream.{IsStream}
use Rattle.isp1_tml.specs.Reading.{reading, IsRead}
use Rattle.link_model.specs.declared.call.Call.{Call}
use Rattle.link_model.specs.declared.call.Heard.{Heard}
use Rattle.link_model.specs.declared.call.Heard.TheVariants.{Arrived}
use Rattle.link_model.specs.Calls.{octets_heard}
use Rattle.station_config.specs.declared.site.Site.{Site}
use Rattle.session_core.specs.Steps.{has_message, is_idle, handles}
use Rattle.session_core.specs.Session.{State, Round, BookAnswer, at_first, next_by, next_of}
use Rattle.session_core.specs.Session.{listened}
use Rattle.session_core.specs.Session.{counted, stepped, before_step, after_round, after_rounds}
use Rattle.session_core.specs.Session.{AreRounds, IsHeard, AreOctets, Asks, poll_space, poll_calls}
use Rattle.session_core.specs.Session.{round_calls, session_calls, came_with}
use Rattle.session_core.specs.Laws.{messages_by, round_messages, session_messages, HandledInOrder}
use Rattle.std.proofs.lemmas.Option.{slice_get_within, get_or_from_slice_get}
use Rattle.session_core.proofs.Sound.{same_came}

-- ---- what the layers below promise

abbrev pub EachIsRead : Type 0
EachIsRead =
    (place : ℕ) (octets : List ℕ) → ((i : ℕ) → slice_index octets i < 256)
    → IsRead place octets (reading place octets)

abbrev pub LongerStream : Type 0
LongerStream =
    (place : ℕ) (octets more : List ℕ) (messages others : List Content) (rest other : List ℕ)
    (fault another : Option TmlFault) → IsStream place octets messages rest fault
    → IsStream place (octets ++ more) others other another
    → (added : List Content) × (others ≡ messages ++ added)

abbrev pub HeardJoins : Type 0
HeardJoins = (a b : List Call) → octets_heard (a ++ b) ≡ octets_heard a ++ octets_heard b

-- ---- the first messages

octets_join : (a b : List ℕ) → AreOctets a → AreOctets b → AreOctets (a ++ b)
octets_join [] b h k i = k i
octets_join (x ∷ a) b h k zero = h 0
octets_join (x ∷ a) b h k (suc i) = octets_join a b (λ (j : ℕ). h (suc j)) k i

-- these are the first messages of all
pub record First (ms given : List Content) (count : ℕ) : Type 0 where
  pub first : given ≡ take count ms
  pub within : count ≤ length ms

pub record Follows (s : State) (given : List Content) : Type 0 where
  pub first : First (reading 0 s.came).messages given s.handled
  pub octets : AreOctets s.came

one_more : (ms : List Content) (n : ℕ) (m : Content) → slice_get ms n ≡ Some m
    → (take (n + 1) ms ≡ take n ms ++ m ∷ []) × (n + 1 ≤ length ms)
one_more ms n m e = grind (
  arith,
  slice_get_within ms n m e,
  take_more ms n m,
  get_or_from_slice_get ms n m m e,
)

handled_next : (idle : Bool) (fault : Option TmlFault) (o : Option Content)
    (ms given : List Content) (count : ℕ) → o ≡ slice_get ms count → First ms given count
    → First ms (given ++ messages_by (not idle && has_message (next_by fault o)) (next_by fault o))
    (counted (not idle && has_message (next_by fault o)) count)
handled_next false None (Some m) ms given count e f =
    let more = one_more ms count m (sym e) in
    record { first = rw (more.0, f.first) refl; within = more.1 }
handled_next _ _ _ ms given count e f =
    record { first = append-nil given ∙ f.first; within = f.within }

-- ---- a round

step_follows : (site : Site) (s : State) (told : Option BookAnswer) (given : List Content)
    → Asks s told → Follows s given
    → Follows (stepped site s told) (given ++ messages_by (handles s.standing (next_of s))
    (next_of s))
step_follows site s told given asks f =
    let next = handled_next (is_idle s.standing) (reading 0 s.came).fault _ _ given s.handled refl
    f.first in
    grind arith

listen_follows : EachIsRead → LongerStream → (s : State) (waited : Option Offer)
    (heard : Option Heard) (given : List Content) → IsHeard (poll_space s) heard → Follows s given
    → Follows (listened s waited heard) given
listen_follows each longer s waited (Some (Arrived octets)) given h f =
    let all = octets_join s.came octets f.octets h.each in
    let added = longer 0 s.came octets _ _ _ _ _ _ (each 0 s.came f.octets)
    (each 0 (s.came ++ octets) all) in
    let ms = (reading 0 s.came).messages in
    record {
      first = record {
        first = rw (added.1, take-append-le s.handled ms added.0 f.first.within) f.first.first;
        within = omega (arith, f.first.within, length-append ms added.0, ap length added.1);
      };
      octets = all;
    }
listen_follows each longer s waited None given h f = record { first = f.first; octets = f.octets }
listen_follows each longer s waited (Some _) given h f =
    record { first = f.first; octets = f.octets }

pub handled_from : EachIsRead → LongerStream → (site : Site) (s : State) (rounds : List Round)
    (given : List Content) → AreRounds site s rounds → Follows s given
    → Follows (after_rounds site s rounds) (given ++ session_messages site s rounds)
handled_from each longer site s [] given h f = rw append-nil f
handled_from each longer site s (r ∷ rounds) given h f =
    let heard = listen_follows each longer s r.waited r.heard given h.0.listens.arrives f in
    let acted = step_follows site (before_step s r) r.told given h.0.asks heard in
    rw (← append_assoc given (round_messages s r) _)
    (handled_from each longer site (after_round site s r) rounds (given ++ round_messages s r) h.1
    (record { first = acted.first; octets = acted.octets }))

-- ---- what came

round_hears : (site : Site) (s : State) (r : Round)
    → octets_heard (round_calls site s r) ≡ octets_heard (poll_calls (poll_space s) r.heard)
round_hears site s r = grind arith

came_heard : (came : List ℕ) (space : ℕ) (heard : Option Heard)
    → came_with came heard ≡ came ++ octets_heard (poll_calls space heard)
came_heard came space (Some (Arrived octets)) =
    ap (λ (x : List ℕ). came ++ x) (sym (append-nil octets))
came_heard came space None = sym (append-nil came)
came_heard came space (Some _) = sym (append-nil came)

came_round : (site : Site) (s : State) (r : Round)
    → (after_round site s r).came ≡ s.came ++ octets_heard (round_calls site s r)
came_round site s r =
    same_came site s r
    ∙ came_heard s.came (poll_space s) r.heard
    ∙ ap (λ (x : List ℕ). s.came ++ x) (sym (round_hears site s r))

pub came_from : HeardJoins → (site : Site) (s : State) (rounds : List Round)
    → (after_rounds site s rounds).came ≡ s.came ++ octets_heard (session_calls site s rounds)
came_from joins site s [] = sym (append-nil s.came)
came_from joins site s (r ∷ rounds) =
    let now = after_round site s r in
    let later = session_calls site now rounds in cc (
      came_from joins site now rounds,
      came_round site s r,
      append_assoc s.came (octets_heard (round_calls site s r)) (octets_heard later),
      joins (round_calls site s r) later,
    )

-- ---- all rounds

pub handled_in_order : EachIsRead → LongerStream → HeardJoins → HandledInOrder
handled_in_order each longer joins site door draw entered rounds h =
    let start = at_first door draw entered in
    let end = after_rounds site start rounds in
    let read = reading 0 end.came in
    let f : Follows end (session_messages site start rounds) =
    handled_from each longer site start rounds [] h
    (record { first = record { first = refl; within = omega arith }; octets = λ i. omega arith }) in
    let is : IsRead 0 end.came read = each 0 end.came f.octets in
    record {
      more = drop end.handled read.messages;
      rest = read.rest;
      fault = read.fault;
      stream =
          rw (
            f.first.first,
            take-append-drop end.handled read.messages,
            ← came_from joins site start rounds,
          ) is;
    }
