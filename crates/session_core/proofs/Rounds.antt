-- The calls of a round, for all states that a session shows.
use Rattle.std.proofs.Common.{◌≡◌, ℕ, Bool, true, List, [], ◌∷◌, ◌++◌, length, Option, Some, None}
use Rattle.std.proofs.Common.{refl, ap, subst, ◌∙◌, append_assoc, arith, zero, suc, min, ◌<◌, ◌≤◌}
use Rattle.std.proofs.Common.{take}
use Rattle.std.proofs.lemmas.List.{append-nil, length-take}
use Rattle.ber_core.specs.Length.{IsOctets}
use Rattle.std.specs.Prelude.{is_some}
use Rattle.octet_core.specs.declared.offer.Offer.{Offer}
use Rattle.isp1_tml.specs.Message.{Content}
use Rattle.isp1_tml.specs.Reading.{reading}
use Rattle.isp1_tml.specs.Feeding.{Feeding, StandsFor, room_of, next_of as next_held}
use Rattle.link_model.specs.declared.call.Call.{Call}
use Rattle.link_model.specs.declared.call.Call.TheVariants.{Polled, Offered}
use Rattle.link_model.specs.declared.call.Heard.{Heard}
use Rattle.link_model.specs.declared.call.Heard.TheVariants.{Arrived}
use Rattle.link_model.specs.Calls.{Tells}
use Rattle.station_config.specs.declared.site.Site.{Site}
use Rattle.station_book.specs.State as book
use Rattle.session_core.specs.declared.standing.Standing.{Standing}
use Rattle.session_core.specs.Course.{is_going}
use Rattle.session_services.specs.Inquiry.{reply_in}
use Rattle.session_core.specs.Steps.{Next, has_message, round_begun, waits, may_poll, handles}
use Rattle.session_core.specs.Steps.{may_poll_by, after_wait, after_poll, after_offer, is_idle}
use Rattle.session_core.specs.Steps.{inquiry_at, after_step, may_speak, round_ended}
use Rattle.session_core.specs.Steps.{may_send}
use Rattle.session_core.specs.ServiceSteps.{after_send}
use Rattle.session_core.specs.Session.{State, BookAnswer, next_of, counted, offer_calls, poll_calls}
use Rattle.session_core.specs.Session.{standing_waited, standing_heard, standing_spoke, cleared}
use Rattle.session_core.specs.Session.{standing_sent, send_calls}
use Rattle.session_core.specs.Session.{Asks, stepped, step_events, poll_space, IsArrival, IsHeard}
use Rattle.session_core.specs.Session.{AreOctets}
use Rattle.session_core.specs.SessionState.{SessionState, Shows, IsSound, space_of, Waited}
use Rattle.session_core.specs.SessionState.{PolledOnce, Listened}
use Rattle.session_core.specs.SessionState.{Hears, told_now, told_by, own_events, kept_after}
use Rattle.session_core.specs.SessionState.{IsSpoken, IsSent, Spoke}
use Rattle.session_core.proofs.Streams.{WorkedOut, Gives, next_is, space_is, given_or_not}
use Rattle.session_core.proofs.Whole.{listen_whole, speak_whole}

pub tells-nil : (a : Option (List Call)) → Tells a a []
tells-nil a = grind (arith, append-nil)

pub tells-tells : (a b c : Option (List Call)) (xs ys : List Call) → Tells a b xs → Tells b c ys
    → Tells a c (xs ++ ys)
tells-tells a b c xs ys h k = grind (arith, append_assoc)

both_same : {A B C : Type 0} (f : A → B → C) (a b : A) (x y : B) → a ≡ b → x ≡ y → f a x ≡ f b y
both_same f a b x y e h = cc

-- ---- listen

cleared_goes : (s : Standing) (waited : Option Offer) (heard : Option Heard) (next : Next)
    → is_some heard ≡ may_poll (standing_waited (round_begun s) waited) next
    → is_some heard ≡ true → is_going s.course ≡ true
cleared_goes s waited heard next e is = grind arith

-- a poll's space is that of the state, where the poll is made
polled_so : (a b : ℕ) (heard : Option Heard) → (is_some heard ≡ true → a ≡ b)
    → (poll_calls a heard ≡ poll_calls b heard) × (IsHeard a heard → IsHeard b heard)
polled_so a b None same = (refl, λ h. h)
polled_so a b (Some heard) same = (
  ap (λ (n : ℕ). poll_calls n (Some heard)) (same refl),
  λ h. subst (λ (n : ℕ). IsHeard n (Some heard)) (same refl) h,
)

-- listen, of a link that told a, then b, then c
pub listened_by : WorkedOut → (a b c : Option (List Call)) (old between new : SessionState)
    → Waited a b old between → PolledOnce b c between new → Listened a c old new
listened_by law a b c old between new w was =
    let p = subst (λ (v : SessionState). PolledOnce b c v new) w.new_is was in
    let space = space_of old.feeder in
    let polls : (s : State) → Shows old s
    → is_some p.heard ≡ may_poll (cleared s w.waited) (next_of s) =
    λ s h.
    p.polls
    ∙ both_same (λ (t : Standing) (n : Next). may_poll (standing_waited (round_begun t) w.waited) n)
    _ _ _ _ h.standing (next_is law old s h) in
    let same : (s : State) → Shows old s → IsSound s
    → (poll_calls space p.heard ≡ poll_calls (poll_space s) p.heard)
    × (IsHeard space p.heard → IsHeard (poll_space s) p.heard) =
    λ s h sound.
    polled_so space (poll_space s) p.heard
    (λ e.
    space_is law old s h
    (sound (cleared_goes s.standing w.waited p.heard (next_of s) (polls s h) e))) in
    record {
      waited = w.waited;
      heard = p.heard;
      own = offer_calls old.standing w.waited ++ poll_calls space p.heard;
      told = tells-tells a b c _ (poll_calls space p.heard) w.told p.told;
      whole = listen_whole old.standing w.waited space p.heard;
      door = p.door;
      own_is = λ s h sound.
          both_same (λ (t : Standing) (calls : List Call). offer_calls t w.waited ++ calls) _ _ _ _
          h.standing (same s h sound).0;
      listens = λ s h sound. record {
        offers = w.offers ∙ ap waits h.standing;
        polls = polls s h;
        arrives = (same s h sound).1 p.arrives;
      };
      stands = λ s h. record {
        standing =
            p.standing
            ∙ ap (λ (t : Standing).
            standing_heard (standing_waited (round_begun t) w.waited) p.heard) h.standing;
        given = h.given;
        count = h.count;
        stands = p.feeder s.came h.given h.stands;
      };
    }

-- ---- step

-- the ask by what is kept is the ask by the state
asked_so : WorkedOut → (site : Site) (v : SessionState) (s : State) (now : ℕ) → Shows v s
    → inquiry_at site v.standing (next_held v.feeder) now
    ≡ inquiry_at site s.standing (next_of s) now
asked_so law site v s now h =
    both_same (λ (t : Standing) (n : Next). inquiry_at site t n now) _ _ _ _ h.standing
    (next_is law v s h)

pub asks_by : (site : Site) (v : SessionState) (b : book.State) (reading : ℕ) (s : State)
    → Shows v s → Asks s (told_by site v b reading)
asks_by site v b reading s h = grind arith

pub stands_told : WorkedOut → Gives → (site : Site) (v : SessionState) (told : Option BookAnswer)
    (s : State) → Shows v s → Shows (kept_after site v told) (stepped site s told)
stands_told law gives site v None s h = h
stands_told law gives site v (Some told) s h =
    let g = given_or_not gives (is_idle v.standing) v.feeder s.came h.given h.stands in
    let next : next_held v.feeder ≡ next_of s = next_is law v s h in
    record {
      standing =
          both_same (λ (t : Standing) (n : Next).
          after_step site t n told.moment (reply_in told.answer)) _ _ _ _ h.standing next;
      given = g.given;
      count =
          g.count
          ∙ ap (λ (n : ℕ). counted (handles v.standing (next_held v.feeder)) n) h.count
          ∙ both_same (λ (t : Standing) (n : Next). counted (handles t n) s.handled) _ _ _ _
          h.standing next;
      stands = g.stands;
    }

-- the event by what is kept is the one by the state
pub events_by : WorkedOut → (site : Site) (v : SessionState) (b : book.State) (reading : ℕ)
    (s : State) → Shows v s
    → own_events site v b reading ≡ step_events site v.door s (told_by site v b reading)
events_by law site v b reading s h =
    grind (arith, asked_so law site v s (told_now site v b reading).moment h)

-- ---- speak

pub spoke_by : (a b c : Option (List Call)) (old between mid new : SessionState)
    → IsSpoken a b old between → IsSent b c between mid
    → new ≡ record mid { standing = round_ended mid.standing } → Spoke a c old new
spoke_by a b c old between mid new w was is =
    let q = subst (λ (v : SessionState). IsSent b c v mid) w.new_is was in
    let all : new
    ≡ record old {
      standing =
          round_ended (standing_sent (standing_spoke old.standing w.spoke) q.sent);
    } =
    is ∙ ap (λ (v : SessionState). record v { standing = round_ended v.standing }) q.new_is in
    record {
      spoke = w.spoke;
      sent = q.sent;
      own =
          offer_calls old.standing w.spoke
          ++ send_calls (standing_spoke old.standing w.spoke) q.sent;
      told = tells-tells a b c _ _ w.told q.told;
      whole = speak_whole old.standing w.spoke q.sent;
      door = ap (λ (v : SessionState). v.door) all;
      own_is = λ s h.
          ap (λ (t : Standing).
          offer_calls t w.spoke ++ send_calls (standing_spoke t w.spoke) q.sent) h.standing;
      speaks = λ s h. record {
        offers = w.offers ∙ ap may_speak h.standing;
        sends =
            q.sends ∙ ap (λ (t : Standing). may_send (standing_spoke t w.spoke)) h.standing;
      };
      stands = λ s h. rw all (record {
        standing =
            ap (λ (t : Standing).
            round_ended (standing_sent (standing_spoke t w.spoke) q.sent)) h.standing;
        given = h.given;
        count = h.count;
        stands = h.stands;
      });
    }

-- ---- of parts of the code

abbrev pub keeping : ℕ → Feeding → Standing → SessionState
keeping door f s = record { door = door; feeder = f; standing = s }

pub waited_by : (a b : Option (List Call)) (door : ℕ) (f : Feeding) (s began after : Standing)
    (said : Offer) → true ≡ waits s → began ≡ round_begun s
    → Tells a b (Offered began.block said ∷ []) → after ≡ after_wait began said
    → Waited a b (keeping door f s) (keeping door f after)
waited_by a b door f s began after said may e told is = record {
  waited = Some said;
  told = rw e at told;
  offers = may;
  new_is = rw (is, e) refl;
}

pub polled_by : (a b : Option (List Call)) (door : ℕ) (f g : Feeding) (s t : Standing)
    (is_held : Bool) → Hears a b f g s t → true ≡ may_poll_by s is_held
    → is_held ≡ has_message (next_held f) → PolledOnce a b (keeping door f s) (keeping door g t)
polled_by a b door f g s t is_held h may held = record {
  heard = Some h.heard;
  told = h.told;
  polls = may ∙ ap (may_poll_by s) held;
  arrives = h.arrives;
  door = refl;
  standing = h.standing;
  feeder = h.feeder;
}

pub said_by : (a b : Option (List Call)) (door : ℕ) (f : Feeding) (s after : Standing)
    (said : Offer) → true ≡ may_speak s → Tells a b (Offered s.block said ∷ [])
    → after ≡ after_offer s said → IsSpoken a b (keeping door f s) (keeping door f after)
said_by a b door f s after said may told is =
    record { spoke = Some said; told = told; offers = may; new_is = ap (keeping door f) is }

pub sent_by : (a b : Option (List Call)) (door : ℕ) (f : Feeding) (s after : Standing)
    (said : Offer) → true ≡ may_send s → Tells a b (Offered s.outgoing said ∷ [])
    → after ≡ after_send s said → IsSent a b (keeping door f s) (keeping door f after)
sent_by a b door f s after said may told is =
    record { sent = Some said; told = told; sends = may; new_is = ap (keeping door f) is }

-- a poll that heard octets
pub heard_some : (a b : Option (List Call)) (f g : Feeding) (s t : Standing) (space : ℕ)
    (octets : List ℕ) → space ≡ space_of f → Tells a b (Polled space (Arrived octets) ∷ [])
    → IsArrival space octets → t ≡ after_poll s (Arrived octets)
    → ((came : List ℕ) (given : List Content) → StandsFor f came given
    → StandsFor g (came ++ octets) given)
    → Hears a b f g s t
heard_some a b f g s t space octets same told arrives is feeder = record {
  heard = Arrived octets;
  told = rw same at told;
  arrives = rw same at arrives;
  standing = is;
  feeder = feeder;
}

-- ---- the space and the octets of a poll

pub space_so : (f : Feeding) (room n : ℕ) (space : List ℕ) → n ≡ min room (length space)
    → room ≡ room_of f → length space ≡ 65536 → length (take n space) ≡ space_of f
space_so f room n space n_so room_so long = omega (arith, length-take n space)

pub each_octet : (octets : List ℕ) → IsOctets octets → AreOctets octets
each_octet [] h i = omega arith
each_octet (x ∷ octets) h zero = h.0
each_octet (x ∷ octets) h (suc i) = each_octet octets h.1 i

pub piece_so : (f : Feeding) (room n count : ℕ) (space filled : List ℕ)
    → n ≡ min room (length space) → room ≡ room_of f → length filled ≡ length (take n space)
    → 0 < count → count ≤ length (take n space) → length (take count filled) ≤ room_of f
piece_so f room n count space filled n_so room_so same some few =
    omega (arith, length-take n space, length-take count filled)

pub arrival_so : (count size : ℕ) (filled : List ℕ) → length filled ≡ size → 0 < count
    → count ≤ size → IsOctets (take count filled) → IsArrival size (take count filled)
arrival_so count size filled same some few octets = record {
  some = omega (arith, length-take count filled);
  within = omega (arith, length-take count filled);
  each = each_octet (take count filled) octets;
}
