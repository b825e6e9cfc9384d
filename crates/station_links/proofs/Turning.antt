-- A round of a connection is the one that its steering and the book fix.
use Rattle.std.proofs.Common.{◌≡◌, ℕ, Bool, true, false, not, Option, Some, None, [], ◌∷◌}
use Rattle.std.proofs.Common.{refl, sym, ap, subst, ◌∙◌, if◌then◌else◌}
use Rattle.std.specs.Prelude.{is_some}
use Rattle.octet_core.specs.declared.offer.Offer.{Offer}
use Rattle.link_model.specs.declared.call.Heard.{Heard}
use Rattle.link_model.specs.Steering.{Steering}
use Rattle.station_config.specs.declared.site.Site.{Site}
use Rattle.station_book.specs.State.{Event, Answer, Reply, answered}
use Rattle.station_book.specs.State as book
use Rattle.station_book.specs.History.{IsLegal, moment_at}
use Rattle.session_core.specs.declared.standing.Standing.{Standing}
use Rattle.session_core.specs.Course.{is_over}
use Rattle.session_services.specs.Inquiry.{answer_of}
use Rattle.session_core.specs.Steps.{may_poll, may_speak, may_send, inquiry_at}
use Rattle.session_core.specs.Session.{State, Round, BookAnswer, next_of, cleared, listened}
use Rattle.session_core.specs.Session.{poll_space}
use Rattle.session_core.specs.Session.{stepped, before_step, before_speak, IsRound}
use Rattle.session_core.specs.Session.{event_of, step_events, offer_calls, poll_calls, listen_calls}
use Rattle.session_core.specs.Session.{speak_calls, send_calls, standing_spoke, round_calls}
use Rattle.session_core.specs.Session.{round_events}
use Rattle.station_links.specs.Connected.{Connected, after_calls, AreLed}
use Rattle.station_links.specs.Rounds.{offer_answer, poll_answer, waited_at, heard_at, listened_at}
use Rattle.station_links.specs.Rounds.{told_now, told_at, spoke_at, sent_at, round_at}
use Rattle.station_links.proofs.Leading.{led_first}

led_offer : (st : Steering) (s : Standing) (a : Option Offer) → AreLed st (offer_calls s a)
    → a ≡ offer_answer st (is_some a)
led_offer st s None led = refl
led_offer st s (Some a) led = ap (λ (o : Offer). Some o) led.0

led_send : (st : Steering) (s : Standing) (a : Option Offer) → AreLed st (send_calls s a)
    → a ≡ offer_answer st (is_some a)
led_send st s None led = refl
led_send st s (Some a) led = ap (λ (o : Offer). Some o) led.0

led_poll : (st : Steering) (space : ℕ) (h : Option Heard) → AreLed st (poll_calls space h)
    → h ≡ poll_answer st space (is_some h)
led_poll st space None led = refl
led_poll st space (Some h) led = ap (λ (x : Heard). Some x) led.0

-- what the book told a session of a door
abbrev answer_in : Reply → Answer → Answer
answer_in (answered a) default = a
answer_in _ default = default

told_is : (site : Site) (door : ℕ) (s : State) (b : book.State) (reading : ℕ) (t : BookAnswer)
    → t.reading ≡ reading → IsLegal b (event_of site door s t ∷ [])
    → t ≡ told_now site door s b reading
told_is site door s b reading t read legal =
    let moment : t.moment ≡ moment_at b reading =
    ap (λ (x : Event). x.moment) legal.0 ∙ ap (λ (n : ℕ). moment_at b n) read in
    let told : t.answer ≡ answer_of b door (moment_at b t.reading)
    (inquiry_at site s.standing (next_of s) t.moment) =
    ap (λ (x : Event). answer_in x.reply t.answer) legal.0 in
    ap (λ (n : ℕ).
    let t2 : BookAnswer = record { reading = n; moment = t.moment; answer = t.answer } in t2) read
    ∙ ap (λ (n : ℕ).
    let t2 : BookAnswer = record { reading = reading; moment = n; answer = t.answer } in t2) moment
    ∙ ap (λ (y : Answer).
    let t2 : BookAnswer =
    record { reading = reading; moment = moment_at b reading; answer = y } in t2)
    (told
    ∙ ap (λ (n : ℕ). answer_of b door (moment_at b n)
    (inquiry_at site s.standing (next_of s) t.moment)) read
    ∙ ap (λ (n : ℕ). answer_of b door (moment_at b reading)
    (inquiry_at site s.standing (next_of s) n)) moment)

not_over : (over : Bool) → true ≡ not over → over ≡ false
not_over true e = absurd (cc)
not_over false e = refl

told_of : (site : Site) (door : ℕ) (s : State) (b : book.State) (reading : ℕ)
    (told : Option BookAnswer)
    (t : BookAnswer) → told ≡ Some t → is_some told ≡ not (is_over s.standing.course)
    → t.reading ≡ reading → IsLegal b (step_events site door s told)
    → told ≡ (if is_over s.standing.course then None else Some (told_now site door s b reading))
told_of site door s b reading told t so asks read legal =
    let here = not_over (is_over s.standing.course) (ap is_some (sym so) ∙ asks) in
    so ∙ ap (λ (x : BookAnswer). Some x) (told_is site door s b reading t read
    (subst (λ (o : Option BookAnswer). IsLegal b (step_events site door s o)) so legal))
    ∙ ap (λ (over : Bool). if over then None else Some (told_now site door s b reading)) (sym here)

-- a round with these answers
abbrev made : Option Offer → Option Heard → Option BookAnswer → Option Offer → Option Offer → Round
made waited heard told spoke sent =
    record { waited = waited; heard = heard; told = told; spoke = spoke; sent = sent }

-- the answer to the service's message, by the steering behind listen and the answer to the block
abbrev sent_by : Steering → Option Offer → State → Option Offer
sent_by st spoke s =
    offer_answer (after_calls st (offer_calls s.standing spoke))
    (may_send (standing_spoke s.standing spoke))

pub round_is : (site : Site) (door : ℕ) (l : Connected) (b : book.State) (reading : ℕ) (r : Round)
    (t : BookAnswer) → IsRound site l.state r → r.told ≡ Some t → t.reading ≡ reading
    → AreLed l.steering (round_calls site l.state r)
    → IsLegal b (round_events site door l.state r) → r ≡ round_at site door l b reading
round_is site door l b reading r t is so read led legal =
    let s = l.state in
    let st = l.steering in
    let both = led_first st (listen_calls s r.waited r.heard)
    (speak_calls (before_speak site s r) r.spoke r.sent) led in
    let last = led_first (after_calls st (listen_calls s r.waited r.heard))
    (offer_calls (before_speak site s r).standing r.spoke)
    (send_calls (standing_spoke (before_speak site s r).standing r.spoke) r.sent) both.1 in
    let listens = led_first st (offer_calls s.standing r.waited)
    (poll_calls (poll_space s) r.heard) both.0 in
    let waited : r.waited ≡ waited_at l =
    led_offer st s.standing r.waited listens.0
    ∙ ap (λ (x : Bool). offer_answer st x) is.listens.offers in
    let heard : r.heard ≡ heard_at l =
    led_poll (after_calls st (offer_calls s.standing r.waited)) (poll_space s) r.heard listens.1
    ∙ ap (λ (x : Bool). poll_answer (after_calls st (offer_calls s.standing r.waited))
    (poll_space s) x) is.listens.polls
    ∙ ap (λ (w : Option Offer). poll_answer (after_calls st (offer_calls s.standing w))
    (poll_space s) (may_poll (cleared s w) (next_of s))) waited in
    let before : before_step s r ≡ listened_at l =
    ap (λ (w : Option Offer). listened s w r.heard) waited
    ∙ ap (λ (x : Option Heard). listened s (waited_at l) x) heard in
    let told : r.told ≡ told_at site door l b reading =
    told_of site door (before_step s r) b reading r.told t so is.asks read legal
    ∙ ap (λ (u : State). if is_over u.standing.course then None
    else Some (told_now site door u b reading)) before in
    let after : before_speak site s r
    ≡ stepped site (listened_at l) (told_at site door l b reading) =
    ap (λ (u : State). stepped site u r.told) before
    ∙ ap (λ (o : Option BookAnswer). stepped site (listened_at l) o) told in
    let spoke : r.spoke ≡ spoke_at l (stepped site (listened_at l)
    (told_at site door l b reading)) =
    led_offer (after_calls st (listen_calls s r.waited r.heard)) (before_speak site s r).standing
    r.spoke last.0
    ∙ ap (λ (x : Bool). offer_answer (after_calls st (listen_calls s r.waited r.heard)) x)
    is.speaks.offers
    ∙ ap (λ (w : Option Offer). offer_answer (after_calls st (listen_calls s w r.heard))
    (may_speak (before_speak site s r).standing)) waited
    ∙ ap (λ (x : Option Heard). offer_answer (after_calls st (listen_calls s (waited_at l) x))
    (may_speak (before_speak site s r).standing)) heard
    ∙ ap (λ (u : State). spoke_at l u) after in
    let now = stepped site (listened_at l) (told_at site door l b reading) in
    let sent : r.sent ≡ sent_at l now =
    led_send
    (after_calls (after_calls st (listen_calls s r.waited r.heard))
    (offer_calls (before_speak site s r).standing r.spoke))
    (standing_spoke (before_speak site s r).standing r.spoke) r.sent last.1
    ∙ ap (λ (x : Bool).
    offer_answer
    (after_calls (after_calls st (listen_calls s r.waited r.heard))
    (offer_calls (before_speak site s r).standing r.spoke)) x) is.speaks.sends
    ∙ ap (λ (w : Option Offer).
    sent_by (after_calls st (listen_calls s w r.heard)) r.spoke (before_speak site s r)) waited
    ∙ ap (λ (x : Option Heard).
    sent_by (after_calls st (listen_calls s (waited_at l) x)) r.spoke (before_speak site s r)) heard
    ∙ ap (λ (o : Option Offer).
    sent_by (after_calls st (listen_calls s (waited_at l) (heard_at l))) o
    (before_speak site s r)) spoke
    ∙ ap (λ (u : State).
    sent_by (after_calls st (listen_calls s (waited_at l) (heard_at l))) (spoke_at l now) u)
    after in
    ap (λ (w : Option Offer). made w r.heard r.told r.spoke r.sent) waited
    ∙ ap (λ (x : Option Heard). made (waited_at l) x r.told r.spoke r.sent) heard
    ∙ ap (λ (o : Option BookAnswer). made (waited_at l) (heard_at l) o r.spoke r.sent) told
    ∙ ap (λ (o : Option Offer).
    made (waited_at l) (heard_at l) (told_at site door l b reading) o r.sent) spoke
    ∙ ap (λ (o : Option Offer).
    made (waited_at l) (heard_at l) (told_at site door l b reading) (spoke_at l now) o) sent
