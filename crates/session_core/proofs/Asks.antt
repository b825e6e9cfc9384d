-- What a message asks, by what it is judged by.
use Rattle.std.proofs.Common.{◌≡◌, ℕ, Bool, true, false, refl, ap, ◌∙◌, arith}
use Rattle.isp1_tml.specs.Message.{Content}
use Rattle.station_config.specs.declared.site.Site.{Site}
use Rattle.assoc_core.specs.declared.step.Step.{Step}
use Rattle.station_book.specs.State as book
use Rattle.station_book.specs.History.{moment_at}
use Rattle.session_core.specs.declared.bind_places.BindPlaces.{BindPlaces}
use Rattle.session_core.specs.declared.standing.Standing.{Standing}
use Rattle.session_services.specs.Inquiry.{Inquiry, answer_of, Replied, reply_in}
use Rattle.session_core.specs.Message.{UserContent, judged}
use Rattle.session_services.specs.Served.{Served}
use Rattle.session_core.specs.Handling.{said_ask, invoked, after_judged}
use Rattle.session_core.specs.Steps.{said_to, message_ask, with_message, stays_running, with_want}
use Rattle.session_core.specs.Seen.{ask_by, places_of}

ask_same : (site : Site) (served : Served) (said : UserContent) (step : Step)
    → ask_by served said step (places_of site said step).instance
    ≡ said_ask site served said step
ask_same site served said step = grind arith

-- a message that was judged leaves what a running service wants
want_same : (s : Standing) (said : UserContent) (step : Step) (stays : Bool) (i : Inquiry)
    → with_want stays (invoked s said step) s.moment i ≡ with_want stays s s.moment i
want_same s said step true i = refl
want_same s said step false i = refl

-- what the code asks of a message is what the definition does
pub asked_by_message : (site : Site) (s : Standing) (content : Content) (said : UserContent)
    (step : Step) (places : BindPlaces) (e : Standing) (stays : Bool) (asked ask : Inquiry)
    → said ≡ said_to site s content
    → step ≡ judged site s.association said s.moment → places ≡ places_of site said step
    → asked ≡ ask_by e.service said step places.instance → stays ≡ stays_running said step
    → e ≡ invoked s said step → ask ≡ with_want stays e e.moment asked
    → ask ≡ message_ask site s content s.moment
asked_by_message site s content said step places e stays asked ask said_so step_so places_so
    asked_so stays_so e_so ask_so =
    let one : asked ≡ said_ask site s.service said step =
    (rw (places_so, e_so) at asked_so) ∙ ask_same site s.service said step in
    let all : ask ≡ with_want (stays_running said step) s s.moment (said_ask site s.service said step) =
    (rw (stays_so, e_so, one) at ask_so)
    ∙ want_same s said step (stays_running said step) (said_ask site s.service said step) in
    all ∙ rw (step_so, said_so) refl

-- and so is what it leads to
pub led_by_message : (site : Site) (s t : Standing) (content : Content) (said : UserContent)
    (step : Step) (ask : Inquiry) (reply : Replied) (door reading : ℕ) (b : book.State)
    → said ≡ said_to site s content → step ≡ judged site s.association said s.moment
    → ask ≡ message_ask site s content s.moment → s.moment ≡ moment_at b reading
    → reply ≡ reply_in (answer_of b door (moment_at b reading) ask)
    → t ≡ after_judged site (invoked s said step) said step reply
    → t ≡ with_message site s content
    (reply_in (answer_of b door s.moment (message_ask site s content s.moment)))
led_by_message site s t content said st ask reply door reading b was judged_so ask_so now r is =
    let told : reply ≡ reply_in (answer_of b door s.moment (message_ask site s content s.moment)) =
    rw (← now, ask_so) at r in
    (rw (judged_so, was) at is) ∙ ap (λ (r : Replied). with_message site s content r) told

-- and so is what the book told
pub told_by_message : (site : Site) (s : Standing) (content : Content) (ask : Inquiry)
    (reply : Replied) (door reading : ℕ) (b : book.State)
    → ask ≡ message_ask site s content s.moment → s.moment ≡ moment_at b reading
    → reply ≡ reply_in (answer_of b door (moment_at b reading) ask)
    → reply ≡ reply_in (answer_of b door s.moment (message_ask site s content s.moment))
told_by_message site s content ask reply door reading b ask_so now r = rw (← now, ask_so) at r
