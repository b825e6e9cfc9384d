-- What the link is handed in turns, and what is polled and printed.
use Rattle.std.proofs.Common.{◌≡◌, ℕ, List, [], ◌∷◌, ◌++◌, Option, Some, None, refl, ap, sym, ◌∙◌}
use Rattle.std.proofs.Common.{append_assoc, append-nil}
use Rattle.std.proofs.lemmas.Grind.{flat_map-append}
use Rattle.std.proofs.lemmas.List.Elements.{filter_map-append}
use Rattle.std.specs.List.{filter_map, flat_map}
use Rattle.link_model.specs.declared.call.Call.{Call}
use Rattle.link_model.specs.declared.call.Heard.{Heard}
use Rattle.link_model.specs.Calls.{octets_handed, blocks_in, block_in, polls_in, poll_in}
use Rattle.octet_core.specs.declared.offer.Offer.{Offer}
use Rattle.octet_core.specs.declared.offer.Offer.TheVariants as offer
use Rattle.user_core.specs.Laws.{answer_in, offers, printed}
use Rattle.user_talk.specs.Laws.{AreItsTurns}
use Rattle.user_talk.specs.Outbox.{OutboxState, left_in, settled, offered_once, left_once}
use Rattle.user_talk.specs.Outbox.{offered, offered_by, left_by, left_behind}
use Rattle.user_talk.specs.Rounds.{TalkState, Round, turn_of, after_round, calls_of, lines_of}
use Rattle.user_talk.specs.Rounds.{after_rounds, turns_of, calls_in, poll_calls}
use Rattle.user_talk.specs.Rounds.{hearing_in, queued_at}

handed_both : (a b : List Call) → octets_handed (a ++ b) ≡ octets_handed a ++ octets_handed b
handed_both a b =
    ap (flat_map (λ (block : List ℕ). block)) (filter_map-append block_in a b)
    ∙ flat_map-append (λ (block : List ℕ). block) (blocks_in a) (blocks_in b)

polls_both : (a b : List Call) → polls_in (a ++ b) ≡ polls_in a ++ polls_in b
polls_both a b = filter_map-append poll_in a b

-- ---- offers

-- an offer moves a block from what is left to what was handed over, or leaves all
once : (block behind : List ℕ) (answer : Offer)
    → octets_handed (offered_once block answer)
    ++ left_in (left_once (record { block = block; behind = behind }) answer) ≡ block ++ behind
once [] behind offer.Whole = append-nil behind
once [] behind offer.Stalled = refl
once [] behind offer.Failed = refl
once (x ∷ block) behind offer.Whole =
    ap (λ l. ((x ∷ block) ++ []) ++ l) (append-nil behind)
    ∙ ap (λ l. l ++ behind) (append-nil (x ∷ block))
once (x ∷ block) behind offer.Stalled = refl
once (x ∷ block) behind offer.Failed = refl

twice : (o : OutboxState) (first second : Offer)
    → octets_handed (offered_by o first second) ++ left_in (left_behind o first second)
    ≡ left_in o
twice o offer.Whole second =
    let p = left_once o offer.Whole in
    let one = offered_once o.block offer.Whole in
    let two = offered_once p.block second in
    ap (λ l. l ++ left_in (left_once p second)) (handed_both one two)
    ∙ (append_assoc (octets_handed one) (octets_handed two) (left_in (left_once p second))
    ∙ (ap (λ l. octets_handed one ++ l) (once p.block p.behind second)
    ∙ once o.block o.behind offer.Whole))
twice o offer.Stalled second = once o.block o.behind offer.Stalled
twice o offer.Failed second = once o.block o.behind offer.Failed

put_behind : (block behind octets : List ℕ)
    → left_in (settled block (behind ++ octets)) ≡ (block ++ behind) ++ octets
put_behind [] behind octets = append-nil (behind ++ octets)
put_behind (x ∷ block) behind octets = sym (append_assoc (x ∷ block) behind octets)

-- ---- turns

no_block_polled : (h : Option Heard) → octets_handed (poll_calls h) ≡ []
no_block_polled None = refl
no_block_polled (Some h) = refl

turn_hands : (s : TalkState) (r : Round)
    → octets_handed (calls_of s r) ++ left_in (after_round s r).outbox
    ≡ left_in s.outbox ++ (answer_in s.user (turn_of s r)).offer
turn_hands s r =
    let q = queued_at s r.read (hearing_in r.heard) in
    ap (λ l. l ++ left_in (left_by q r.answers))
    (handed_both (poll_calls r.heard) (offered q r.answers)
    ∙ ap (λ l. l ++ octets_handed (offered q r.answers)) (no_block_polled r.heard))
    ∙ (twice q r.answers.first r.answers.second
    ∙ put_behind s.outbox.block s.outbox.behind (answer_in s.user (turn_of s r)).offer)

pub in_order : (s : TalkState) (rounds : List Round)
    → octets_handed (calls_in s rounds) ++ left_in (after_rounds s rounds).outbox
    ≡ left_in s.outbox ++ offers s.user (turns_of s rounds)
in_order s [] = sym (append-nil (left_in s.outbox))
in_order s (r ∷ rounds) =
    let t = after_round s r in
    let left = left_in (after_rounds t rounds).outbox in
    let more = offers t.user (turns_of t rounds) in
    ap (λ l. l ++ left) (handed_both (calls_of s r) (calls_in t rounds))
    ∙ (append_assoc (octets_handed (calls_of s r)) (octets_handed (calls_in t rounds)) left
    ∙ (ap (λ l. octets_handed (calls_of s r) ++ l) (in_order t rounds)
    ∙ (sym (append_assoc (octets_handed (calls_of s r)) (left_in t.outbox) more)
    ∙ (ap (λ l. l ++ more) (turn_hands s r)
    ∙ append_assoc (left_in s.outbox) (answer_in s.user (turn_of s r)).offer more))))

pub its_turns : (s : TalkState) (rounds : List Round) → AreItsTurns s rounds
its_turns s [] = record { user = refl; printed = refl }
its_turns s (r ∷ rounds) =
    let rest = its_turns (after_round s r) rounds in
    record { user = rest.user; printed = ap (λ l. lines_of s r ++ l) rest.printed }

-- ---- polls

none_once : (block : List ℕ) (answer : Offer) → polls_in (offered_once block answer) ≡ []
none_once [] answer = refl
none_once (x ∷ block) answer = refl

pub none_offered : (o : OutboxState) (first second : Offer) → polls_in (offered_by o first second) ≡ []
none_offered o offer.Whole second =
    let p = left_once o offer.Whole in
    polls_both (offered_once o.block offer.Whole) (offered_once p.block second)
    ∙ (ap (λ l. l ++ polls_in (offered_once p.block second)) (none_once o.block offer.Whole)
    ∙ none_once p.block second)
none_offered o offer.Stalled second = none_once o.block offer.Stalled
none_offered o offer.Failed second = none_once o.block offer.Failed

abbrev as_list : Option Heard → List Heard
as_list None = []
as_list (Some h) = h ∷ []

one_poll : (h : Option Heard) → polls_in (poll_calls h) ≡ as_list h
one_poll None = refl
one_poll (Some h) = refl

heard_first : (r : Round) (rounds : List Round)
    → filter_map (λ (r : Round). r.heard) (r ∷ rounds)
    ≡ as_list r.heard ++ filter_map (λ (r : Round). r.heard) rounds
heard_first r rounds = by_heard r.heard
  where
    by_heard : (h : Option Heard)
        → filter_map (λ (r : Round). r.heard) (record r { heard = h } ∷ rounds)
        ≡ as_list h ++ filter_map (λ (r : Round). r.heard) rounds
    by_heard None = refl
    by_heard (Some h) = refl

turn_polls : (s : TalkState) (r : Round) → polls_in (calls_of s r) ≡ as_list r.heard
turn_polls s r =
    let q = queued_at s r.read (hearing_in r.heard) in
    polls_both (poll_calls r.heard) (offered q r.answers)
    ∙ (ap (λ l. polls_in (poll_calls r.heard) ++ l)
    (none_offered q r.answers.first r.answers.second)
    ∙ (append-nil (polls_in (poll_calls r.heard)) ∙ one_poll r.heard))

pub polls_once : (s : TalkState) (rounds : List Round)
    → polls_in (calls_in s rounds) ≡ filter_map (λ (r : Round). r.heard) rounds
polls_once s [] = refl
polls_once s (r ∷ rounds) =
    polls_both (calls_of s r) (calls_in (after_round s r) rounds)
    ∙ (ap (λ l. l ++ polls_in (calls_in (after_round s r) rounds)) (turn_polls s r)
    ∙ (ap (λ l. as_list r.heard ++ l) (polls_once (after_round s r) rounds)
    ∙ sym (heard_first r rounds)))
