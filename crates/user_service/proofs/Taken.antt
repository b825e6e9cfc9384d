-- Where the last offer was taken whole, nothing waits.
use Rattle.std.proofs.Common.{◌≡◌, ℕ, Bool, false, Option, Some, None, List, [], ◌∷◌, ◌++◌}
use Rattle.std.proofs.Common.{refl, sym, ◌∙◌}
use Rattle.link_model.specs.declared.call.Call.{Call}
use Rattle.link_model.specs.declared.call.Call.TheVariants.{Polled, Offered}
use Rattle.link_model.specs.declared.call.Heard.{Heard}
use Rattle.octet_core.specs.declared.offer.Offer.{Offer}
use Rattle.octet_core.specs.declared.offer.Offer.TheVariants as offer
use Rattle.user_talk.specs.Outbox.{left_in, settled, offered, offered_by}
use Rattle.user_talk.specs.Outbox.{left_behind}
use Rattle.user_talk.specs.Rounds.{TalkState, Round, hearing_in, poll_calls, queued_at, answer_at}
use Rattle.user_talk.specs.Rounds.{after_round, after_rounds, calls_of, calls_in}
use Rattle.user_talk.specs.Running.{Tail, whole, unheard, broken, tail_calls}
use Rattle.user_service.specs.Streams.{is_left, untaken_by}
use Rattle.user_service.proofs.Came.{all_calls}

untaken_both : (b : Bool) (xs ys : List Call)
    → untaken_by b (xs ++ ys) ≡ untaken_by (untaken_by b xs) ys
untaken_both b [] ys = refl
untaken_both b (Polled space h ∷ xs) ys = untaken_both b xs ys
untaken_both b (Offered octets answer ∷ xs) ys = untaken_both (is_left answer) xs ys

untaken_poll : (b : Bool) (h : Option Heard) → untaken_by b (poll_calls h) ≡ b
untaken_poll b None = refl
untaken_poll b (Some h) = refl

untaken_tail : (b : Bool) (tail : Tail) → untaken_by b (tail_calls tail) ≡ b
untaken_tail b whole = refl
untaken_tail b unheard = refl
untaken_tail b (broken h read) = untaken_poll b h

-- offers of a queue: where its last one was taken whole, nothing is left of it
offers_take : (b : Bool) (block behind octets : List ℕ) (first second : Offer)
    → untaken_by b (offered_by (settled block (behind ++ octets)) first second) ≡ false
    → left_in (left_behind (settled block (behind ++ octets)) first second) ≡ []
offers_take b [] behind octets first second taken = by_one (behind ++ octets) first second taken
  where
    by_one : (more : List ℕ) (first second : Offer)
        → untaken_by b (offered_by (settled [] more) first second) ≡ false
        → left_in (left_behind (settled [] more) first second) ≡ []
    by_one [] offer.Whole offer.Whole taken = refl
    by_one [] offer.Whole offer.Stalled taken = refl
    by_one [] offer.Whole offer.Failed taken = refl
    by_one [] offer.Stalled second taken = refl
    by_one [] offer.Failed second taken = refl
    by_one (y ∷ more) offer.Whole offer.Whole taken = refl
    by_one (y ∷ more) offer.Whole offer.Stalled taken = refl
    by_one (y ∷ more) offer.Whole offer.Failed taken = refl
    by_one (y ∷ more) offer.Stalled second taken = absurd cc
    by_one (y ∷ more) offer.Failed second taken = absurd cc
offers_take b (x ∷ block) behind octets first second taken =
    by_two (behind ++ octets) first second taken
  where
    by_two : (more : List ℕ) (first second : Offer)
        → untaken_by b (offered_by (settled (x ∷ block) more) first second) ≡ false
        → left_in (left_behind (settled (x ∷ block) more) first second) ≡ []
    by_two [] offer.Whole offer.Whole taken = refl
    by_two [] offer.Whole offer.Stalled taken = refl
    by_two [] offer.Whole offer.Failed taken = refl
    by_two (y ∷ more) offer.Whole offer.Whole taken = refl
    by_two (y ∷ more) offer.Whole offer.Stalled taken = absurd cc
    by_two (y ∷ more) offer.Whole offer.Failed taken = absurd cc
    by_two more offer.Stalled second taken = absurd cc
    by_two more offer.Failed second taken = absurd cc

round_takes : (b : Bool) (s : TalkState) (r : Round) → untaken_by b (calls_of s r) ≡ false
    → left_in (after_round s r).outbox ≡ []
round_takes b s r taken =
    let offer = (answer_at s r.read (hearing_in r.heard)).offer in
    offers_take (untaken_by b (poll_calls r.heard)) s.outbox.block s.outbox.behind offer
    r.answers.first r.answers.second
    (sym (untaken_both b (poll_calls r.heard)
    (offered (queued_at s r.read (hearing_in r.heard)) r.answers))
    ∙ taken)

rounds_take : (b : Bool) (s : TalkState) (rounds : List Round)
    → (b ≡ false → left_in s.outbox ≡ []) → untaken_by b (calls_in s rounds) ≡ false
    → left_in (after_rounds s rounds).outbox ≡ []
rounds_take b s [] before taken = before taken
rounds_take b s (r ∷ rounds) before taken =
    rounds_take (untaken_by b (calls_of s r)) (after_round s r) rounds (round_takes b s r)
    (sym (untaken_both b (calls_of s r) (calls_in (after_round s r) rounds)) ∙ taken)

pub all_taken : (s : TalkState) (rounds : List Round) (tail : Tail) → left_in s.outbox ≡ []
    → untaken_by false (all_calls s rounds tail) ≡ false
    → left_in (after_rounds s rounds).outbox ≡ []
all_taken s rounds tail none taken =
    rounds_take false s rounds (λ is. none)
    (sym (untaken_tail (untaken_by false (calls_in s rounds)) tail)
    ∙ (sym (untaken_both false (calls_in s rounds) (tail_calls tail)) ∙ taken))
