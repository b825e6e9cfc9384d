-- Each block that was made is handed over once.
use Rattle.std.proofs.Common.{◌≡◌, ℕ, ◌≤◌, true, false, not, ◌&&◌, if◌then◌else◌, Option, Some, None}
use Rattle.std.proofs.Common.{List, [], ◌∷◌, ◌++◌, length, refl, sym, ap, ◌∙◌, append_assoc, arith}
use Rattle.std.proofs.lemmas.List.{append-nil}
use Rattle.octet_core.specs.declared.offer.Offer.{Offer}
use Rattle.octet_core.specs.declared.offer.Offer.TheVariants.{Whole}
use Rattle.link_model.specs.declared.call.Call.{Call}
use Rattle.link_model.specs.declared.call.Heard.{Heard}
use Rattle.link_model.specs.Calls.{blocks_in}
use Rattle.station_config.specs.declared.site.Site.{Site}
use Rattle.session_core.specs.declared.standing.Standing.{Standing}
use Rattle.session_core.specs.Course.{is_live, is_blocked}
use Rattle.session_services.specs.Inquiry.{reply_in}
use Rattle.session_core.specs.Steps.{has_block}
use Rattle.session_core.specs.Session.{State, Round, BookAnswer, at_first, listened, stepped}
use Rattle.session_core.specs.Session.{Listens, next_of}
use Rattle.session_core.specs.Session.{Speaks, listen_calls, offer_calls, spoken_state, before_step}
use Rattle.session_core.specs.Session.{before_speak, after_round, after_rounds, IsRound, AreRounds}
use Rattle.session_core.specs.Laws.{waiting, round_blocks, session_blocks, EachBlockOnce}
use Rattle.session_core.specs.Laws.{block_calls, session_block_calls}
use Rattle.session_core.proofs.Staying.{still_step, blocked_step, stays_stalled, stalled_block}

abbrev Blocks : Type 0
Blocks = List (List ℕ)

abbrev pub BlocksJoin : Type 0
BlocksJoin = (a b : List Call) → blocks_in (a ++ b) ≡ blocks_in a ++ blocks_in b

-- what was made and not handed over
record Left (s : Standing) (left : Blocks) : Type 0 where
  few : length left ≤ 1
  waits_so : is_live s.course ≡ true → left ≡ waiting s

-- the same before a step: nothing is left unless the round is blocked, and then a block is there
record Heard_so (s : Standing) (left : Blocks) : Type 0 where
  left_so : Left s left
  free : is_live s.course ≡ true → is_blocked s.arrival ≡ false → left ≡ []
  stuck : is_blocked s.arrival ≡ true → has_block s ≡ true

-- what an offer leaves of that
abbrev kept : Option Offer → Blocks → Blocks
kept (Some Whole) left = []
kept _ left = left

listen_parts : (s : State) (waited : Option Offer) (heard : Option Heard) (left : Blocks)
    → Listens s waited heard → Left s.standing left
    → left ≡ blocks_in (listen_calls s waited heard) ++ kept waited left
listen_parts s waited heard left is l = grind arith

listen_leaves : (s : State) (waited : Option Offer) (heard : Option Heard) (left : Blocks)
    → Listens s waited heard → Left s.standing left
    → Heard_so (listened s waited heard).standing (kept waited left)
listen_leaves s waited heard left is l = grind arith

-- ---- step

-- the blocks that a round made, by how it stood before its step and after it
abbrev step_blocks : Standing → Standing → Blocks
step_blocks t u = if is_live t.course && not (is_blocked t.arrival) then waiting u else []

abbrev step_left : Standing → Standing → Blocks → Blocks
step_left t u left = if is_live t.course && not (is_blocked t.arrival) then waiting u else left

step_parts : (t u : Standing) (left : Blocks) → Heard_so t left
    → left ++ step_blocks t u ≡ step_left t u left
step_parts t u left h = grind (arith, append-nil left)

stuck_stepped : (site : Site) (s : State) (told : Option BookAnswer)
    → is_blocked s.standing.arrival ≡ true → has_block s.standing ≡ true
    → is_live (stepped site s told).standing.course ≡ true
    → (stepped site s told).standing.block ≡ s.standing.block
stuck_stepped site s None stuck has live = refl
stuck_stepped site s (Some told) stuck has live =
    blocked_step site s.standing (next_of s) told.moment (reply_in told.answer) stuck has live

still_stepped : (site : Site) (s : State) (told : Option BookAnswer) → is_live s.standing.course
    ≡ false → is_live (stepped site s told).standing.course ≡ false
still_stepped site s None still = still
still_stepped site s (Some told) still =
    ap is_live (still_step site s.standing (next_of s) told.moment (reply_in told.answer) still)
    ∙ still

left_by : (t u : Standing) (left : Blocks) → Heard_so t left
    → (is_blocked t.arrival ≡ true → has_block t ≡ true → is_live u.course ≡ true
    → u.block ≡ t.block) → (is_live t.course ≡ false → is_live u.course ≡ false)
    → Left u (step_left t u left)
left_by t u left h stuck still = grind arith

step_leaves : (site : Site) (s : State) (told : Option BookAnswer) (left : Blocks)
    → Heard_so s.standing left
    → Left (stepped site s told).standing (step_left s.standing (stepped site s told).standing left)
step_leaves site s told left h =
    left_by s.standing (stepped site s told).standing left h (stuck_stepped site s told)
    (still_stepped site s told)

-- ---- speak

speak_parts : (s : State) (spoke sent : Option Offer) (left : Blocks) → Speaks s spoke sent
    → Left s.standing left → left ≡ blocks_in (offer_calls s.standing spoke) ++ kept spoke left
speak_parts s spoke sent left is l = grind arith

speak_leaves : (s : State) (spoke sent : Option Offer) (left : Blocks) → Speaks s spoke sent
    → Left s.standing left → Left (spoken_state s spoke sent).standing (kept spoke left)
speak_leaves s spoke sent left is l = grind (arith, stays_stalled, stalled_block)

-- ---- rounds

-- what rounds made and handed over, of what was left before
record Hands (s : Standing) (left made handed : Blocks) : Type 0 where
  after : Blocks
  parts : left ++ made ≡ handed ++ after
  so : Left s after

joined : (left made handed later one two three : Blocks) → left ≡ handed ++ one → one ++ made ≡ two
    → two ≡ later ++ three → left ++ made ≡ (handed ++ later) ++ three
joined left made handed later one two three e f g =
    cc (append_assoc handed one made, append_assoc handed later three)

round_hands : BlocksJoin → (site : Site) (s : State) (r : Round) (left : Blocks)
    → IsRound site s r → Left s.standing left
    → Hands (after_round site s r).standing left (round_blocks site s r)
    (blocks_in (block_calls site s r))
round_hands joins site s r left is l =
    let t = before_step s r in
    let u = before_speak site s r in
    let heard = listen_leaves s r.waited r.heard left is.listens l in
    let acted = step_leaves site t r.told (kept r.waited left) heard in
    record {
      after = kept r.spoke (step_left t.standing u.standing (kept r.waited left));
      parts =
          rw joins
          (joined left (round_blocks site s r) _ _ _ _ _
          (listen_parts s r.waited r.heard left is.listens l)
          (step_parts t.standing u.standing (kept r.waited left) heard)
          (speak_parts u r.spoke r.sent _ is.speaks acted));
      so = speak_leaves u r.spoke r.sent _ is.speaks acted;
    }

linked : (left made more handed later mid after : Blocks) → left ++ made ≡ handed ++ mid
    → mid ++ more ≡ later ++ after → left ++ (made ++ more) ≡ (handed ++ later) ++ after
linked left made more handed later mid after e f = cc (
  append_assoc left made more,
  append_assoc handed mid more,
  append_assoc handed later after,
)

rounds_hand : BlocksJoin → (site : Site) (s : State) (rounds : List Round) (left : Blocks)
    → AreRounds site s rounds → Left s.standing left
    → Hands (after_rounds site s rounds).standing left (session_blocks site s rounds)
    (blocks_in (session_block_calls site s rounds))
rounds_hand joins site s [] left h l = record { after = left; parts = append-nil left; so = l }
rounds_hand joins site s (r ∷ rounds) left h l =
    let one = round_hands joins site s r left h.0 l in
    let rest = rounds_hand joins site (after_round site s r) rounds one.after h.1 one.so in
    record {
      after = rest.after;
      parts =
          linked left (round_blocks site s r) _ _ _ one.after rest.after one.parts rest.parts
          ∙ ap (λ (x : Blocks). x ++ rest.after) (sym (joins (block_calls site s r) _));
      so = rest.so;
    }

pub each_block_once : BlocksJoin → EachBlockOnce
each_block_once joins site door draw entered rounds h =
    let all = rounds_hand joins site (at_first door draw entered) rounds [] h
    (record { few = omega arith; waits_so = λ live. refl }) in
    record { left = all.after; few = all.so.few; blocks = all.parts; waits = all.so.waits_so }
