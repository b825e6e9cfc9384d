-- A run of the link in memory keeps what came, in its order.
use Rattle.std.proofs.Common.{◌≡◌, ℕ, Bool, true, false, if◌then◌else◌, List, [], ◌∷◌, ◌++◌}
use Rattle.std.proofs.Common.{refl, sym, ap, ◌∙◌, append_assoc, take, drop, arith}
use Rattle.std.specs.List.{flat_map}
use Rattle.std.proofs.lemmas.List.{append-nil, take-append-drop}
use Rattle.std.proofs.lemmas.Grind.{common_steps, flat_map-append}
use Rattle.link_model.specs.Calls.{arrived_at}
use Rattle.link_model.specs.Steering.{Steering, poll_fails, arriving, arrival, next_heard}
use Rattle.link_model.specs.Steering.{left_before, pieces_left}
use Rattle.link_model.specs.declared.call.Heard.TheVariants.{Failed}
use Rattle.link_model.specs.Run.{Step, comes, shuts, breaks, stalls_for, is_polled, is_offered}
use Rattle.link_model.specs.Run.{after_step, after_run, come_in, heard_in, come_in_run}
use Rattle.link_model.specs.Run.{heard_in_run, octets_left}

-- what arrives of a piece is its front
arrival_is : (piece : List ℕ) (n : ℕ) → arrived_at (arrival piece n) ≡ take n piece
arrival_is piece n = grind (arith, common_steps)

-- what is left of a piece stands in front of the others, where there is any of it
left_is : (piece : List ℕ) (pieces : List (List ℕ))
    → flat_map (λ octets. octets) (left_before piece pieces)
    ≡ piece ++ flat_map (λ octets. octets) pieces
left_is [] pieces = refl
left_is (x ∷ xs) pieces = grind (arith, common_steps)

piece_keeps : (piece : List ℕ) (pieces : List (List ℕ)) (n : ℕ)
    → arrived_at (arrival piece n)
    ++ flat_map (λ octets. octets) (left_before (drop n piece) pieces)
    ≡ piece ++ flat_map (λ octets. octets) pieces
piece_keeps piece pieces n =
    let others : List ℕ = flat_map (λ octets. octets) pieces in
    ap (λ front. front ++ flat_map (λ octets. octets) (left_before (drop n piece) pieces))
    (arrival_is piece n)
    ∙ ap (λ rest. take n piece ++ rest) (left_is (drop n piece) pieces)
    ∙ sym (append_assoc (take n piece) (drop n piece) others)
    ∙ ap (λ whole. whole ++ others) (take-append-drop n piece)

heard_keeps : (pieces : List (List ℕ)) (is_shut : Bool) (space : ℕ)
    → arrived_at (next_heard pieces is_shut space)
    ++ flat_map (λ octets. octets) (pieces_left pieces space)
    ≡ flat_map (λ octets. octets) pieces
heard_keeps (piece ∷ pieces) is_shut space = piece_keeps piece pieces (arriving piece space)
heard_keeps [] true space = refl
heard_keeps [] false space = refl

-- whether the poll fails or not
poll_keeps : (fails : Bool) (pieces : List (List ℕ)) (is_shut : Bool) (space : ℕ)
    → arrived_at (if fails then Failed else next_heard pieces is_shut space)
    ++ flat_map (λ octets. octets) (if fails then pieces else pieces_left pieces space)
    ≡ flat_map (λ octets. octets) pieces
poll_keeps true pieces is_shut space = refl
poll_keeps false pieces is_shut space = heard_keeps pieces is_shut space

piece_comes : (pieces : List (List ℕ)) (piece : List ℕ)
    → flat_map (λ octets. octets) (pieces ++ piece ∷ [])
    ≡ flat_map (λ octets. octets) pieces ++ piece
piece_comes pieces piece =
    flat_map-append (λ octets. octets) pieces (piece ∷ [])
    ∙ ap (λ last. flat_map (λ octets. octets) pieces ++ last) (append-nil piece)

piece_kept : (is_shut : Bool) (pieces : List (List ℕ)) (piece : List ℕ)
    → flat_map (λ octets. octets) (if is_shut then pieces else pieces ++ piece ∷ [])
    ≡ flat_map (λ octets. octets) pieces ++ (if is_shut then [] else piece)
piece_kept true pieces piece = sym (append-nil (flat_map (λ octets. octets) pieces))
piece_kept false pieces piece = piece_comes pieces piece

step_keeps : (steering : Steering) (step : Step)
    → heard_in steering step ++ octets_left (after_step steering step)
    ≡ octets_left steering ++ come_in steering step
step_keeps steering (comes piece) = piece_kept steering.is_shut steering.pieces piece
step_keeps steering shuts = sym (append-nil (octets_left steering))
step_keeps steering breaks = sym (append-nil (octets_left steering))
step_keeps steering (stalls_for offers) = sym (append-nil (octets_left steering))
step_keeps steering (is_polled space) =
    poll_keeps (poll_fails steering) steering.pieces steering.is_shut space
    ∙ sym (append-nil (octets_left steering))
step_keeps steering is_offered = sym (append-nil (octets_left steering))

pub run_keeps : (steering : Steering) (steps : List Step)
    → heard_in_run steering steps ++ octets_left (after_run steering steps)
    ≡ octets_left steering ++ come_in_run steering steps
run_keeps steering [] = sym (append-nil (octets_left steering))
run_keeps steering (step ∷ steps) =
    let now : Steering = after_step steering step in
    let last : Steering = after_run now steps in
    append_assoc (heard_in steering step) (heard_in_run now steps) (octets_left last)
    ∙ ap (λ rest. heard_in steering step ++ rest) (run_keeps now steps)
    ∙ sym (append_assoc (heard_in steering step) (octets_left now) (come_in_run now steps))
    ∙ ap (λ front. front ++ come_in_run now steps) (step_keeps steering step)
    ∙ append_assoc (octets_left steering) (come_in steering step) (come_in_run now steps)
