-- A delivery over a longer archive.
use Rattle.std.proofs.Common.{◌≡◌, ℕ, ◌≤◌, List, [], ◌∷◌, ◌++◌, length, take, refl, sym, ap, ◌∙◌}
use Rattle.std.proofs.Common.{arith, Some, length-append}
use Rattle.std.proofs.lemmas.List.{take-append-le}
use Rattle.archive_terms.specs.Archive.{Entry, IsArchive}
use Rattle.archive_terms.specs.Delivery.{Terms}
use Rattle.archive_terms.specs.Rounds.{Round, FrontsRise, last_front}
use Rattle.archive_terms.specs.Placed.{Placed, placed_at_start, placed_after_round}
use Rattle.return_core.specs.Course.{Course}
use Rattle.return_core.specs.Standing.{StandsFor, placed_after, said_placed}
use Rattle.station_world.proofs.Lists.{front_to_last}

placed_longer : (t : Terms) (a b : List Entry) (f : ℕ) (rounds : List Round) (p : Placed)
    → FrontsRise f rounds → last_front f rounds ≤ length a
    → placed_after t (a ++ b) rounds p ≡ placed_after t a rounds p
placed_longer t a b f [] p rise within = refl
placed_longer t a b f (r ∷ rounds) p rise within =
    let here : r.front ≤ length a = omega (arith, front_to_last r.front rounds rise.1, within) in
    let same : take r.front (a ++ b) ≡ take r.front a = take-append-le r.front a b here in
    let one : placed_after_round t (a ++ b) r p ≡ placed_after_round t a r p =
    rw same (refl {a = placed_after_round t a r p}) in
    ap (placed_after t (a ++ b) rounds) one
    ∙ placed_longer t a b r.front rounds (placed_after_round t a r p) rise.1 within

pub stands_longer : (c : Course) (t : Terms) (a b : List Entry) (rounds : List Round)
    → StandsFor c t a rounds → last_front t.selection.first rounds ≤ length a
    → IsArchive (a ++ b) → StandsFor c t (a ++ b) rounds
stands_longer c t a b rounds old within archive = record {
  some = old.some;
  archive = archive;
  first = let here : t.selection.first ≤ length a = old.first in
      omega (arith, here, length-append a b);
  rise = old.rise;
  going = old.going;
  run = old.run ∙ ap (λ (p : Placed). Some (record { terms = t; placed = said_placed p }))
      (sym (placed_longer t a b t.selection.first rounds (placed_at_start t) old.rise within));
}
