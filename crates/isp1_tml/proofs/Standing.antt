-- What a feeder stands for, as octets come.
use Rattle.std.proofs.Common.{◌≡◌, ℕ, List, [], ◌∷◌, ◌++◌, take, Option, Some, None, subst}
use Rattle.std.proofs.Common.{◌∙◌, append_assoc, arith}
use Rattle.std.specs.List.{AllByRecursion}
use Rattle.std.proofs.lemmas.List.Concat.{flat_map-append}
use Rattle.isp1_tml.specs.declared.tml_fault.TmlFault.{TmlFault}
use Rattle.isp1_tml.specs.Message.{Content, IsMessage}
use Rattle.isp1_tml.specs.Stream.{IsStream}
use Rattle.isp1_tml.specs.Feeding.{Feeding, held_with, room_of, HasFault, GoesOn, StandsFor}
use Rattle.isp1_tml.proofs.Readings.{joined, stream_there}

each-front : (ms ns : List Content) → AllByRecursion IsMessage (ms ++ ns)
    → AllByRecursion IsMessage ms
each-front [] ns h = tt
each-front (m ∷ ms) ns h = (h.0, each-front ms ns h.1)

module _ (old new : Feeding) (piece before : List ℕ) (given : List Content)
    (none : old.fault ≡ None) (h : StandsFor old before given) (place : new.place ≡ old.place) where
  -- a reading of what is held and of what came is a reading of all
  stands_on : {ms : List Content} {r : List ℕ} {g : Option TmlFault}
      → IsStream old.place (held_with old piece) ms r g
      → IsStream 0 (before ++ take (room_of old) piece) (given ++ ms) r g
  stands_on s =
      let stood = subst (λ (o : Option TmlFault). GoesOn old o before given) none h.stream in
      joined 0 given (before ++ take (room_of old) piece) (held_with old piece)
      (each-front given old.messages stood.each)
      (simp (stood.whole, flat_map-append, append_assoc))
      (stream_there s _ (omega (arith, h.place)))

  -- octets came: the feeder goes on, or has refused them
  pub stands_fed : new.fault ≡ None
      → IsStream old.place (held_with old piece) new.messages new.rest None
      → StandsFor new (before ++ take (room_of old) piece) given
  stands_fed fine s = record { place = place ∙ h.place; stream = rw fine (stands_on s) }

  pub stands_refused : (fault : TmlFault) → new.fault ≡ Some fault
      → HasFault old.place (held_with old piece) fault
      → StandsFor new (before ++ take (room_of old) piece) given
  stands_refused fault refused found = record {
    place = place ∙ h.place;
    stream = rw refused (_, (_, stands_on found.1.1));
  }
