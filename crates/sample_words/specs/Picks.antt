-- The words of what a read gives after a stop.
use Rattle.std.specs.Prelude.{ℕ, List, [], ◌∷◌, codes, refl}
use Rattle.words.specs.Kind.{Kind}
use Rattle.words.specs.Listed.{AreListed, listed}
use Rattle.sample_words.specs.declared.pick.Pick.{Pick}
use Rattle.sample_words.specs.declared.pick.Pick.TheVariants.{Old, New, Torn}

abbrev pub pick_word : Pick → List ℕ
pick_word Old = codes "old"
pick_word New = codes "new"
pick_word Torn = codes "torn"

abbrev pub picks : List Pick
picks = Old ∷ New ∷ Torn ∷ []

pub picks_are_listed : AreListed pick_word picks
picks_are_listed Old = refl
picks_are_listed New = refl
picks_are_listed Torn = refl

abbrev pub pick : Kind Pick
pick = listed pick_word picks picks_are_listed
