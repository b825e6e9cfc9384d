-- A START of the desk, which is connection 0. This product's own.
use Rattle.std.specs.Prelude.{ℕ, nat_lt, if◌then◌else◌, List, [], ◌∷◌, map}
use Rattle.cds_time.specs.declared.cds.Cds.{Cds}
use Rattle.archive_terms.specs.Archive.{Entry}
use Rattle.archive_terms.specs.Delivery.{Item}
use Rattle.station_desk.specs.Start.{moment, terms, told_desk}
use Rattle.station_desk.specs.ToldBuffer.{ToldBuffer}
use Rattle.script_store.specs.Store.{Store}
use Rattle.script_store.specs.Said.{told, refused, begun, handed, Said, Handed}
use Rattle.script_store.specs.Answer.{Answer, says}

-- the items of buffers, one after another, without what is told of them
abbrev pub items_of : List ToldBuffer → List (List Item)
items_of buffers = map (λ buffer. map (λ x. x.0) buffer) buffers

abbrev pub said_at_start : List Entry → Cds → Cds → ℕ → List Said
said_at_start entries start stop quality =
    begun 0 (terms start stop quality) ∷ map (handed 0) (told_desk entries start stop quality)

-- what has been handed over then
abbrev pub handed_at_start : List Entry → Cds → Cds → ℕ → Handed
handed_at_start entries start stop quality = record {
  connection = 0;
  terms = terms start stop quality;
  buffers = told_desk entries start stop quality;
}

-- what a START answers: one whose stop time lies before its start time is refused
abbrev pub desk : Store → Cds → Cds → ℕ → Answer Store
desk state start stop quality =
    says (if nat_lt (moment stop) (moment start) then told refused ∷ []
    else said_at_start state.published start stop quality) state
