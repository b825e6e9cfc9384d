use Rattle.station_book.proofs.Radiating.{run_of_history}
use Rattle.station_book.proofs.laws.lawful_radiation.Goals as goal

pub returns : goal.returns
returns c = λ s h k e first legal is one. run_of_history c.lawful_radiation.ensures s h e k first
    legal is one
