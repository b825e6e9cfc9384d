use Rattle.station_book.proofs.book.Book.answer.Given as goal

abbrev pub ghosts-answer_from : goal.ghosts-answer_from
ghosts-answer_from a = record { name = a.blank.name; parts = a.blank.parts }
