use Rattle.sample_book.proofs.leaving.told_in_turn.Goals as goal

pub returns : goal.returns
returns c = λ h k e door stood is goes.
    c.notices_are_told_in_turn.ensures c.args.shared.now.book.opening h k e door c.requires.one
    stood.legal is goes
