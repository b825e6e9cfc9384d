use Rattle.buffer_message.proofs.item.put_with.Goals as goal

pub encode-requires-clause-room : goal.encode-requires-clause-room
encode-requires-clause-room c = rw c.transfer_item.ensures.content c.requires.room

pub returns : goal.returns
returns c = rw c.transfer_item.ensures.content at c.encode.ensures
