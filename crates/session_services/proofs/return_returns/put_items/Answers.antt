use Rattle.session_services.proofs.Whole.{whole_buffer}
use Rattle.session_services.proofs.return_returns.put_items.Goals as goal

pub put-requires : goal.put-requires
put-requires c =
    whole_buffer c.signed.result _ _ _ _ c.signed.ensures.octets c.signed.ensures.read

pub put-requires-in-None : goal.put-requires-in-None
put-requires-in-None c =
    whole_buffer c.unsigned.result _ _ _ _ c.unsigned.ensures.octets c.unsigned.ensures.read
