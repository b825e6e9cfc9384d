use Rattle.isp1_tml.proofs.Parts.{begins_header, begins_message}
use Rattle.isp1_tml.proofs.laws.a_rest_goes_on.Goals as goal

pub returns-clause-header : goal.returns-clause-header
returns-clause-header c = begins_header

pub returns-clause-message : goal.returns-clause-message
returns-clause-message c = begins_message
