-- A START of a return service as a session has it (CCSDS 911.1-B and 911.2-B).
use Rattle.std.specs.Prelude.{ℕ, Option, List}
use Rattle.frame_select.specs.declared.filter.Filter.TheVariants.{Quality, Channel}
use Rattle.return_pdu.specs.Starting.{RafStartContent, RcfStartContent}
use Rattle.return_service.specs.declared.invocation.ReturnStart.{ReturnStart}

-- who sends, its number, and what it asks for
pub record Starting : Type 0 where
  pub credentials : Option (List ℕ)
  pub invoke : ℕ
  pub asks : ReturnStart

abbrev pub of_raf : RafStartContent → Starting
of_raf s = record {
  credentials = s.credentials;
  invoke = s.invoke;
  asks = record { start = s.start; stop = s.stop; filter = Quality s.quality };
}

abbrev pub of_rcf : RcfStartContent → Starting
of_rcf s = record {
  credentials = s.credentials;
  invoke = s.invoke;
  asks = record { start = s.start; stop = s.stop; filter = Channel s.channel };
}
