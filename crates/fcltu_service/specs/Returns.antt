-- The returns of a forward service (CCSDS 912.1-B, annex A): what each says, and its octets.
use Rattle.std.specs.Prelude.{ℕ, pos, Option, Some, None, option_map, Result, Ok, Err, List}
use Rattle.ber_core.specs.Tree.{Tree}
use Rattle.ber_core.specs.Spelling.{canonical}
use Rattle.sle_numbers.specs.GetParameterDiagnostic.{number_of as get_number_of}
use Rattle.sle_numbers.specs.ScheduleDiagnostic.{number_of as schedule_number_of}
use Rattle.sle_numbers.specs.declared.get_parameter_diagnostic.GetParameterDiagnostic.{GetParameterDiagnostic}
use Rattle.fcltu_numbers.specs.CltuDeliveryMode.{number_of as mode_number_of}
use Rattle.fcltu_numbers.specs.CltuStartDiagnostic.{number_of as start_number_of}
use Rattle.fcltu_numbers.specs.CltuThrowEventDiagnostic.{number_of as throw_number_of}
use Rattle.fcltu_numbers.specs.CltuTransferDataDiagnostic.{number_of as transfer_number_of}
use Rattle.sle_common.specs.declared.diagnostic.Diagnostic.{Diagnostic}
use Rattle.sle_common.specs.declared.diagnostic.Diagnostic.TheVariants.{Specific}
use Rattle.sle_common.specs.declared.parameter.Parameter.{Parameter}
use Rattle.sle_common.specs.declared.parameter.Parameter.TheVariants.{Mode, Cycle, Timeout}
use Rattle.return_pdu.specs.Getting.{ParameterReturnContent, parameter_return}
use Rattle.return_pdu.specs.Scheduling.{ScheduleReturnContent, schedule_return}
use Rattle.return_pdu.specs.Stopping.{StopReturnContent, stop_return}
use Rattle.return_pdu.specs.Seen.{stop_return_of, schedule_return_of, parameter_return_of}
use Rattle.fcltu_pdu.specs.Start.{StartReturn, start_return_of, start_return_pdu}
use Rattle.fcltu_pdu.specs.Throw.{EventReturn, event_return_of, throw_return_pdu}
use Rattle.fcltu_pdu.specs.Transfer.{TransferReturn, transfer_return_of, transfer_return_pdu}
use Rattle.fcltu_service.specs.declared.answer.CltuAnswer.{CltuAnswer}
use Rattle.fcltu_service.specs.declared.answer.CltuAnswer.TheVariants as answer
use Rattle.fcltu_service.specs.declared.answer.CltuParameter.{CltuParameter}
use Rattle.fcltu_service.specs.declared.answer.CltuParameter.TheVariants.{DeliveryMode}
use Rattle.fcltu_service.specs.declared.answer.CltuParameter.TheVariants.{ReportingCycle}
use Rattle.fcltu_service.specs.declared.answer.CltuParameter.TheVariants.{ReturnTimeout}
use Rattle.fcltu_service.specs.declared.cltu_return.CltuReturn.{CltuReturn}
use Rattle.fcltu_service.specs.declared.cltu_return.CltuReturn.TheVariants as variant

pub data Return : Type 0 where
  start : StartReturn → Return
  stop : StopReturnContent → Return
  transfer : TransferReturn → Return
  throw : EventReturn → Return
  report : ScheduleReturnContent → Return
  get : ParameterReturnContent → Return

abbrev pub return_of : CltuReturn → Return
return_of (variant.Start r) = start (start_return_of r)
return_of (variant.Stop r) = stop (stop_return_of r)
return_of (variant.Transfer r) = transfer (transfer_return_of r)
return_of (variant.Throw r) = throw (event_return_of r)
return_of (variant.Report r) = report (schedule_return_of r)
return_of (variant.Get r) = get (parameter_return_of r)

-- each field is in its range
abbrev pub ReturnFits : Return → Type 0
ReturnFits (start r) = start_return_pdu.Fits r
ReturnFits (stop r) = stop_return.Fits r
ReturnFits (transfer r) = transfer_return_pdu.Fits r
ReturnFits (throw r) = throw_return_pdu.Fits r
ReturnFits (report r) = schedule_return.Fits r
ReturnFits (get r) = parameter_return.Fits r

abbrev pub return_tree : Return → Tree
return_tree (start r) = start_return_pdu.tree r
return_tree (stop r) = stop_return.tree r
return_tree (transfer r) = transfer_return_pdu.tree r
return_tree (throw r) = throw_return_pdu.tree r
return_tree (report r) = schedule_return.tree r
return_tree (get r) = parameter_return.tree r

abbrev pub return_octets : Return → List ℕ
return_octets r = canonical (return_tree r)

-- ---- what an answer is as a return

-- a reason of an operation's own, by its number in the operation's table
abbrev pub refused : {D : Type 0} → (D → ℕ) → D → Diagnostic
refused number why = Specific (pos (number why))

abbrev pub with_diagnostic : {D X : Type 0} → (D → ℕ) → Result X D → Result X Diagnostic
with_diagnostic number (Ok done) = Ok done
with_diagnostic number (Err why) = Err (refused number why)

abbrev pub parameter_told : CltuParameter → Parameter
parameter_told (DeliveryMode mode) = Mode (pos (mode_number_of mode))
parameter_told (ReportingCycle cycle) = Cycle (option_map pos cycle)
parameter_told (ReturnTimeout seconds) = Timeout (pos seconds)

abbrev pub with_parameter : Result CltuParameter GetParameterDiagnostic
    → Result Parameter Diagnostic
with_parameter (Ok parameter) = Ok (parameter_told parameter)
with_parameter (Err why) = Err (refused get_number_of why)

-- the return of an answer, with these credentials and the invocation's number
abbrev pub returned : CltuAnswer → Option (List ℕ) → ℕ → Option Return
returned answer.Nothing credentials invoke = None
returned (answer.Start result) credentials invoke =
    Some (start (record {
      credentials = credentials;
      invoke = invoke;
      result = with_diagnostic start_number_of result;
    }))
returned answer.Stop credentials invoke =
    Some (stop (record { credentials = credentials; invoke = invoke; result = Ok tt }))
returned (answer.Transfer room result) credentials invoke =
    Some (transfer (record {
      credentials = credentials;
      invoke = invoke;
      next = room.next;
      free = pos room.free;
      result = with_diagnostic transfer_number_of result;
    }))
returned (answer.Throw number result) credentials invoke =
    Some (throw (record {
      credentials = credentials;
      invoke = invoke;
      number = number;
      result = with_diagnostic throw_number_of result;
    }))
returned (answer.Report result) credentials invoke =
    Some (report (record {
      credentials = credentials;
      invoke = invoke;
      result = with_diagnostic schedule_number_of result;
    }))
returned (answer.Get result) credentials invoke =
    Some (get (record {
      credentials = credentials;
      invoke = invoke;
      result = with_parameter result;
    }))
