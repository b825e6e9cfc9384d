-- What a return service answers.
use Rattle.std.specs.Prelude.{ℕ, Option, Some, None, Result, Ok, Err, pos}
use Rattle.sle_common.specs.declared.diagnostic.Diagnostic.{Diagnostic}
use Rattle.sle_common.specs.declared.diagnostic.Diagnostic.TheVariants.{Specific}
use Rattle.sle_common.specs.declared.parameter.Parameter.{Parameter}
use Rattle.sle_common.specs.Parameter.{parameter}
use Rattle.sle_common.specs.Answer.{confirmation}
use Rattle.sle_numbers.specs.GetParameterDiagnostic as get_parameter
use Rattle.sle_numbers.specs.declared.get_parameter_diagnostic.GetParameterDiagnostic.TheVariants.{UnknownParameter}
use Rattle.return_pdu.specs.Getting.{parameter_answer}
use Rattle.return_pdu.specs.declared.return_answer.ReturnAnswer.{ReturnAnswer}
use Rattle.return_pdu.specs.declared.return_answer.ReturnAnswer.TheVariants as answer

-- a reason of the operation's own, by its number
abbrev pub specific : {D : Type 0} → (D → ℕ) → D → Diagnostic
specific number why = Specific (pos (number why))

-- that it is done, or why not
abbrev pub confirmed : {X D : Type 0} → (D → ℕ) → Result X D → Result (Unit {0}) Diagnostic
confirmed number (Ok _) = Ok tt
confirmed number (Err why) = Err (specific number why)

-- the parameter, or that the service has none of this name
abbrev pub known : Option Parameter → Result Parameter Diagnostic
known (Some p) = Ok p
known None = Err (specific get_parameter.number_of UnknownParameter)

-- what a return can tell: each number is in its range
abbrev pub AnswerFits : ReturnAnswer → Type 0
AnswerFits (answer.Start done) = confirmation.Fits done
AnswerFits (answer.Report done) = confirmation.Fits done
AnswerFits (answer.Get outcome) = parameter_answer.Fits outcome
AnswerFits _ = Unit {0}

-- a parameter that a return can tell, if there is one
abbrev pub ParameterFits : Option Parameter → Type 0
ParameterFits (Some p) = parameter.Fits p
ParameterFits None = Unit {0}
