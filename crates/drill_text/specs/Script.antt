-- The lines of a script, a first word and the row behind it each.
use Rattle.std.proofs.Common.{ℕ, Bool, true, ◌==◌, List, [], ◌∷◌, Option, Some, None, refl}
use Rattle.std.specs.Prelude.{codes}
use Rattle.cds_time.specs.declared.cds.Cds.{Cds}
use Rattle.record_form.specs.declared.entry.Entry.TheVariants.{Frame, LossOfSync, Production, Seal}
use Rattle.fcltu_numbers.specs.declared.cltu_production_status.CltuProductionStatus.{CltuProductionStatus}
use Rattle.fcltu_numbers.specs.declared.uplink_status.UplinkStatus.{UplinkStatus}
use Rattle.sle_numbers.specs.declared.frame_quality.FrameQuality.{FrameQuality}
use Rattle.sle_numbers.specs.declared.lock_status.LockStatus.{LockStatus}
use Rattle.sle_numbers.specs.declared.requested_frame_quality.RequestedFrameQuality.{RequestedFrameQuality}
use Rattle.sle_numbers.specs.declared.return_production_status.ReturnProductionStatus.{ReturnProductionStatus}
use Rattle.words.specs.HexOctets.{hex}
use Rattle.words.specs.Last.{last}
use Rattle.words.specs.Listed.{AreListed}
use Rattle.words.specs.Number.{number}
use Rattle.words.specs.Row.{Row, nothing}
use Rattle.words.specs.Table.{Table, Says}
use Rattle.words.specs.Then.{◌▸◌}
use Rattle.words.specs.Times.{time}
use Rattle.drill_text.specs.Asks.{ask}
use Rattle.drill_text.specs.Kinds.{connection, times, quality, lock, production, requested, pick}
use Rattle.drill_text.specs.Kinds.{fails, forward_production, uplink}
use Rattle.drill_text.specs.declared.ask_line.AskLine.{AskLine}
use Rattle.drill_text.specs.declared.pick.Pick.{Pick}
use Rattle.drill_text.specs.declared.script_form.ScriptForm.{ScriptForm}
use Rattle.drill_text.specs.declared.script_form.ScriptForm.TheVariants.{Frame as FrameForm}
use Rattle.drill_text.specs.declared.script_form.ScriptForm.TheVariants.{Loss as LossForm}
use Rattle.drill_text.specs.declared.script_form.ScriptForm.TheVariants.{Production as ProductionForm}
use Rattle.drill_text.specs.declared.script_form.ScriptForm.TheVariants.{Mark as MarkForm}
use Rattle.drill_text.specs.declared.script_form.ScriptForm.TheVariants.{Start as StartForm}
use Rattle.drill_text.specs.declared.script_form.ScriptForm.TheVariants.{Clock as ClockForm}
use Rattle.drill_text.specs.declared.script_form.ScriptForm.TheVariants.{Open as OpenForm}
use Rattle.drill_text.specs.declared.script_form.ScriptForm.TheVariants.{In as InForm}
use Rattle.drill_text.specs.declared.script_form.ScriptForm.TheVariants.{Ask as AskForm}
use Rattle.drill_text.specs.declared.script_form.ScriptForm.TheVariants.{Shut as ShutForm}
use Rattle.drill_text.specs.declared.script_form.ScriptForm.TheVariants.{Break as BreakForm}
use Rattle.drill_text.specs.declared.script_form.ScriptForm.TheVariants.{Round as RoundForm}
use Rattle.drill_text.specs.declared.script_form.ScriptForm.TheVariants.{Stall as StallForm}
use Rattle.drill_text.specs.declared.script_form.ScriptForm.TheVariants.{Take as TakeForm}
use Rattle.drill_text.specs.declared.script_form.ScriptForm.TheVariants.{Done as DoneForm}
use Rattle.drill_text.specs.declared.script_form.ScriptForm.TheVariants.{Uplink as UplinkForm}
use Rattle.drill_text.specs.declared.script_form.ScriptForm.TheVariants.{Crash as CrashForm}
use Rattle.drill_text.specs.declared.script_form.ScriptForm.TheVariants.{Fault as FaultForm}
use Rattle.drill_text.specs.declared.script_line.ScriptLine.{ScriptLine}
use Rattle.drill_text.specs.declared.script_line.ScriptLine.TheVariants.{Skip, Offer, Desk, Clock}
use Rattle.drill_text.specs.declared.script_line.ScriptLine.TheVariants.{Open, Piece, Ask, Shut}
use Rattle.drill_text.specs.declared.script_line.ScriptLine.TheVariants.{Break, Round, Stall, Take}
use Rattle.drill_text.specs.declared.script_line.ScriptLine.TheVariants.{Done, Uplink, Crash, Fault}

abbrev pub script_word : ScriptForm → List ℕ
script_word FrameForm = codes "frame"
script_word LossForm = codes "loss"
script_word ProductionForm = codes "production"
script_word MarkForm = codes "mark"
script_word StartForm = codes "start"
script_word ClockForm = codes "clock"
script_word OpenForm = codes "open"
script_word InForm = codes "in"
script_word AskForm = codes "ask"
script_word ShutForm = codes "shut"
script_word BreakForm = codes "break"
script_word RoundForm = codes "round"
script_word StallForm = codes "stall"
script_word TakeForm = codes "take"
script_word DoneForm = codes "done"
script_word UplinkForm = codes "uplink"
script_word CrashForm = codes "crash"
script_word FaultForm = codes "fault"

abbrev pub script_forms : List ScriptForm
script_forms =
    FrameForm ∷ LossForm ∷ ProductionForm ∷ MarkForm ∷ StartForm ∷ ClockForm ∷ OpenForm ∷ InForm
    ∷ AskForm ∷ ShutForm ∷ BreakForm ∷ RoundForm ∷ StallForm ∷ TakeForm ∷ DoneForm ∷ UplinkForm
    ∷ CrashForm ∷ FaultForm ∷ []

pub script_is_listed : AreListed script_word script_forms
script_is_listed FrameForm = refl
script_is_listed LossForm = refl
script_is_listed ProductionForm = refl
script_is_listed MarkForm = refl
script_is_listed StartForm = refl
script_is_listed ClockForm = refl
script_is_listed OpenForm = refl
script_is_listed InForm = refl
script_is_listed AskForm = refl
script_is_listed ShutForm = refl
script_is_listed BreakForm = refl
script_is_listed RoundForm = refl
script_is_listed StallForm = refl
script_is_listed TakeForm = refl
script_is_listed DoneForm = refl
script_is_listed UplinkForm = refl
script_is_listed CrashForm = refl
script_is_listed FaultForm = refl

abbrev pub Behind : ScriptForm → Type 0
Behind FrameForm = Cds × (FrameQuality × (List ℕ × (ℕ × List ℕ)))
Behind LossForm = Cds × (LockStatus × (LockStatus × LockStatus))
Behind ProductionForm = ReturnProductionStatus
Behind MarkForm = Cds
Behind StartForm = Cds × (Cds × RequestedFrameQuality)
Behind ClockForm = Cds
Behind OpenForm = ℕ
Behind InForm = ℕ × List ℕ
Behind AskForm = ℕ × AskLine
Behind ShutForm = ℕ
Behind BreakForm = ℕ
Behind RoundForm = ℕ × ℕ
Behind StallForm = ℕ × ℕ
Behind TakeForm = Bool
Behind DoneForm = Unit {0}
Behind UplinkForm = CltuProductionStatus × UplinkStatus
Behind CrashForm = ℕ × Pick
Behind FaultForm = ℕ

-- the words of each
abbrev pub script_row : (f : ScriptForm) → Row (Behind f)
script_row FrameForm = time ▸ quality ▸ hex 1 16 ▸ number 0 16777215 ▸ last (hex 1 4294967295)
script_row LossForm = time ▸ lock ▸ lock ▸ last lock
script_row ProductionForm = last production
script_row MarkForm = last time
script_row StartForm = time ▸ time ▸ last requested
script_row ClockForm = last time
script_row OpenForm = last connection
script_row InForm = connection ▸ last (hex 1 65536)
script_row AskForm = connection ▸ ask
script_row ShutForm = last connection
script_row BreakForm = last connection
script_row RoundForm = connection ▸ last times
script_row StallForm = connection ▸ last times
script_row TakeForm = fails
script_row DoneForm = nothing
script_row UplinkForm = forward_production ▸ last uplink
script_row CrashForm = number 0 1000 ▸ last pick
script_row FaultForm = last times

abbrev pub script : Table ScriptForm
script = record {
  all = script_forms;
  word = script_word;
  each = script_is_listed;
  Behind = Behind;
  row = script_row;
}

-- what each says
abbrev pub line_of : (f : ScriptForm) → Behind f → ScriptLine
line_of FrameForm p = Offer (Frame p.0 p.1.0 p.1.1.0 p.1.1.1.0 p.1.1.1.1)
line_of LossForm p = Offer (LossOfSync p.0 p.1.0 p.1.1.0 p.1.1.1)
line_of ProductionForm p = Offer (Production p)
line_of MarkForm p = Offer (Seal p)
line_of StartForm p = Desk p.0 p.1.0 p.1.1
line_of ClockForm p = Clock p
line_of OpenForm p = Open p
line_of InForm p = Piece p.0 p.1
line_of AskForm p = Ask p.0 p.1
line_of ShutForm p = Shut p
line_of BreakForm p = Break p
line_of RoundForm p = Round p.0 p.1
line_of StallForm p = Stall p.0 p.1
line_of TakeForm p = Take p
line_of DoneForm p = Done
line_of UplinkForm p = Uplink p.0 p.1
line_of CrashForm p = Crash p.0 p.1
line_of FaultForm p = Fault p

-- the form and the words of what a line says, which a line that is skipped hasn't
abbrev pub of_line : ScriptLine → Option (Says script)
of_line Skip = None
of_line (Offer (Frame ert quality antenna lost octets)) =
    Some (FrameForm, (ert, (quality, (antenna, (lost, octets)))))
of_line (Offer (LossOfSync at carrier subcarrier symbol)) =
    Some (LossForm, (at, (carrier, (subcarrier, symbol))))
of_line (Offer (Production status)) = Some (ProductionForm, status)
of_line (Offer (Seal at)) = Some (MarkForm, at)
of_line (Desk start stop quality) = Some (StartForm, (start, (stop, quality)))
of_line (Clock at) = Some (ClockForm, at)
of_line (Open c) = Some (OpenForm, c)
of_line (Piece c octets) = Some (InForm, (c, octets))
of_line (Ask c asked) = Some (AskForm, (c, asked))
of_line (Shut c) = Some (ShutForm, c)
of_line (Break c) = Some (BreakForm, c)
of_line (Round c n) = Some (RoundForm, (c, n))
of_line (Stall c n) = Some (StallForm, (c, n))
of_line (Take fail) = Some (TakeForm, fail)
of_line Done = Some (DoneForm, tt)
of_line (Uplink production status) = Some (UplinkForm, (production, status))
of_line (Crash k left) = Some (CrashForm, (k, left))
of_line (Fault k) = Some (FaultForm, k)

-- a line that says nothing: an empty one, or one that begins with `#`
abbrev pub is_skipped : List ℕ → Bool
is_skipped [] = true
is_skipped (c ∷ line) = c == 35
