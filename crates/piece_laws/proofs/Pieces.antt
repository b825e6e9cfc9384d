-- Each piece that the lines of a script bring to a connection is octets: an `in` line's is read
-- from digits, and a message that is asked for is spelled from words in their ranges.
use Rattle.std.proofs.Common.{◌≡◌, ℕ, zero, suc, ◌==◌, inl, inr, true, false, if◌then◌else◌, Option}
use Rattle.std.proofs.Common.{Some, None, List, [], ◌∷◌, ◌++◌, refl, subst}
use Rattle.std.specs.List.{AllByRecursion}
use Rattle.bind_pdu.specs.Binding.{bind}
use Rattle.bind_pdu.specs.Unbinding.{unbind}
use Rattle.fcltu_pdu.specs.Start.{start_pdu}
use Rattle.fcltu_pdu.specs.Transfer.{transfer_pdu}
use Rattle.isp1_tml.specs.Message.{spelling}
use Rattle.return_pdu.specs.Starting.{raf_start, rcf_start}
use Rattle.return_pdu.specs.Stopping.{stop}
use Rattle.return_pdu.specs.Scheduling.{schedule}
use Rattle.return_pdu.specs.Getting.{get_parameter}
use Rattle.words.specs.Line as line
use Rattle.words.specs.Parts.{parts}
use Rattle.words.specs.Steps.{◌>>=◌, some_bind, some_is, chosen}
use Rattle.drill_text.specs.Asks.{ask}
use Rattle.drill_text.specs.Reading.{reading, forms}
use Rattle.drill_text.specs.Script.{script_row, Behind, line_of, is_skipped}
use Rattle.drill_text.specs.declared.ask_line.AskLine.{AskLine}
use Rattle.drill_text.specs.declared.ask_line.AskLine.TheVariants.{Context, Bind, Unbind}
use Rattle.drill_text.specs.declared.ask_line.AskLine.TheVariants.{StartRaf, StartRcf, StartCltu}
use Rattle.drill_text.specs.declared.ask_line.AskLine.TheVariants.{Stop, Report, Get, Cltu}
use Rattle.drill_text.specs.declared.script_form.ScriptForm.{ScriptForm}
use Rattle.drill_text.specs.declared.script_form.ScriptForm.TheVariants.{In, Ask, Shut, Break}
use Rattle.drill_text.specs.declared.script_form.ScriptForm.TheVariants.{Stall}
use Rattle.drill_text.specs.declared.script_line.ScriptLine.{ScriptLine}
use Rattle.drill_text.specs.declared.script_line.ScriptLine.TheVariants.{Skip}
use Rattle.session_core.specs.Session.{AreOctets}
use Rattle.station_config.specs.declared.site.Site.{Site}
use Rattle.station_links.specs.Asked.{message_of, bind_asked, unbind_asked, start_asked}
use Rattle.station_links.specs.Asked.{channel_asked, cltu_start_asked, stop_asked, report_asked}
use Rattle.station_links.specs.Asked.{get_asked, cltu_asked}
use Rattle.station_links.specs.Connected.{Connected}
use Rattle.station_links.specs.Run.{Deed, BringsPieces}
use Rattle.station_law.specs.Connections.{Life, life, life_by, at_door, deeds_at, deeds_by}
use Rattle.station_law.specs.Connections.{orders_in, turns_of}
use Rattle.station_law.specs.Doors.{Act, act_of, ordered}
use Rattle.station_law.specs.Lines.{step_read}
use Rattle.station_law.specs.State.{State}
use Rattle.piece_laws.proofs.PiecesSpelled.{bind_formed, unbind_formed, start_formed}
use Rattle.piece_laws.proofs.PiecesSpelled.{channel_start_formed, stop_formed, report_formed}
use Rattle.piece_laws.proofs.PiecesSpelled.{get_formed, cltu_start_formed, cltu_formed}
use Rattle.piece_laws.proofs.PiecesSpelled.{octets_each, context_piece, pdu_piece}

-- ---- what a line brings

abbrev BringsAct : Option Act → Type 0
BringsAct None = Unit {0}
BringsAct (Some a) = AllByRecursion BringsPieces (orders_in a.order)

asked : (a : AskLine) → ask.Fits a → AreOctets (spelling (message_of a))
asked (Context interval factor) fits = context_piece interval factor
asked (Bind name service version id) fits =
    pdu_piece (bind.tree (bind_asked name service version id))
    (bind_formed name service version id fits)
asked Unbind fits = pdu_piece (unbind.tree unbind_asked) unbind_formed
asked (StartRaf first last quality) fits =
    pdu_piece (raf_start.tree (start_asked first last quality))
    (start_formed first last quality)
asked (StartRcf first last g) fits =
    pdu_piece (rcf_start.tree (channel_asked first last g)) (channel_start_formed first last g)
asked (StartCltu first) fits =
    pdu_piece (start_pdu.tree (cltu_start_asked first)) (cltu_start_formed first)
asked Stop fits = pdu_piece (stop.tree stop_asked) stop_formed
asked (Report kind) fits = pdu_piece (schedule.tree (report_asked kind)) (report_formed kind)
asked (Get name) fits = pdu_piece (get_parameter.tree (get_asked name)) (get_formed name)
asked (Cltu id earliest latest radiation_delay wanted octets) fits =
    pdu_piece (transfer_pdu.tree (cltu_asked id earliest latest radiation_delay wanted octets))
    (cltu_formed id earliest latest radiation_delay wanted octets
    (octets_each octets fits.1.1.1.1.1.each))

line_brings : (f : ScriptForm) (p : Behind f) → (script_row f).Fits p
    → BringsAct (act_of (line_of f p))
line_brings In p fits = (fits.1.each, tt)
line_brings Ask p fits = (asked p.1 fits.1, tt)
line_brings Shut p fits = (tt, tt)
line_brings Break p fits = (tt, tt)
line_brings Stall p fits = (tt, tt)
line_brings _ p fits = tt

read_brings : (text : List ℕ) (says : ScriptLine) → reading text ≡ Some says
    → BringsAct (act_of says)
read_brings text says e =
    elim (chosen (is_skipped text) (Some Skip)
    (line.reading forms text >>= λ s. Some (line_of s.0 s.1)) (Some says) e) [
      | inl h ↦ subst (λ says. BringsAct (act_of says)) (some_is Skip says h.1) tt
      | inr h ↦
          let found = some_bind (line.reading forms text) (λ s. Some (line_of s.0 s.1)) says h.1 in
          let s = found.0 in
          let fits = (forms.is_spelled (parts 32 text) s found.1).0 in
          subst (λ says. BringsAct (act_of says)) (some_is (line_of s.0 s.1) says found.2)
          (line_brings s.0 s.1 fits)
    ]

-- ---- what all lines bring

abbrev AllBring : List Deed → Type 0
AllBring deeds = AllByRecursion BringsPieces deeds

both : (a b : List Deed) → AllBring a → AllBring b → AllBring (a ++ b)
both [] b x y = y
both (deed ∷ a) b x y = (x.0, both a b x.1 y)

turns_bring : (site : Site) (c moment n : ℕ) (b : _) (l : Option Connected)
    → AllBring (turns_of site c moment n b l)
turns_bring site c moment zero b l = tt
turns_bring site c moment (suc n) b None = tt
turns_bring site c moment (suc n) b (Some l) = (tt, turns_bring site c moment n _ _)

module _ (c : ℕ) where
  act_brings : (state : State) (l : Connected) (a : Option Act) → BringsAct a
      → AllBring (deeds_by state.doors state.clock c l a)
  act_brings state l None brings = tt
  act_brings state l (Some a) brings =
      let d = state.doors in
      let first = Some (ordered a.order l) in
      elim (a.c == c) as (λ b. AllBring (if b
      then orders_in a.order ++ turns_of d.site c state.clock a.rounds d.book first else [])) [
        | true ↦ both (orders_in a.order) _ brings
            (turns_bring d.site c state.clock a.rounds d.book first)
        | false ↦ tt
      ]

  deeds_bring : (state : State) (l : Connected) (says : Option ScriptLine)
      → ((line : ScriptLine) → says ≡ Some line → BringsAct (act_of line))
      → AllBring (deeds_at state c l says)
  deeds_bring state l None brings = tt
  deeds_bring state l (Some line) brings = act_brings state l (act_of line) (brings line refl)

  life_brings : (state : State) (says : Option ScriptLine) (l : Option Connected) (later : Life)
      → ((line : ScriptLine) → says ≡ Some line → BringsAct (act_of line)) → AllBring later.deeds
      → AllBring (life_by c state says l later).deeds
  life_brings state says None later brings rest = tt
  life_brings state says (Some l) later brings rest =
      both (deeds_at state c l says) later.deeds (deeds_bring state l says brings) rest

  pub lines_bring : (lines : List (List ℕ)) (state : State)
      → AllByRecursion BringsPieces (life reading c state lines).deeds
  lines_bring [] state = tt
  lines_bring (text ∷ lines) state =
      life_brings state (reading text) (at_door state c) _ (read_brings text)
      (lines_bring lines (step_read state (reading text)).next)
