-- What stands behind `ask C`: the messages that a peer sends.
use Rattle.std.proofs.Common.{◌≡◌, ℕ, ◌⊎◌, inl, inr, Bool, List, [], ◌∷◌, Option, Some, refl}
use Rattle.std.specs.Prelude.{codes}
use Rattle.cds_time.specs.declared.cds.Cds.{Cds}
use Rattle.sle_common.specs.declared.instance_id.InstancePart.{InstancePart}
use Rattle.sle_common.specs.declared.report_kind.ReportKind.{ReportKind}
use Rattle.words.specs.HexOctets.{hex}
use Rattle.words.specs.Identifiers.{identifier}
use Rattle.words.specs.Last.{last}
use Rattle.words.specs.Listed.{AreListed}
use Rattle.words.specs.Maybe.{one_of, apart_by_count}
use Rattle.words.specs.Names.{name}
use Rattle.words.specs.Number.{number}
use Rattle.words.specs.Row.{Row, nothing, row_as}
use Rattle.words.specs.Steps.{◌>>=◌}
use Rattle.words.specs.Table.{Table, Says, of_forms}
use Rattle.words.specs.Then.{◌▸◌}
use Rattle.words.specs.Times.{when}
use Rattle.drill_text.specs.Kinds.{wanted, report, notice}
use Rattle.drill_text.specs.declared.wanted.Wanted.{Wanted}
use Rattle.drill_text.specs.declared.wanted.Wanted.TheVariants.{OfChannel, OfQuality}
use Rattle.drill_text.specs.declared.ask_form.AskForm.{AskForm}
use Rattle.drill_text.specs.declared.ask_form.AskForm.TheVariants.{Context as ContextForm}
use Rattle.drill_text.specs.declared.ask_form.AskForm.TheVariants.{Bind as BindForm}
use Rattle.drill_text.specs.declared.ask_form.AskForm.TheVariants.{Unbind as UnbindForm}
use Rattle.drill_text.specs.declared.ask_form.AskForm.TheVariants.{Start as StartForm}
use Rattle.drill_text.specs.declared.ask_form.AskForm.TheVariants.{Stop as StopForm}
use Rattle.drill_text.specs.declared.ask_form.AskForm.TheVariants.{Report as ReportForm}
use Rattle.drill_text.specs.declared.ask_form.AskForm.TheVariants.{Get as GetForm, Cltu as CltuForm}
use Rattle.drill_text.specs.declared.ask_line.AskLine.{AskLine}
use Rattle.drill_text.specs.declared.ask_line.AskLine.TheVariants.{Context, Bind, Unbind, StartRaf}
use Rattle.drill_text.specs.declared.ask_line.AskLine.TheVariants.{StartRcf, StartCltu, Stop}
use Rattle.drill_text.specs.declared.ask_line.AskLine.TheVariants.{Report, Get, Cltu}

abbrev pub ask_word : AskForm → List ℕ
ask_word ContextForm = codes "context"
ask_word BindForm = codes "bind"
ask_word UnbindForm = codes "unbind"
ask_word StartForm = codes "start"
ask_word StopForm = codes "stop"
ask_word ReportForm = codes "report"
ask_word GetForm = codes "get"
ask_word CltuForm = codes "cltu"

abbrev pub ask_forms : List AskForm
ask_forms = ContextForm ∷ BindForm ∷ UnbindForm ∷ StartForm ∷ StopForm ∷ ReportForm ∷ GetForm
    ∷ CltuForm ∷ []

pub asks_are_listed : AreListed ask_word ask_forms
asks_are_listed ContextForm = refl
asks_are_listed BindForm = refl
asks_are_listed UnbindForm = refl
asks_are_listed StartForm = refl
asks_are_listed StopForm = refl
asks_are_listed ReportForm = refl
asks_are_listed GetForm = refl
asks_are_listed CltuForm = refl

-- a START of FCLTU has one word, one of RAF or RCF has three
abbrev pub cltu_start : Row ℕ
cltu_start = last (number 0 4294967295)

abbrev pub frames_start : Row (Option Cds × (Option Cds × Wanted))
frames_start = when ▸ when ▸ last wanted

abbrev pub start : Row (ℕ ⊎ (Option Cds × (Option Cds × Wanted)))
start = one_of cltu_start frames_start (apart_by_count cltu_start frames_start refl)

abbrev pub Asked : AskForm → Type 0
Asked ContextForm = ℕ × ℕ
Asked BindForm = List ℕ × (ℕ × (ℕ × List InstancePart))
Asked UnbindForm = Unit {0}
Asked StartForm = ℕ ⊎ (Option Cds × (Option Cds × Wanted))
Asked StopForm = Unit {0}
Asked ReportForm = ReportKind
Asked GetForm = ℕ
Asked CltuForm = ℕ × (Option Cds × (Option Cds × (ℕ × (Bool × List ℕ))))

-- the words of each
abbrev pub ask_row : (f : AskForm) → Row (Asked f)
ask_row ContextForm = number 0 65535 ▸ last (number 0 65535)
ask_row BindForm = name 3 16 ▸ number 0 65535 ▸ number 1 65535 ▸ last identifier
ask_row UnbindForm = nothing
ask_row StartForm = start
ask_row StopForm = nothing
ask_row ReportForm = last report
ask_row GetForm = last (number 0 65535)
ask_row CltuForm = number 0 4294967295 ▸ when ▸ when ▸ number 0 4294967295 ▸ notice ▸ last
    (hex 1 65536)

abbrev pub asks : Table AskForm
asks = record {
  all = ask_forms;
  word = ask_word;
  each = asks_are_listed;
  Behind = Asked;
  row = ask_row;
}

-- what each says
abbrev pub started : Option Cds → Option Cds → Wanted → AskLine
started from to (OfChannel channel) = StartRcf from to channel
started from to (OfQuality quality) = StartRaf from to quality

abbrev pub ask_of : (f : AskForm) → Asked f → AskLine
ask_of ContextForm p = Context p.0 p.1
ask_of BindForm p = Bind p.0 p.1.0 p.1.1.0 p.1.1.1
ask_of UnbindForm p = Unbind
ask_of StartForm (inl first) = StartCltu first
ask_of StartForm (inr p) = started p.0 p.1.0 p.1.1
ask_of StopForm p = Stop
ask_of ReportForm p = Report p
ask_of GetForm p = Get p
ask_of CltuForm p = Cltu p.0 p.1.0 p.1.1.0 p.1.1.1.0 p.1.1.1.1.0 p.1.1.1.1.1

abbrev pub of_ask : AskLine → Says asks
of_ask (Context interval factor) = (ContextForm, (interval, factor))
of_ask (Bind who service version id) = (BindForm, (who, (service, (version, id))))
of_ask Unbind = (UnbindForm, tt)
of_ask (StartRaf from to quality) = (StartForm, inr (from, (to, OfQuality quality)))
of_ask (StartRcf from to channel) = (StartForm, inr (from, (to, OfChannel channel)))
of_ask (StartCltu first) = (StartForm, inl first)
of_ask Stop = (StopForm, tt)
of_ask (Report kind) = (ReportForm, kind)
of_ask (Get which) = (GetForm, which)
of_ask (Cltu id earliest latest delay notify octets) =
    (CltuForm, (id, (earliest, (latest, (delay, (notify, octets))))))

pub ask_there : (a : AskLine) → ask_of (of_ask a).0 (of_ask a).1 ≡ a
ask_there (Context interval factor) = refl
ask_there (Bind who service version id) = refl
ask_there Unbind = refl
ask_there (StartRaf from to quality) = refl
ask_there (StartRcf from to channel) = refl
ask_there (StartCltu first) = refl
ask_there Stop = refl
ask_there (Report kind) = refl
ask_there (Get which) = refl
ask_there (Cltu id earliest latest delay notify octets) = refl

started_back : (from to : Option Cds) (w : Wanted)
    → of_ask (started from to w) ≡ (StartForm, inr (from, (to, w)))
started_back from to (OfChannel channel) = refl
started_back from to (OfQuality quality) = refl

pub ask_back : (f : AskForm) (p : Asked f) → of_ask (ask_of f p) ≡ (f, p)
ask_back ContextForm p = refl
ask_back BindForm p = refl
ask_back UnbindForm p = refl
ask_back StartForm (inl first) = refl
ask_back StartForm (inr p) = started_back p.0 p.1.0 p.1.1
ask_back StopForm p = refl
ask_back ReportForm p = refl
ask_back GetForm p = refl
ask_back CltuForm p = refl

abbrev pub ask : Row AskLine
ask = row_as (of_forms asks) (record {
  to = λ s. ask_of s.0 s.1;
  from = of_ask;
  there = ask_there;
  back = λ s. ask_back s.0 s.1;
})

-- what the words behind a form's word ask
unfoldable pub ask_reading : AskForm → List (List ℕ) → Option AskLine
ask_reading f ws = (ask_row f).read ws >>= λ p. Some (ask_of f p)
