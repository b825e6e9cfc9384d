-- The lines of a script, run one after another.
use Rattle.std.proofs.Common.{◌≡◌, ℕ, zero, suc, ◌+◌, ◌<◌, Bool, true, false, ◌&&◌, List, []}
use Rattle.std.proofs.Common.{◌∷◌, ◌++◌, length, Option, Some, None, Result, Ok, Err, IfOk, refl}
use Rattle.std.proofs.Common.{sym, ap, ◌∙◌, append-nil, arith}
use Rattle.script_store.specs.declared.step_done.StepDone.{StepDone}
use Rattle.script_store.specs.declared.step_done.StepDone.TheVariants.{Fine, Full, WrongState}
use Rattle.station_config.specs.Drafts.{Refusal}
use Rattle.station_config.specs.declared.site.Site.{Site}
use Rattle.station_law.specs.State.{State, start}
use Rattle.script_store.specs.Said.{texts}
use Rattle.station_law.specs.Standing.{Seen, Stands}
use Rattle.script_store.specs.Output.{Wrote}
use Rattle.station_law.specs.Lines.{step_text}
use Rattle.station_law.specs.Runs.{bad_line, text_behind, transcript_from, is_in_order, is_fine}
use Rattle.station_law.specs.Runs.{in_order, all_fine}
use Rattle.command_ends.specs.declared.status.Status.{Status}
use Rattle.command_ends.specs.declared.status.Status.TheVariants as ends
use Rattle.script_head.specs.Lines.{lines_of}
use Rattle.script_head.specs.Head.{empty_lines, site_of, running}
use Rattle.script_commands.specs.Script.{script_of, bad_site_line, script_text, status_by}
use Rattle.script_commands.specs.Script.{status_of}
use Rattle.script_commands.specs.Script.{text_at}
use Rattle.script_head.proofs.FirstLines.{line_in, behind_in, lines_first}
use Rattle.script_store.specs.Steps.{Behind, behind_as, step_on}

abbrev pub text_from : ℕ → State → List ℕ → List ℕ
text_from number state text = transcript_from step_text number state (lines_of text)

-- the status that the lines of a text end with, where no earlier entry was refused as Full, or one
-- was
abbrev pub status_from : Bool → State → List ℕ → Status
status_from fine state text =
    status_by (in_order step_text state (lines_of text))
    (fine && all_fine step_text state (lines_of text))

-- what stands behind a line's own text, and the status, by how the line ended
abbrev pub text_later : StepDone → List ℕ → List ℕ
text_later WrongState rest = []
text_later _ rest = rest

abbrev pub status_later : StepDone → Bool → State → List ℕ → Status
status_later Fine fine next behind = status_from fine next behind
status_later Full fine next behind = status_from false next behind
status_later WrongState fine next behind = ends.BadLine

split_text : (done : StepDone) (number : ℕ) (said rest : List ℕ)
    → said ++ text_behind done number rest
    ≡ (said ++ text_behind done number []) ++ text_later done rest
split_text Fine number said rest = ap (λ front. front ++ rest) (sym (append-nil said))
split_text Full number said rest = ap (λ front. front ++ rest) (sym (append-nil said))
split_text WrongState number said rest = sym (append-nil (said ++ bad_line number))

never : (fine : Bool) → (fine && false) ≡ false
never true = refl
never false = refl

by_end : (done : StepDone) (fine : Bool) (next : State) (behind : List ℕ)
    → status_by (is_in_order done && in_order step_text next (lines_of behind))
    (fine && (is_fine done && all_fine step_text next (lines_of behind)))
    ≡ status_later done fine next behind
by_end Fine fine next behind = refl
by_end Full fine next behind =
    ap (status_by (in_order step_text next (lines_of behind))) (never fine)
by_end WrongState fine next behind = refl

-- a text begins with a line, which ends so, and others stand behind it in the next world
module _ (state next : State) (text line behind : List ℕ) (done : StepDone)
    (some : 0 < length text) (first : line ≡ line_in text) (later : behind ≡ behind_in text)
    (goes : next ≡ (step_text state line).next) (ends : done ≡ (step_text state line).done) where
  pub on_line : (number : ℕ)
      → text_from number state text
      ≡ text_at number (step_text state line)
      ++ text_later done (text_from (number + 1) next behind)
  on_line number =
      rw (goes, ends, first, later, lines_first text some)
      (split_text (step_text state (line_in text)).done number
      (texts (step_text state (line_in text)).said) _)

  pub on_status : (fine : Bool) → status_from fine state text ≡ status_later done fine next behind
  on_status fine =
      rw (goes, ends, first, later, lines_first text some)
      (by_end (step_text state (line_in text)).done fine (step_text state (line_in text)).next
      (behind_in text))

  -- the line was run, and what stands behind its own text is still to be written
  pub line_run : {T : Type 0} (number : ℕ) (start now then : Option (List ℕ)) (f g h : ℕ)
      (whole : List ℕ) (value : T)
      → Behind start now f g whole (text_from number state text)
      → Wrote {T = T} now then g h (text_at number (step_text state line)) (Ok value)
      → Behind start then f h whole (text_later done (text_from (number + 1) next behind))
  line_run number start now then f g h whole value so_far wrote =
      step_on start now then f g h whole (text_at number (step_text state line))
      (text_later done (text_from (number + 1) next behind)) value
      (behind_as start now f g whole (text_from number state text) _ (on_line number) so_far) wrote

-- From a state for which the world stood at first, the lines so far led to one for which it stands:
-- the text of the lines to come is what is still to be written, and the status is theirs.
pub record Goes (first : State) (world : Seen) (start now : Option (List ℕ)) (f g : ℕ)
    (number next_number : ℕ) (text rest : List ℕ) (fine : Bool) : Type 0 where
  pub state : State
  pub stands : Stands world state
  pub behind : Behind start now f g (text_from number first text) (text_from next_number state rest)
  pub ends : status_from true first text ≡ status_from fine state rest

-- so they go on behind a line that isn't a bad one, in a world that stands for the next state
pub goes_on : {T : Type 0} (first state next : State) (world : Seen)
    (start now then : Option (List ℕ)) (f g h first_number number : ℕ)
    (whole text line behind : List ℕ) (so_far fine : Bool) (done : StepDone) (value : T)
    → 0 < length text → line ≡ line_in text → behind ≡ behind_in text
    → next ≡ (step_text state line).next → done ≡ (step_text state line).done
    → ((rest : List ℕ) → text_later done rest ≡ rest)
    → status_later done so_far next behind ≡ status_from fine next behind
    → Behind start now f g (text_from first_number first whole) (text_from number state text)
    → status_from true first whole ≡ status_from so_far state text
    → Wrote {T = T} now then g h (text_at number (step_text state line)) (Ok value)
    → Stands world next
    → Goes first world start then f h first_number (number + 1) whole behind fine
goes_on first state next world start now then f g h first_number number whole text line behind
    so_far fine done value some first_line later goes ends on by so_behind so_ends wrote stands =
    record {
      state = next;
      stands = stands;
      behind = behind_as _ _ _ _ _ _ _ (on (text_from (number + 1) next behind))
          (line_run state next text line behind done some first_line later goes ends number start
          now then f g h (text_from first_number first whole) value so_behind wrote);
      ends = so_ends
          ∙ on_status state next text line behind done some first_line later goes ends so_far ∙ by;
    }

-- what holds of an answer follows from what holds of it for each state
pub if_ok : {T E : Type 0} (result : Result T E) (P Q : T → Type 0) → ((t : T) → P t → Q t)
    → IfOk result P → IfOk result Q
if_ok (Ok t) P Q so is = so t is
if_ok (Err e) P Q so is = tt

-- behind the last line
pub text_end : (number : ℕ) (state : State) (text : List ℕ) → length text ≡ 0
    → text_from number state text ≡ []
text_end number state [] none = refl
text_end number state (octet ∷ text) none = absurd (omega (arith, none))

pub status_end : (fine : Bool) (state : State) (text : List ℕ) → length text ≡ 0
    → status_from fine state text ≡ status_by true fine
status_end true state [] none = refl
status_end false state [] none = refl
status_end fine state (octet ∷ text) none = absurd (omega (arith, none))

-- ---- the lines of the head, which are left empty

pub text_skipped : (count number : ℕ) (state : State) (lines : List (List ℕ))
    → transcript_from step_text number state (empty_lines count ++ lines)
    ≡ transcript_from step_text (count + number) state lines
text_skipped zero number state lines =
    let same : number ≡ 0 + number = omega arith in
    ap (λ n. transcript_from step_text n state lines) same
text_skipped (suc count) number state lines =
    let same : count + (number + 1) ≡ suc count + number = omega arith in
    text_skipped count (number + 1) state lines
    ∙ ap (λ n. transcript_from step_text n state lines) same

pub status_skipped : (count : ℕ) (state : State) (lines : List (List ℕ))
    → status_by (in_order step_text state (empty_lines count ++ lines))
    (all_fine step_text state (empty_lines count ++ lines))
    ≡ status_by (in_order step_text state lines) (all_fine step_text state lines)
status_skipped zero state lines = refl
status_skipped (suc count) state lines = status_skipped count state lines

-- ---- what a script is, by its head

module _ (lines rest : List (List ℕ)) (site : Site) (count : ℕ) (says : site_of lines ≡ Ok site)
    (runs : running lines ≡ Some (empty_lines count ++ rest)) where
  pub runs_text : script_text (script_of lines)
      ≡ transcript_from step_text (count + 1) (start site) rest
  runs_text = rw (says, runs) (text_skipped count 1 (start site) rest)

  pub runs_status : status_of (script_of lines)
      ≡ status_by (in_order step_text (start site) rest)
      (all_fine step_text (start site) rest)
  runs_status = rw (says, runs) (status_skipped count (start site) rest)

module _ (lines : List (List ℕ)) (site : Site) (count : ℕ) (says : site_of lines ≡ Ok site)
    (none : (running lines ≡ None) × (length lines ≡ count)) where
  pub no_end_text : script_text (script_of lines) ≡ bad_line (count + 1)
  no_end_text = rw (says, none.0, none.1) refl

  pub no_end_status : status_of (script_of lines) ≡ ends.BadLine
  no_end_status = rw (says, none.0) refl

module _ (lines : List (List ℕ)) (refusal : Refusal) (says : site_of lines ≡ Err refusal) where
  pub bad_site_text : script_text (script_of lines)
      ≡ bad_site_line refusal.number refusal.cause
  bad_site_text = rw says refl

  pub bad_site_status : status_of (script_of lines) ≡ ends.BadSite
  bad_site_status = rw says refl
