-- A site that a script's head says is a valid one, and so has at most one instance of the forward
-- service.
use Rattle.std.proofs.Common.{◌≡◌, ℕ, ◌==◌, Bool, true, false, if◌then◌else◌, List, [], ◌∷◌, ◌++◌}
use Rattle.std.proofs.Common.{Option, Some, None, Result, Ok, Err, refl, ap, ◌∙◌}
use Rattle.station_book.specs.Doors.{HasOneForward}
use Rattle.station_book.specs.Origin.{kinds_of}
use Rattle.station_book.proofs.Sites.{one_forward as site_has_one}
use Rattle.station_config.specs.Drafts.{Refusal, empty, finished, next, onward, told, told_from}
use Rattle.station_config.specs.Validity.{IsSite}
use Rattle.station_config.specs.declared.site.Site.{Site}
use Rattle.station_config.proofs.Valid.{site_is_valid}
use Rattle.script_head.specs.Head.{before_end, is_end, is_site, running, settings, site_of}
use Rattle.script_head.specs.Lines.{lines_of, onto_line}
use Rattle.script_commands.specs.Script.{by_site, script_of, runs}
use Rattle.script_head.proofs.Settings.{told_parts}

-- ---- lines in which no octet ends a line

abbrev NoEnd : List ℕ → Type 0
NoEnd [] = Unit {0}
NoEnd (octet ∷ line) = ((octet == 10) ≡ false) × NoEnd line

abbrev AreWhole : List (List ℕ) → Type 0
AreWhole [] = Unit {0}
AreWhole (line ∷ lines) = NoEnd line × AreWhole lines

onto_whole : (octet : ℕ) (lines : List (List ℕ)) → (octet == 10) ≡ false → AreWhole lines
    → AreWhole (onto_line octet lines)
onto_whole octet [] plain whole = ((plain, tt), tt)
onto_whole octet (line ∷ lines) plain whole = ((plain, whole.0), whole.1)

whole_by : (octet : ℕ) (text : List ℕ) (ends : Bool) → (octet == 10) ≡ ends
    → AreWhole (lines_of text)
    → AreWhole (if ends then [] ∷ lines_of text else onto_line octet (lines_of text))
whole_by octet text true is whole = (tt, whole)
whole_by octet text false is whole = onto_whole octet (lines_of text) is whole

lines_are_whole : (text : List ℕ) → AreWhole (lines_of text)
lines_are_whole [] = tt
lines_are_whole (octet ∷ text) = whole_by octet text (octet == 10) refl (lines_are_whole text)

before_by : (line : List ℕ) (lines : List (List ℕ)) (ends : Bool) → NoEnd line
    → AreWhole (before_end lines) → AreWhole (if ends then [] else line ∷ before_end lines)
before_by line lines true plain whole = tt
before_by line lines false plain whole = (plain, whole)

before_is_whole : (lines : List (List ℕ)) → AreWhole lines → AreWhole (before_end lines)
before_is_whole [] whole = tt
before_is_whole (line ∷ lines) whole =
    before_by line lines (is_end line) whole.0 (before_is_whole lines whole.1)

settings_by : (others : List (List ℕ)) (is : Bool) → AreWhole others
    → AreWhole (if is then before_end others else [])
settings_by others true whole = before_is_whole others whole
settings_by others false whole = tt

settings_are_whole : (lines : List (List ℕ)) → AreWhole lines → AreWhole (settings lines)
settings_are_whole [] whole = tt
settings_are_whole (first ∷ others) whole = settings_by others (is_site first) whole.1

-- ---- they are those of a text

abbrev joined : List (List ℕ) → List ℕ
joined [] = []
joined (line ∷ lines) = line ++ 10 ∷ joined lines

line_first : (line text : List ℕ) → NoEnd line
    → lines_of (line ++ 10 ∷ text) ≡ line ∷ lines_of text
line_first [] text plain = refl
line_first (octet ∷ line) text plain = rw (plain.0, line_first line text plain.1) refl

joined_lines : (lines : List (List ℕ)) → AreWhole lines → lines_of (joined lines) ≡ lines
joined_lines [] whole = refl
joined_lines (line ∷ lines) whole = line_first line (joined lines) whole.0
    ∙ ap (λ others. line ∷ others) (joined_lines lines whole.1)

-- ---- a site that is told with other numbers of lines

renumbered_by : (n m : ℕ) (result : _) (lines : List (List ℕ)) (site : Site)
    → ((draft : _) → finished (told_from (next n) draft lines) ≡ Ok site
    → finished (told_from (next m) draft lines) ≡ Ok site)
    → finished (onward n result (λ draft. told_from (next n) draft lines)) ≡ Ok site
    → finished (onward m result (λ draft. told_from (next m) draft lines)) ≡ Ok site
renumbered_by n m (Err cause) lines site same is = absurd cc
renumbered_by n m (Ok draft) lines site same is = same draft is

renumbered : (lines : List (List ℕ)) (n m : ℕ) (draft : _) (site : Site)
    → finished (told_from n draft lines) ≡ Ok site → finished (told_from m draft lines) ≡ Ok site
renumbered [] n m draft site is = is
renumbered (line ∷ lines) n m draft site is = renumbered_by n m (told draft line) lines site
    (λ draft. renumbered lines (next n) (next m) draft site) is

-- ---- the site

site_runs : (r : Result Site Refusal) (lines : Option (List (List ℕ))) (n : ℕ) (site : Site)
    (later : List (List ℕ)) → by_site r lines n ≡ runs site later → r ≡ Ok site
site_runs (Err refusal) lines n site later is = absurd cc
site_runs (Ok s) None n site later is = absurd cc
site_runs (Ok s) (Some lines) n site later is = cc

told_is_valid : (lines : List (List ℕ)) (site : Site) → AreWhole lines
    → finished (told_from 1 empty lines) ≡ Ok site → IsSite site
told_is_valid lines site whole is = site_is_valid (joined lines) (Ok site)
    (ap finished (told_parts (joined lines)
    ∙ ap (told_from 1 empty) (joined_lines lines whole)) ∙ is)

-- that of each script whose lines run
pub valid_site : (text : List ℕ) (site : Site) (later : List (List ℕ))
    → script_of (lines_of text) ≡ runs site later → IsSite site
valid_site text site later is =
    let lines = settings (lines_of text) in
    let told : site_of (lines_of text) ≡ Ok site =
    site_runs (site_of (lines_of text)) (running (lines_of text)) _ site later is in
    told_is_valid lines site (settings_are_whole (lines_of text) (lines_are_whole text))
    (renumbered lines 2 1 empty site told)

pub one_forward : (text : List ℕ) (site : Site) (later : List (List ℕ))
    → script_of (lines_of text) ≡ runs site later → HasOneForward (kinds_of site.instances)
one_forward text site later is =
    site_has_one site.instances (valid_site text site later is).instances.one_forward
