-- The lines: `frame TIME Q HEX`, `mark TIME`, `crash K PICK`.
use Rattle.std.specs.Prelude.{◌≡◌, ℕ, ◌⊎◌, List, codes, refl}
use Rattle.std.proofs.Common.{inl, inr}
use Rattle.cds_time.specs.declared.cds.Cds.{Cds}
use Rattle.sle_numbers.specs.FrameQuality as frame_quality
use Rattle.sle_numbers.specs.declared.frame_quality.FrameQuality.{FrameQuality}
use Rattle.words.specs.Choice.{Choice, no_line, line, choice_as}
use Rattle.words.specs.HexOctets.{hex}
use Rattle.words.specs.Kind.{Kind}
use Rattle.words.specs.Last.{last}
use Rattle.words.specs.Lines.{AreExact, exact}
use Rattle.words.specs.Number.{number}
use Rattle.words.specs.Numbers.{numbered}
use Rattle.words.specs.Row.{Row}
use Rattle.words.specs.Then.{◌▸◌}
use Rattle.words.specs.Times.{time}
use Rattle.sample_words.specs.Picks.{pick}
use Rattle.sample_words.specs.declared.pick.Pick.{Pick}
use Rattle.sample_words.specs.declared.script_line.ScriptLine.{ScriptLine}
use Rattle.sample_words.specs.declared.script_line.ScriptLine.TheVariants.{Frame, Mark, Crash}

abbrev pub quality : Kind FrameQuality
quality = numbered frame_quality.number_of frame_quality.all frame_quality.each

abbrev pub frame_row : Row (Cds × (FrameQuality × List ℕ))
frame_row = time ▸ quality ▸ last (hex 1 65536)

abbrev pub crash_row : Row (ℕ × Pick)
crash_row = number 0 1000 ▸ last pick

-- what stands behind the first words
abbrev pub Parts : Type 0
Parts = (Cds × (FrameQuality × List ℕ)) ⊎ (Cds ⊎ ((ℕ × Pick) ⊎ ⊥))

abbrev pub line_of : Parts → ScriptLine
line_of (inl p) = Frame p.0 p.1.0 p.1.1
line_of (inr (inl at)) = Mark at
line_of (inr (inr (inl p))) = Crash p.0 p.1
line_of (inr (inr (inr x))) = absurd x

abbrev pub parts_of : ScriptLine → Parts
parts_of (Frame ert quality octets) = inl (ert, (quality, octets))
parts_of (Mark at) = inr (inl at)
parts_of (Crash after one) = inr (inr (inl (after, one)))

pub line_there : (l : ScriptLine) → line_of (parts_of l) ≡ l
line_there (Frame ert quality octets) = refl
line_there (Mark at) = refl
line_there (Crash after one) = refl

pub parts_back : (p : Parts) → parts_of (line_of p) ≡ p
parts_back (inl p) = refl
parts_back (inr (inl at)) = refl
parts_back (inr (inr (inl p))) = refl
parts_back (inr (inr (inr x))) = absurd x

abbrev pub script : Choice ScriptLine
script = choice_as
    (line (codes "frame") frame_row (line (codes "mark") (last time)
    (line (codes "crash") crash_row no_line refl) refl) refl)
    (record { to = line_of; from = parts_of; there = line_there; back = parts_back })

pub script_is_exact : AreExact script
script_is_exact = exact script refl refl
