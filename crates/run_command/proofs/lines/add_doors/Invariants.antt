use Rattle.std.proofs.Common.{◌≡◌, ◌+◌, ◌++◌, drop, string_bytes}
use Rattle.run_command.specs.Texts.{doors_text}
use Rattle.run_command.proofs.lines.add_doors.Given as goal

-- what is written, and what the doors that are left say, is the whole
abbrev pub invariant-loop-door : goal.invariant-loop-door
invariant-loop-door l =
    (l.number ≡ l.door-index + 1)
    × (string_bytes l.text ++ doors_text l.number (drop l.door-index l.doors)
    ≡ string_bytes l.initial.text ++ doors_text 1 l.doors)
