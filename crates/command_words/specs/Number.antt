-- The number of a rehearsal's frames, as a word of the command line says it.
use Rattle.std.specs.Prelude.{ℕ, ◌+◌, ◌-◌, ◌*◌, ◌&&◌, nat_le, if◌then◌else◌, Option, Some, None}
use Rattle.std.specs.Prelude.{List, [], ◌∷◌}
use Rattle.std.specs.Char.{is_ascii_digit}

-- a number of decimal digits with one digit more
abbrev pub with_digit : ℕ → ℕ → ℕ
with_digit so_far digit = so_far * 10 + (digit - 48)

-- the number that digits behind some others make, where it isn't above 20,000
abbrev pub behind : ℕ → List ℕ → Option ℕ
behind so_far [] = Some so_far
behind so_far (c ∷ cs) =
    if is_ascii_digit c && nat_le (with_digit so_far c) 20000 then behind (with_digit so_far c) cs
    else None

-- decimal digits without a leading zero
abbrev pub frames_of : List ℕ → Option ℕ
frames_of [] = None
frames_of (c ∷ cs) = if nat_le 49 c && nat_le c 57 then behind (c - 48) cs else None
