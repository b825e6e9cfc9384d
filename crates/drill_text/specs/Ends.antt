-- How a connection ends, in words.
use Rattle.std.proofs.Common.{◌≡◌, ℕ, List, [], ◌∷◌, refl}
use Rattle.std.specs.Prelude.{codes}
use Rattle.words.specs.Last.{last}
use Rattle.words.specs.Listed.{AreListed}
use Rattle.words.specs.Number.{number}
use Rattle.words.specs.Row.{Row, nothing, row_as}
use Rattle.words.specs.Table.{Table, Says, of_forms}
use Rattle.drill_text.specs.declared.end_word.EndWord.{EndWord}
use Rattle.drill_text.specs.declared.end_word.EndWord.TheVariants.{Unbound, Closed, Denied, Range}
use Rattle.drill_text.specs.declared.end_word.EndWord.TheVariants.{Broken, Aborted, PeerAborted}
use Rattle.drill_text.specs.declared.end_word.EndWord.TheVariants.{Fault}

-- the forms, by their first words
pub data End : Type 0 where
  unbound : End
  closed : End
  denied : End
  range : End
  broken : End
  aborted : End
  peer_aborted : End
  fault : End

abbrev pub end_word : End → List ℕ
end_word unbound = codes "unbound"
end_word closed = codes "closed"
end_word denied = codes "denied"
end_word range = codes "range"
end_word broken = codes "broken"
end_word aborted = codes "aborted"
end_word peer_aborted = codes "peer-aborted"
end_word fault = codes "fault"

abbrev pub all_ends : List End
all_ends = unbound ∷ closed ∷ denied ∷ range ∷ broken ∷ aborted ∷ peer_aborted ∷ fault ∷ []

pub ends_are_listed : AreListed end_word all_ends
ends_are_listed unbound = refl
ends_are_listed closed = refl
ends_are_listed denied = refl
ends_are_listed range = refl
ends_are_listed broken = refl
ends_are_listed aborted = refl
ends_are_listed peer_aborted = refl
ends_are_listed fault = refl

-- a number of 8 bits
abbrev pub octet : Row ℕ
octet = last (number 0 255)

abbrev pub Why : End → Type 0
Why unbound = Unit {0}
Why closed = Unit {0}
Why denied = Unit {0}
Why range = Unit {0}
Why broken = ℕ
Why aborted = ℕ
Why peer_aborted = ℕ
Why fault = Unit {0}

abbrev pub why_row : (e : End) → Row (Why e)
why_row unbound = nothing
why_row closed = nothing
why_row denied = nothing
why_row range = nothing
why_row broken = octet
why_row aborted = octet
why_row peer_aborted = octet
why_row fault = nothing

abbrev pub ends : Table End
ends = record {
  all = all_ends;
  word = end_word;
  each = ends_are_listed;
  Behind = Why;
  row = why_row;
}

abbrev pub end_of : (e : End) → Why e → EndWord
end_of unbound why = Unbound
end_of closed why = Closed
end_of denied why = Denied
end_of range why = Range
end_of broken why = Broken why
end_of aborted why = Aborted why
end_of peer_aborted why = PeerAborted why
end_of fault why = Fault

abbrev pub of_end : EndWord → Says ends
of_end Unbound = (unbound, tt)
of_end Closed = (closed, tt)
of_end Denied = (denied, tt)
of_end Range = (range, tt)
of_end (Broken why) = (broken, why)
of_end (Aborted why) = (aborted, why)
of_end (PeerAborted why) = (peer_aborted, why)
of_end Fault = (fault, tt)

pub end_there : (w : EndWord) → end_of (of_end w).0 (of_end w).1 ≡ w
end_there Unbound = refl
end_there Closed = refl
end_there Denied = refl
end_there Range = refl
end_there (Broken why) = refl
end_there (Aborted why) = refl
end_there (PeerAborted why) = refl
end_there Fault = refl

pub end_back : (e : End) (why : Why e) → of_end (end_of e why) ≡ (e, why)
end_back unbound why = refl
end_back closed why = refl
end_back denied why = refl
end_back range why = refl
end_back broken why = refl
end_back aborted why = refl
end_back peer_aborted why = refl
end_back fault why = refl

abbrev pub end : Row EndWord
end = row_as (of_forms ends) (record {
  to = λ s. end_of s.0 s.1;
  from = of_end;
  there = end_there;
  back = λ s. end_back s.0 s.1;
})
