-- What octets that stand in a message's place are refused for (this product's own table): the rows
-- are tried in the order of the octets, and a length once its fourth octet came.
use Rattle.std.specs.Prelude.{ℕ, ◌+◌, ◌-◌, ◌^◌, List, [], ◌∷◌, drop, min, Bool, not, Option, Some}
use Rattle.std.specs.Prelude.{None, ◌==◌, nat_le, if◌then◌else◌, slice_index}
use Rattle.std.specs.Option.{option_or, option_map}
use Rattle.std.specs.List.{position_from, zip}
use Rattle.std.specs.Int.{w32, from_be_bytes, is_in_range}
use Rattle.isp1_tml.specs.declared.tml_fault.TmlFault.{TmlFault}
use Rattle.isp1_tml.specs.declared.tml_fault.TmlFault.TheVariants.{BadType, NotZero, BadLength}
use Rattle.isp1_tml.specs.declared.tml_fault.TmlFault.TheVariants.{TooLong, BadContext}
use Rattle.isp1_tml.specs.declared.message.TheConstants.{CONTEXT_BODY, LONGEST_PDU}
use Rattle.isp1_tml.specs.Message.{protocol}

-- a place, which stands still at the greatest number of 64 bits
abbrev pub capped : ℕ → ℕ
capped place = min place (2 ^ 64 - 1)

-- where octets that came first differ from those that are wanted
abbrev pub first_difference : List ℕ → List ℕ → Option ℕ
first_difference octets wanted = position_from (λ p. not (p.0 == p.1)) 0 (zip octets wanted)

abbrev pub kind_of : List ℕ → ℕ
kind_of octets = slice_index octets 0

-- the length of the body, once the eight octets of the header came
abbrev pub declared_length : List ℕ → Option ℕ
declared_length (k ∷ x ∷ y ∷ z ∷ a ∷ b ∷ c ∷ d ∷ body) =
    Some (from_be_bytes w32 (a ∷ b ∷ c ∷ d ∷ []))
declared_length octets = None

-- the kind is 1, 2 or 3
abbrev pub bad_type : ℕ → List ℕ → Option TmlFault
bad_type place [] = None
bad_type place (kind ∷ octets) = if is_in_range 1 3 kind then None
    else Some (BadType (capped place))

-- the three octets after it are zero
abbrev pub not_zero : ℕ → List ℕ → Option TmlFault
not_zero place octets = option_map (λ i. NotZero (capped (place + 1 + i)))
    (first_difference (drop 1 octets) (0 ∷ 0 ∷ 0 ∷ []))

-- a PDU is no longer than the longest, a context has the octets of its body, a heartbeat none
abbrev pub is_allowed : ℕ → ℕ → Bool
is_allowed kind size = if kind == 1 then nat_le size LONGEST_PDU
    else if kind == 2 then size == CONTEXT_BODY else size == 0

abbrev pub wrong_size : ℕ → ℕ → Option ℕ → Option TmlFault
wrong_size place kind None = None
wrong_size place kind (Some size) =
    if is_allowed kind size then None else if kind == 1 then Some (TooLong size)
    else Some (BadLength (capped (place + 4)))

abbrev pub bad_length : ℕ → List ℕ → Option TmlFault
bad_length place octets = wrong_size place (kind_of octets) (declared_length octets)

-- a context's body begins with the protocol's name and version
abbrev pub bad_context : ℕ → List ℕ → Option TmlFault
bad_context place octets =
    if kind_of octets == 2 then option_map (λ i. BadContext (capped (place + 8 + i)))
    (first_difference (drop 8 octets) protocol) else None

-- the first fault of octets in a message's place, with this many octets before it
abbrev pub fault_of : ℕ → List ℕ → Option TmlFault
fault_of place octets =
    option_or (bad_type place octets) (option_or (not_zero place octets)
    (option_or (bad_length place octets) (bad_context place octets)))
