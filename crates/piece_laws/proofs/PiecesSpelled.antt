-- A message that a script asks for is octets: the canonical spelling of a well-formed tree is, and
-- the trees of the PDUs that are asked are well formed.
use Rattle.std.proofs.Common.{◌≡◌, ℕ, zero, suc, ◌<◌, Bool, true, false, nat_lt, if◌then◌else◌}
use Rattle.std.proofs.Common.{IsTrue, List, [], ◌∷◌, ◌++◌, length, pos, refl, sym, subst, arith}
use Rattle.std.proofs.Common.{Option, Some, None, rules}
use Rattle.std.proofs.lemmas.Bool.{ltb-true}
use Rattle.std.proofs.lemmas.Nat.{mod_below}
use Rattle.std.specs.Int.{w64, to_be_bytes}
use Rattle.std.specs.List.{AllByRecursion}
use Rattle.ber_core.specs.Facts.Twos.{IsKept-integer_octets}
use Rattle.ber_core.specs.Integer.{integer_octets}
use Rattle.ber_core.specs.Length.{IsOctets, long_form, without_zeros, shortest_length}
use Rattle.ber_core.specs.Parts.{length-without_zeros}
use Rattle.ber_core.specs.Spelling.{element, canonical, canonical_all}
use Rattle.ber_core.specs.Tree.{Tree, Trees, primitive, constructed, no_trees, tree_and}
use Rattle.ber_core.specs.Tree.{IsWellFormed, AreWellFormed}
use Rattle.ber_shape.specs.Identifier.{identifier_so}
use Rattle.ber_shape.specs.List.{each_tree}
use Rattle.cds_time.specs.declared.cds.Cds.{Cds}
use Rattle.cds_time.specs.declared.cds.Rest.{Rest}
use Rattle.cds_time.specs.declared.cds.Rest.TheVariants.{Micros, Picos}
use Rattle.sle_numbers.specs.RequestedFrameQuality.{number_of}
use Rattle.sle_numbers.specs.declared.requested_frame_quality.RequestedFrameQuality.{RequestedFrameQuality}
use Rattle.sle_common.specs.Gvcid.{channel}
use Rattle.sle_common.specs.Report.{report_kind}
use Rattle.sle_common.specs.Time.{time, conditional_time}
use Rattle.sle_common.specs.Attribute.{arc_of}
use Rattle.sle_common.specs.Identifier.{is_value, is_value_octet}
use Rattle.sle_common.specs.IdentifierOctets.{attribute_octets, part, parts_trees}
use Rattle.sle_common.specs.declared.attribute.Attribute.{Attribute}
use Rattle.sle_common.specs.declared.attribute.Attribute.TheVariants.{Sagr, Spack, RslFg, FslFg}
use Rattle.sle_common.specs.declared.attribute.Attribute.TheVariants.{Raf, Rcf, Rocf, Cltu}
use Rattle.sle_common.specs.declared.gvcid.Channel.{Channel}
use Rattle.sle_common.specs.declared.gvcid.Channel.TheVariants.{Master, Virtual}
use Rattle.sle_common.specs.declared.gvcid.Gvcid.{Gvcid}
use Rattle.sle_common.specs.declared.instance_id.InstancePart.{InstancePart}
use Rattle.sle_common.specs.declared.report_kind.ReportKind.{ReportKind}
use Rattle.sle_common.specs.declared.report_kind.ReportKind.TheVariants.{Now, Cycle, Stop}
use Rattle.bind_pdu.specs.Binding.{bind}
use Rattle.bind_pdu.specs.Unbinding.{unbind}
use Rattle.return_pdu.specs.Starting.{raf_start, rcf_start}
use Rattle.return_pdu.specs.Stopping.{stop}
use Rattle.return_pdu.specs.Scheduling.{schedule}
use Rattle.return_pdu.specs.Getting.{get_parameter}
use Rattle.fcltu_pdu.specs.Start.{start_pdu}
use Rattle.fcltu_pdu.specs.Transfer.{of_wanted, transfer_pdu}
use Rattle.isp1_tml.specs.Message.{header, spelling, pdu, context}
use Rattle.session_core.specs.Session.{AreOctets}
use Rattle.words.specs.Alphabet.{Of}
use Rattle.words.specs.Identifiers.{fits_identifier, value_octets}
use Rattle.words.specs.Names.{is_graphic, name_octets}
use Rattle.drill_text.specs.Asks.{ask}
use Rattle.drill_text.specs.declared.ask_line.AskLine.TheVariants.{Bind}
use Rattle.station_links.specs.Asked.{port, bind_asked, unbind_asked, start_asked, channel_asked}
use Rattle.station_links.specs.Asked.{cltu_start_asked, stop_asked, report_asked, get_asked}
use Rattle.station_links.specs.Asked.{cltu_asked}

-- ---- lists of octets

joined : (a b : List ℕ) → IsOctets a → IsOctets b → IsOctets (a ++ b)
joined [] b x y = y
joined (octet ∷ a) b x y = (x.0, joined a b x.1 y)

each_octet : (octets : List ℕ) → IsOctets octets → AreOctets octets
each_octet [] all i = omega arith
each_octet (octet ∷ octets) all zero = all.0
each_octet (octet ∷ octets) all (suc i) = each_octet octets all.1 i

-- characters of an alphabet of octets
module _ (test : ℕ → Bool) (small : (c : ℕ) → test c ≡ true → c < 256) where
  characters : (w : List ℕ) → Of test w → IsOctets w
  characters [] of = tt
  characters (c ∷ w) of = (small c of.0, characters w of.1)

-- ---- the canonical spelling of a well-formed tree

significant : (octets : List ℕ) → IsOctets octets → IsOctets (without_zeros octets)
significant [] all = tt
significant (zero ∷ octets) all = significant octets all.1
significant (suc n ∷ octets) all = all

size_octets : (n : ℕ) → IsOctets (shortest_length n)
unfolding shortest_length
size_octets n =
    elim (nat_lt n 128) as (λ b. nat_lt n 128 ≡ b
    → IsOctets (if b then n ∷ [] else long_form (without_zeros (to_be_bytes w64 n)))) [
      | true ↦ λ e. (omega (arith, ltb-true n 128 e), tt)
      | false ↦ λ e. (
        omega (arith, length-without_zeros (to_be_bytes w64 n)),
        significant (to_be_bytes w64 n) (search (rules, mod_below)),
      )
    ] refl

element_octets : (tag content : List ℕ) → IsOctets tag → IsOctets content
    → IsOctets (element tag content)
unfolding element
element_octets tag content tags contents =
    let size = shortest_length (length content) in
    joined tag (size ++ content) tags
    (joined size content (size_octets (length content)) contents)

mutual
  unfolding canonical

  tree_octets : (t : Tree) → IsWellFormed t → IsOctets (canonical t)
  tree_octets (primitive tag content) is = element_octets tag content is.0.octets_all is.1
  tree_octets (constructed tag members) is =
      element_octets tag (canonical_all members) is.0.octets_all (trees_octets members is.1)

  trees_octets : (ts : Trees) → AreWellFormed ts → IsOctets (canonical_all ts)
  trees_octets no_trees are = tt
  trees_octets (tree_and t ts) are =
      joined (canonical t) (canonical_all ts) (tree_octets t are.0) (trees_octets ts are.1)

-- ---- the trees of what is asked

no_credentials : IsWellFormed (primitive (0x80 ∷ []) [])
no_credentials = (identifier_so false (0x80 ∷ []) refl, tt)

number_octets : (n : ℕ) → IsOctets (integer_octets (pos n))
number_octets n = (IsKept-integer_octets (pos n)).octets_all

number_formed : (n : ℕ) → IsWellFormed (primitive (0x02 ∷ []) (integer_octets (pos n)))
number_formed n = (identifier_so false (0x02 ∷ []) refl, number_octets n)

text_formed : (w : List ℕ) → IsOctets w → IsWellFormed (primitive (0x1a ∷ []) w)
text_formed w all = (identifier_so false (0x1a ∷ []) refl, all)

arc_small : (attribute : Attribute) → arc_of attribute < 256
arc_small Sagr = omega arith
arc_small Spack = omega arith
arc_small RslFg = omega arith
arc_small FslFg = omega arith
arc_small Raf = omega arith
arc_small Rcf = omega arith
arc_small Rocf = omega arith
arc_small Cltu = omega arith

attribute_small : (attribute : Attribute) → IsOctets (attribute_octets attribute)
attribute_small attribute =
    joined (0x2b ∷ 0x70 ∷ 0x04 ∷ 0x03 ∷ 0x01 ∷ 0x02 ∷ []) (arc_of attribute ∷ [])
    (search rules) (arc_small attribute, tt)

value_small : (c : ℕ) → is_value_octet c ≡ true → c < 256
value_small c is = grind arith

graphic_small : (c : ℕ) → is_graphic c ≡ true → c < 256
graphic_small c is = grind arith

part_formed : (p : InstancePart) → IsTrue (is_value p.value) → IsWellFormed (part.tree p)
part_formed p is = (
  identifier_so true (0x31 ∷ []) refl,
  (
    (
      identifier_so true (0x30 ∷ []) refl,
      (
        (
          identifier_so false (0x06 ∷ []) refl,
          attribute_small p.attribute,
        ),
        (
          text_formed p.value (characters is_value_octet value_small p.value
              (value_octets p.value is)),
          tt,
        ),
      ),
    ),
    tt,
  ),
)

parts_formed : (id : List InstancePart) → AllByRecursion (λ p. IsTrue (is_value p.value)) id
    → AreWellFormed (each_tree part.tree id)
parts_formed [] values = tt
parts_formed (p ∷ id) values = (part_formed p values.0, parts_formed id values.1)

pub bind_formed : (name : List ℕ) (service version : ℕ) (id : List InstancePart)
    → ask.Fits (Bind name service version id)
    → IsWellFormed (bind.tree (bind_asked name service version id))
bind_formed name service version id fits =
    let is = fits_identifier id fits.1.1.1 in (
      identifier_so true (0xbf ∷ 0x64 ∷ []) refl,
      (
        no_credentials,
        (
          text_formed name (characters is_graphic graphic_small name
              (name_octets 3 16 name fits.0)),
          (
            text_formed port (search rules),
            (
              number_formed service,
              (
                number_formed version,
                (
                  (
                    identifier_so true (0x30 ∷ []) refl,
                    subst AreWellFormed (sym (parts_trees id is)) (parts_formed id is.values),
                  ),
                  tt,
                ),
              ),
            ),
          ),
        ),
      ),
    )

pub unbind_formed : IsWellFormed (unbind.tree unbind_asked)
unbind_formed =
    (identifier_so true (0xbf ∷ 0x66 ∷ []) refl, (no_credentials, (number_formed 0, tt)))

time_formed : (days millis : ℕ) (rest : Rest)
    → IsWellFormed (time.tree (record { days = days; millis = millis; rest = rest }))
time_formed days millis (Micros n) =
    (identifier_so false (0x80 ∷ []) refl, search (rules, mod_below))
time_formed days millis (Picos n) =
    (identifier_so false (0x81 ∷ []) refl, search (rules, mod_below))

when_formed : (t : Option Cds) → IsWellFormed (conditional_time.tree t)
when_formed None = no_credentials
when_formed (Some t) =
    (identifier_so true (0xa1 ∷ []) refl, (time_formed t.days t.millis t.rest, tt))

pub start_formed : (first last : Option Cds) (quality : RequestedFrameQuality)
    → IsWellFormed (raf_start.tree (start_asked first last quality))
start_formed first last quality = (
  identifier_so true (0xa0 ∷ []) refl,
  (
    no_credentials,
    (
      number_formed 0,
      (when_formed first, (when_formed last, (number_formed (number_of quality), tt))),
    ),
  ),
)

channel_formed : (c : Channel) → IsWellFormed (channel.tree c)
channel_formed Master = (identifier_so false (0x80 ∷ []) refl, tt)
channel_formed (Virtual n) = (identifier_so false (0x81 ∷ []) refl, number_octets n)

pub channel_start_formed : (first last : Option Cds) (g : Gvcid)
    → IsWellFormed (rcf_start.tree (channel_asked first last g))
channel_start_formed first last g = (
  identifier_so true (0xa0 ∷ []) refl,
  (
    no_credentials,
    (
      number_formed 0,
      (
        when_formed first,
        (
          when_formed last,
          (
            (
              identifier_so true (0x30 ∷ []) refl,
              (
                number_formed g.spacecraft,
                (number_formed g.version, (channel_formed g.channel, tt)),
              ),
            ),
            tt,
          ),
        ),
      ),
    ),
  ),
)

pub stop_formed : IsWellFormed (stop.tree stop_asked)
stop_formed = (identifier_so true (0xa2 ∷ []) refl, (no_credentials, (number_formed 0, tt)))

kind_formed : (kind : ReportKind) → IsWellFormed (report_kind.tree kind)
kind_formed Now = (identifier_so false (0x80 ∷ []) refl, tt)
kind_formed (Cycle n) = (identifier_so false (0x81 ∷ []) refl, number_octets n)
kind_formed Stop = (identifier_so false (0x82 ∷ []) refl, tt)

pub report_formed : (kind : ReportKind) → IsWellFormed (schedule.tree (report_asked kind))
report_formed kind = (
  identifier_so true (0xa4 ∷ []) refl,
  (no_credentials, (number_formed 0, (kind_formed kind, tt))),
)

pub get_formed : (name : ℕ) → IsWellFormed (get_parameter.tree (get_asked name))
get_formed name = (
  identifier_so true (0xa6 ∷ []) refl,
  (no_credentials, (number_formed 0, (number_formed name, tt))),
)

pub cltu_start_formed : (first : ℕ) → IsWellFormed (start_pdu.tree (cltu_start_asked first))
cltu_start_formed first = (
  identifier_so true (0xa0 ∷ []) refl,
  (no_credentials, (number_formed 0, (number_formed first, tt))),
)

pub cltu_formed : (id : ℕ) (earliest latest : Option Cds) (radiation_delay : ℕ) (wanted : Bool)
    (octets : List ℕ) → IsOctets octets
    → IsWellFormed
    (transfer_pdu.tree (cltu_asked id earliest latest radiation_delay wanted octets))
cltu_formed id earliest latest radiation_delay wanted octets are = (
  identifier_so true (0xaa ∷ []) refl,
  (
    no_credentials,
    (
      number_formed 0,
      (
        number_formed id,
        (
          when_formed earliest,
          (
            when_formed latest,
            (
              number_formed radiation_delay,
              (
                number_formed (of_wanted wanted),
                ((identifier_so false (0x04 ∷ []) refl, are), tt),
              ),
            ),
          ),
        ),
      ),
    ),
  ),
)

-- octets that are told one by one are octets
pub octets_each : (octets : List ℕ) → AreOctets octets → IsOctets octets
octets_each [] all = tt
octets_each (octet ∷ octets) all = (all 0, octets_each octets (λ i. all (suc i)))

-- ---- messages of the transport

pub context_piece : (interval factor : ℕ) → AreOctets (spelling (context interval factor))
context_piece interval factor =
    each_octet (spelling (context interval factor)) (search (rules, mod_below))

pub pdu_piece : (t : Tree) → IsWellFormed t → AreOctets (spelling (pdu (canonical t)))
pdu_piece t is =
    let head = header 1 (length (canonical t)) in
    each_octet (head ++ canonical t)
    (joined head (canonical t) (search (rules, mod_below)) (tree_octets t is))
