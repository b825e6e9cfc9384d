-- What a block and a message of a service hold is whole messages.
use Rattle.std.specs.List.{AllByRecursion}
use Rattle.std.proofs.Common.{◌≡◌, ℕ, ◌≤◌, Option, None, List, [], ◌∷◌, ◌++◌, length, refl, sym}
use Rattle.std.proofs.Common.{append_assoc, ap, subst, ◌∙◌, ◌+◌, arith}
use Rattle.std.proofs.lemmas.List.{append-nil, length-append}
use Rattle.isp1_tml.specs.declared.tml_fault.TmlFault.{TmlFault}
use Rattle.isp1_tml.specs.Message.{Content, pdu, context, heartbeat, IsMessage, header, spelling}
use Rattle.isp1_tml.specs.Message.{spellings}
use Rattle.isp1_tml.specs.Stream.{IsStream}
use Rattle.archive_terms.specs.Placed.{ToldItem}
use Rattle.return_pdu.specs.declared.return_kind.ReturnKind.{ReturnKind}
use Rattle.buffer_message.specs.Signing.{Signing}
use Rattle.buffer_message.specs.Message.{buffer_message, message_octets, IsRead}
use Rattle.session_services.specs.Room.{HasOne}
use Rattle.session_services.specs.Whole.{AreWhole, IsSmall, AreSmall, small_both}

pub whole_one : (message : Content) → IsMessage message → AreWhole (spelling message)
whole_one message fits = record {
  messages = message ∷ [];
  each = (fits, tt);
  spelled = sym (append-nil (spelling message));
}

small_one : (message : Content) → IsMessage message → HasOne (spelling message)
    → AreSmall (spelling message)
small_one message fits few = record {
  messages = message ∷ [];
  each = (fits, tt);
  small = (few, tt);
  spelled = sym (append-nil (spelling message));
}

eight : (n : ℕ) → length (header 1 n) ≡ 8
eight n = refl

beat_eight : length (spelling heartbeat) ≡ 8
beat_eight = refl

context_twenty : (interval factor : ℕ) → length (spelling (context interval factor)) ≡ 20
context_twenty interval factor = refl

few_spelled : (body : List ℕ) → length body ≤ 1024 → HasOne (spelling (pdu body))
few_spelled body few =
    let all : length (header 1 (length body) ++ body) ≤ 1032 =
    omega (arith, few, length-append (header 1 (length body)) body, eight (length body)) in all

-- a return behind what is there
small_more : (old body : List ℕ) → AreSmall old → length body ≤ 1024
    → AreSmall (old ++ spelling (pdu body))
small_more old body h few =
    small_both old (spelling (pdu body)) h
    (small_one (pdu body) (omega (arith, few)) (few_spelled body few))

-- the same by parts, as a writer gets them: a head, and then the body
pub added_small : (old head mid body new : List ℕ) (size : ℕ) → AreSmall old → mid ≡ old ++ head
    → head ≡ header 1 size → size ≡ length body → new ≡ mid ++ body → length body ≤ 1024
    → AreSmall new
added_small old head mid body new size h mid_is head_is size_is new_is few =
    let all : new ≡ old ++ spelling (pdu body) =
    new_is
    ∙ ap (λ (x : List ℕ). x ++ body) mid_is
    ∙ ap (λ (x : List ℕ). (old ++ x) ++ body) head_is
    ∙ ap (λ (n : ℕ). (old ++ header 1 n) ++ body) size_is
    ∙ append_assoc old (header 1 (length body)) body in
    subst AreSmall (sym all) (small_more old body h few)

-- and few octets more
pub added_few : (old head mid body new : List ℕ) (size : ℕ) → mid ≡ old ++ head
    → head ≡ header 1 size → new ≡ mid ++ body → length body ≤ 1024
    → length new ≤ length old + 1032
added_few old head mid body new size mid_is head_is new_is few =
    omega (
      arith,
      ap length new_is,
      length-append mid body,
      ap length mid_is,
      length-append old head,
      ap length head_is,
      eight size,
      few,
    )

-- a heartbeat alone
pub beat_small : (old head new : List ℕ) → old ≡ [] → head ≡ header 3 0 → new ≡ old ++ head
    → AreSmall new
beat_small old head new old_is head_is new_is =
    let all : new ≡ spelling heartbeat =
    new_is ∙ ap (λ (x : List ℕ). x ++ head) old_is ∙ head_is in
    subst AreSmall (sym all) (small_one heartbeat tt (omega (arith, beat_eight)))

-- the message of a buffer
pub whole_buffer : (octets : List ℕ) (service : ReturnKind) (by : Option Signing) (number : ℕ)
    (items : List ToldItem) → octets ≡ message_octets service by number items
    → IsRead service by number items → AreWhole octets
whole_buffer octets service by number items is read =
    subst AreWhole (sym is) (whole_one (buffer_message service by number items) read.fits)

-- ---- a message alone

-- what a stream's readings are: one, that of what was spelled
abbrev pub OneReading : Type 0
OneReading = (place : ℕ) (octets : List ℕ) (messages others : List Content)
    (rest other : List ℕ) (fault another : Option TmlFault)
    → IsStream place octets messages rest fault → IsStream place octets others other another
    → (messages ≡ others) × (rest ≡ other) × (fault ≡ another)

abbrev pub SpelledIsRead : Type 0
SpelledIsRead = (place : ℕ) (messages : List Content) → AllByRecursion IsMessage messages
    → IsStream place (spellings messages) messages [] None

-- small messages that are one message alone are that one
the_one : OneReading → SpelledIsRead → (octets : List ℕ) → AreSmall octets → (message : Content)
    → IsMessage message → octets ≡ spelling message → HasOne octets
the_one once read octets h message fits is =
    let own : IsStream 0 octets h.messages [] None =
    subst (λ (x : List ℕ). IsStream 0 x h.messages [] None) (sym h.spelled)
    (read 0 h.messages h.each) in
    let alone : IsStream 0 octets (message ∷ []) [] None =
    subst (λ (x : List ℕ). IsStream 0 x (message ∷ []) [] None)
    (append-nil (spelling message) ∙ sym is) (read 0 (message ∷ []) (fits, tt)) in
    let same = once 0 octets h.messages (message ∷ []) [] [] None None own alone in
    let small = subst (λ (ms : List Content). AllByRecursion IsSmall ms) same.0 h.small in
    subst HasOne (sym is) small.0

pub alone_is_small : OneReading → SpelledIsRead → (octets : List ℕ) → AreSmall octets
    → length octets ≤ 4096 → (message : Content) → octets ≡ spelling message → HasOne octets
alone_is_small once read octets h room (pdu body) is =
    let size : length octets ≡ length (header 1 (length body) ++ body) = ap length is in
    the_one once read octets h (pdu body)
    (omega (
      arith,
      room,
      size,
      length-append (header 1 (length body)) body,
      eight (length body),
    ))
    is
alone_is_small once read octets h room (context interval factor) is =
    omega (arith, ap length is, context_twenty interval factor)
alone_is_small once read octets h room heartbeat is = omega (arith, ap length is, beat_eight)
