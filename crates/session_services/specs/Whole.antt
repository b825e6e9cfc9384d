-- Octets that are whole messages (CCSDS 913.1-B, transport mapping layer).
use Rattle.std.proofs.Common.{◌≡◌, ℕ, List, [], ◌∷◌, ◌++◌, refl, sym, ap, ◌∙◌}
use Rattle.std.specs.List.{AllByRecursion, flat_map}
use Rattle.std.proofs.lemmas.List.Concat.{flat_map-append}
use Rattle.isp1_tml.specs.Message.{Content, IsMessage, spelling, spellings}
use Rattle.session_services.specs.Room.{HasOne}

-- the octets are messages, one after the other and each whole
pub record AreWhole (octets : List ℕ) : Type 0 where
  pub messages : List Content
  pub each : AllByRecursion IsMessage messages
  pub spelled : octets ≡ spellings messages

-- no octets are whole messages, and two such lists are, one after the other
pub whole_none : AreWhole []
whole_none = record { messages = []; each = tt; spelled = refl }

all_both : (P : Content → Type 0) (xs ys : List Content) → AllByRecursion P xs
    → AllByRecursion P ys → AllByRecursion P (xs ++ ys)
all_both P [] ys h k = k
all_both P (x ∷ xs) ys h k = (h.0, all_both P xs ys h.1 k)

pub whole_both : (a b : List ℕ) → AreWhole a → AreWhole b → AreWhole (a ++ b)
whole_both a b h k = record {
  messages = h.messages ++ k.messages;
  each = all_both IsMessage h.messages k.messages h.each k.each;
  spelled =
      ap (λ (x : List ℕ). x ++ b) h.spelled
      ∙ ap (λ (x : List ℕ). flat_map spelling h.messages ++ x) k.spelled
      ∙ sym (flat_map-append spelling h.messages k.messages);
}

-- ---- whole messages that are small

-- a message has at most so many octets as a block has room for thrice
abbrev pub IsSmall : Content → Type 0
IsSmall message = HasOne (spelling message)

-- the octets are whole messages, each of them small
pub record AreSmall (octets : List ℕ) : Type 0 where
  pub messages : List Content
  pub each : AllByRecursion IsMessage messages
  pub small : AllByRecursion IsSmall messages
  pub spelled : octets ≡ spellings messages

pub whole_small : {octets : List ℕ} → AreSmall octets → AreWhole octets
whole_small h = record { messages = h.messages; each = h.each; spelled = h.spelled }

pub small_none : AreSmall []
small_none = record { messages = []; each = tt; small = tt; spelled = refl }

pub small_both : (a b : List ℕ) → AreSmall a → AreSmall b → AreSmall (a ++ b)
small_both a b h k = record {
  messages = h.messages ++ k.messages;
  each = all_both IsMessage h.messages k.messages h.each k.each;
  small = all_both IsSmall h.messages k.messages h.small k.small;
  spelled =
      ap (λ (x : List ℕ). x ++ b) h.spelled
      ∙ ap (λ (x : List ℕ). flat_map spelling h.messages ++ x) k.spelled
      ∙ sym (flat_map-append spelling h.messages k.messages);
}
