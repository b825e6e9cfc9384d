-- What a contract sees of a transfer buffer.
use Rattle.std.specs.Prelude.{ℕ, ◌+◌, Bool, false, not, ◌||◌, ◌==◌, if◌then◌else◌, List, [], ◌∷◌}
use Rattle.std.specs.Prelude.{◌++◌, length, refl}
use Rattle.std.specs.Coded.{Coded, code_by, coded×, coded_list, coded_ℕ, coded_bool}
use Rattle.archive_terms.specs.Delivery.{Contents, is_full_of}

-- how many items it may hold; the held ones, in order; how many octets of frames they have; whether
-- a notification is among them, and a closing item, behind which nothing goes into a buffer; and
-- when the first one was put
pub record Held (X : Type 0) : Type 0 where
  pub size : ℕ
  pub items : List X
  pub octets : ℕ
  pub notified : Bool
  pub closing : Bool
  pub since : ℕ

module _ {X : Type 0} where
  abbrev pub held_code : Coded X → Coded (Held X)
  held_code c =
      code_by ((ℕ × List X) × ((ℕ × ℕ) × (Bool × Bool)))
      (coded× (coded× coded_ℕ (coded_list c))
      (coded× (coded× coded_ℕ coded_ℕ) (coded× coded_bool coded_bool)))
      (λ h. ((h.size, h.items), ((h.octets, h.since), (h.notified, h.closing))))
      (λ p. record {
        size = p.0.0;
        items = p.0.1;
        octets = p.1.0.0;
        notified = p.1.1.0;
        closing = p.1.1.1;
        since = p.1.0.1;
      }) (λ _. refl)

  -- a buffer for so many items, which holds nothing
  abbrev pub empty_buffer : ℕ → Held X
  empty_buffer size = record {
    size = size;
    items = [];
    octets = 0;
    notified = false;
    closing = false;
    since = 0;
  }

  -- in numbers
  abbrev pub contents_of : Held X → Contents
  contents_of h = record {
    count = length h.items;
    octets = h.octets;
    notified = h.notified;
    since = h.since;
  }

  abbrev pub is_full : Held X → Bool
  is_full h = is_full_of h.size (length h.items) h.octets

  -- whether it takes a further item
  abbrev pub is_open : Held X → Bool
  is_open h = not (is_full h || h.closing)

  -- with an item behind those that are held, of so many octets of frames; the first item sets the
  -- moment
  abbrev pub with_item : Held X → X → ℕ → Bool → Bool → ℕ → Held X
  with_item h item octets notice closing now = record h {
    items = h.items ++ item ∷ [];
    octets = h.octets + octets;
    notified = h.notified || notice;
    closing = h.closing || closing;
    since = if length h.items == 0 then now else h.since;
  }

  -- nothing is held any more
  abbrev pub emptied : Held X → Held X
  emptied h = record h { items = []; octets = 0; notified = false; closing = false }
