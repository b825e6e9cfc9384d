-- Lists by channel.
use Rattle.std.specs.Prelude.{ℕ, Bool, List, []}
use Rattle.std.specs.Option.{unwrap_or, option_cmp, option_map_or}
use Rattle.std.specs.Ordering.{nat_cmp, on, then_cmp, is_eq}
use Rattle.std.specs.declared.cmp.Ordering.{Ordering}
use Rattle.std.specs.BTreeMap.{BTreeMap, get}
use Rattle.archive_terms.specs.Selection.{ChannelId, master, virtual}
use Rattle.archive_index.specs.declared.channels.Key.{Key}

abbrev pub key_cmp : Key → Key → Ordering
key_cmp = then_cmp (on (λ (k : Key). k.spacecraft) nat_cmp)
    (then_cmp (on (λ (k : Key). k.version) nat_cmp) (on (λ (k : Key). k.channel) (option_cmp nat_cmp)))

abbrev pub is_key : Key → Key → Bool
is_key a b = is_eq (key_cmp a b)

-- the channel that a key names: a master channel as a whole, or one of its virtual channels
abbrev pub id_of_key : Key → ChannelId
id_of_key k = record {
  spacecraft = k.spacecraft;
  version = k.version;
  channel = option_map_or virtual k.channel master;
}

-- the list of a channel: none where it has none
abbrev pub list_of : BTreeMap Key (List ℕ) → Key → List ℕ
list_of lists key = unwrap_or (get key_cmp lists key) []
