-- A site that a configuration says is valid.
use Rattle.std.proofs.Common.{◌≡◌, ℕ, ◌+◌, ◌<◌, ◌≤◌, inl, inr, Bool, true, false, not, ◌&&◌}
use Rattle.std.proofs.Common.{◌||◌, cond, if◌then◌else◌, nat_le, nat_lt, List, [], ◌∷◌, ◌++◌}
use Rattle.std.proofs.Common.{length, map, Option, Some, None, Result, Ok, Err, unwrap_or, refl}
use Rattle.std.proofs.Common.{◌∙◌, ap, subst, arith, zero-add, zero, suc, slice_index}
use Rattle.std.proofs.Common.{length-append}
use Rattle.std.proofs.lemmas.Bool.{and_parts, leb-true, eqb-true}
use Rattle.std.proofs.lemmas.Bool.Decides.{nat_tests}
use Rattle.std.proofs.lemmas.List.{map-append}
use Rattle.std.proofs.lemmas.List.Elements.{All-nil, All-cons, All-push, All-map, All-weaker}
use Rattle.std.proofs.lemmas.List.Quantifiers.{all_pairs_push}
use Rattle.std.proofs.lemmas.List.Sums.{fails_before_first, sum_by-append}
use Rattle.std.specs.List.{All, list_any, position, position_or_len, count_by}
use Rattle.std.specs.Option.{is_some}
use Rattle.std.specs.Prelude.{IfOk}
use Rattle.std.specs.Str.{bytes_eq}
use Rattle.sle_common.specs.Identifier.{IsIdentifier}
use Rattle.sle_common.specs.declared.gvcid.Channel.{Channel}
use Rattle.sle_common.specs.declared.gvcid.Channel.TheVariants.{Master, Virtual}
use Rattle.sle_common.specs.declared.gvcid.Gvcid.{Gvcid}
use Rattle.station_config.proofs.Places.{place_within}
use Rattle.station_config.specs.Answers.{Answers}
use Rattle.station_config.specs.Drafts.{id_of, owner_of, timeout_of, service_of, empty, place_of}
use Rattle.station_config.specs.Drafts.{same_id, has_id, is_repeated, has_no_owner, is_surplus}
use Rattle.station_config.specs.Drafts.{cause_in, instance_in, added, is_skipped, unless, said}
use Rattle.station_config.specs.Drafts.{told, Refusal, onward, next, told_from, site_of, finished}
use Rattle.station_config.specs.Drafts.{site_told}
use Rattle.station_config.specs.Grammar.{configuration, configuration_is_exact, instance_line}
use Rattle.station_config.specs.Identity.{same_id_decides}
use Rattle.station_config.specs.Kinds.{is_latency}
use Rattle.station_config.specs.Validity.{IsFrom, AreApart, IsPeer, ArePeers}
use Rattle.station_config.specs.Validity.{IsReturn, IsChannel, IsVirtual, AreChannels}
use Rattle.station_config.specs.Validity.{IsService, is_forward, IsInstance, AreInstances, IsSite}
use Rattle.station_config.specs.declared.cause.Cause.{Cause}
use Rattle.station_config.specs.declared.cause.Cause.TheVariants.{Repeated, NoOwner, Surplus}
use Rattle.station_config.specs.declared.draft.Draft.{Draft}
use Rattle.station_config.specs.declared.fault.SiteFault.{SiteFault}
use Rattle.station_config.specs.declared.instance.Instance.{Instance}
use Rattle.station_config.specs.declared.instance_line.InstanceLine.{InstanceLine}
use Rattle.station_config.specs.declared.instance_line.InstanceLine.TheVariants.{Raf, Rcf, Cltu}
use Rattle.station_config.specs.declared.line.Line.{Line}
use Rattle.station_config.specs.declared.line.Line.TheVariants.{Provider, Password, Capacity, Beat}
use Rattle.station_config.specs.declared.line.Line.TheVariants.{Versions, Peer as OfPeer}
use Rattle.station_config.specs.declared.line.Line.TheVariants.{Instance as OfInstance}
use Rattle.sle_numbers.specs.declared.return_delivery_mode.ReturnDeliveryMode.{ReturnDeliveryMode}
use Rattle.sle_numbers.specs.declared.return_delivery_mode.ReturnDeliveryMode.TheVariants.{TimelyOnline, CompleteOnline, Offline}
use Rattle.station_config.specs.declared.peer.Peer.{Peer}
use Rattle.station_config.specs.declared.site.Site.{Site}
use Rattle.words.specs.Channels.{gvcid, number_of}
use Rattle.words.specs.Fixed.{is_same, or_none as fits_or_none}
use Rattle.words.specs.Identifiers.{fits_identifier}
use Rattle.words.specs.Judged.{err_ok}
use Rattle.words.specs.Lines.{reading}
use Rattle.words.specs.Many.{each_fits, AreMany}
use Rattle.words.specs.Number.{IsWithin, number}
use Rattle.words.specs.Parts.{parts}
use Rattle.words.specs.Steps.{contradicted, ok_is, chosen}
use Rattle.words.specs.declared.cause.Cause.{Cause as BadWords}

-- ---- numbers and tests

fewer : (n : ℕ) → nat_le 32 n ≡ false → n + 1 ≤ 32
fewer n e = grind (arith, nat_tests)

or_none : (a b : Bool) → (a || b) ≡ false → (a ≡ false) × (b ≡ false)
or_none true b e = absurd cc
or_none false b e = (refl, e)

each_all : {X : Type 0} (F P : X → Type 0) → ((x : X) → F x → P x) → (xs : List X) → each_fits F xs
    → All P xs
each_all F P more [] fits = All-nil P
each_all F P more (x ∷ xs) fits = All-cons P x xs (more x fits.0) (each_all F P more xs fits.1)

none_any : {X : Type 0} (p : X → Bool) (xs : List X) → list_any p xs ≡ false
    → All (λ x. p x ≡ false) xs
none_any p [] e = All-nil (λ x. p x ≡ false)
none_any p (x ∷ xs) e = let both = or_none (p x) (list_any p xs) e in
    All-cons (λ x. p x ≡ false) x xs both.0 (none_any p xs both.1)

unfound : {X : Type 0} (p : X → Bool) (xs : List X) → is_some (position p xs) ≡ false
    → All (λ x. p x ≡ false) xs
unfound p xs e = let past = at (nat_lt (position_or_len p xs) (length xs)) refl e in
    λ k d h. fails_before_first p xs k d (omega arith)
  where
    at : (b : Bool) → nat_lt (position_or_len p xs) (length xs) ≡ b
        → is_some (cond b (Some (position_or_len p xs)) None) ≡ false
        → length xs ≤ position_or_len p xs
    at true is e = absurd cc
    at false is e = grind (arith, nat_tests)

apart_push : {X Y : Type 0} (f : X → Y) (xs : List X) (x : X) → AreApart (map f xs)
    → All (λ other. f other ≡ f x → ⊥) xs → AreApart (map f (xs ++ x ∷ []))
apart_push f xs x apart other = rw (map-append f xs (x ∷ []))
    (all_pairs_push (λ a b. a ≡ b → ⊥) (map f xs) (f x) apart
    (All-map (λ a. a ≡ f x → ⊥) f xs other))

none_counted : {X : Type 0} (p : X → Bool) (xs : List X) → list_any p xs ≡ false → count_by p xs ≡ 0
none_counted p [] e = refl
none_counted p (x ∷ xs) e = let both = or_none (p x) (list_any p xs) e in
    rw both.0 (omega (arith, none_counted p xs both.1))

counted_push : {X : Type 0} (p : X → Bool) (xs : List X) (x : X)
    → count_by p (xs ++ x ∷ []) ≡ count_by p xs + cond (p x) 1 0
counted_push p xs x = sum_by-append (λ x. cond (p x) 1 0) xs (x ∷ [])
    ∙ ap (λ n. count_by p xs + n) (zero-add (cond (p x) 1 0))

one_more : {X : Type 0} (p : X → Bool) (xs : List X) (x : X) → count_by p xs ≤ 1
    → (p x && list_any p xs) ≡ false → count_by p (xs ++ x ∷ []) ≤ 1
one_more p xs x few e = rw (counted_push p xs x) (at (p x) e)
  where
    at : (b : Bool) → (b && list_any p xs) ≡ false → count_by p xs + cond b 1 0 ≤ 1
    at true e = omega (arith, none_counted p xs e)
    at false e = omega (arith, few)

-- ---- what a line says

channel_is : (g : Gvcid) → gvcid.Fits g → IsChannel g
channel_is g fits = record {
  spacecraft = fits.0.1;
  version = fits.1.0.1;
  channel = at g.channel fits.1.1;
}
  where
    at : (c : Channel) → fits_or_none (number 0 63).Fits (number_of c) → IsVirtual c
    at Master none = tt
    at (Virtual n) fits = fits.1

channels_are : (channels : List Gvcid) → AreMany gvcid 1 8 channels → AreChannels channels
channels_are channels fits =
    record {
      count = record { low = fits.some; high = fits.few };
      each = each_all gvcid.Fits IsChannel channel_is channels fits.each;
    }

return_is : (m : ReturnDeliveryMode) (size latency : ℕ) → IsWithin 1 1000 size → IsWithin 0 3600 latency
    → is_latency m latency ≡ true → IsReturn m size latency
return_is TimelyOnline size latency s l e = record {
  size = record { low = s.0; high = s.1 };
  latency = record { low = leb-true 1 latency e; high = l.1 };
}
return_is CompleteOnline size latency s l e = record {
  size = record { low = s.0; high = s.1 };
  latency = record { low = leb-true 1 latency e; high = l.1 };
}
return_is Offline size latency s l e = record {
  size = record { low = s.0; high = s.1 };
  latency = eqb-true latency 0 e;
}

service_is : (l : InstanceLine) → instance_line.Fits l → IsService (service_of l)
service_is (Raf id who how size latency timeout) fits = let row = fits.1.1.0 in
    return_is how size latency row.1.0 row.1.1.0 fits.1.1.1
service_is (Rcf id who how size latency timeout channels) fits =
    let row = fits.1.1.0 in (
      return_is how size latency row.1.0 row.1.1.0 fits.1.1.1,
      channels_are channels row.1.1.1.1,
    )
service_is (Cltu id who room longest timeout) fits =
    record {
      room = record { low = fits.1.1.0.0; high = fits.1.1.0.1 };
      longest = record { low = fits.1.1.1.0.0; high = fits.1.1.1.0.1 };
    }

timeout_is : (l : InstanceLine) → instance_line.Fits l → IsFrom 1 600 (timeout_of l)
timeout_is (Raf id who how size latency timeout) fits = let t = fits.1.1.0.1.1.1 in
    record { low = t.0; high = t.1 }
timeout_is (Rcf id who how size latency timeout channels) fits = let t = fits.1.1.0.1.1.1.0 in
    record { low = t.0; high = t.1 }
timeout_is (Cltu id who room longest timeout) fits = let t = fits.1.1.1.1 in
    record { low = t.0; high = t.1 }

instance_is : (peers : List Peer) (l : InstanceLine) → instance_line.Fits l
    → not (is_some (place_of (owner_of l) peers)) ≡ false
    → IsInstance (length peers) (instance_in peers l)
instance_is peers l fits e = record {
  id = id_is l fits;
  owner = at (place_of (owner_of l) peers) refl e;
  timeout = timeout_is l fits;
  service = service_is l fits;
}
  where
    id_is : (l : InstanceLine) → instance_line.Fits l → IsIdentifier (id_of l)
    id_is (Raf id who how size latency timeout) fits = fits_identifier id fits.0
    id_is (Rcf id who how size latency timeout channels) fits = fits_identifier id fits.0
    id_is (Cltu id who room longest timeout) fits = fits_identifier id fits.0

    at : (o : Option ℕ) → place_of (owner_of l) peers ≡ o → not (is_some o) ≡ false
        → unwrap_or o 0 < length peers
    at None is e = absurd cc
    at (Some place) is e = place_within (owner_of l) peers place is

-- ---- one line more

more_peers : (n m : ℕ) → n ≤ m → (instances : List Instance) → AreInstances n instances
    → AreInstances m instances
more_peers n m more instances h = record {
  count = h.count;
  each = All-weaker (IsInstance n) (IsInstance m)
      (λ i is. record {
        id = is.id;
        owner = omega (arith, is.owner, more);
        timeout = is.timeout;
        service = is.service;
      }) instances h.each;
  identifiers = h.identifiers;
  one_forward = h.one_forward;
}

peers_push : (peers : List Peer) (peer : Peer) → IsPeer peer → ArePeers peers
    → is_some (place_of peer.name peers) ≡ false → nat_le 32 (length peers) ≡ false
    → ArePeers (peers ++ peer ∷ [])
peers_push peers peer is h new room = record {
  count = omega (arith, fewer (length peers) room, length-append peers (peer ∷ []));
  each = All-push IsPeer peers peer h.each is;
  names = apart_push (λ p. p.name) peers peer h.names
      (All-weaker (λ p. bytes_eq p.name peer.name ≡ false) (λ p. p.name ≡ peer.name → ⊥)
      (λ p other same. contradicted (bytes_eq p.name peer.name) (is_same p.name peer.name same)
      other) peers (unfound (λ p. bytes_eq p.name peer.name) peers new));
}

instances_push : (n : ℕ) (instances : List Instance) (i : Instance) → IsInstance n i
    → AreInstances n instances → has_id i.id instances ≡ false
    → (nat_le 32 (length instances) || (is_forward i.service
    && list_any (λ i. is_forward i.service) instances)) ≡ false
    → AreInstances n (instances ++ i ∷ [])
instances_push n instances i is h new room =
    let both = or_none (nat_le 32 (length instances)) (is_forward i.service
    && list_any (λ i. is_forward i.service) instances) room in
    record {
      count = omega (arith, fewer (length instances) both.0, length-append instances (i ∷ []));
      each = All-push (IsInstance n) instances i h.each is;
      identifiers = apart_push (λ i. i.id) instances i h.identifiers
          (All-weaker (λ other. same_id other.id i.id ≡ false) (λ other. other.id ≡ i.id → ⊥)
          (λ other e same. contradicted (same_id other.id i.id)
          ((same_id_decides other.id i.id).1 same) e) instances
          (none_any (λ other. same_id other.id i.id) instances new));
      one_forward = one_more (λ i. is_forward i.service) instances i h.one_forward both.1;
    }

none_of : (a b c : Bool) → (if a then Some Repeated
    else (if b then Some NoOwner else (if c then Some Surplus else None))) ≡ None
    → (a ≡ false) × (b ≡ false) × (c ≡ false)
none_of true b c e = absurd cc
none_of false true c e = absurd cc
none_of false false true e = absurd cc
none_of false false false e = (refl, refl, refl)

step : (d : Draft) (l : Line) → configuration.Fits l
    → (is_repeated d l ≡ false) × (has_no_owner d l ≡ false) × (is_surplus d l ≡ false)
    → IsSite (site_of d) → IsSite (site_of (added d l))
step d (Provider name) fits free h =
    record {
      provider = fits;
      password = h.password;
      capacity = h.capacity;
      interval = h.interval;
      factor = h.factor;
      versions = h.versions;
      peers = h.peers;
      instances = h.instances;
    }
step d (Password pass) fits free h =
    record {
      provider = h.provider;
      password = fits;
      capacity = h.capacity;
      interval = h.interval;
      factor = h.factor;
      versions = h.versions;
      peers = h.peers;
      instances = h.instances;
    }
step d (Capacity octets) fits free h = record {
  provider = h.provider;
  password = h.password;
  capacity = record { low = fits.0; high = fits.1 };
  interval = h.interval;
  factor = h.factor;
  versions = h.versions;
  peers = h.peers;
  instances = h.instances;
}
step d (Beat b) fits free h =
    let rise = and_parts (nat_le b.interval_from b.interval_to) (nat_le b.factor_from b.factor_to)
    fits.1 in
    record {
      provider = h.provider;
      password = h.password;
      capacity = h.capacity;
      interval = record {
        low = fits.0.0.0;
        rises = leb-true b.interval_from b.interval_to rise.0;
        high = fits.0.1.0.1;
      };
      factor = record {
        low = fits.0.1.1.0.0;
        rises = leb-true b.factor_from b.factor_to rise.1;
        high = fits.0.1.1.1.1;
      };
      versions = h.versions;
      peers = h.peers;
      instances = h.instances;
    }
step d (Versions versions) fits free h = record {
  provider = h.provider;
  password = h.password;
  capacity = h.capacity;
  interval = h.interval;
  factor = h.factor;
  versions = record {
    count = record { low = fits.some; high = fits.few };
    each = each_all (IsWithin 4 9) (IsFrom 4 9) (λ n is. record { low = is.0; high = is.1 })
        versions fits.each;
  };
  peers = h.peers;
  instances = h.instances;
}
step d (OfPeer peer) fits free h =
    let is : IsPeer peer = record {
      name = fits.0;
      credential_age = record { low = fits.1.1.1.0.0; high = fits.1.1.1.0.1 };
      pass = fits.1.1.1.1;
    } in
    record {
      provider = h.provider;
      password = h.password;
      capacity = h.capacity;
      interval = h.interval;
      factor = h.factor;
      versions = h.versions;
      peers = peers_push d.peers peer is h.peers free.0 free.2;
      instances = more_peers (length d.peers) (length (d.peers ++ peer ∷ []))
          (omega (arith, length-append d.peers (peer ∷ []))) d.instances h.instances;
    }
step d (OfInstance l) fits free h = record {
  provider = h.provider;
  password = h.password;
  capacity = h.capacity;
  interval = h.interval;
  factor = h.factor;
  versions = h.versions;
  peers = h.peers;
  instances = instances_push (length d.peers) d.instances (instance_in d.peers l)
      (instance_is d.peers l fits free.1) h.instances free.0 free.2;
}

-- ---- a whole text

octet_first : (octets : List ℕ) → ((i : ℕ) → slice_index octets i < 256) → (i : ℕ)
    → slice_index (0 ∷ octets) i < 256
octet_first octets are zero = omega arith
octet_first octets are (suc i) = are i

no_octet : (i : ℕ) → slice_index [] i < 256
no_octet i = omega arith

start : IsSite (site_of empty)
start = record {
  provider = refl;
  password = record {
    some = omega arith;
    few = omega arith;
    each = octet_first (0 ∷ 0 ∷ 0 ∷ 0 ∷ 0 ∷ [])
        (octet_first (0 ∷ 0 ∷ 0 ∷ 0 ∷ []) (octet_first (0 ∷ 0 ∷ 0 ∷ [])
        (octet_first (0 ∷ 0 ∷ []) (octet_first (0 ∷ []) (octet_first [] no_octet)))));
  };
  capacity = record { low = omega arith; high = omega arith };
  interval = record { low = omega arith; rises = omega arith; high = omega arith };
  factor = record { low = omega arith; rises = omega arith; high = omega arith };
  versions = record {
    count = record { low = omega arith; high = omega arith };
    each = All-cons (IsFrom 4 9) 4 (5 ∷ []) (record { low = omega arith; high = omega arith })
        (All-cons (IsFrom 4 9) 5 [] (record { low = omega arith; high = omega arith })
        (All-nil (IsFrom 4 9)));
  };
  peers = record {
    count = omega arith;
    each = All-nil IsPeer;
    names = λ i j d rise below. absurd (omega (arith, below));
  };
  instances = record {
    count = omega arith;
    each = All-nil (IsInstance 0);
    identifiers = λ i j d rise below. absurd (omega (arith, below));
    one_forward = omega arith;
  };
}

line_kept : (d : Draft) (text : List ℕ) (new : Draft) → told d text ≡ Ok new → IsSite (site_of d)
    → IsSite (site_of new)
line_kept d text new e h =
    elim (chosen (is_skipped text) (Ok d) (said d (reading configuration text)) (Ok new) e) [
      | inl k ↦ subst (λ d. IsSite (site_of d)) (ok_is d new k.1) h
      | inr k ↦ of_line (reading configuration text) refl k.1
    ]
  where
    of_cause : (l : Line) → configuration.Fits l → (o : Option Cause) → cause_in d l ≡ o
        → unless o (added d l) ≡ Ok new → IsSite (site_of new)
    of_cause l fits (Some cause) is e = err_ok e
    of_cause l fits None is e = subst (λ d. IsSite (site_of d)) (ok_is (added d l) new e)
        (step d l fits (none_of (is_repeated d l) (has_no_owner d l) (is_surplus d l) is) h)

    of_line : (r : Result Line BadWords) → reading configuration text ≡ r → said d r ≡ Ok new
        → IsSite (site_of new)
    of_line (Err cause) is e = err_ok e
    of_line (Ok l) is e = of_cause l ((configuration_is_exact.read text l).0 is).0 (cause_in d l)
        refl e

lines_kept : (texts : List (List ℕ)) (place : ℕ) (d new : Draft) → told_from place d texts ≡ Ok new
    → IsSite (site_of d) → IsSite (site_of new)
lines_kept [] place d new e h = subst (λ d. IsSite (site_of d)) (ok_is d new e) h
lines_kept (text ∷ texts) place d new e h = at (λ more k. lines_kept texts (next place) more new k)
    (told d text) refl e
  where
    at : ((more : Draft) → told_from (next place) more texts ≡ Ok new → IsSite (site_of more)
        → IsSite (site_of new)) → (r : Result Draft Cause) → told d text ≡ r
        → onward place r (λ d. told_from (next place) d texts) ≡ Ok new → IsSite (site_of new)
    at others (Err cause) is e = err_ok e
    at others (Ok more) is e = others more e (line_kept d text more is h)

-- a text that says a site says a valid one
pub site_is_valid : (text : List ℕ) (result : Result Site SiteFault)
    → Answers result (site_told text) → IfOk result IsSite
site_is_valid text (Err fault) e = tt
site_is_valid text (Ok site) e = at (told_from 1 empty (parts 10 text)) refl e
  where
    at : (r : Result Draft Refusal) → told_from 1 empty (parts 10 text) ≡ r → finished r ≡ Ok site
        → IsSite site
    at (Err refusal) is e = err_ok e
    at (Ok d) is e = subst IsSite (ok_is (site_of d) site e)
        (lines_kept (parts 10 text) 1 empty d is start)
