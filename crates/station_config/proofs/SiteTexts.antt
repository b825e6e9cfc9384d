-- Each valid site is one that some text says: its settings, then its peers, then its instances.
use Rattle.std.proofs.Common.{◌≡◌, ℕ, zero, suc, ◌+◌, ◌<◌, ◌≤◌, Bool, true, false, not, ◌&&◌, ◌||◌}
use Rattle.std.proofs.Common.{◌==◌, cond, if◌then◌else◌, nat_le, nat_lt, List, [], ◌∷◌, ◌++◌}
use Rattle.std.proofs.Common.{length, map, get_or, Some, None, Ok, unwrap_or}
use Rattle.std.proofs.Common.{refl, sym, ◌∙◌, ap, subst, arith, zero-add, eq-eqb, append-nil}
use Rattle.std.proofs.Common.{append_assoc, length-append}
use Rattle.std.proofs.lemmas.Bool.{and_parts, leb-true, le-leb}
use Rattle.std.proofs.lemmas.Bool.Decides.{nat_tests}
use Rattle.std.proofs.lemmas.List.{get_or-map, length-map}
use Rattle.std.proofs.lemmas.List.Elements.{All-nil, All-cons, All-head, All-tail, All-weaker}
use Rattle.std.proofs.lemmas.List.Folds.{list_any_none}
use Rattle.std.proofs.lemmas.List.Sums.{position_or_len_is, sum_by-append}
use Rattle.std.specs.List.{All, list_all, list_any, position, position_or_len, count_by}
use Rattle.std.specs.Option.{is_some}
use Rattle.std.specs.Str.{bytes_eq}
use Rattle.sle_common.specs.Identifier.{IsIdentifier}
use Rattle.sle_common.specs.declared.gvcid.Channel.{Channel}
use Rattle.sle_common.specs.declared.gvcid.Channel.TheVariants.{Master, Virtual}
use Rattle.sle_common.specs.declared.gvcid.Gvcid.{Gvcid}
use Rattle.sle_common.specs.declared.instance_id.InstancePart.{InstancePart}
use Rattle.station_config.specs.Drafts.{id_of, owner_of, timeout_of, service_of, empty, place_of}
use Rattle.station_config.specs.Drafts.{same_id, has_id, cause_in, instance_in, added, is_skipped}
use Rattle.station_config.specs.Drafts.{unless, said, told, onward, next, told_from, site_of}
use Rattle.station_config.specs.Drafts.{finished, site_told}
use Rattle.station_config.specs.Grammar.{configuration, configuration_is_exact, instance_line}
use Rattle.station_config.specs.Identity.{same_id_decides}
use Rattle.station_config.specs.Kinds.{is_latency, is_owner}
use Rattle.station_config.specs.Validity.{IsFrom, AreApart, IsName, IsPeer, ArePeers, IsLatency}
use Rattle.station_config.specs.Validity.{IsChannel, IsVirtual, AreChannels, IsService, is_forward}
use Rattle.station_config.specs.Validity.{IsInstance, AreInstances, IsSite}
use Rattle.station_config.specs.declared.cause.Cause.TheVariants.{Repeated, NoOwner, Surplus}
use Rattle.station_config.specs.declared.draft.Draft.{Draft}
use Rattle.station_config.specs.declared.instance.Instance.{Instance}
use Rattle.station_config.specs.declared.instance_line.InstanceLine.{InstanceLine}
use Rattle.station_config.specs.declared.instance_line.InstanceLine.TheVariants.{Raf, Rcf, Cltu}
use Rattle.station_config.specs.declared.line.Line.{Line}
use Rattle.station_config.specs.declared.line.Line.TheVariants.{Provider, Password, Capacity, Beat}
use Rattle.station_config.specs.declared.line.Line.TheVariants.{Versions, Peer as OfPeer}
use Rattle.station_config.specs.declared.line.Line.TheVariants.{Instance as OfInstance}
use Rattle.sle_numbers.specs.declared.return_delivery_mode.ReturnDeliveryMode.{ReturnDeliveryMode}
use Rattle.sle_numbers.specs.declared.return_delivery_mode.ReturnDeliveryMode.TheVariants.{TimelyOnline, CompleteOnline, Offline}
use Rattle.station_config.specs.declared.peer.Peer.{Peer}
use Rattle.station_config.specs.declared.service.Service.{Service}
use Rattle.station_config.specs.declared.service.Service.TheVariants.{Raf as RafService}
use Rattle.station_config.specs.declared.service.Service.TheVariants.{Rcf as RcfService}
use Rattle.station_config.specs.declared.service.Service.TheVariants.{Cltu as CltuService}
use Rattle.station_config.specs.declared.site.Site.{Site}
use Rattle.words.specs.Alphabet.{EachOf}
use Rattle.words.specs.Channels.{gvcid, number_of}
use Rattle.words.specs.Fixed.{same_word, is_same, or_none}
use Rattle.words.specs.Identifiers.{identifier_fits}
use Rattle.words.specs.Judged.{and_so}
use Rattle.words.specs.Lines.{reading, spelling}
use Rattle.words.specs.Many.{each_fits, AreMany}
use Rattle.words.specs.Names.{is_graphic}
use Rattle.words.specs.Number.{IsWithin, number}
use Rattle.words.specs.Parts.{joined_by, parts_of_text}

-- ---- the text

abbrev name_at : ℕ → List Peer → List ℕ
name_at place [] = []
name_at zero (peer ∷ peers) = peer.name
name_at (suc place) (peer ∷ peers) = name_at place peers

abbrev line_of_service : List InstancePart → List ℕ → ℕ → Service → InstanceLine
line_of_service id name timeout (RafService mode size latency) =
    Raf id name mode size latency timeout
line_of_service id name timeout (RcfService mode size latency channels) =
    Rcf id name mode size latency timeout channels
line_of_service id name timeout (CltuService room longest) = Cltu id name room longest timeout

abbrev line_in : List Peer → Instance → InstanceLine
line_in peers i = line_of_service i.id (name_at i.owner peers) i.timeout i.service

abbrev instance_lines : List Peer → List Instance → List Line
instance_lines peers [] = []
instance_lines peers (i ∷ is) = OfInstance (line_in peers i) ∷ instance_lines peers is

-- the lines of peers, and others behind them
abbrev peer_lines : List Peer → List Line → List Line
peer_lines [] others = others
peer_lines (peer ∷ peers) others = OfPeer peer ∷ peer_lines peers others

abbrev site_lines : Site → List Line
site_lines s =
    Provider s.provider
    ∷ Password s.password
    ∷ Capacity s.capacity
    ∷ Beat (record {
      interval_from = s.interval_from;
      interval_to = s.interval_to;
      factor_from = s.factor_from;
      factor_to = s.factor_to;
    })
    ∷ Versions s.versions
    ∷ peer_lines s.peers (instance_lines s.peers s.instances)

abbrev spelled : List Line → List (List ℕ)
spelled [] = []
spelled (l ∷ ls) = spelling configuration l ∷ spelled ls

abbrev text_of : Site → List ℕ
text_of s = joined_by 10 (spelled (site_lines s))

-- ---- numbers, tests and lists

below : (m n : ℕ) → m < n → nat_lt m n ≡ true
below m n h = grind (arith, nat_tests)

level : (n : ℕ) → nat_lt n n ≡ false
level n = grind (arith, nat_tests)

room : (n : ℕ) → n < 32 → nat_le 32 n ≡ false
room n h = grind (arith, nat_tests)

differ : (v w : List ℕ) → (v ≡ w → ⊥) → bytes_eq v w ≡ false
differ v w other = at (bytes_eq v w) refl
  where
    at : (b : Bool) → bytes_eq v w ≡ b → b ≡ false
    at true e = absurd (other (same_word v w e))
    at false e = refl

differ_id : (v w : List InstancePart) → (v ≡ w → ⊥) → same_id v w ≡ false
differ_id v w other = at (same_id v w) refl
  where
    at : (b : Bool) → same_id v w ≡ b → b ≡ false
    at true e = absurd (other ((same_id_decides v w).0 e))
    at false e = refl

all_each : {X : Type 0} (P F : X → Type 0) → ((x : X) → P x → F x) → (xs : List X) → All P xs
    → each_fits F xs
all_each P F more [] all = tt
all_each P F more (x ∷ xs) all = (
  more x (All-head P x xs all),
  all_each P F more xs (All-tail P x xs all),
)

in_middle : {X : Type 0} (P : X → Type 0) (xs : List X) (x : X) (ys : List X) → All P (xs ++ x ∷ ys)
    → P x
in_middle P [] x ys all = All-head P x ys all
in_middle P (y ∷ xs) x ys all = in_middle P xs x ys (All-tail P y (xs ++ x ∷ ys) all)

middle_is : {X Y : Type 0} (f : X → Y) (xs : List X) (x : X) (ys : List X) (d : Y)
    → get_or (map f (xs ++ x ∷ ys)) (length xs) d ≡ f x
middle_is f [] x ys d = refl
middle_is f (y ∷ xs) x ys d = middle_is f xs x ys d

middle_length : {X Y : Type 0} (f : X → Y) (xs : List X) (x : X) (ys : List X)
    → length xs < length (map f (xs ++ x ∷ ys))
middle_length f [] x ys = omega arith
middle_length f (y ∷ xs) x ys = omega (arith, middle_length f xs x ys)

apart_before : {X Y : Type 0} (f : X → Y) (xs : List X) (x : X) (ys : List X)
    → AreApart (map f (xs ++ x ∷ ys)) → All (λ q. f q ≡ f x → ⊥) xs
apart_before f [] x ys apart = All-nil (λ q. f q ≡ f x → ⊥)
apart_before f (q ∷ xs) x ys apart =
    All-cons (λ q. f q ≡ f x → ⊥) q xs
    (λ same. apart 0 (suc (length xs)) (f x) (omega arith) (omega (arith, middle_length f xs x ys))
    (same ∙ sym (middle_is f xs x ys (f x))))
    (apart_before f xs x ys (λ i j d rise last.
    apart (suc i) (suc j) d (omega (arith, rise)) (omega (arith, last))))

position_none : {X : Type 0} (p : X → Bool) (xs : List X) → All (λ x. p x ≡ false) xs
    → is_some (position p xs) ≡ false
position_none p [] all = refl
position_none p (x ∷ xs) all =
    let end : position_or_len p (x ∷ xs) ≡ length (x ∷ xs) =
    position_or_len_is p (x ∷ xs) (length (x ∷ xs)) x (omega arith) (λ k h. all k x h)
    (λ h. absurd (omega (arith, h))) in
    ap (λ n. is_some (cond (nat_lt n (length (x ∷ xs))) (Some n) None)) end
    ∙ ap (λ b. is_some (cond b (Some (length (x ∷ xs))) None)) (level (length (x ∷ xs)))

-- the place of a name that a peer has
place_at : (peers : List Peer) (place : ℕ) → place < length peers
    → AreApart (map (λ p. p.name) peers) → place_of (name_at place peers) peers ≡ Some place
place_at [] place h apart = absurd (omega (arith, h))
place_at (first ∷ others) place h apart =
    let peers : List Peer = first ∷ others in
    let p : Peer → Bool = λ q. bytes_eq q.name (name_at place peers) in
    let is : position_or_len p peers ≡ place =
    position_or_len_is p peers place first (omega (arith, h))
    (λ k before. differ (get_or peers k first).name (name_at place peers)
    (λ same. apart k place first.name before (rw length-map h)
    (get_or-map (λ (q : Peer). q.name) peers k first first.name (omega (arith, before, h)) ∙ same
    ∙ name_is peers place first h ∙ sym (get_or-map (λ (q : Peer). q.name) peers place first
    first.name h))))
    (λ last. is_same (get_or peers place first).name (name_at place peers)
    (sym (name_is peers place first h))) in
    ap (λ n. cond (nat_lt n (length peers)) (Some n) None) is
    ∙ ap (λ b. cond b (Some place) None) (below place (length peers) h)
  where
    name_is : (peers : List Peer) (place : ℕ) (d : Peer) → place < length peers
        → name_at place peers ≡ (get_or peers place d).name
    name_is [] place d h = absurd (omega (arith, h))
    name_is (q ∷ qs) zero d h = refl
    name_is (q ∷ qs) (suc place) d h = name_is qs place d (omega (arith, h))

counted_middle : {X : Type 0} (p : X → Bool) (xs : List X) (x : X) (ys : List X)
    → count_by p xs + cond (p x) 1 0 ≤ count_by p (xs ++ x ∷ ys)
counted_middle p xs x ys =
    omega (
      arith,
      sum_by-append (λ x. cond (p x) 1 0) xs (x ∷ ys),
      sum_by-append (λ x. cond (p x) 1 0) (x ∷ []) ys,
      zero-add (cond (p x) 1 0),
    )

none_counted : {X : Type 0} (p : X → Bool) (xs : List X) → count_by p xs ≡ 0 → list_any p xs ≡ false
none_counted p [] e = refl
none_counted p (x ∷ xs) e = at (none_counted p xs) (p x) refl
  where
    both : cond (p x) 1 0 + count_by p xs ≡ 0
    both = omega (
      arith,
      e,
      sum_by-append (λ x. cond (p x) 1 0) (x ∷ []) xs,
      zero-add (cond (p x) 1 0),
    )

    at : (count_by p xs ≡ 0 → list_any p xs ≡ false) → (b : Bool) → p x ≡ b
        → (b || list_any p xs) ≡ false
    at others true is = absurd (omega (arith, subst (λ b. cond b 1 0 + count_by p xs ≡ 0) is both))
    at others false is = others (omega (arith, both))

-- ---- what the lines have to fit

within : (least most n : ℕ) → least ≤ n → n ≤ most → most ≤ 18446744073709551615
    → IsWithin least most n
within least most n low high small = (low, omega (arith, high, small))

latency_is : (mode : ReturnDeliveryMode) (latency : ℕ) → IsLatency mode latency
    → (latency ≤ 3600) × (is_latency mode latency ≡ true)
latency_is TimelyOnline latency h = (h.high, le-leb 1 latency h.low)
latency_is CompleteOnline latency h = (h.high, le-leb 1 latency h.low)
latency_is Offline latency h = (omega (arith, h), eq-eqb latency 0 h)

channel_fits : (g : Gvcid) → IsChannel g → gvcid.Fits g
channel_fits g h = ((omega arith, h.spacecraft), ((omega arith, h.version), at g.channel h.channel))
  where
    at : (c : Channel) → IsVirtual c → or_none (number 0 63).Fits (number_of c)
    at Master h = tt
    at (Virtual n) h = (omega arith, h)

channels_fit : (channels : List Gvcid) → AreChannels channels → AreMany gvcid 1 8 channels
channels_fit channels h = record {
  some = h.count.low;
  few = h.count.high;
  each = all_each IsChannel gvcid.Fits channel_fits channels h.each;
}

owner_is : (name : List ℕ) → IsName name → is_owner name ≡ true
owner_is name is =
    let both = and_parts (nat_le 3 (length name) && nat_le (length name) 16)
    (list_all is_graphic name) is in
    let some = and_parts (nat_le 3 (length name)) (nat_le (length name) 16) both.0 in
    and_so (nat_le 1 (length name)) (list_all is_graphic name)
    (le-leb 1 (length name) (omega (arith, leb-true 3 (length name) some.0))) both.1

service_fits : (id : List InstancePart) (name : List ℕ) (timeout : ℕ) (s : Service)
    → IsIdentifier id → IsName name → IsFrom 1 600 timeout → IsService s
    → instance_line.Fits (line_of_service id name timeout s)
service_fits id name timeout (RafService mode size latency) is owner t h =
    let l = latency_is mode latency h.latency in (
      identifier_fits id is,
      (
        owner_is name owner,
        ((tt, ((h.size.low, h.size.high), ((omega arith, l.0), (t.low, t.high)))), l.1),
      ),
    )
service_fits id name timeout (RcfService mode size latency channels) is owner t h =
    let l = latency_is mode latency h.0.latency in (
      identifier_fits id is,
      (
        owner_is name owner,
        (
          (
            tt,
            (
              (h.0.size.low, h.0.size.high),
              ((omega arith, l.0), ((t.low, t.high), channels_fit channels h.1)),
            ),
          ),
          l.1,
        ),
      ),
    )
service_fits id name timeout (CltuService room longest) is owner t h = (
  identifier_fits id is,
  (
    owner_is name owner,
    ((h.room.low, h.room.high), ((h.longest.low, h.longest.high), (t.low, t.high))),
  ),
)

-- ---- an instance and its line

name_named : (peers : List Peer) (place : ℕ) → place < length peers → All IsPeer peers
    → IsName (name_at place peers)
name_named [] place h each = absurd (omega (arith, h))
name_named (q ∷ qs) zero h each = (All-head IsPeer q qs each).name
name_named (q ∷ qs) (suc place) h each = name_named qs place (omega (arith, h))
    (All-tail IsPeer q qs each)

id_back : (id : List InstancePart) (name : List ℕ) (timeout : ℕ) (s : Service)
    → id_of (line_of_service id name timeout s) ≡ id
id_back id name timeout (RafService mode size latency) = refl
id_back id name timeout (RcfService mode size latency channels) = refl
id_back id name timeout (CltuService room longest) = refl

owner_back : (id : List InstancePart) (name : List ℕ) (timeout : ℕ) (s : Service)
    → owner_of (line_of_service id name timeout s) ≡ name
owner_back id name timeout (RafService mode size latency) = refl
owner_back id name timeout (RcfService mode size latency channels) = refl
owner_back id name timeout (CltuService room longest) = refl

timeout_back : (id : List InstancePart) (name : List ℕ) (timeout : ℕ) (s : Service)
    → timeout_of (line_of_service id name timeout s) ≡ timeout
timeout_back id name timeout (RafService mode size latency) = refl
timeout_back id name timeout (RcfService mode size latency channels) = refl
timeout_back id name timeout (CltuService room longest) = refl

service_back : (id : List InstancePart) (name : List ℕ) (timeout : ℕ) (s : Service)
    → service_of (line_of_service id name timeout s) ≡ s
service_back id name timeout (RafService mode size latency) = refl
service_back id name timeout (RcfService mode size latency channels) = refl
service_back id name timeout (CltuService room longest) = refl

owner_place : (peers : List Peer) (i : Instance) → ArePeers peers → IsInstance (length peers) i
    → place_of (owner_of (line_in peers i)) peers ≡ Some i.owner
owner_place peers i p h = ap (λ name. place_of name peers)
    (owner_back i.id (name_at i.owner peers) i.timeout i.service)
    ∙ place_at peers i.owner h.owner p.names

instance_back : (peers : List Peer) (i : Instance) → ArePeers peers → IsInstance (length peers) i
    → instance_in peers (line_in peers i) ≡ i
instance_back peers i p h = λ k. record {
  id = id_back i.id (name_at i.owner peers) i.timeout i.service k;
  owner = unwrap_or (owner_place peers i p h k) 0;
  timeout = timeout_back i.id (name_at i.owner peers) i.timeout i.service k;
  service = service_back i.id (name_at i.owner peers) i.timeout i.service k;
}

-- ---- lines that follow one another

-- each line fits, and none is refused behind those before it
abbrev Follow : Draft → List Line → Type 0
Follow d [] = Unit {0}
Follow d (l ∷ ls) = configuration.Fits l × ((cause_in d l ≡ None) × Follow (added d l) ls)

abbrev all_added : Draft → List Line → Draft
all_added d [] = d
all_added d (l ∷ ls) = all_added (added d l) ls

unskipped : (l : Line) → is_skipped (spelling configuration l) ≡ false
unskipped (Provider name) = refl
unskipped (Password pass) = refl
unskipped (Capacity octets) = refl
unskipped (Beat h) = refl
unskipped (Versions versions) = refl
unskipped (OfPeer peer) = refl
unskipped (OfInstance (Raf id who how size latency timeout)) = refl
unskipped (OfInstance (Rcf id who how size latency timeout channels)) = refl
unskipped (OfInstance (Cltu id who room longest timeout)) = refl

line_told : (d : Draft) (l : Line) → configuration.Fits l → cause_in d l ≡ None
    → told d (spelling configuration l) ≡ Ok (added d l)
line_told d l fits free =
    ap (λ b. if b then Ok d else said d (reading configuration (spelling configuration l)))
    (unskipped l)
    ∙ ap (said d) (configuration_is_exact.back l fits) ∙ ap (λ o. unless o (added d l)) free

lines_told : (ls : List Line) (n : ℕ) (d : Draft) → Follow d ls
    → told_from n d (spelled ls) ≡ Ok (all_added d ls)
lines_told [] n d f = refl
lines_told (l ∷ ls) n d f = ap (λ r. onward n r (λ d. told_from (next n) d (spelled ls)))
    (line_told d l f.0 f.1.0) ∙ lines_told ls (next n) (added d l) f.1.1

no_end : ℕ → Bool
no_end octet = not (octet == 10)

ends_apart : (ls : List Line) (d : Draft) → Follow d ls
    → EachOf (λ octet. not (octet == 10)) (spelled ls)
ends_apart [] d f = tt
ends_apart (l ∷ ls) d f = (
  configuration_is_exact.one_line l (spelling configuration l) f.0
      (record {
        first = configuration.first l;
        others = configuration.others l;
        is = refl;
        spelled = configuration.canonical l f.0;
      }),
  ends_apart ls (added d l) f.1.1,
)

some_lines : (ls : List Line) → 1 ≤ length ls → 1 ≤ length (spelled ls)
some_lines [] h = absurd (omega (arith, h))
some_lines (l ∷ ls) h = omega arith

text_told : (ls : List Line) → 1 ≤ length ls → Follow empty ls
    → site_told (joined_by 10 (spelled ls)) ≡ Ok (site_of (all_added empty ls))
text_told ls some f =
    ap (λ ws. finished (told_from 1 empty ws))
    (parts_of_text 10 (λ octet. not (octet == 10)) refl (spelled ls) (some_lines ls some)
    (ends_apart ls empty f))
    ∙ ap finished (lines_told ls 1 empty f)

-- ---- the lines of a site

free_of : (a b c : Bool) → a ≡ false → b ≡ false → c ≡ false
    → (if a then Some Repeated else (if b then Some NoOwner
    else (if c then Some Surplus else None))) ≡ None
free_of a b c e f g = rw (e, f, g) refl

abbrev with_peers : Draft → List Peer → Draft
with_peers d peers = record d { peers = peers }

abbrev with_instances : Draft → List Instance → Draft
with_instances d instances = record d { instances = instances }

peer_fits : (peer : Peer) → IsPeer peer → configuration.Fits (OfPeer peer)
peer_fits peer is =
    let age = is.credential_age in
    (is.name, (tt, (tt, ((age.low, age.high), is.pass))))

peers_follow : (rest before : List Peer) (d : Draft) (others : List Line)
    → ArePeers (before ++ rest) → Follow (with_peers d (before ++ rest)) others
    → Follow (with_peers d before) (peer_lines rest others)
peers_follow [] before d others h f = subst (λ ps. Follow (with_peers d ps) others)
    (append-nil before) f
peers_follow (p ∷ rest) before d others h f =
    let new = position_none (λ q. bytes_eq q.name p.name) before
    (All-weaker (λ (q : Peer). q.name ≡ p.name
    → ⊥) (λ q. bytes_eq q.name p.name ≡ false) (λ q other. differ q.name p.name other) before
    (apart_before (λ (q : Peer). q.name) before p rest h.names)) in
    let more : before ++ p ∷ rest ≡ (before ++ p ∷ []) ++ rest =
    sym (append_assoc before (p ∷ []) rest) in (
      peer_fits p (in_middle IsPeer before p rest h.each),
      (
        free_of (is_some (place_of p.name before)) false (nat_le 32 (length before)) new refl
            (room (length before) (omega (arith, h.count, length-append before (p ∷ rest)))),
        peers_follow rest (before ++ p ∷ []) d others (subst ArePeers more h)
            (subst (λ ps. Follow (with_peers d ps) others) more f),
      ),
    )

instances_follow : (rest before : List Instance) (d : Draft) → ArePeers d.peers
    → AreInstances (length d.peers) (before ++ rest)
    → Follow (with_instances d before) (instance_lines d.peers rest)
instances_follow [] before d p h = tt
instances_follow (i ∷ rest) before d p h =
    let is = in_middle (IsInstance (length d.peers)) before i rest h.each in
    let l : InstanceLine = line_in d.peers i in
    let same = instance_back d.peers i p is in
    let id = id_back i.id (name_at i.owner d.peers) i.timeout i.service in
    let service = service_back i.id (name_at i.owner d.peers) i.timeout i.service in
    let new : has_id i.id before ≡ false = list_any_none (λ other. same_id other.id i.id) before
    (All-weaker (λ (other : Instance). other.id ≡ i.id
    → ⊥) (λ other. same_id other.id i.id ≡ false) (λ other apart. differ_id other.id i.id apart)
    before
    (apart_before (λ (other : Instance). other.id) before i rest h.identifiers)) in
    let more : before ++ i ∷ rest ≡ (before ++ i ∷ []) ++ rest =
    sym (append_assoc before (i ∷ []) rest) in (
      service_fits i.id (name_at i.owner d.peers) i.timeout i.service is.id
          (name_named d.peers i.owner is.owner p.each) is.timeout is.service,
      (
        free_of (has_id (id_of l) before) (not (is_some (place_of (owner_of l) d.peers)))
            (nat_le 32 (length before) || (is_forward (service_of l)
            && list_any (λ other. is_forward other.service) before))
            (ap (λ id. has_id id before) id ∙ new)
            (ap (λ o. not (is_some o)) (owner_place d.peers i p is))
            (ap (λ s. nat_le 32 (length before)
            || (is_forward s && list_any (λ other. is_forward other.service) before)) service
            ∙ fewer (is_forward i.service) refl),
        subst (λ last. Follow (with_instances d (before ++ last ∷ []))
            (instance_lines d.peers rest)) (sym same)
            (instances_follow rest (before ++ i ∷ []) d p
            (subst (AreInstances (length d.peers)) more h)),
      ),
    )
  where
    count : count_by (λ other. is_forward other.service) before + cond (is_forward i.service) 1 0
        ≤ 1
    count = omega (
      arith,
      h.one_forward,
      counted_middle (λ (other : Instance). is_forward other.service) before i rest,
    )

    fewer : (b : Bool) → is_forward i.service ≡ b
        → (nat_le 32 (length before) || (b && list_any (λ other. is_forward other.service) before))
        ≡ false
    fewer false is = ap (λ c. c || false) (room (length before)
        (omega (arith, h.count, length-append before (i ∷ rest))))
    fewer true is =
        ap (λ c. c || list_any (λ other. is_forward other.service) before)
        (room (length before) (omega (arith, h.count, length-append before (i ∷ rest))))
        ∙ none_counted (λ (other : Instance). is_forward other.service) before
        (omega (
          arith,
          subst (λ b. count_by (λ (other : Instance). is_forward other.service)
              before + cond b 1 0 ≤ 1) is count,
        ))

-- ---- a site

peers_added : (rest before : List Peer) (d : Draft) (others : List Line)
    → all_added (with_peers d before) (peer_lines rest others)
    ≡ all_added (with_peers d (before ++ rest)) others
peers_added [] before d others = ap (λ ps. all_added (with_peers d ps) others)
    (sym (append-nil before))
peers_added (p ∷ rest) before d others = peers_added rest (before ++ p ∷ []) d others
    ∙ ap (λ ps. all_added (with_peers d ps) others) (append_assoc before (p ∷ []) rest)

instances_added : (rest before : List Instance) (d : Draft) → ArePeers d.peers
    → All (IsInstance (length d.peers)) rest
    → all_added (with_instances d before) (instance_lines d.peers rest)
    ≡ with_instances d (before ++ rest)
instances_added [] before d p each = ap (with_instances d) (sym (append-nil before))
instances_added (i ∷ rest) before d p each =
    ap (λ last. all_added (with_instances d (before ++ last ∷ [])) (instance_lines d.peers rest))
    (instance_back d.peers i p (All-head (IsInstance (length d.peers)) i rest each))
    ∙ instances_added rest (before ++ i ∷ []) d p
    (All-tail (IsInstance (length d.peers)) i rest each)
    ∙ ap (with_instances d) (append_assoc before (i ∷ []) rest)

-- what the settings say
abbrev settings_of : Site → Draft
settings_of s = record {
  provider = Some s.provider;
  password = Some s.password;
  capacity = Some s.capacity;
  heartbeat = Some (record {
    interval_from = s.interval_from;
    interval_to = s.interval_to;
    factor_from = s.factor_from;
    factor_to = s.factor_to;
  });
  versions = Some s.versions;
  peers = [];
  instances = [];
}

site_follows : (s : Site) → IsSite s → Follow empty (site_lines s)
site_follows s h = (
  h.provider,
  (
    refl,
    (
      h.password,
      (
        refl,
        (
          (h.capacity.low, h.capacity.high),
          (
            refl,
            (
              (
                (
                  (h.interval.low, omega (arith, h.interval.rises, h.interval.high)),
                  (
                    (omega (arith, h.interval.low, h.interval.rises), h.interval.high),
                    (
                      (h.factor.low, omega (arith, h.factor.rises, h.factor.high)),
                      (omega (arith, h.factor.low, h.factor.rises), h.factor.high),
                    ),
                  ),
                ),
                and_so (nat_le s.interval_from s.interval_to) (nat_le s.factor_from s.factor_to)
                    (le-leb s.interval_from s.interval_to h.interval.rises)
                    (le-leb s.factor_from s.factor_to h.factor.rises),
              ),
              (
                refl,
                (
                  record {
                    some = h.versions.count.low;
                    few = h.versions.count.high;
                    each = all_each (IsFrom 4 9) (IsWithin 4 9) (λ n is. (is.low, is.high))
                        s.versions h.versions.each;
                  },
                  (
                    refl,
                    peers_follow s.peers [] (settings_of s) (instance_lines s.peers s.instances)
                        h.peers
                        (instances_follow s.instances [] (with_peers (settings_of s) s.peers)
                        h.peers h.instances),
                  ),
                ),
              ),
            ),
          ),
        ),
      ),
    ),
  ),
)

lines_say : (s : Site) → IsSite s → all_added empty (site_lines s)
    ≡ with_instances (with_peers (settings_of s) s.peers) s.instances
lines_say s h =
    peers_added s.peers [] (settings_of s) (instance_lines s.peers s.instances)
    ∙ instances_added s.instances [] (with_peers (settings_of s) s.peers) h.peers h.instances.each

says : (s : Site) → IsSite s → site_told (text_of s) ≡ Ok s
says s h = text_told (site_lines s) (omega arith) (site_follows s h)
    ∙ ap (λ d. Ok (site_of d)) (lines_say s h)

pub each_is_told : (s : Site) → IsSite s → (text : List ℕ) × (site_told text ≡ Ok s)
each_is_told s h = (text_of s, says s h)
