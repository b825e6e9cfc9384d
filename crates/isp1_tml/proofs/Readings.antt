-- A list of octets has one reading, which is worked out.
use Rattle.std.proofs.Common.{◌≡◌, ℕ, zero, suc, ◌+◌, ◌≤◌, List, [], ◌∷◌, ◌++◌, length, take, drop}
use Rattle.std.proofs.Common.{Option, Some, None, refl, sym, ap, ◌∙◌, append_assoc, add-zero, arith}
use Rattle.std.specs.List.{AllByRecursion}
use Rattle.std.proofs.Math.Nat.{add_assoc}
use Rattle.std.proofs.lemmas.List.{append-nil, length-append, length-drop, length-take-le, take_at}
use Rattle.std.proofs.lemmas.List.{drop_at, take-append-drop}
use Rattle.std.proofs.lemmas.List.Concat.{flat_map-append}
use Rattle.isp1_tml.specs.declared.tml_fault.TmlFault.{TmlFault}
use Rattle.isp1_tml.specs.Message.{Content, spelling, spellings, IsMessage}
use Rattle.isp1_tml.specs.Fault.{fault_of}
use Rattle.isp1_tml.specs.Stream.{whole_size, IsStream}
use Rattle.isp1_tml.specs.Reading.{Reading, IsRead, content, at_end, behind, reading_by}
use Rattle.isp1_tml.specs.Reading.{reading_within, reading}
use Rattle.isp1_tml.proofs.Fronts.{fault_of-spelling, whole_size-spelling, content-spelling}
use Rattle.isp1_tml.proofs.Spelled.{IsOctets, IsOctets-drop, sized, spelled}
use Rattle.isp1_tml.proofs.Places.{SamePlace, fault_of-same}

-- a whole message has a header, and all of it came
pub whole_bound : (x : List ℕ) (s : ℕ) → whole_size x ≡ Some s → (8 ≤ s) × (s ≤ length x)
whole_bound (k ∷ z1 ∷ z2 ∷ z3 ∷ a ∷ b ∷ c ∷ d ∷ y) s e = omega (arith, sized)
whole_bound x s e = absurd cc

pub same_by : (f g : ℕ → Reading) (x : List ℕ) (F : Option TmlFault) (W : Option ℕ)
    → ((s : ℕ) → W ≡ Some s → f s ≡ g s) → reading_by f x F W ≡ reading_by g x F W
same_by f g x (Some fault) W h = refl
same_by f g x None None h = refl
same_by f g x None (Some s) h = cc (h s refl)

rest_bound : (n s : ℕ) (x : List ℕ) → length x ≤ suc n → whole_size x ≡ Some s
    → length (drop s x) ≤ n
rest_bound n s x h e = omega (arith, whole_bound x s e, length-drop s x)

-- more steps than octets change nothing
within_same : (n k p : ℕ) (x : List ℕ) → length x ≤ n → length x ≤ k
    → reading_within n p x ≡ reading_within k p x
unfolding reading_within
within_same (suc n) (suc k) p x h g =
    same_by _ _ x (fault_of p x) (whole_size x)
    (λ s e. within_same n k (p + s) (drop s x) (rest_bound n s x h e) (rest_bound k s x g e))
within_same zero (suc k) p [] h g = refl
within_same n k p [] h g = refl
within_same n k p (a ∷ x) h g = absurd (omega arith)

-- a whole message in front, and the reading of what follows it
pub reading_whole : (p s : ℕ) (x : List ℕ) → fault_of p x ≡ None → whole_size x ≡ Some s
    → reading p x ≡ behind (content (take s x)) (reading (p + s) (drop s x))
unfolding reading_within
reading_whole p s x f w =
    let b = whole_bound x s w in
    let more = within_same (length x) (suc (length x)) p x (omega arith) (omega arith) in
    let rest = within_same (length x) (length (drop s x)) (p + s) (drop s x)
    (omega (arith, length-drop s x)) (omega arith) in
    rw (more, f, w) (ap (behind (content (take s x))) rest)

by_end : (f : ℕ → Reading) (x : List ℕ) (F : Option TmlFault) (W : Option ℕ) → (F ≡ None → W ≡ None)
    → reading_by f x F W ≡ at_end x F
by_end f x F W h = grind arith

-- no whole message in front
pub reading_end : (p : ℕ) (x : List ℕ) → (fault_of p x ≡ None → whole_size x ≡ None)
    → reading p x ≡ at_end x (fault_of p x)
unfolding reading_within
reading_end p x h = within_same (length x) (suc (length x)) p x (omega arith) (omega arith)
    ∙ by_end _ x (fault_of p x) (whole_size x) h

-- messages, and then a reading of what follows them
abbrev before : List Content → Reading → Reading
before ms r = record { messages = ms ++ r.messages; rest = r.rest; fault = r.fault }

pub reading_over : (p : ℕ) (ms : List Content) (y : List ℕ) → AllByRecursion IsMessage ms
    → reading p (spellings ms ++ y) ≡ before ms (reading (p + length (spellings ms)) y)
reading_over p [] y each = ap (λ (q : ℕ). reading q y) (sym (add-zero p))
reading_over p (m ∷ ms) y each =
    let n = length (spelling m) in
    let x = spellings ms ++ y in
    let first = reading_whole p n (spelling m ++ x) (fault_of-spelling p m x each.0)
    (whole_size-spelling m x each.0) in
    let taken = take_at (spelling m) x n refl in
    let left = drop_at (spelling m) x n refl in
    let is = content-spelling m each.0 in
    let rest = reading_over (p + n) ms y each.1 in
    rw (append_assoc, first, taken, is, left, rest, length-append, ← add_assoc)

-- ---- one stream after another

pub each-append : (ms ns : List Content) → AllByRecursion IsMessage ms → AllByRecursion IsMessage ns
    → AllByRecursion IsMessage (ms ++ ns)
each-append [] ns a b = b
each-append (m ∷ ms) ns a b = (a.0, each-append ms ns a.1 b)

-- messages before a stream
pub joined : (p : ℕ) (ms : List Content) (x y : List ℕ) {ns : List Content} {r : List ℕ}
    {f : Option TmlFault} → AllByRecursion IsMessage ms → x ≡ spellings ms ++ y
    → IsStream (p + length (spellings ms)) y ns r f → IsStream p x (ms ++ ns) r f
joined p ms x y {ns} each e s = record {
  whole = simp (e, s.whole, flat_map-append, append_assoc);
  each = each-append ms ns each s.each;
  refused = rw (flat_map-append, length-append, ← add_assoc) s.refused;
  partial = s.partial;
}

module _ {p : ℕ} {x : List ℕ} {ms : List Content} {r : List ℕ} {f : Option TmlFault}
    (s : IsStream p x ms r f) where
  -- a stream's reading is the one that is worked out
  pub reading_is : reading p x ≡ record { messages = ms; rest = r; fault = f }
  reading_is =
      let end = reading_end (p + length (spellings ms)) r (λ e. s.partial (sym s.refused ∙ e)) in
      rw (s.whole, reading_over p ms r s.each, end, s.refused, append-nil)

  -- a stream at another place that counts as the same
  pub stream_there : (q : ℕ) → SamePlace p q → IsStream q x ms r f
  stream_there q same = record {
    whole = s.whole;
    each = s.each;
    refused = fault_of-same (q + length (spellings ms)) (p + length (spellings ms)) r (omega arith)
        ∙ s.refused;
    partial = s.partial;
  }

-- a stream without its first message
pub stream_tail : {p : ℕ} {x : List ℕ} {m : Content} {ms : List Content} {r : List ℕ}
    {f : Option TmlFault} → IsStream p x (m ∷ ms) r f
    → IsStream (p + length (spelling m)) (drop (length (spelling m)) x) ms r f
stream_tail {p} {m = m} {ms} {r} s = record {
  whole = rw (s.whole, append_assoc, drop_at (spelling m) (spellings ms ++ r) _ refl);
  each = s.each.1;
  refused = rw (add_assoc p, ← length-append) s.refused;
  partial = s.partial;
}

-- ---- what is worked out is a stream's reading

ends : (p : ℕ) (x : List ℕ) (f : Option TmlFault) → fault_of p x ≡ f
    → (f ≡ None → whole_size x ≡ None) → IsRead p x (at_end x f)
ends p x f e h = record { whole = refl; each = tt; refused = rw add-zero e; partial = h }

read_by : (p : ℕ) (x : List ℕ) (later : ℕ → Reading) (F : Option TmlFault) (W : Option ℕ)
    → fault_of p x ≡ F → whole_size x ≡ W → IsOctets x
    → ((s : ℕ) → W ≡ Some s → IsRead (p + s) (drop s x) (later s))
    → IsRead p x (reading_by later x F W)
read_by p x later (Some fault) W f w o h = ends p x (Some fault) f (λ none. absurd cc)
read_by p x later None None f w o h = ends p x None f (λ none. w)
read_by p x later None (Some s) f w o h =
    let found = spelled p s x o f w in
    joined p (content (take s x) ∷ []) x (drop s x) (found.1.0, tt)
    (simp (append-nil, found.1.1, take-append-drop))
    (rw (append-nil, found.1.1, length-take-le s x found.0) (h s refl))

read_within : (n p : ℕ) (x : List ℕ) → length x ≤ n → IsOctets x → IsRead p x (reading_within n p x)
unfolding reading_within
read_within zero p [] h o = ends p [] None refl (λ none. refl)
read_within zero p (a ∷ x) h o = absurd (omega arith)
read_within (suc n) p x h o =
    read_by p x (λ s. reading_within n (p + s) (drop s x)) (fault_of p x) (whole_size x) refl refl o
    (λ s e. read_within n (p + s) (drop s x) (rest_bound n s x h e) (IsOctets-drop s x o))

pub is_read : (p : ℕ) (x : List ℕ) → IsOctets x → IsRead p x (reading p x)
is_read p x o = read_within (length x) p x (omega arith) o
