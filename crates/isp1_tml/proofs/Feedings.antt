-- What a feeder's parts say when octets come and messages go.
use Rattle.std.proofs.Common.{◌≡◌, ◌≢◌, ℕ, ◌+◌, ◌-◌, ◌<◌, ◌≤◌, min, List, [], ◌∷◌, ◌++◌, length}
use Rattle.std.proofs.Common.{take, drop, Option, Some, None, Ok, Err, refl, ap, ◌∙◌}
use Rattle.std.proofs.Common.{append_assoc, arith}
use Rattle.std.proofs.lemmas.List.{length-append, length-take, length-take-le, length-drop}
use Rattle.std.proofs.lemmas.List.{take_min, drop-append-le, drop-drop, drop_at, take_rest}
use Rattle.isp1_tml.specs.declared.octet_queue.TheConstants.{CAPACITY}
use Rattle.isp1_tml.specs.declared.tml_fault.TmlFault.{TmlFault}
use Rattle.isp1_tml.specs.Message.{Content, pdu, context, heartbeat, spelling, spellings}
use Rattle.isp1_tml.specs.Fault.{capped}
use Rattle.isp1_tml.specs.Stream.{IsStream}
use Rattle.isp1_tml.specs.Given.{front_of}
use Rattle.isp1_tml.specs.Reading.{Reading, content, IsSpelled, reading, reading_within}
use Rattle.isp1_tml.specs.Feeding.{Feeding, fresh, feeding_of, held_with, HasFault, IsSplit}
use Rattle.isp1_tml.specs.Feeding.{next_of, after_next}
use Rattle.isp1_tml.proofs.Readings.{joined, reading_is, stream_there, stream_tail}
use Rattle.isp1_tml.proofs.Walk.{from_on, front_reads_whole, front_reads_end}

whole_is : {x : List ℕ} {w p : ℕ} → IsSplit x w p → length (spellings (reading p x).messages) ≡ w
whole_is {x} {w} {p} h =
    omega (arith, ap length h.stream.whole, length-append {A = ℕ}, length-drop w x, h.within)

-- ---- a piece was put behind what was held: y is what the walk read, and z is what is held

pub record Puts (x piece y z : List ℕ) (p q w b n : ℕ) : Type 0 where
  pub split : IsSplit x w p
  pub before : b ≡ length x
  pub count : n ≡ min (length piece) (CAPACITY - b)
  pub put : z ≡ x ++ take n piece
  pub read : y ≡ z
  pub place : q ≡ capped (p + w)

module _ {x piece y z : List ℕ} {p q w b n : ℕ} (h : Puts x piece y z p q w b n) where
  -- the walk goes on from where the whole messages end
  put_stream : {ms : List Content} {r : List ℕ} {f : Option TmlFault}
      → IsStream q (from_on w y) ms r f → IsStream p z ((reading p x).messages ++ ms) r f
  put_stream s =
      let ms = (reading p x).messages in
      let rest = drop-append-le w x (take n piece) h.split.within in
      joined p ms z (from_on w y) h.split.stream.each
      (cc (take_rest y w, rest, append_assoc (spellings ms) (drop w x) (take n piece)))
      (stream_there s (p + length (spellings ms)) (omega (arith, h.place, whole_is h.split)))

  pub put_whole : {e : ℕ} {ms : List Content} → e ≤ length (from_on w y)
      → IsStream q (from_on w y) ms (drop e (from_on w y)) None → IsSplit z (w + e) p
  put_whole {e} within stream =
      let s = rw (take_rest, drop-drop, h.read) at (put_stream stream) in
      let end = rw (take_rest, length-drop, h.read) at within in
      let long : length z ≡ length x + length (take n piece) = rw (h.put, length-append) in
      record {
        within = omega (arith, end, long, h.split.within);
        size = omega (arith, h.count, h.before, long, length-take n piece, h.split.size);
        stream = rw (reading_is s) s;
      }

  -- the same, of the feeder as contracts see it
  pub put_seen : {f : Option TmlFault} {seen : Feeding} {ms : List Content} {r : List ℕ}
      {g : Option TmlFault} → feeding_of x w p f ≡ seen → IsStream p z ms r g
      → IsStream seen.place (held_with seen piece) ms r g
  put_seen {f} is s =
      let count : n ≡ min (CAPACITY - length x) (length piece) = omega (arith, h.count, h.before) in
      let octets : held_with (feeding_of x w p f) piece ≡ z =
      cc (h.split.stream.whole, h.put, count, take_min (CAPACITY - length x) piece) in
      rw (← is, octets) s

  pub put_refused : {f : Option TmlFault} {seen : Feeding} {fault : TmlFault}
      → feeding_of x w p f ≡ seen → HasFault q (from_on w y) fault
      → HasFault seen.place (held_with seen piece) fault
  put_refused is found = (_, (_, put_seen is (put_stream found.1.1)))

-- ---- a new feeder, and whether one holds a message

pub fresh_is : feeding_of [] 0 0 None ≡ fresh
unfolding reading_within
fresh_is = refl

pub fresh_split : IsSplit [] 0 0
unfolding reading_within
fresh_split = record {
  within = omega arith;
  size = omega arith;
  stream = record { whole = refl; each = tt; refused = refl; partial = λ e. refl };
}

some_whole : (ms : List Content) → ms ≢ [] → 0 < length (spellings ms)
some_whole [] h = absurd (h refl)
some_whole (pdu body ∷ ms) h = omega arith
some_whole (context interval factor ∷ ms) h = omega arith
some_whole (heartbeat ∷ ms) h = omega arith

pub holds_message : {x : List ℕ} {w p : ℕ} → IsSplit x w p
    → (0 < w → (reading p x).messages ≢ []) × ((reading p x).messages ≢ [] → 0 < w)
holds_message {x} {w} {p} h = (
  λ some none. absurd (omega (arith, some, rw none at (whole_is h))),
  λ some. omega (arith, whole_is h, some_whole (reading p x).messages some),
)

-- ---- a message is given: y is what was looked at, s is the message's size

-- what is given of a feeder that was not refused, and the feeder after it
after_some : (f : Feeding) (m : Content) (ms : List Content) → f.fault ≡ None → f.messages ≡ m ∷ ms
    → (Ok (Some m) ≡ next_of f) × (record f {
      messages = ms;
      place = capped (f.place + length (spelling m));
    } ≡ after_next f)
after_some f m ms none is = (rw (none, is), rw (none, is))

after_none : (f : Feeding) → f.fault ≡ None → f.messages ≡ []
    → (f ≡ after_next f) × (Ok None ≡ next_of f)
after_none f none is = (rw (none, is), rw (none, is))

pub record Gives (x : List ℕ) (w p s : ℕ) (f : Option TmlFault) (seen : Feeding) : Type 0 where
  pub fits : s ≤ w
  pub split : IsSplit (drop s x) (w - s) (capped (p + s))
  pub next : Ok (Some (content (take s x))) ≡ next_of seen
  pub after : feeding_of (drop s x) (w - s) (capped (p + s)) f ≡ after_next seen

pub gives : {x y : List ℕ} {w p s : ℕ} {f : Option TmlFault} {seen : Feeding} → IsSplit x w p
    → feeding_of x w p f ≡ seen → f ≡ None → y ≡ x → Ok (Some s) ≡ front_of p y
    → (s ≤ length y) × IsSpelled (take s y) → Gives x w p s f seen
gives {x} {y} {w} {p} {s} {f} h is none same e found =
    let here = rw same at found in
    let front = front_reads_whole p p s x refl (rw same at e) in
    let size : length (spelling (content (take s x))) ≡ s =
    rw here.1.1 (length-take-le s x here.0) in
    let stream = rw front.1 at h.stream in
    let all = simp length-append at (ap length stream.whole) in
    let fits : s ≤ w = omega (arith, size, all, length-drop w x, h.within) in
    let later = rw size at
    (stream_there (stream_tail stream) (capped (p + s)) (omega (arith, size))) in
    let cut : drop (w - s) (drop s x) ≡ drop w x = drop-drop (w - s) s x
    ∙ ap (λ (n : ℕ). drop n x) (omega (arith, fits)) in
    let again = reading_is later in
    let given = after_some (feeding_of x w p f) _ _ none (ap (λ (R : Reading). R.messages) front.1)
    in
    rw (← is) record {
      fits = fits;
      split = record {
        within = omega (arith, length-drop s x, h.within, fits);
        size = omega (arith, length-drop s x, h.size);
        stream = rw (again, cut) later;
      };
      next = given.0;
      after = rw (again, cut) (rw size at given.1);
    }

pub nothing_whole : {x y : List ℕ} (w : ℕ) {p : ℕ} {f : Option TmlFault} {seen : Feeding}
    → feeding_of x w p f ≡ seen → f ≡ None → y ≡ x → Ok None ≡ front_of p y
    → (feeding_of x w p f ≡ after_next seen) × (Ok None ≡ next_of seen)
nothing_whole {x} w {p} is none same e =
    let end = front_reads_end p p x None refl (rw same at e) in
    rw (← is) (after_none _ none (ap (λ (R : Reading). R.messages) end))

pub no_fault_held : {x y : List ℕ} {w p : ℕ} {f : TmlFault} → IsSplit x w p → y ≡ x
    → Err f ≡ front_of p y → ⊥
no_fault_held {x} {p = p} {f} h same e =
    grind (arith, front_reads_end p p x (Some f) refl (rw same at e), reading_is h.stream)

-- what was given last is what was taken off the front
pub last_is : (g g' x : List ℕ) (s : ℕ) → s ≤ length x → g' ≡ g ++ take s x
    → drop (length g' - s) g' ≡ take s x
last_is g g' x s h is =
    rw is (drop_at g (take s x) _ (omega (arith, length-append g (take s x), length-take-le s x h)))
