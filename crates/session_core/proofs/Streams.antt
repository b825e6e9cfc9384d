-- What a feeder stands for, once octets came, and what it gives next.
use Rattle.std.proofs.Common.{◌≡◌, ℕ, ◌-◌, ◌≤◌, min, Bool, true, false, not, ◌&&◌, if◌then◌else◌}
use Rattle.std.proofs.Common.{List, [], ◌∷◌, ◌++◌, length, take, Option, Some, None, Result, Ok}
use Rattle.std.proofs.Common.{Err, refl, sym, ap, ◌∙◌, arith}
use Rattle.std.proofs.Math.Seq.{take-append_seam}
use Rattle.std.proofs.lemmas.List.{take_all, length-append}
use Rattle.std.proofs.lemmas.List.Concat.{flat_map-append}
use Rattle.std.specs.Prelude.{slice_get, IfSome}
use Rattle.isp1_tml.specs.declared.tml_fault.TmlFault.{TmlFault}
use Rattle.isp1_tml.specs.Message.{Content, spelling, spellings}
use Rattle.isp1_tml.specs.Stream.{IsStream}
use Rattle.isp1_tml.specs.Reading.{Reading, reading}
use Rattle.isp1_tml.specs.Feeding.{Feeding, GoesOn, StandsFor, room_of, held as held_octets}
use Rattle.isp1_tml.specs.Feeding.{after_by, next_by as next_held_by, next_of as next_held}
use Rattle.isp1_tml.specs.Feeding.{after_next as after_given}
use Rattle.isp1_tml.specs.declared.octet_queue.TheConstants.{CAPACITY}
use Rattle.session_core.specs.Numbers.{longest_piece}
use Rattle.session_core.specs.Steps.{has_message}
use Rattle.session_core.specs.Session.{State, counted, next_in, next_of, held, poll_space}
use Rattle.session_core.specs.SessionState.{SessionState, Shows, space_of}

abbrev pub RefusedForGood : Type 0
RefusedForGood =
    (place : ℕ) (octets more : List ℕ) (messages : List Content) (rest : List ℕ)
    (fault : TmlFault) → IsStream place octets messages rest (Some fault)
    → IsStream place (octets ++ more) messages (rest ++ more) (Some fault)

-- what feed promises of what the feeder stands for
abbrev pub FedFresh : Feeding → Feeding → List ℕ → Type 0
FedFresh old new piece =
    (came : List ℕ) (given : List Content) → old.fault ≡ None → StandsFor old came given
    → StandsFor new (came ++ take (room_of old) piece) given

still_refused : RefusedForGood → (f : Feeding) (fault : TmlFault) (piece came : List ℕ)
    (given : List Content) → f.fault ≡ Some fault → StandsFor f came given
    → StandsFor f (came ++ piece) given
still_refused law f fault piece came given e h =
    let s : GoesOn f (Some fault) came given = rw e at h.stream in
    record {
      place = h.place;
      stream = rw e (s.0, (s.1.0 ++ piece, law 0 came piece (given ++ s.0) s.1.0 fault s.1.1));
    }

-- what feed promises of a feeder that has refused
abbrev pub Repeats : Option TmlFault → Result ℕ TmlFault → Feeding → Feeding → Type 0
Repeats o r old new = IfSome o (λ fault. (r ≡ Err fault) × (new ≡ old))

fed_by : RefusedForGood → (r : Result ℕ TmlFault) (old new : Feeding) (piece came : List ℕ)
    (given : List Content) (o : Option TmlFault) → old.fault ≡ o
    → length piece ≤ room_of old → FedFresh old new piece → Repeats o r old new
    → StandsFor old came given → StandsFor new (came ++ piece) given
fed_by law r old new piece came given None e fits fresh same h =
    rw (take_all (room_of old) piece fits) at (fresh came given e h)
fed_by law r old new piece came given (Some fault) e fits fresh same h =
    rw same.1 (still_refused law old fault piece came given e h)

-- all of a piece came
pub fed : RefusedForGood → (r : Result ℕ TmlFault) (old new : Feeding) (piece came : List ℕ)
    (given : List Content) → length piece ≤ room_of old → FedFresh old new piece
    → Repeats old.fault r old new → StandsFor old came given
    → StandsFor new (came ++ piece) given
fed law r old new piece came given = fed_by law r old new piece came given old.fault refl

-- ---- what comes next

abbrev pub WorkedOut : Type 0
WorkedOut =
    (place : ℕ) (octets : List ℕ) (messages : List Content) (rest : List ℕ)
    (fault : Option TmlFault) → IsStream place octets messages rest fault
    → reading place octets ≡ record { messages = messages; rest = rest; fault = fault }

abbrev pub Gives : Type 0
Gives =
    (f : Feeding) (came : List ℕ) (given : List Content) (m : Content)
    → next_held f ≡ Ok (Some m) → StandsFor f came given
    → StandsFor (after_given f) came (given ++ m ∷ [])

message_there : (given ms : List Content)
    → next_held_by None ms ≡ Ok (slice_get (given ++ ms) (length given))
message_there [] [] = refl
message_there [] (m ∷ ms) = refl
message_there (g ∷ given) ms = message_there given ms

next_there : WorkedOut → (f : Feeding) (came : List ℕ) (given : List Content)
    (o : Option TmlFault) → GoesOn f o came given
    → next_held_by o f.messages ≡ next_in (reading 0 came) (length given)
next_there law f came given (Some fault) h =
    sym (ap (λ (r : Reading). next_in r (length given))
    (law 0 came (given ++ h.0) h.1.0 (Some fault) h.1.1))
next_there law f came given None h =
    message_there given f.messages
    ∙ sym (ap (λ (r : Reading). next_in r (length given))
    (law 0 came (given ++ f.messages) f.rest None h))

-- what a feeder gives next is the first message of the stream that wasn't handled
pub next_is : WorkedOut → (v : SessionState) (s : State) → Shows v s → next_held v.feeder
    ≡ next_of s
next_is law v s h =
    next_there law v.feeder s.came h.given v.feeder.fault h.stands.stream
    ∙ ap (next_in (reading 0 s.came)) h.count

-- ---- a message was given, if there was one

pub record Given (f : Feeding) (came : List ℕ) (n : ℕ) : Type 0 where
  pub given : List Content
  pub count : length given ≡ n
  pub stands : StandsFor f came given

given_by : Gives → (f : Feeding) (came : List ℕ) (given : List Content) (o : Option TmlFault)
    (ms : List Content) → f.fault ≡ o → f.messages ≡ ms → StandsFor f came given
    → Given (after_by f o ms) came (counted (has_message (next_held_by o ms)) (length given))
given_by law f came given (Some fault) ms e d h =
    record { given = given; count = refl; stands = h }
given_by law f came given None [] e d h = record { given = given; count = refl; stands = h }
given_by law f came given None (m ∷ ms) e d h =
    let now : next_held f ≡ Ok (Some m) = rw (e, d) refl in
    let after : after_given f ≡ after_by f None (m ∷ ms) =
    ap (λ (o : Option TmlFault). after_by f o f.messages) e ∙ ap (after_by f None) d in
    record {
      given = given ++ m ∷ [];
      count = length-append given (m ∷ []);
      stands = rw after at (law f came given m now h);
    }

given_next : Gives → (f : Feeding) (came : List ℕ) (given : List Content)
    → StandsFor f came given
    → Given (after_given f) came (counted (has_message (next_held f)) (length given))
given_next law f came given = given_by law f came given f.fault f.messages refl refl

-- none is given in an idle round
pub given_or_not : Gives → (idle : Bool) (f : Feeding) (came : List ℕ) (given : List Content)
    → StandsFor f came given
    → Given (if idle then f else after_given f) came
    (counted (not idle && has_message (next_held f)) (length given))
given_or_not law true f came given h = record { given = given; count = refl; stands = h }
given_or_not law false f came given h = given_next law f came given h

-- ---- whether one is held

-- ---- the space of a poll

length_held : (given ms : List Content) (rest : List ℕ)
    → length (spellings (given ++ ms) ++ rest) - length (spellings given)
    ≡ length (spellings ms ++ rest)
length_held given ms rest =
    let joined : length (spellings (given ++ ms)) ≡ length (spellings given ++ spellings ms) =
    ap length (flat_map-append spelling given ms) in
    omega (
      arith,
      joined,
      length-append (spellings given) (spellings ms),
      length-append (spellings (given ++ ms)) rest,
      length-append (spellings ms) rest,
    )

held_there : WorkedOut → (f : Feeding) (came : List ℕ) (given : List Content)
    (o : Option TmlFault) → GoesOn f o came given → (reading 0 came).fault ≡ None
    → length came - length (spellings (take (length given) (reading 0 came).messages))
    ≡ length (held_octets f)
held_there law f came given (Some fault) h none =
    let read = law 0 came (given ++ h.0) h.1.0 (Some fault) h.1.1 in
    let e : Some fault ≡ None = (rw read at none) in
    absurd (cc)
held_there law f came given None h none =
    ap
    (λ (r : Reading). length came - length (spellings (take (length given) r.messages)))
    (law 0 came (given ++ f.messages) f.rest None h)
    ∙ ap (λ (ms : List Content). length came - length (spellings ms))
    (take-append_seam given f.messages)
    ∙ ap (λ (l : List ℕ). length l - length (spellings given)) h.whole
    ∙ length_held given f.messages f.rest

pub space_is : WorkedOut → (v : SessionState) (s : State) → Shows v s → (reading 0 s.came).fault
    ≡ None → space_of v.feeder ≡ poll_space s
space_is law v s h none =
    let there : held s ≡ length (held_octets v.feeder) =
    ap
    (λ (n : ℕ). length s.came - length (spellings (take n (reading 0 s.came).messages)))
    (sym h.count)
    ∙ held_there law v.feeder s.came h.given v.feeder.fault h.stands.stream none in
    ap (λ (n : ℕ). min (CAPACITY - n) longest_piece) (sym there)
