-- Each field is read exactly where its octets stand.
use Rattle.std.proofs.Common.{◌≡◌, ◌⊎◌, inl, inr, ℕ, zero, suc, ◌<◌, ◌≤◌, ◌^◌, true, List, [], ◌∷◌}
use Rattle.std.proofs.Common.{◌++◌, length, slice_index, IsTrue, Ok, refl, sym, ◌∙◌, ap, subst}
use Rattle.std.proofs.Common.{arith}
use Rattle.std.specs.List.{AllByRecursion}
use Rattle.std.specs.Int.{w32, to_be_bytes, from_be_bytes}
use Rattle.std.proofs.lemmas.Bool.Decides.{nat_tests}
use Rattle.std.proofs.lemmas.Nat.{be_bytes_4, from_be_bytes-to_be_bytes_4}
use Rattle.cds_time.specs.Moment.{octets_of, of_micro_octets, of_pico_octets}
use Rattle.cds_time.specs.Octets.{FieldsFit}
use Rattle.cds_time.specs.Facts.Octets.{given_by_micro, given_by_pico, given_again}
use Rattle.cds_time.specs.declared.cds.Cds.{Cds}
use Rattle.cds_time.specs.declared.cds.Rest.{Rest}
use Rattle.cds_time.specs.declared.cds.Rest.TheVariants.{Micros, Picos}
use Rattle.archive_terms.specs.Archive.{is_moment}
use Rattle.record_form.specs.declared.kind.TheConstants.{LONGEST_ANTENNA}
use Rattle.archive_terms.specs.declared.limits.TheConstants.{LONGEST_FRAME}
use Rattle.record_form.specs.Left.{Left, past}
use Rattle.record_form.specs.Spelling.{time_octets, antenna_octets, content_octets}
use Rattle.record_form.specs.Reading.{◌>>=◌, AreOctets, octets_at, judged, is_between, octet_at}
use Rattle.record_form.specs.Reading.{number_at, time_at, time_size, time_in, antenna_at}
use Rattle.record_form.specs.Reading.{content_at}
use Rattle.record_form.proofs.Steps.{bind_ok, judged_ok, Takes, takes_then, first_part, second_part}
use Rattle.record_form.proofs.Steps.{octets_first, octets_left, octets_take, octets_again}

between : (least greatest n : ℕ) → is_between least greatest n ≡ true → (least ≤ n) × (n ≤ greatest)
between least greatest n e = (grind (arith, nat_tests), grind (arith, nat_tests))

is_in : (least greatest n : ℕ) → least ≤ n → n ≤ greatest → is_between least greatest n ≡ true
is_in least greatest n low high = grind (arith, nat_tests)

one_long : (x : List ℕ) → length x ≡ 1 → x ≡ slice_index x 0 ∷ []
one_long [] e = absurd (omega arith)
one_long (octet ∷ []) e = refl
one_long (octet ∷ other ∷ x) e = absurd (omega arith)

-- ---- a number of one octet

pub octet_takes : (least greatest : ℕ) (left : Left) (n : ℕ) (new : Left)
    → octet_at least greatest left ≡ Ok (n, new)
    → Takes left (n ∷ []) new × (least ≤ n) × (n ≤ greatest)
unfolding octet_at
octet_takes least greatest left n new e =
    let field = bind_ok (octets_at 1 left) (λ field.
    judged left.place (is_between least greatest (slice_index field.0 0))
    (slice_index field.0 0, field.1)) (n, new) e in
    let value = judged_ok left.place (is_between least greatest (slice_index field.0.0 0))
    (slice_index field.0.0 0, field.0.1) (n, new) field.2 in
    let n_is : slice_index field.0.0 0 ≡ n = ap (λ (p : ℕ × Left). p.0) value.1 in
    let new_is : field.0.1 ≡ new = ap (λ (p : ℕ × Left). p.1) value.1 in
    let taken = octets_take 1 left field.0.0 field.0.1 field.1 in
    let range = between least greatest (slice_index field.0.0 0) value.0 in
    let text : field.0.0 ≡ n ∷ [] = one_long field.0.0 taken.1 ∙ ap (λ (k : ℕ). k ∷ []) n_is in (
      subst (λ (l : Left). Takes left (n ∷ []) l) new_is
          (subst (λ (t : List ℕ). Takes left t field.0.1) text taken.0),
      omega (arith, range.0, n_is),
      omega (arith, range.1, n_is),
    )

pub octet_again : (least greatest : ℕ) (left : Left) (n : ℕ) (new : Left) → Takes left (n ∷ []) new
    → least ≤ n → n ≤ greatest → octet_at least greatest left ≡ Ok (n, new)
unfolding octet_at
octet_again least greatest left n new takes low high =
    rw (octets_again 1 left (n ∷ []) new takes refl, is_in least greatest n low high) refl

-- ---- a number of four octets

pub number_takes : (least greatest : ℕ) (left : Left) (n : ℕ) (new : Left) → AreOctets left.octets
    → number_at least greatest left ≡ Ok (n, new)
    → Takes left (to_be_bytes w32 n) new × (least ≤ n) × (n ≤ greatest)
unfolding number_at
number_takes least greatest left n new all e =
    let field = bind_ok (octets_at 4 left) (λ field.
    judged left.place (is_between least greatest (from_be_bytes w32 field.0))
    (from_be_bytes w32 field.0, field.1)) (n, new) e in
    let value = judged_ok left.place (is_between least greatest (from_be_bytes w32 field.0.0))
    (from_be_bytes w32 field.0.0, field.0.1) (n, new) field.2 in
    let n_is : from_be_bytes w32 field.0.0 ≡ n = ap (λ (p : ℕ × Left). p.0) value.1 in
    let new_is : field.0.1 ≡ new = ap (λ (p : ℕ × Left). p.1) value.1 in
    let taken = octets_take 4 left field.0.0 field.0.1 field.1 in
    let range = between least greatest (from_be_bytes w32 field.0.0) value.0 in
    let text : field.0.0 ≡ to_be_bytes w32 n =
    sym (be_bytes_4 field.0.0 n taken.1 (octets_first left field.0.0 field.0.1 taken.0 all)
    (sym n_is)) in (
      subst (λ (l : Left). Takes left (to_be_bytes w32 n) l) new_is
          (subst (λ (t : List ℕ). Takes left t field.0.1) text taken.0),
      omega (arith, range.0, n_is),
      omega (arith, range.1, n_is),
    )

pub number_again : (least greatest : ℕ) (left : Left) (n : ℕ) (new : Left)
    → Takes left (to_be_bytes w32 n) new → n < 2 ^ 32 → least ≤ n → n ≤ greatest
    → number_at least greatest left ≡ Ok (n, new)
unfolding number_at
number_again least greatest left n new takes fits low high =
    rw (
      octets_again 4 left (to_be_bytes w32 n) new takes refl,
      from_be_bytes-to_be_bytes_4 n fits,
      is_in least greatest n low high,
    ) refl

-- ---- a time

all_of : (octets : List ℕ) → AreOctets octets → AllByRecursion (λ octet. octet < 256) octets
all_of [] each = tt
all_of (octet ∷ octets) each = (each 0, all_of octets (λ place. each (suc place)))

abbrev small_form : ℕ → Type 0
small_form form = (form ≡ 0) ⊎ (form ≡ 1)

form_cases : (form : ℕ) → form ≤ 1 → small_form form
form_cases zero small = inl refl
form_cases (suc zero) small = inr refl
form_cases (suc (suc form)) small = absurd (omega arith)

-- the octets of the time that stands in these fields
time_text : (form : ℕ) (fields : List ℕ) → small_form form → length fields ≡ time_size form
    → AreOctets fields → time_octets (time_in form fields) ≡ form ∷ fields
time_text form fields (inl micros) size all =
    rw micros (ap (λ (octets : List ℕ). 0 ∷ octets)
    (given_by_micro fields (all_of fields all) (size ∙ ap time_size micros)).are)
time_text form fields (inr picos) size all =
    rw picos (ap (λ (octets : List ℕ). 1 ∷ octets)
    (given_by_pico fields (all_of fields all) (size ∙ ap time_size picos)).are)

pub time_takes : (left : Left) (time : Cds) (new : Left) → AreOctets left.octets
    → time_at left ≡ Ok (time, new) → Takes left (time_octets time) new × IsTrue (is_moment time)
unfolding time_at
time_takes left time new all e =
    let form = bind_ok (octet_at 0 1 left) (λ form.
    octets_at (time_size form.0) form.1 >>= λ fields.
    judged left.place (is_moment (time_in form.0 fields.0)) (time_in form.0 fields.0, fields.1))
    (time, new) e in
    let fields = bind_ok (octets_at (time_size form.0.0) form.0.1)
    (λ fields. judged left.place (is_moment (time_in form.0.0 fields.0))
    (time_in form.0.0 fields.0, fields.1)) (time, new) form.2 in
    let value = judged_ok left.place (is_moment (time_in form.0.0 fields.0.0))
    (time_in form.0.0 fields.0.0, fields.0.1) (time, new) fields.2 in
    let time_is : time_in form.0.0 fields.0.0 ≡ time = ap (λ (p : Cds × Left). p.0) value.1 in
    let new_is : fields.0.1 ≡ new = ap (λ (p : Cds × Left). p.1) value.1 in
    let first = octet_takes 0 1 left form.0.0 form.0.1 form.1 in
    let second = octets_take (time_size form.0.0) form.0.1 fields.0.0 fields.0.1 fields.1 in
    let each = octets_first form.0.1 fields.0.0 fields.0.1 second.0
    (octets_left left (form.0.0 ∷ []) form.0.1 first.0 all) in
    let text : form.0.0 ∷ fields.0.0 ≡ time_octets time =
    sym (time_text form.0.0 fields.0.0 (form_cases form.0.0 first.2) second.1 each)
    ∙ ap time_octets time_is in (
      subst (λ (l : Left). Takes left (time_octets time) l) new_is
          (subst (λ (t : List ℕ). Takes left t fields.0.1) text
          (takes_then left (form.0.0 ∷ []) form.0.1 fields.0.0 fields.0.1 first.0 second.0)),
      subst (λ (t : Cds). IsTrue (is_moment t)) time_is value.0,
    )

abbrev made : ℕ → ℕ → Rest → Cds
made days millis rest = record { days = days; millis = millis; rest = rest }

fit_micros : (days millis n : ℕ) → IsTrue (is_moment (made days millis (Micros n)))
    → FieldsFit (made days millis (Micros n))
fit_micros days millis n is = record {
  days = grind (arith, nat_tests);
  millis = grind (arith, nat_tests);
  rest = grind (arith, nat_tests);
}

fit_picos : (days millis n : ℕ) → IsTrue (is_moment (made days millis (Picos n)))
    → FieldsFit (made days millis (Picos n))
fit_picos days millis n is = record {
  days = grind (arith, nat_tests);
  millis = grind (arith, nat_tests);
  rest = grind (arith, nat_tests);
}

good : (place : ℕ) (time : Cds) (new : Left) → IsTrue (is_moment time)
    → judged {A = Cds × Left} place (is_moment time) (time, new) ≡ Ok (time, new)
good place time new is = rw is refl

time_judged : (place : ℕ) (read time : Cds) (new : Left) → read ≡ time → IsTrue (is_moment time)
    → judged {A = Cds × Left} place (is_moment read) (read, new) ≡ Ok (time, new)
time_judged place read time new same is = subst
    (λ (t : Cds). judged {A = Cds × Left} place (is_moment t) (t, new) ≡ Ok (time, new)) (sym same)
    (good place time new is)

time_again_of : (left : Left) (days millis : ℕ) (rest : Rest) (new : Left)
    → Takes left (time_octets (made days millis rest)) new
    → IsTrue (is_moment (made days millis rest))
    → time_at left ≡ Ok (made days millis rest, new)
unfolding time_at
time_again_of left days millis (Micros n) new takes is =
    let time = made days millis (Micros n) in
    rw (
      octet_again 0 1 left 0 (past 1 left) (first_part left (0 ∷ []) (octets_of time) new takes)
          (omega arith) (omega arith),
      octets_again 8 (past 1 left) (octets_of time) new
          (second_part left (0 ∷ []) (octets_of time) new takes) refl,
    ) (time_judged left.place (of_micro_octets (octets_of time)) time new
    (given_again time (fit_micros days millis n is)) is)
time_again_of left days millis (Picos n) new takes is =
    let time = made days millis (Picos n) in
    rw (
      octet_again 0 1 left 1 (past 1 left) (first_part left (1 ∷ []) (octets_of time) new takes)
          (omega arith) (omega arith),
      octets_again 10 (past 1 left) (octets_of time) new
          (second_part left (1 ∷ []) (octets_of time) new takes) refl,
    ) (time_judged left.place (of_pico_octets (octets_of time)) time new
    (given_again time (fit_picos days millis n is)) is)

pub time_again : (left : Left) (time : Cds) (new : Left) → Takes left (time_octets time) new
    → IsTrue (is_moment time) → time_at left ≡ Ok (time, new)
time_again left time new takes is = time_again_of left time.days time.millis time.rest new takes is

-- ---- octets behind their number

pub antenna_takes : (left : Left) (antenna : List ℕ) (new : Left)
    → antenna_at left ≡ Ok (antenna, new) → Takes left (antenna_octets antenna) new
    × (1 ≤ length antenna) × (length antenna ≤ 16)
unfolding antenna_at
antenna_takes left antenna new e =
    let size = bind_ok (octet_at 1 LONGEST_ANTENNA left) (λ size. octets_at size.0 size.1) (
      antenna,
      new,
    ) e in
    let first = octet_takes 1 LONGEST_ANTENNA left size.0.0 size.0.1 size.1 in
    let second = octets_take size.0.0 size.0.1 antenna new size.2 in (
      subst (λ (n : ℕ). Takes left (n ∷ antenna) new) (sym second.1)
          (takes_then left (size.0.0 ∷ []) size.0.1 antenna new first.0 second.0),
      omega (arith, first.1, second.1),
      omega (arith, first.2, second.1),
    )

pub antenna_again : (left : Left) (antenna : List ℕ) (new : Left)
    → Takes left (antenna_octets antenna) new → 1 ≤ length antenna → length antenna ≤ 16
    → antenna_at left ≡ Ok (antenna, new)
unfolding antenna_at
antenna_again left antenna new takes some most =
    rw (octet_again 1 LONGEST_ANTENNA left (length antenna) (past 1 left)
    (first_part left (length antenna ∷ []) antenna new takes) some most)
    (octets_again (length antenna) (past 1 left) antenna new
    (second_part left (length antenna ∷ []) antenna new takes) refl)

pub content_takes : (left : Left) (octets : List ℕ) (new : Left) → AreOctets left.octets
    → content_at left ≡ Ok (octets, new)
    → Takes left (content_octets octets) new × (1 ≤ length octets) × (length octets ≤ LONGEST_FRAME)
unfolding content_at
content_takes left octets new all e =
    let size = bind_ok (number_at 1 LONGEST_FRAME left) (λ size. octets_at size.0 size.1) (
      octets,
      new,
    ) e in
    let first = number_takes 1 LONGEST_FRAME left size.0.0 size.0.1 all size.1 in
    let second = octets_take size.0.0 size.0.1 octets new size.2 in (
      subst (λ (n : ℕ). Takes left (to_be_bytes w32 n ++ octets) new) (sym second.1)
          (takes_then left (to_be_bytes w32 size.0.0) size.0.1 octets new first.0 second.0),
      omega (arith, first.1, second.1),
      omega (arith, first.2, second.1),
    )

pub content_again : (left : Left) (octets : List ℕ) (new : Left)
    → Takes left (content_octets octets) new → 1 ≤ length octets → length octets ≤ LONGEST_FRAME
    → content_at left ≡ Ok (octets, new)
unfolding content_at
content_again left octets new takes some most =
    let size = to_be_bytes w32 (length octets) in
    rw (number_again 1 LONGEST_FRAME left (length octets) (past 4 left)
    (first_part left size octets new takes) (omega arith) some most)
    (octets_again (length octets) (past 4 left) octets new (second_part left size octets new takes)
    refl)
