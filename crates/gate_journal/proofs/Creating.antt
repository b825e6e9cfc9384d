-- A new journal on an empty disk.
use Rattle.std.proofs.Common.{◌≡◌, ℕ, ◌≤◌, List, [], ◌∷◌, ◌++◌, length, Option, Some, None}
use Rattle.std.proofs.Common.{IfSome, option_map, Result, Ok, Err, OnOk, is_err, false, refl, sym}
use Rattle.std.proofs.Common.{ap, ◌∙◌, arith}
use Rattle.std.proofs.lemmas.List.{nil_from_length, length-append}
use Rattle.disk_model.specs.Images.{Pending, with_range}
use Rattle.disk_model.specs.Images.{written_and_synced}
use Rattle.disk_model.specs.Moments.{IsImageOf}
use Rattle.archive_terms.specs.Archive.{Entry}
use Rattle.gate_journal.specs.File.{header, gated, joined, StandsAt}
use Rattle.gate_journal.specs.JournalState.{Keeps, IsAtRest, IsBegun}

abbrev pub new_octets : List ℕ
new_octets = header ++ 0 ∷ []

new_stands : StandsAt [] 8 new_octets
new_stands = record {
  batches = [];
  gate = 0;
  rest = [];
  leads = record { each = tt; entries_are = refl; archive = refl; there = refl };
  shut = λ same. cc;
  is = refl;
}

no_batches : (batches : List (List Entry)) → length (gated batches) ≡ 0 → joined batches ≡ []
no_batches [] none = refl
no_batches (batch ∷ batches) none = absurd (omega (arith, none))

-- a file that is no longer than a new journal has no room for a batch
begun : (image : List ℕ) → length image ≤ 9 → IsBegun image
begun image short = record {
  no_longer = short;
  no_entries = λ entries is. let stands = is.1 in stands.leads.entries_are
      ∙ no_batches stands.batches (omega (
        arith,
        short,
        ap length stands.is,
        length-append (gated stands.batches) (stands.gate ∷ stands.rest),
      ));
}

pub begun_now : (pending : Option Pending) → IfSome pending (λ told. told.greatest ≤ 9)
    → (image : List ℕ) → IsImageOf pending image → IsBegun image
begun_now (Some told) short image is = begun image (omega (arith, is.no_longer, short))
begun_now None short image is = absurd is

pub begun_during : (pending : Option Pending) → IfSome pending (λ told. told.greatest ≤ 9)
    → (image : List ℕ) → IsImageOf (option_map (with_range 0 9 []) pending) image → IsBegun image
begun_during (Some told) short image is = begun image (omega (arith, is.no_longer, short))
begun_during None short image is = absurd is

-- what is written to an empty disk is kept, and rests
pub new_there : (old new : Option Pending) (extent : ℕ)
    → IfSome old (λ told. extent ≡ length told.content) → extent ≡ 0
    → new ≡ option_map (written_and_synced 0 new_octets) old
    → IfSome old (λ _. Keeps new []) × IsAtRest new 8
new_there (Some told) new extent size empty is =
    let none = nil_from_length told.content (sym size ∙ empty) in
    rw (is, none) ((refl, (8, new_stands)), (refl, [], new_stands))
new_there None new extent size empty is = rw is (tt, tt)

-- what follows from the success follows where there was no error
pub if_good : {T E P : Type 0} → (result : Result T E) → is_err result ≡ false → OnOk result P → P
if_good (Ok value) good fact = fact
if_good (Err error) good fact = absurd (cc)
