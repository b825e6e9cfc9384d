-- The entries of script lines: which are valid, and which lines they have.
use Rattle.std.proofs.Common.{◌≡◌, ℕ, ◌≤◌, List, IsTrue, Some, Result, Ok, Err, arith}
use Rattle.std.proofs.lemmas.Bool.Decides.{nat_tests}
use Rattle.std.specs.Prelude.{IfOk}
use Rattle.archive_terms.specs.Archive.{is_moment, is_valid, is_storable}
use Rattle.cds_time.specs.declared.cds.Cds.{Cds}
use Rattle.cds_time.specs.declared.cds.Rest.{Rest}
use Rattle.cds_time.specs.declared.cds.Rest.TheVariants.{Micros, Picos}
use Rattle.record_form.specs.Entry.{entry_of}
use Rattle.record_form.specs.declared.entry.Entry.{Entry}
use Rattle.record_form.specs.declared.entry.Entry.TheVariants.{Frame, LossOfSync, Production, Seal}
use Rattle.sle_numbers.specs.FrameQuality.{number_of as quality_number}
use Rattle.sle_numbers.specs.LockStatus.{number_of as lock_number}
use Rattle.sle_numbers.specs.ReturnProductionStatus.{number_of as production_number}
use Rattle.sle_numbers.specs.declared.frame_quality.FrameQuality.{FrameQuality}
use Rattle.sle_numbers.specs.declared.frame_quality.FrameQuality.TheVariants as quality
use Rattle.sle_numbers.specs.declared.lock_status.LockStatus.{LockStatus}
use Rattle.sle_numbers.specs.declared.lock_status.LockStatus.TheVariants as lock
use Rattle.sle_numbers.specs.declared.return_production_status.ReturnProductionStatus.{ReturnProductionStatus}
use Rattle.sle_numbers.specs.declared.return_production_status.ReturnProductionStatus.TheVariants as production
use Rattle.words.specs.Times.{time, rest}
use Rattle.drill_text.proofs.Scripts.{lines_are_exact}
use Rattle.drill_text.specs.Reading.{reading, canonical, Fits, HasOctets, HasValidEntry, Reads}
use Rattle.drill_text.specs.declared.line_fault.LineFault.{LineFault}
use Rattle.drill_text.specs.declared.script_line.ScriptLine.{ScriptLine}
use Rattle.drill_text.specs.declared.script_line.ScriptLine.TheVariants.{Offer}

abbrev made : ℕ → ℕ → Rest → Cds
made days millis rest = record { days = days; millis = millis; rest = rest }

moment_micros : (days millis n : ℕ) → days ≤ 65535 → millis ≤ 86399999 → n ≤ 999
    → IsTrue (is_moment (made days millis (Micros n)))
moment_micros days millis n d m r = grind (arith, nat_tests)

moment_picos : (days millis n : ℕ) → days ≤ 65535 → millis ≤ 86399999 → n ≤ 999999999
    → IsTrue (is_moment (made days millis (Picos n)))
moment_picos days millis n d m r = grind (arith, nat_tests)

moment_of_fields : (days millis : ℕ) (r : Rest) → days ≤ 65535 → millis ≤ 86399999 → rest.Fits r
    → IsTrue (is_moment (made days millis r))
moment_of_fields days millis (Micros n) d m fits = moment_micros days millis n d m fits.1
moment_of_fields days millis (Picos n) d m fits = moment_picos days millis n d m fits.1

time_moment : (at : Cds) → time.Fits at → IsTrue (is_moment at)
time_moment at fits = moment_of_fields at.days at.millis at.rest fits.0.1 fits.1.0.1 fits.1.1

fields_micros : (days millis n : ℕ) → IsTrue (is_moment (made days millis (Micros n)))
    → (days ≤ 65535) × (millis ≤ 86399999) × (n ≤ 999)
fields_micros days millis n is = (
  grind (arith, nat_tests),
  grind (arith, nat_tests),
  grind (arith, nat_tests),
)

fields_picos : (days millis n : ℕ) → IsTrue (is_moment (made days millis (Picos n)))
    → (days ≤ 65535) × (millis ≤ 86399999) × (n ≤ 999999999)
fields_picos days millis n is = (
  grind (arith, nat_tests),
  grind (arith, nat_tests),
  grind (arith, nat_tests),
)

fields_of_moment : (days millis : ℕ) (r : Rest) → IsTrue (is_moment (made days millis r))
    → time.Fits (made days millis r)
fields_of_moment days millis (Micros n) is = let h = fields_micros days millis n is in
    ((omega arith, h.0), ((omega arith, h.1), (omega arith, h.2)))
fields_of_moment days millis (Picos n) is = let h = fields_picos days millis n is in
    ((omega arith, h.0), ((omega arith, h.1), (omega arith, h.2)))

moment_time : (at : Cds) → IsTrue (is_moment at) → time.Fits at
moment_time at is = fields_of_moment at.days at.millis at.rest is

quality_small : (q : FrameQuality) → quality_number q ≤ 2
quality_small quality.Good = omega arith
quality_small quality.Erred = omega arith
quality_small quality.Undetermined = omega arith

lock_small : (l : LockStatus) → lock_number l ≤ 3
lock_small lock.InLock = omega arith
lock_small lock.OutOfLock = omega arith
lock_small lock.NotInUse = omega arith
lock_small lock.Unknown = omega arith

production_small : (p : ReturnProductionStatus) → production_number p ≤ 2
production_small production.Running = omega arith
production_small production.Interrupted = omega arith
production_small production.Halted = omega arith

-- what fits a line is valid
entry_valid : (e : Entry) → Fits (Offer e) → IsTrue (is_valid (entry_of e))
entry_valid (Frame ert quality antenna lost octets) fits =
    let at = time_moment ert fits.0 in
    let antenna_some = fits.1.1.0.some in
    let antenna_few = fits.1.1.0.few in
    let octets_some = fits.1.1.1.1.some in
    let small = quality_small quality in
    grind (arith, nat_tests)
entry_valid (LossOfSync at carrier subcarrier symbol) fits = let is = time_moment at fits.0 in
    grind (arith, nat_tests, lock_small carrier, lock_small subcarrier, lock_small symbol)
entry_valid (Production status) fits = grind (arith, nat_tests, production_small status)
entry_valid (Seal at) fits = time_moment at fits

line_valid : (says : ScriptLine) → Fits says → HasValidEntry says
line_valid (Offer e) fits = entry_valid e fits
line_valid _ fits = tt

pub reads_fit : (text : List ℕ) (result : Result ScriptLine LineFault) → Reads result (reading text)
    → IfOk result Fits
reads_fit text (Ok says) e = ((lines_are_exact.read text says).0 e).0
reads_fit text (Err why) e = tt

pub reads_valid : (text : List ℕ) (result : Result ScriptLine LineFault)
    → Reads result (reading text) → IfOk result HasValidEntry
reads_valid text (Ok says) e = line_valid says ((lines_are_exact.read text says).0 e).0
reads_valid text (Err why) e = tt

-- what may be stored has a line
pub storable_fits : (e : Entry) → IsTrue (is_storable (entry_of e)) → HasOctets e → Fits (Offer e)
storable_fits (Frame ert quality antenna lost octets) is all =
    let at : IsTrue (is_moment ert) = grind (arith, nat_tests) in (
      moment_time ert at,
      (
        tt,
        (
          record { some = grind (arith, nat_tests); few = grind (arith, nat_tests); each = all.0 },
          (
            (omega arith, grind (arith, nat_tests)),
            record {
              some = grind (arith, nat_tests);
              few = grind (arith, nat_tests);
              each = all.1;
            },
          ),
        ),
      ),
    )
storable_fits (LossOfSync at carrier subcarrier symbol) is all =
    let moment : IsTrue (is_moment at) = grind (arith, nat_tests) in
    (moment_time at moment, (tt, (tt, tt)))
storable_fits (Production status) is all = tt
storable_fits (Seal at) is all = moment_time at (grind (arith, nat_tests))

pub storable_back : (e : Entry) → IsTrue (is_storable (entry_of e)) → HasOctets e
    → reading (canonical (Offer e)) ≡ Some (Offer e)
storable_back e is all = lines_are_exact.back (Offer e) (storable_fits e is all)
