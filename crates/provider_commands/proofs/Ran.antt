-- What came of a run, by whether its workers were started.
use Rattle.std.proofs.Common.{◌≡◌, ◌∙◌, ℕ, List, [], ◌++◌, length, take, drop, Option, Some}
use Rattle.std.proofs.Common.{None, IfSome, sym, subst, ap, append-nil, arith, inl, inr, option_map}
use Rattle.disk_model.specs.Images.{Pending}
use Rattle.disk_model.specs.Calls.{OnlyCalls, no_calls}
use Rattle.disk_model.specs.declared.call.Call.{Call as DiskCall}
use Rattle.station_run.specs.Ran.{LeavesDisk}
use Rattle.station_run.specs.declared.report.StartFault.{StartFault}
use Rattle.run_command.specs.Ends.{NotStarted}
use Rattle.run_command.specs.declared.status.RunStatus.{RunStatus}
use Rattle.std.proofs.lemmas.List.{drop_all, take_all}
use Rattle.std.specs.Prelude.{IfNone}

-- what follows from either holds
pub by_passes : {P : Type 0} (passes : Option P) (IsSo : P → Type 0) (Else Goal : Type 0)
    → IfSome passes IsSo → IfNone passes Else → ((pass : P) → IsSo pass → Goal) → (Else → Goal)
    → Goal
by_passes (Some pass) IsSo Else Goal so else by_so by_else = by_so pass so
by_passes None IsSo Else Goal so else by_so by_else = by_else else

-- what holds of a pass on the disk that was taken holds on the one that was there
pub started_on : {D P : Type 0} (disk : Option D) (taken : D) (passes : Option P)
    (First : P → Type 0) (IsSo : D → P → Type 0) → disk ≡ Some taken
    → ((pass : P) → First pass → IsSo taken pass) → IfSome passes First
    → IfSome disk (λ found. IfSome passes (IsSo found))
started_on None taken passes First IsSo is so told = absurd cc
started_on (Some disk) taken None First IsSo is so told = tt
started_on (Some disk) taken (Some pass) First IsSo is so told =
    subst (λ found. IfSome found (λ disk. IsSo disk pass)) (sym is) (so pass told)

-- so does what holds where there is none
pub not_started_on : {D P : Type 0} (disk : Option D) (taken : D) (passes : Option P)
    (First Second : Type 0) (IsSo : D → Type 0) → disk ≡ Some taken
    → (First → Second → IsSo taken) → IfNone passes First → IfNone passes Second
    → IfSome disk (λ found. IfNone passes (IsSo found))
not_started_on None taken passes First Second IsSo is so told more = absurd cc
not_started_on (Some disk) taken (Some pass) First Second IsSo is so told more = tt
not_started_on (Some disk) taken None First Second IsSo is so told more =
    subst (λ found. IfSome found IsSo) (sym is) (so told more)

-- the disk is handed back, with all that stayed
pub back_so : {D T : Type 0} (of : D → T) (old : Option D) (taken left : D) → old ≡ Some taken
    → of left ≡ of taken → option_map of (Some left) ≡ option_map of old
back_so of old taken left is same = ap Some same ∙ ap (option_map of) (sym is)

-- where the workers weren't started either
pub unstarted_calls : {D : Type 0} (pending : D → Option Pending) (faults moment : D → ℕ)
    (images_since : D → ℕ → List ℕ → Type 0) (makes fails : D → DiskCall → D → Type 0)
    (fails_to_read : D → D → Type 0) (left : Option (List ℕ)) (before after : ℕ)
    (disk disk_now : D) (own : RunStatus)
    → ((fault : StartFault) (old new : D)
    → LeavesDisk pending moment images_since makes fails fails_to_read fault old new
    → OnlyCalls makes fails fails_to_read old new)
    → NotStarted pending faults moment images_since makes fails fails_to_read left before after
    disk disk_now own
    → OnlyCalls makes fails fails_to_read disk disk_now
unstarted_calls pending faults moment images_since makes fails fails_to_read left before after disk
    disk_now own law (inl no_site) =
    no_calls makes fails fails_to_read disk disk_now no_site.1
unstarted_calls pending faults moment images_since makes fails fails_to_read left before after disk
    disk_now own law (inr refused) = law refused.1 disk disk_now refused.6

-- a slice of a whole vector that was lent and changed is the vector then
pub put_back : {A : Type 0} (n : ℕ) (xs ys : List A) → length xs ≡ n → length xs ≡ length ys
    → take n (xs ++ drop (length xs) ys) ≡ xs
put_back n xs ys is same =
    let none : drop (length xs) ys ≡ [] = drop_all (length xs) ys (omega (arith, same)) in
    ap (λ rest. take n (xs ++ rest)) none ∙ ap (take n) (append-nil xs)
    ∙ take_all n xs (omega (arith, is))

-- what is made of a part that is named in it more than once
pub made_of : {X Y : Type 0} → (X → Y) → X → Y
made_of make x = make x
