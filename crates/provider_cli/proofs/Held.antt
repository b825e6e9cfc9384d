-- The disk that is held after a command.
use Rattle.std.proofs.Common.{◌≡◌, Option, Some, None, IfSome, IsSome, IsSomeAnd, option_map}
use Rattle.std.proofs.Common.{sym, subst}
use Rattle.disk_model.specs.RawFile.{Asked}
use Rattle.disk_model.specs.FileDisk.{FileState}
use Rattle.command_words.specs.declared.commands.Plan.{Plan}
use Rattle.provider_commands.specs.Provided.{IsFileOf}

-- it is over the file that it was over before
pub held_by : (plan : Option Plan) (disk disk_now : Option (FileState Asked)) → IsSome disk
    → IfSome disk (λ found. IsFileOf plan found.file)
    → option_map (λ (d : FileState Asked). d.file) disk_now
    ≡ option_map (λ (d : FileState Asked). d.file) disk
    → IsSomeAnd disk_now (λ left. IsFileOf plan left.file)
held_by plan None disk_now some file same = absurd (cc)
held_by plan (Some found) None some file same = absurd (cc)
held_by plan (Some found) (Some left) some file same =
    let is : left.file ≡ found.file = cc in
    subst (IsFileOf plan) (sym is) file
