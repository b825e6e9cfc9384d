-- Want of memory among the answers to a TRANSFER-DATA.
use Rattle.std.specs.Prelude.{Result, Ok, Err}
use Rattle.cltu_queue.specs.declared.room.Room.{Room}
use Rattle.cltu_queue.specs.declared.cltu_fault.CltuFault.{CltuFault}
use Rattle.cltu_queue.specs.declared.cltu_fault.CltuFault.TheVariants.{Refused, Memory}

abbrev pub UnlessMemory : Result Room CltuFault → Type 0 → Type 0
UnlessMemory (Ok _) fact = fact
UnlessMemory (Err (Refused _ _)) fact = fact
UnlessMemory (Err Memory) fact = Unit {0}

abbrev pub OnMemory : Result Room CltuFault → Type 0 → Type 0
OnMemory (Ok _) fact = Unit {0}
OnMemory (Err (Refused _ _)) fact = Unit {0}
OnMemory (Err Memory) fact = fact
