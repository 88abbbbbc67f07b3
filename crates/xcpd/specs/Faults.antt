-- The program's faults, by what the crates below it tell.
use Rattle.std.specs.Prelude.{ℕ, Option, Some, None, if◌then◌else◌, nat_lt, not}
use Rattle.xcp_locked.specs.declared.joining.Discord.TheVariants.{Chapter, Receipts}
use Rattle.xcp_program.specs.declared.fault.Fault.{Fault}
use Rattle.xcp_program.specs.declared.fault.Fault.TheVariants as faults
use Rattle.xcp_program.specs.EndFaults.{fault_of_pages}
use Rattle.xcp_record.specs.declared.fault.RecordFault.{RecordFault}
use Rattle.xcp_record.specs.declared.fault.RecordFault.TheVariants as records
use Rattle.xcp_scribe.specs.declared.standing.Flashing.{Flashing}
use Rattle.xcp_stay.specs.declared.unstayed.StayError.{StayError}
use Rattle.xcp_stay.specs.declared.unstayed.StayError.TheVariants as stays

-- the number of a caller as it is told: no program has as many as 255 callers
abbrev pub told_caller : ℕ → ℕ
told_caller n = if nat_lt n 256 then n else 255

-- the fault of a server that stays, where it doesn't begin or ends early
abbrev pub fault_of_stay : StayError → Fault
fault_of_stay stays.Memory = faults.Memory
fault_of_stay stays.Listener = faults.Stream 0
fault_of_stay (stays.Discord (Chapter number)) = faults.MismatchedChapter number
fault_of_stay (stays.Discord (Receipts number u)) = faults.Mismatch (told_caller u.caller) u.at

-- the fault of a journal whose head couldn't be written
abbrev pub fault_of_head : RecordFault → Fault
fault_of_head records.Memory = faults.Memory
fault_of_head fault = faults.Journal 1

-- the fault of what keeps the stored pages, if something does
abbrev pub fault_of_keeping : {F : Type 0} → Option (Flashing F) → Option Fault
fault_of_keeping None = None
fault_of_keeping (Some keeping) = fault_of_pages (not keeping.failed)
