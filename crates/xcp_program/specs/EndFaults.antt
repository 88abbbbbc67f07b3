-- The fault with which a server ends.
use Rattle.std.specs.Prelude.{ℕ, Bool, true, false, Option, Some, None, Result, Ok, Err}
use Rattle.std.specs.Option.{option_or}
use Rattle.xcp_program.specs.ExitStatus.{exit_status}
use Rattle.xcp_program.specs.declared.fault.Fault.{Fault}
use Rattle.xcp_program.specs.declared.fault.Fault.TheVariants.{Flash, Journal, Stream}

-- the fault of lines, by whether they could be printed
abbrev pub fault_of_print : Bool → Option Fault
fault_of_print true = None
fault_of_print false = Some (Stream 2)

-- the fault of a journal's file, by whether all that belongs there could be written, and of the line that says how much stands there
abbrev pub fault_of_journal : Bool → Bool → Option Fault
fault_of_journal false printed = Some (Journal 2)
fault_of_journal true printed = fault_of_print printed

-- the fault of the file of stored pages, by whether all that belonged there could be written
abbrev pub fault_of_pages : Bool → Option Fault
fault_of_pages true = None
fault_of_pages false = Some (Flash 2)

-- A server that ends: first that it couldn't serve, or what it tells of its connections and tasks; then that its last lines couldn't be
-- printed; then the journal's file; then that of the stored pages.
abbrev pub fault_at_end : Result (Option Fault) Fault → Bool → Option Fault → Option Fault → Option Fault
fault_at_end (Err fault) printed journal pages = Some fault
fault_at_end (Ok told) printed journal pages = option_or told (option_or (fault_of_print printed) (option_or journal pages))

-- A server that stayed: first the journal's file, then that of the stored pages, then that its last lines couldn't be printed.
abbrev pub fault_at_stop : Bool → Option Fault → Option Fault → Option Fault
fault_at_stop printed journal pages = option_or journal (option_or pages (fault_of_print printed))

-- the status with which the program ends
abbrev pub status_at_end : Option Fault → ℕ
status_at_end None = 0
status_at_end (Some fault) = exit_status fault
