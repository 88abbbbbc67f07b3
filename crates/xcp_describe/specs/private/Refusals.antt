-- Why the tables of a layout file aren't read.
use Rattle.std.specs.Prelude.{◌≡◌, ◌⊎◌, ⊤, Option, Some}
use Rattle.xcp_program.specs.declared.fault.Fault.TheVariants.{Memory}
use Rattle.xcp_describe.specs.declared.refusal.DescribeError.{DescribeError}
use Rattle.xcp_describe.specs.declared.refusal.DescribeError.TheVariants.{Host, Program, Parameter, Measurement}
use Rattle.xcp_describe.specs.Findings.{IsEntryFault}

-- an entry is refused, or an allocation failed
abbrev pub IsEntryOrMemory : DescribeError → Type 0
IsEntryOrMemory Host = ⊥
IsEntryOrMemory (Program fault) = fault ≡ Memory
IsEntryOrMemory (Parameter number why) = ⊤
IsEntryOrMemory (Measurement number why) = ⊤

-- memory ran out, or an entry is refused with the first fault that there is
abbrev pub RefusesEntry : Option DescribeError → DescribeError → Type 0
RefusesEntry first e = (e ≡ Program Memory) ⊎ (IsEntryFault e × (first ≡ Some e))
