-- How a server that stays is planned.
use Rattle.std.specs.Prelude.{◌≡◌, ℕ, ◌*◌, option_map}
use Rattle.std.specs.Duration.{as_nanos}
use Rattle.xcp_memory.specs.Layout.{LayoutValue}
use Rattle.xcp_program.specs.Periods.{periods_of}
use Rattle.xcp_program.specs.declared.staying.Staying.{Staying}
use Rattle.xcp_stay.specs.declared.staying.Plan.{Plan}

-- the nanoseconds of so many seconds
abbrev pub nanos_of : ℕ → ℕ
nanos_of seconds = seconds * 1000000000

-- The plan of a server that is asked to stay so, on a slave of this layout: the periods of its tasks are those of the layout's channels at a
-- pace, its times are in seconds, and all else is as it is asked for.
pub record IsPlanned (asked : Staying) (layout : LayoutValue) (plan : Plan) : Type 0 where
  pub tools : plan.tools ≡ asked.tools
  pub tasks : plan.tasks ≡ asked.tasks
  pub periods : plan.periods ≡ periods_of layout asked.pace asked.period
  pub patience : as_nanos plan.times.patience ≡ nanos_of asked.patience
  pub idle : option_map as_nanos plan.times.idle ≡ option_map nanos_of asked.idle
  pub queue : plan.queue ≡ asked.queue
  pub cut_every : plan.cut_every ≡ asked.cut_every
  pub keeps_pages : plan.keeps_pages ≡ asked.keeps_pages
