-- How many events a list's channel had, by which the list is due.
-- (ASAM MCD-1 XCP, protocol layer: DAQ, event channels, prescaler.)
use Rattle.std.specs.Prelude.{ℕ, ◌+◌, ◌==◌, List, [], ◌∷◌, if◌then◌else◌}
use Rattle.xcp_slave.specs.CodesByEffect.{IsBeside, list_codes}
use Rattle.xcp_slave.specs.Outcomes.{Answer}
use Rattle.xcp_slave.specs.declared.outcome.Outcome.TheVariants as answers
use Rattle.xcp_slave.specs.declared.exchange.Exchange.{Exchange}
use Rattle.xcp_slave.specs.declared.request.Request.{Request}
use Rattle.xcp_slave.specs.declared.request.Request.TheVariants as requests

-- no command that changes lists, and no hangup
abbrev pub KeepsLists : Request → Type 0
KeepsLists requests.Hangup = ⊥
KeepsLists q = IsBeside list_codes q

-- 1 where it is an event of this channel, whether its packets had room or not
abbrev pub counted_as : ℕ → Request → Answer → ℕ
counted_as channel (requests.Event c signals) (answers.Sampled n) = if channel == c then 1 else 0
counted_as channel (requests.Event c signals) answers.Overrun = if channel == c then 1 else 0
counted_as _ _ _ = 0

-- how many events of this channel there were
abbrev pub events_of : ℕ → List Exchange → ℕ
events_of channel [] = 0
events_of channel (x ∷ xs) = counted_as channel x.request x.answer + events_of channel xs
