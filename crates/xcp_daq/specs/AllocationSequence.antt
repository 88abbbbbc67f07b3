-- Which allocating command may follow which.
-- (ASAM MCD-1 XCP, protocol layer: dynamic DAQ configuration, sequence of FREE_DAQ, ALLOC_DAQ, ALLOC_ODT and
-- ALLOC_ODT_ENTRY.)
use Rattle.std.specs.Prelude.{Bool, true, false, Option, Some, None}
use Rattle.xcp_daq.specs.declared.allocation.Allocation.{Allocation}
use Rattle.xcp_daq.specs.declared.allocation.Allocation.TheVariants.{FreeDaq, AllocDaq, AllocOdt, AllocOdtEntry}

-- Whether, after the last allocating command of the session, this one may come: FREE_DAQ always, and nothing
-- else before it.
abbrev pub may_follow : Option Allocation → Allocation → Bool
may_follow None FreeDaq = true
may_follow None AllocDaq = false
may_follow None AllocOdt = false
may_follow None AllocOdtEntry = false
may_follow (Some FreeDaq) FreeDaq = true
may_follow (Some FreeDaq) AllocDaq = true
may_follow (Some FreeDaq) AllocOdt = false
may_follow (Some FreeDaq) AllocOdtEntry = false
may_follow (Some AllocDaq) FreeDaq = true
may_follow (Some AllocDaq) AllocDaq = true
may_follow (Some AllocDaq) AllocOdt = true
may_follow (Some AllocDaq) AllocOdtEntry = false
may_follow (Some AllocOdt) FreeDaq = true
may_follow (Some AllocOdt) AllocDaq = false
may_follow (Some AllocOdt) AllocOdt = true
may_follow (Some AllocOdt) AllocOdtEntry = true
may_follow (Some AllocOdtEntry) FreeDaq = true
may_follow (Some AllocOdtEntry) AllocDaq = false
may_follow (Some AllocOdtEntry) AllocOdt = false
may_follow (Some AllocOdtEntry) AllocOdtEntry = true
