-- Which requests tell no time.
-- (ASAM MCD-1 XCP, protocol layer: time stamps.)
use Rattle.xcp_slave.specs.declared.request.Request.{Request}
use Rattle.xcp_slave.specs.declared.request.Request.TheVariants as requests

-- the request tells no time
abbrev pub IsTimeless : Request → Type 0
IsTimeless (requests.Time time) = ⊥
IsTimeless _ = Unit {0}
