use Rattle.std.proofs.Common.{◌≡◌, ◌++◌, take, drop}
use Rattle.std.specs.Prelude.{◌≢◌, MatchBool}
use Rattle.xcp_flash.specs.References.{kept_pages}
use Rattle.xcp_flash.proofs.references.update_each.Given as goal

-- the pages so far are the slave's, and it is known whether they were
abbrev pub invariant-loop-segment : goal.invariant-loop-segment
invariant-loop-segment l = record {
  taken : l.pages ≡ take l.segment (kept_pages l.slave) ++ drop l.segment l.initial.pages;
  told : MatchBool l.changed (take l.segment l.initial.pages ≢ take l.segment (kept_pages l.slave)) (take l.segment l.initial.pages ≡ take l.segment (kept_pages l.slave));
}
