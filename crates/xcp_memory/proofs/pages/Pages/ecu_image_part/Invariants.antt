use Rattle.std.proofs.Common.{◌≡◌, ◌≢◌, length, take}
use Rattle.std.specs.Prelude.{MatchBool}
use Rattle.std.specs.List.{flat_map}
use Rattle.xcp_memory.specs.Pages.{ecu_page}
use Rattle.xcp_memory.proofs.ImagePartLemmas.{IsLaid}
use Rattle.xcp_memory.proofs.pages.Pages.ecu_image_part.Given as goal

abbrev pub invariant-loop-segment : goal.invariant-loop-segment
invariant-loop-segment l = record {
  laid : IsLaid l.at (length l.fn.out) (flat_map ecu_page (take l.segment-index l.segment-items)) l.before l.done l.fn.out l.out;
  differs : MatchBool l.differs (l.out ≢ l.fn.out) (l.out ≡ l.fn.out);
}
