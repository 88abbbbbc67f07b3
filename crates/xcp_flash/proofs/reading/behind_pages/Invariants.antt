use Rattle.std.proofs.Common.{◌≡◌, ◌++◌, ℕ, List, length, map, take}
use Rattle.std.specs.List.{flat_map}
use Rattle.xcp_flash.specs.FlashFile.{page_in}
use Rattle.xcp_flash.proofs.reading.behind_pages.Given as goal

-- the pages so far, and the bytes behind them
abbrev pub invariant-loop-segment : goal.invariant-loop-segment
invariant-loop-segment l = record {
  pages : List (List ℕ);
  sized : map (λ page. length page) pages ≡ take l.segment (map (λ s. length s.bytes) l.layout.segments);
  whole : l.bytes ≡ flat_map page_in pages ++ l.rest;
}
