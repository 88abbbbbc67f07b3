use Rattle.std.proofs.Common.{◌≡◌, ◌++◌, ℕ, List, length, map, drop}
use Rattle.std.specs.List.{flat_map}
use Rattle.xcp_flash.specs.FlashFile.{page_in}
use Rattle.xcp_flash.specs.References.{with_references, with_references_from}
use Rattle.xcp_flash.specs.private.Reading.{BeginsWithPages}
use Rattle.xcp_flash.proofs.reading.set_pages.Given as goal

-- what is left of the pages makes the layout whole
abbrev pub invariant-loop-segment : goal.invariant-loop-segment
invariant-loop-segment l = record {
  sizes : map (λ s. length s.bytes) l.layout.segments ≡ map (λ s. length s.bytes) l.initial.layout.segments;
  left : (pages : List (List ℕ)) (more : List ℕ) → BeginsWithPages l.initial.layout l.bytes pages more
      → (tail : List (List ℕ)) × (map (λ page. length page) tail ≡ drop l.segment (map (λ s. length s.bytes) l.initial.layout.segments))
      × (l.rest ≡ flat_map page_in tail ++ more)
      × (with_references_from l.segment tail l.layout ≡ with_references pages l.initial.layout);
}
