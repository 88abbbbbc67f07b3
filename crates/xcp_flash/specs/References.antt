-- The reference pages of a slave and of a layout, one for each segment.
use Rattle.std.specs.Prelude.{◌≡◌, ℕ, suc, List, [], ◌∷◌, length, map}
use Rattle.xcp_memory.specs.Layout.{LayoutValue}
use Rattle.xcp_memory.specs.ReferencePage.{reference_page, with_reference}
use Rattle.xcp_slave.specs.SlaveValue.{SlaveValue}
use Rattle.xcp_slave.specs.StoredPages.{kept_page}

-- the reference pages of a slave, in order
abbrev pub references : SlaveValue → List (List ℕ)
references v = map reference_page v.transfer.pages.segments

-- those that it will have once what a tool asked for is stored
abbrev pub kept_pages : SlaveValue → List (List ℕ)
kept_pages v = map (kept_page v) v.transfer.pages.segments

-- those of a layout
abbrev pub laid_out : LayoutValue → List (List ℕ)
laid_out l = map (λ s. s.bytes) l.segments

-- they are as many as the layout has segments, and each has its segment's length
abbrev pub AreReferences : List (List ℕ) → LayoutValue → Type 0
AreReferences pages l = map (λ page. length page) pages ≡ map (λ s. length s.bytes) l.segments

-- the layout in which these are the reference pages of the segments from i on, one after the other
abbrev pub with_references_from : ℕ → List (List ℕ) → LayoutValue → LayoutValue
with_references_from i [] l = l
with_references_from i (page ∷ pages) l = with_references_from (suc i) pages (with_reference i page l)

-- the layout in which these are the reference pages of its segments
abbrev pub with_references : List (List ℕ) → LayoutValue → LayoutValue
with_references pages l = with_references_from 0 pages l
