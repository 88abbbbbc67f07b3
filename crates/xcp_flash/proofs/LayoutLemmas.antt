-- A layout with other reference pages.
use Rattle.std.proofs.Common.{◌≡◌, ◌<◌, ◌≤◌, ℕ, zero, suc, ◌+◌, List, [], ◌∷◌, ◌++◌, length, map, take, drop, get_or, replicate, refl, sym, ap, ◌∙◌, arith, append_assoc, take-append-drop, All}
use Rattle.std.proofs.Math.Seq.{drop-cons, take-suc-set}
use Rattle.std.proofs.lemmas.List.{drop-set-lt, get_or-map, get_or-replicate, length-map, length-set}
use Rattle.std.proofs.lemmas.List.Elements.{All-get_or}
use Rattle.std.proofs.lemmas.Simd.{map-map}
use Rattle.xcp_memory.specs.Layout.{LayoutValue, SegmentValue, IsLayout}
use Rattle.xcp_memory.specs.Pages.{PagesValue, SegmentPages, IsPages, no_pages, no_segment, opening_segment, opening_pages, segment_at}
use Rattle.xcp_memory.specs.ReferencePage.{reference_page, with_reference}
use Rattle.xcp_slave.specs.SlaveValue.{SlaveValue, layout_of}
use Rattle.xcp_flash.specs.References.{AreReferences, laid_out, references, with_references, with_references_from}

-- a segment with another reference page
abbrev pub with_page : SegmentValue → List ℕ → SegmentValue
with_page s page = record s { bytes = page }

-- segments with other reference pages, in order
abbrev pub with_pages : List (List ℕ) → List SegmentValue → List SegmentValue
with_pages [] segments = segments
with_pages (page ∷ pages) [] = []
with_pages (page ∷ pages) (s ∷ segments) = with_page s page ∷ with_pages pages segments

-- the first i segments stay, and those behind them get the pages, in order, where there are as many segments
pub segments_from : (i : ℕ) (pages : List (List ℕ)) (l : LayoutValue) → i + length pages ≤ length l.segments
    → (with_references_from i pages l).segments ≡ take i l.segments ++ with_pages pages (drop i l.segments)
segments_from i [] l fits = sym (take-append-drop i l.segments)
segments_from i (page ∷ pages) l fits =
    let segments = l.segments in
    let s = with_page (get_or segments i no_segment) page in
    let next = with_reference i page l in
    let there : i < length segments = omega arith in
    let long : length next.segments ≡ length segments = length-set segments i s in
    let room : suc i + length pages ≤ length next.segments = omega (arith, long, fits) in
    let rest : drop (suc i) next.segments ≡ drop (suc i) segments = drop-set-lt (suc i) segments i s (omega arith) in
    segments_from (suc i) pages next room
    ∙ ap (λ (xs : List SegmentValue). xs ++ with_pages pages (drop (suc i) next.segments)) (take-suc-set segments i s there)
    ∙ ap (λ (xs : List SegmentValue). (take i segments ++ s ∷ []) ++ with_pages pages xs) rest
    ∙ append_assoc (take i segments) (s ∷ []) (with_pages pages (drop (suc i) segments))
    ∙ ap (λ (xs : List SegmentValue). take i segments ++ with_pages (page ∷ pages) xs) (sym (drop-cons segments i no_segment there))

-- as many pages as segments
pub many : (pages : List (List ℕ)) (l : LayoutValue) → AreReferences pages l → length pages ≡ length l.segments
many pages l sized =
    let e = ap (λ (xs : List ℕ). length xs) sized in
    let a = length-map pages (λ (page : List ℕ). length page) in
    let b = length-map l.segments (λ (s : SegmentValue). length s.bytes) in
    omega (arith, e, a, b)

-- where the pages have the sizes of the segments, the segments of the layout with them are its own with these pages, in order
pub all_segments : (pages : List (List ℕ)) (l : LayoutValue) → AreReferences pages l → (with_references pages l).segments ≡ with_pages pages l.segments
all_segments pages l sized = segments_from 0 pages l (let e = many pages l sized in omega (arith, e))

segment_with : (pages : List (List ℕ)) (segments : List SegmentValue) (i : ℕ) → length pages ≡ length segments → i < length segments
    → get_or (with_pages pages segments) i no_segment ≡ with_page (get_or segments i no_segment) (get_or pages i [])
segment_with [] [] i long there = absurd (omega arith)
segment_with [] (s ∷ segments) i long there = absurd (omega arith)
segment_with (page ∷ pages) [] i long there = absurd (omega arith)
segment_with (page ∷ pages) (s ∷ segments) zero long there = refl
segment_with (page ∷ pages) (s ∷ segments) (suc i) long there = segment_with pages segments i (omega arith) (omega arith)

-- each segment has its page
pub each_segment : (pages : List (List ℕ)) (l : LayoutValue) (i : ℕ) → AreReferences pages l → i < length l.segments
    → get_or (with_references pages l).segments i no_segment ≡ with_page (get_or l.segments i no_segment) (get_or pages i [])
each_segment pages l i sized there =
    ap (λ (xs : List SegmentValue). get_or xs i no_segment) (all_segments pages l sized) ∙ segment_with pages l.segments i (many pages l sized) there

-- the reference page of a slave's segment has its layout's size
pub one_size : (v : PagesValue) (i : ℕ) → IsLayout v.layout → IsPages v → i < length v.segments → length (reference_page (segment_at v i)) ≡ length (get_or v.layout.segments i no_segment).bytes
one_size v i lawful is there =
    let s = get_or v.layout.segments i no_segment in
    let within : i < length v.layout.segments = omega (arith, there, is.count) in
    let paged = (All-get_or (λ (s : SegmentValue). (2 ≤ s.pages) × (s.pages ≤ 4)) v.layout.segments i no_segment within lawful.paged).0 in
    let of = is.each i there in
    All-get_or (λ (p : List ℕ). length p ≡ length s.bytes) (segment_at v i).pages 0 [] (omega (arith, paged, of.count)) of.sized

-- where each segment's page has its layout segment's size, the pages' sizes are the segments'
pub same_sizes : (page_of : SegmentPages → List ℕ) (pages : List SegmentPages) (segments : List SegmentValue) → length pages ≡ length segments
    → ((i : ℕ) → i < length pages → length (page_of (get_or pages i no_pages)) ≡ length (get_or segments i no_segment).bytes)
    → map (λ (p : List ℕ). length p) (map page_of pages) ≡ map (λ (s : SegmentValue). length s.bytes) segments
same_sizes page_of [] [] long each = refl
same_sizes page_of [] (s ∷ segments) long each = absurd (omega arith)
same_sizes page_of (p ∷ pages) [] long each = absurd (omega arith)
same_sizes page_of (p ∷ pages) (s ∷ segments) long each =
    ap (λ (n : ℕ). n ∷ map (λ (q : List ℕ). length q) (map page_of pages)) (each 0 (omega arith))
    ∙ ap (λ (ns : List ℕ). length s.bytes ∷ ns) (same_sizes page_of pages segments (omega arith) (λ i k. each (suc i) (omega arith)))

-- so they are reference pages of the layout
pub sized : (v : SlaveValue) → IsLayout (layout_of v) → IsPages v.transfer.pages → AreReferences (references v) (layout_of v)
sized v lawful is = same_sizes reference_page v.transfer.pages.segments (layout_of v).segments is.count (λ i there. one_size v.transfer.pages i lawful is there)

count_with : (pages : List (List ℕ)) (segments : List SegmentValue) → length pages ≡ length segments → length (with_pages pages segments) ≡ length segments
count_with [] segments long = refl
count_with (page ∷ pages) [] long = refl
count_with (page ∷ pages) (s ∷ segments) long = ap suc (count_with pages segments (omega arith))

-- there are as many segments as before
restored_count : (pages : List (List ℕ)) (l : LayoutValue) → AreReferences pages l → length (with_references pages l).segments ≡ length l.segments
restored_count pages l right = ap (λ (xs : List SegmentValue). length xs) (all_segments pages l right) ∙ count_with pages l.segments (many pages l right)

-- restored, each page of a segment begins with them
pub restored : (v : SlaveValue) (i : ℕ) → IsLayout (layout_of v) → IsPages v.transfer.pages → i < length (layout_of v).segments
    → (segment_at (opening_pages (with_references (references v) (layout_of v))) i).pages ≡ replicate (get_or (layout_of v).segments i no_segment).pages (reference_page (segment_at v.transfer.pages i))
restored v i lawful is there =
    let l = layout_of v in
    let new = with_references (references v) l in
    let right = sized v lawful is in
    let long : length new.segments ≡ length l.segments = restored_count (references v) l right in
    let here : i < length v.transfer.pages.segments = omega (arith, there, is.count) in
    ap (λ (s : SegmentPages). s.pages) (get_or-map opening_segment new.segments i no_segment no_pages (omega (arith, there, long)))
    ∙ ap (λ (s : SegmentValue). replicate s.pages s.bytes) (each_segment (references v) l i right there)
    ∙ ap (λ (page : List ℕ). replicate (get_or l.segments i no_segment).pages page) (get_or-map reference_page v.transfer.pages.segments i no_pages [] here)

opened : (pages : List (List ℕ)) (segments : List SegmentValue) → length pages ≡ length segments → All (λ s. (2 ≤ s.pages) × (s.pages ≤ 4)) segments
    → map reference_page (map opening_segment (with_pages pages segments)) ≡ pages
opened [] [] long paged = refl
opened [] (s ∷ segments) long paged = absurd (omega arith)
opened (page ∷ pages) [] long paged = absurd (omega arith)
opened (page ∷ pages) (s ∷ segments) long paged =
    let least = (paged 0 s (omega arith)).0 in
    ap (λ (p : List ℕ). p ∷ map reference_page (map opening_segment (with_pages pages segments))) (get_or-replicate s.pages 0 page [] (omega (arith, least)))
    ∙ ap (λ (ps : List (List ℕ)). page ∷ ps) (opened pages segments (omega arith) (λ k d there. paged (suc k) d (omega arith)))

-- and a slave that is opened then has these reference pages
pub again : (pages : List (List ℕ)) (l : LayoutValue) → IsLayout l → AreReferences pages l → map reference_page (map opening_segment (with_references pages l).segments) ≡ pages
again pages l lawful right = ap (λ (xs : List SegmentValue). map reference_page (map opening_segment xs)) (all_segments pages l right) ∙ opened pages l.segments (many pages l right) lawful.paged

-- the pages of a layout have its sizes
pub laid_out_sized : (pages : List (List ℕ)) (l : LayoutValue) → pages ≡ laid_out l → AreReferences pages l
laid_out_sized pages l is = ap (λ (ps : List (List ℕ)). map (λ (p : List ℕ). length p) ps) is ∙ map-map (λ (p : List ℕ). length p) (λ (s : SegmentValue). s.bytes) l.segments
