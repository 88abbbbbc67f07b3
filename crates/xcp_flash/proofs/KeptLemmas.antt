-- The pages that are kept of a slave: their sizes, and that they are those behind a store.
use Rattle.std.proofs.Common.{◌≡◌, ◌<◌, ◌≤◌, ℕ, suc, List, [], ◌∷◌, length, map, get_or, refl, ap, sym, ◌∙◌, arith}
use Rattle.std.specs.Prelude.{Bool, true, false, ◌&&◌, MatchBool, if◌then◌else◌, nat_le}
use Rattle.std.proofs.lemmas.List.{get_or-set_same}
use Rattle.std.proofs.lemmas.List.Elements.{All-get_or}
use Rattle.xcp_memory.specs.Freeze.{segment_frozen, stored_page}
use Rattle.xcp_memory.specs.Layout.{IsLayout, SegmentValue}
use Rattle.xcp_memory.specs.PageCopy.{with_content}
use Rattle.xcp_memory.specs.Pages.{IsPages, PagesValue, SegmentPages, no_pages, no_segment, segment_at, xcp_page}
use Rattle.xcp_memory.specs.ReferencePage.{reference_page}
use Rattle.xcp_slave.specs.Outcomes.{Answer}
use Rattle.xcp_slave.specs.SlaveValue.{SlaveValue, layout_of}
use Rattle.xcp_slave.specs.Step.{Answers, Stores, outbox_size, stored}
use Rattle.xcp_slave.specs.StoredPages.{kept_page}
use Rattle.xcp_slave.specs.declared.outcome.Outcome.TheVariants as answers
use Rattle.xcp_slave.specs.declared.request.Request.TheVariants as requests
use Rattle.xcp_flash.specs.References.{AreReferences, kept_pages, references}
use Rattle.xcp_flash.proofs.LayoutLemmas.{one_size, same_sizes}

-- each segment has a reference page
some_page : (v : PagesValue) (i : ℕ) → IsLayout v.layout → IsPages v → i < length v.segments → 0 < length (segment_at v i).pages
some_page v i lawful is there =
    let within : i < length v.layout.segments = omega (arith, there, is.count) in
    let paged = (All-get_or (λ (s : SegmentValue). (2 ≤ s.pages) × (s.pages ≤ 4)) v.layout.segments i no_segment within lawful.paged).0 in
    omega (arith, paged, (is.each i there).count)

-- the page that the tool has is of its segment's size
tool_size : (v : PagesValue) (i : ℕ) → IsPages v → i < length v.segments → length (xcp_page (segment_at v i)) ≡ length (get_or v.layout.segments i no_segment).bytes
tool_size v i is there =
    let of = is.each i there in
    All-get_or (λ (p : List ℕ). length p ≡ length (get_or v.layout.segments i no_segment).bytes) (segment_at v i).pages (segment_at v i).xcp [] of.xcp of.sized

-- of two pages of the same size one is taken
either : (b : Bool) (p q : List ℕ) (n : ℕ) → length p ≡ n → length q ≡ n → length (if b then p else q) ≡ n
either true p q n one two = one
either false p q n one two = two

kept_size : (v : SlaveValue) (i : ℕ) → IsLayout (layout_of v) → IsPages v.transfer.pages → i < length v.transfer.pages.segments
    → length (kept_page v (segment_at v.transfer.pages i)) ≡ length (get_or (layout_of v).segments i no_segment).bytes
kept_size v i lawful is there =
    let s = segment_at v.transfer.pages i in
    let n = length (get_or (layout_of v).segments i no_segment).bytes in
    let own = one_size v.transfer.pages i lawful is there in
    either v.store (stored_page s) (reference_page s) n (either s.freeze (xcp_page s) (reference_page s) n (tool_size v.transfer.pages i is there) own) own

-- the pages that are kept have the sizes of the layout's segments
pub kept_sized : (v : SlaveValue) → IsLayout (layout_of v) → IsPages v.transfer.pages → AreReferences (kept_pages v) (layout_of v)
kept_sized v lawful is = same_sizes (kept_page v) v.transfer.pages.segments (layout_of v).segments is.count (λ i there. kept_size v i lawful is there)

-- where no store is requested each segment's own page is kept
own_page : (v : SlaveValue) (segments : List SegmentPages) → v.store ≡ false → map (kept_page v) segments ≡ map reference_page segments
own_page v [] none = refl
own_page v (s ∷ segments) none =
    ap (λ (b : Bool). (if b then stored_page s else reference_page s) ∷ map (kept_page v) segments) none
    ∙ ap (λ (ps : List (List ℕ)). reference_page s ∷ ps) (own_page v segments none)

-- where no store is requested, the reference pages are kept
pub others_kept : (v : SlaveValue) → v.store ≡ false → kept_pages v ≡ references v
others_kept v none = own_page v v.transfer.pages.segments none

-- what a store leaves of a segment
frozen_page : (b : Bool) (s : SegmentPages) → 0 < length s.pages
    → reference_page (if b then with_content s 0 (xcp_page s) else s) ≡ (if b then xcp_page s else reference_page s)
frozen_page true s some = get_or-set_same s.pages 0 (xcp_page s) [] some
frozen_page false s some = refl

frozen_pages : (v : SlaveValue) (segments : List SegmentPages) → v.store ≡ true → ((i : ℕ) → i < length segments → 0 < length (get_or segments i no_pages).pages)
    → map reference_page (map segment_frozen segments) ≡ map (kept_page v) segments
frozen_pages v [] asked some = refl
frozen_pages v (s ∷ segments) asked some =
    ap (λ (p : List ℕ). p ∷ map reference_page (map segment_frozen segments)) (frozen_page s.freeze s (some 0 (omega arith)))
    ∙ ap (λ (b : Bool). (if b then stored_page s else reference_page s) ∷ map reference_page (map segment_frozen segments)) (sym asked)
    ∙ ap (λ (ps : List (List ℕ)). kept_page v s ∷ ps) (frozen_pages v segments asked (λ i k. some (suc i) (omega arith)))

-- who was told that so much was stored had asked for it, and the pages are stored
record WasStored (v w : SlaveValue) : Type 0 where
  pub asked : v.store ≡ true
  pub is : w ≡ stored v

told_stored : (b : Bool) (v w : SlaveValue) (n k : ℕ)
    → MatchBool b ((◌≡◌ {A = Answer} (answers.Stored n) answers.Later) × (w ≡ v)) ((◌≡◌ {A = Answer} (answers.Stored n) (answers.Stored k)) × (w ≡ stored v)) → w ≡ stored v
told_stored true v w n k h = let e = h.0 in cc
told_stored false v w n k h = h.1

was_stored : (b : Bool) (v w : SlaveValue) (n : ℕ) → v.store ≡ b
    → MatchBool b (Stores v (answers.Stored n) w) ((◌≡◌ {A = Answer} (answers.Stored n) answers.NoStore) × (w ≡ v)) → WasStored v w
was_stored true v w n asked h = record { asked = asked; is = told_stored (v.connected && nat_le (outbox_size v) (length v.outbox)) v w n _ h }
was_stored false v w n asked h = let e = h.0 in cc

-- once it is told that so much was stored, the reference pages are those that were kept before
pub store_leaves : (v w : SlaveValue) (n : ℕ) → IsLayout (layout_of v) → IsPages v.transfer.pages
    → Answers v requests.FinishStore (answers.Stored n) w → references w ≡ kept_pages v
store_leaves v w n lawful is h =
    let was = was_stored v.store v w n refl h in
    ap references was.is ∙ frozen_pages v v.transfer.pages.segments was.asked (λ i there. some_page v.transfer.pages i lawful is there)
