-- Copying the content of a page.
-- (ASAM MCD-1 XCP, protocol layer, description of commands: COPY_CAL_PAGE.)
use Rattle.std.specs.Prelude.{◌≡◌, ℕ, Bool, false, not, List, [], ◌∷◌, length, Option, nat_le, ◌==◌, slice_index_or as get_or, slice_set}
use Rattle.xcp_packet.specs.declared.Code.{Code}
use Rattle.xcp_packet.specs.declared.Code.TheVariants.{SegmentNotValid, PageNotValid, WriteProtected, OutOfRange}
use Rattle.xcp_memory.specs.Pages.{PagesValue, SegmentPages, segment_at}
use Rattle.xcp_packet.specs.Rows.{first_holding}
use Rattle.xcp_memory.specs.PageSwitch.{lacks_page}

-- the content of a page of a segment
abbrev pub content : PagesValue → ℕ → ℕ → List ℕ
content v segment page = get_or (segment_at v segment).pages page []

-- there is no segment of this number
abbrev pub lacks_segment : ℕ → PagesValue → Bool
lacks_segment segment v = nat_le (length v.segments) segment

-- there is this page of this segment
pub record HasPage (segment page : ℕ) (v : PagesValue) : Type 0 where
  pub there : lacks_segment segment v ≡ false
  pub paged : lacks_page page (segment_at v segment) ≡ false

-- Why there is no page of this number in a segment of this number, if there is none.
abbrev pub page_refusal_of : ℕ → ℕ → PagesValue → Option Code
page_refusal_of segment page v =
    first_holding (
    (lacks_segment segment v, SegmentNotValid)
    ∷ (lacks_page page (segment_at v segment), PageNotValid)
    ∷ [])

-- Why a copy is refused, if it is: the source is looked at before the target, and then whether the target is
-- the reference page, and whether the two pages have the same size.
abbrev pub copy_refusal : ℕ → ℕ → ℕ → ℕ → PagesValue → Option Code
copy_refusal source source_page target target_page v =
    first_holding (
    (lacks_segment source v, SegmentNotValid)
    ∷ (lacks_page source_page (segment_at v source), PageNotValid)
    ∷ (lacks_segment target v, SegmentNotValid)
    ∷ (lacks_page target_page (segment_at v target), PageNotValid)
    ∷ (target_page == 0, WriteProtected)
    ∷ (not (length (content v source source_page) == length (content v target target_page)), OutOfRange)
    ∷ [])

-- a segment of which one page has another content
abbrev pub with_content : SegmentPages → ℕ → List ℕ → SegmentPages
with_content s page bytes = record s { pages = slice_set s.pages page bytes }

-- the pages after a copy that isn't refused
abbrev pub pages_copied : ℕ → ℕ → ℕ → ℕ → PagesValue → PagesValue
pages_copied source source_page target target_page v =
    record v { segments = slice_set v.segments target (with_content (segment_at v target) target_page (content v source source_page)) }
