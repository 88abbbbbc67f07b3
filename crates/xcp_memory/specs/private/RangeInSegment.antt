-- What is known of a range that was found in a segment.
use Rattle.std.specs.Prelude.{◌≡◌, ℕ, ◌+◌, ◌<◌, ◌≤◌, length, Some, slice_index_or as get_or}
use Rattle.xcp_memory.specs.Pages.{PagesValue, segment_at, no_segment, xcp_page, ecu_page}
use Rattle.xcp_memory.specs.ComputedAccess.{segment_of, place_in}

-- n bytes from address a on lie in segment i, whose pages of both sides are there and have its size
pub record LiesOnPages (v : PagesValue) (a n i : ℕ) : Type 0 where
  pub there : i < length v.layout.segments
  pub paged : i < length v.segments
  pub from : (get_or v.layout.segments i no_segment).address ≤ a
  pub to : a + n ≤ (get_or v.layout.segments i no_segment).address + length (get_or v.layout.segments i no_segment).bytes
  pub ecu : (segment_at v i).ecu < length (segment_at v i).pages
  pub xcp : (segment_at v i).xcp < length (segment_at v i).pages
  pub ecu_size : length (ecu_page (segment_at v i)) ≡ length (get_or v.layout.segments i no_segment).bytes
  pub xcp_size : length (xcp_page (segment_at v i)) ≡ length (get_or v.layout.segments i no_segment).bytes

-- n bytes from address a on lie in segment i, from this place of its pages on
pub record IsSpot (v : PagesValue) (a n i place : ℕ) : Type 0 where
  pub segment : segment_of v.layout a n ≡ Some i
  pub paged : i < length v.segments
  pub page : (segment_at v i).xcp < length (segment_at v i).pages
  pub place_is : place ≡ place_in v.layout i a
  pub room : place + n ≤ length (xcp_page (segment_at v i))
