-- What decides which stored pages are a layout's.
use Rattle.std.specs.Prelude.{ℕ, List, ◌++◌, length}
use Rattle.std.specs.Int.{w32, to_le_bytes}
use Rattle.std.specs.List.{flat_map}
use Rattle.xcp_memory.specs.Layout.{LayoutValue, SegmentValue}

-- Of a segment its first address and how many bytes it has, four bytes each, the low one first, and its reference bytes.
unfoldable pub segment_decided : SegmentValue → List ℕ
segment_decided s = to_le_bytes w32 s.address ++ to_le_bytes w32 (length s.bytes) ++ s.bytes

-- Of a layout what decides of each segment, in order: nothing else of a layout file, as a comment in it, a name or a list of events.
abbrev pub pages_decided : LayoutValue → List ℕ
pages_decided l = flat_map segment_decided l.segments
