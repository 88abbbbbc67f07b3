use Rattle.std.proofs.Common.{◌<◌, ◌++◌, ◌∷◌, [], List, ℕ, length, map, sym, ◌∙◌, arith}
use Rattle.std.proofs.lemmas.List.{length-map}
use Rattle.std.specs.List.{flat_map}
use Rattle.xcp_memory.specs.Layout.{SegmentValue}
use Rattle.xcp_flash.specs.FlashFile.{page_in}
use Rattle.xcp_flash.proofs.PageLemmas.{bytes_more, left_behind, next_page, size_at, sizes_more}
use Rattle.xcp_flash.proofs.reading.behind_pages.Goals as goal

pub returns-in_default-clause-none : goal.returns-in_default-clause-none
returns-in_default-clause-none c = λ pages more begins.
    let segments = c.args.layout.now.segments in
    let all : List ℕ = map (λ (s : SegmentValue). length s.bytes) segments in
    let i = c.loop-segment.segment in
    let was = c.loop-segment.invariant in
    let there : i < length segments = omega arith in
    let within : i < length all = omega (arith, length-map segments (λ (s : SegmentValue). length s.bytes)) in
    let left = left_behind was.pages pages all i c.loop-segment.rest.now more was.sized begins.sized (sym was.whole ∙ begins.whole) in
    let next = next_page all i left.tail c.loop-segment.rest.now more within left.sized left.whole in
    let none = (c.in_default.ensures {u = tt}).none in
    none next.page (flat_map page_in next.others ++ more) (record { long = next.long ∙ size_at segments i there ∙ sym c.segment_size.ensures.value; whole = next.whole })

pub loop-segment-preserved : goal.loop-segment-preserved
loop-segment-preserved c =
    let segments = c.args.layout.now.segments in
    let all : List ℕ = map (λ (s : SegmentValue). length s.bytes) segments in
    let i = c.loop-segment.segment in
    let was = c.loop-segment.invariant in
    let there : i < length segments = omega arith in
    let within : i < length all = omega (arith, length-map segments (λ (s : SegmentValue). length s.bytes)) in
    let page = c.in-Some.field-0-0.now in
    let found = (c.in-Some.ensures {u = tt}).some in
    record {
      pages = was.pages ++ page ∷ [];
      sized = sizes_more all was.pages i page within was.sized (found.long ∙ c.segment_size.ensures.value ∙ sym (size_at segments i there));
      whole = bytes_more was.pages page c.in-Some.more.now c.loop-segment.rest.now c.args.bytes.now was.whole found.whole;
    }
