use Rattle.std.proofs.Common.{◌≡◌, ◌<◌, ◌≤◌, ◌+◌, ◌++◌, ◌∷◌, ℕ, suc, List, length, map, ap, sym, ◌∙◌, arith, add-one, get_or}
use Rattle.std.proofs.Math.ListN.{drop_of_length-le}
use Rattle.std.proofs.Math.Seq.{map-set_same}
use Rattle.std.proofs.lemmas.List.{length-map}
use Rattle.std.specs.List.{flat_map}
use Rattle.xcp_memory.specs.Layout.{LayoutValue, SegmentValue}
use Rattle.xcp_memory.specs.Pages.{no_segment}
use Rattle.xcp_memory.specs.ReferencePage.{with_reference}
use Rattle.xcp_flash.specs.FlashFile.{page_in}
use Rattle.xcp_flash.specs.References.{with_references_from}
use Rattle.xcp_flash.proofs.PageLemmas.{next_page, none_left, one_page, size_at}
use Rattle.xcp_flash.proofs.reading.set_pages.Goals as goal

abbrev size : SegmentValue → ℕ
size s = length s.bytes

pub unreachable-requires : goal.unreachable-requires
unreachable-requires c =
    let segments = c.args.layout.now.segments in
    let all : List ℕ = map (λ (s : SegmentValue). length s.bytes) segments in
    let ours = c.loop-segment.layout.segments in
    let i = c.loop-segment.segment in
    let was = c.loop-segment.invariant in
    let more = c.requires.1 in
    let left = was.left c.requires.0 more c.requires.2 in
    let within : i < length all = omega (arith, length-map segments size) in
    let there : i < length ours = let e = ap (λ (xs : List ℕ). length xs) was.sizes in omega (arith, e, within, length-map ours size) in
    let next = next_page all i left.0 c.loop-segment.rest.now more within left.1 left.2 in
    let none = (c.in_default.ensures {u = tt}).none in
    let long = next.long ∙ sym (ap (λ (xs : List ℕ). get_or xs i 0) was.sizes) ∙ size_at ours i there ∙ sym c.segment_size.ensures.value in
    none next.page (flat_map page_in next.others ++ more) (record { long = long; whole = next.whole })

pub loop-segment-preserved : goal.loop-segment-preserved
loop-segment-preserved c =
    let segments = c.args.layout.now.segments in
    let all : List ℕ = map (λ (s : SegmentValue). length s.bytes) segments in
    let layout = c.loop-segment.layout in
    let i = c.loop-segment.segment in
    let was = c.loop-segment.invariant in
    let page = c.in-Some.page.now in
    let found = (c.in-Some.ensures {u = tt}).some in
    let within : i < length all = omega (arith, length-map segments size) in
    let there : i < length layout.segments = let e = ap (λ (xs : List ℕ). length xs) was.sizes in omega (arith, e, within, length-map layout.segments size) in
    let sized = found.long ∙ c.segment_size.ensures.value in
    record {
      sizes = ap (λ (l : LayoutValue). map (λ (s : SegmentValue). length s.bytes) l.segments) c.set_reference.ensures
          ∙ map-set_same size layout.segments i (record (get_or layout.segments i no_segment) { bytes = page }) no_segment sized
          ∙ was.sizes;
      left = λ pages more begins.
          let left = was.left pages more begins in
          let next = next_page all i left.0 c.loop-segment.rest.now more within left.1 left.2 in
          let long = next.long ∙ sym (ap (λ (xs : List ℕ). get_or xs i 0) was.sizes) ∙ size_at layout.segments i there ∙ sym sized in
          let both = one_page next.page page (flat_map page_in next.others ++ more) c.in-Some.more.now long (sym next.whole ∙ found.whole) in
          let step : with_references_from i (next.page ∷ next.others) layout ≡ with_references_from (suc i) next.others (with_reference i page layout) =
          ap (λ (p : List ℕ). with_references_from (suc i) next.others (with_reference i p layout)) both.0 in (
            next.others,
            next.sized,
            sym both.1,
            ap (λ (l : LayoutValue). with_references_from (i + 1) next.others l) c.set_reference.ensures
                ∙ ap (λ (k : ℕ). with_references_from k next.others (with_reference i page layout)) (add-one i)
                ∙ sym step
                ∙ ap (λ (ps : List (List ℕ)). with_references_from i ps layout) (sym next.is)
                ∙ left.3,
          );
    }

pub returns : goal.returns
returns c = λ pages more begins.
    let segments = c.args.layout.now.segments in
    let all : List ℕ = map (λ (s : SegmentValue). length s.bytes) segments in
    let left = c.loop-segment.invariant.left pages more begins in
    let past : length all ≤ c.loop-segment.segment = omega (arith, length-map segments size) in
    let none = none_left left.0 (left.1 ∙ drop_of_length-le all past) in
    ap (λ (ps : List (List ℕ)). with_references_from c.loop-segment.segment ps c.loop-segment.layout) (sym none) ∙ left.3
