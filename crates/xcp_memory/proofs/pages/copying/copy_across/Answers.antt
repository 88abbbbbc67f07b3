use Rattle.std.proofs.Common.{[], get_or, slice_set, ◌<◌, ap, sym, ◌∙◌, length, arith}
use Rattle.xcp_memory.specs.PageCopy.{with_content}
use Rattle.xcp_memory.specs.Pages.{SegmentPages, no_pages}
use Rattle.xcp_memory.proofs.PageCopyLemmas.{changed_behind, changed_before, first_behind, one_before}
use Rattle.xcp_memory.proofs.pages.copying.copy_across.Goals as goal

pub returns-then-source-target : goal.returns-then-source-target
returns-then-source-target c =
    let split = c.split_at_mut-front in
    let front = split.result.0.now in
    let back = split.result.1.now in
    let segments = c.args.segments.now in
    let short : c.args.source < length front = omega (arith, c.if-source-target.true, split.ensures.front_len) in
    let to = first_behind front back segments c.args.target c.index-back-0.result no_pages split.ensures.value split.ensures.front_len c.requires.target c.index-back-0.is in
    let from = one_before front back segments c.args.source c.index-front-source.result no_pages split.ensures.value short c.index-front-source.is in
    let bytes = c.at.ensures ∙ ap (λ (s : SegmentPages). get_or s.pages c.args.source_page []) (sym c.index-front-source.is ∙ from) in
    changed_behind front back segments c.args.target c.fill.new.self split.ensures.value split.ensures.front_len
    ∙ ap (slice_set segments c.args.target) (c.fill.ensures ∙ ap (λ (s : SegmentPages). with_content s c.args.target_page c.at.result.now) (sym c.index-back-0.is ∙ to) ∙ ap (with_content (get_or segments c.args.target no_pages) c.args.target_page) bytes)

pub returns-else-source-target : goal.returns-else-source-target
returns-else-source-target c =
    let split = c.split_at_mut-front-else-source-target in
    let front = split.result.0.now in
    let back = split.result.1.now in
    let segments = c.args.segments.now in
    let short : c.args.target < length front = omega (arith, c.if-source-target.false, c.requires.others, split.ensures.front_len) in
    let to = one_before front back segments c.args.target c.index-front-target.result no_pages split.ensures.value short c.index-front-target.is in
    let from = first_behind front back segments c.args.source c.index-back-0-else-source-target.result no_pages split.ensures.value split.ensures.front_len c.requires.source c.index-back-0-else-source-target.is in
    let bytes = c.at-else-source-target.ensures ∙ ap (λ (s : SegmentPages). get_or s.pages c.args.source_page []) (sym c.index-back-0-else-source-target.is ∙ from) in
    let new = c.fill-else-source-target in
    changed_before front back segments c.args.target new.new.self split.ensures.value short
    ∙ ap (slice_set segments c.args.target) (new.ensures ∙ ap (λ (s : SegmentPages). with_content s c.args.target_page c.at-else-source-target.result.now) (sym c.index-front-target.is ∙ to) ∙ ap (with_content (get_or segments c.args.target no_pages) c.args.target_page) bytes)
