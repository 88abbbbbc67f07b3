use Rattle.std.proofs.Common.{◌≡◌, ◌<◌, ◌≤◌, ℕ, ◌+◌, List, length, take, get_or, ap, sym, ◌∙◌, subst, arith}
use Rattle.std.specs.Prelude.{Bool, ◌≢◌, MatchBool}
use Rattle.std.proofs.lemmas.List.{get_or-map, length-map}
use Rattle.xcp_memory.specs.Pages.{no_pages}
use Rattle.xcp_slave.specs.SlaveValue.{layout_of}
use Rattle.xcp_slave.specs.StoredPages.{kept_page}
use Rattle.xcp_flash.specs.References.{kept_pages}
use Rattle.xcp_flash.proofs.LayoutLemmas.{many}
use Rattle.xcp_flash.proofs.TakingLemmas.{page_size, same_last, still, taken_more, told_more}
use Rattle.xcp_flash.proofs.references.update_each.Goals.{then-update, else-update}
use Rattle.xcp_flash.proofs.references.update_each.Goals as goal

pub update-requires : goal.update-requires
update-requires c =
    let v = c.args.slave.now in
    let old = c.args.pages.now in
    let i = c.loop-segment.segment in
    let d = c.index-pages-segment.result in
    let there : i < length old = c.loop-segment-test.true in
    let counted = length-map v.transfer.pages.segments (kept_page v) in
    let front : i ≤ length (kept_pages v) = let e = many old (layout_of v) c.requires.sized in omega (arith, e, counted, there, c.requires.lawful.count) in
    c.kept.ensures.size
    ∙ sym (page_size old (layout_of v) i d c.requires.sized there)
    ∙ ap (λ (p : List ℕ). length p) (sym (still (kept_pages v) old c.loop-segment.pages i d front there c.loop-segment.invariant.taken))

pub loop-segment-preserved : goal.loop-segment-preserved
loop-segment-preserved c =
    let v = c.args.slave.now in
    let new = kept_pages v in
    let old = c.args.pages.now in
    let now = c.loop-segment.pages in
    let i = c.loop-segment.segment in
    let d = c.index-pages-segment.result in
    let was = c.loop-segment.invariant in
    let there : i < length old = c.loop-segment-test.true in
    let counted = length-map v.transfer.pages.segments (kept_page v) in
    let front : i < length new = let e = many old (layout_of v) c.requires.sized in omega (arith, e, counted, there, c.requires.lawful.count) in
    let within : i < length v.transfer.pages.segments = omega (arith, front, counted) in
    let page : c.kept.result.now ≡ get_or new i d = c.kept.ensures.value ∙ sym (get_or-map (kept_page v) v.transfer.pages.segments i no_pages d within) in
    let before : get_or now i d ≡ get_or old i d = still new old now i d (omega (arith, front)) there was.taken in
    let differs = c.update.ensures.changed in
    let told : MatchBool c.if-update.changed (take (i + 1) old ≢ take (i + 1) new) (take (i + 1) old ≡ take (i + 1) new) =
    elim c.if-update.branch [
      | then-update w ↦
          let other = subst (λ (b : Bool). MatchBool b (get_or now i d ≢ c.kept.result.now) (get_or now i d ≡ c.kept.result.now)) w.if-update.true differs in
          subst (λ (b : Bool). MatchBool b (take (i + 1) old ≢ take (i + 1) new) (take (i + 1) old ≡ take (i + 1) new)) (sym w.changed-is)
          (λ same. other (before ∙ same_last old new i d same ∙ sym page))
      | else-update w ↦
          let equal = subst (λ (b : Bool). MatchBool b (get_or now i d ≢ c.kept.result.now) (get_or now i d ≡ c.kept.result.now)) w.if-update.false differs in
          subst (λ (b : Bool). MatchBool b (take (i + 1) old ≢ take (i + 1) new) (take (i + 1) old ≡ take (i + 1) new)) (sym w.changed-is)
          (told_more old new i d c.loop-segment.changed there front (sym before ∙ equal ∙ page) was.told)
    ] in
    record {
      taken = taken_more new old now i d c.update.new.self front there was.taken (c.update.ensures.new ∙ page);
      told = told;
    }
