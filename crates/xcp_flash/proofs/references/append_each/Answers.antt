use Rattle.std.proofs.Common.{◌≡◌, ◌<◌, ◌+◌, ◌++◌, ◌∷◌, [], List, ℕ, take, sym, ap, ◌∙◌, le_trans}
use Rattle.std.specs.Prelude.{Result, Ok, Err, OnErr, vec_capacity, vec_len}
use Rattle.std.specs.List.{flat_map}
use Rattle.std.proofs.Math.Seq.{take-suc}
use native.Mathlib.Numerals.{unary_clauses}
use Rattle.std.proofs.lemmas.List.{flat_map_more}
use Rattle.xcp_flash.specs.FlashFile.{page_in}
use Rattle.xcp_flash.proofs.SizeLemmas.{sizes, sizes_full, sizes_more}
use Rattle.xcp_flash.proofs.references.append_each.Goals as goal

pub loop-page-preserved : goal.loop-page-preserved
loop-page-preserved c =
    let pages = c.args.pages.now in
    let i = c.loop-page.page-index in
    let page = c.page-item.result in
    let was = c.loop-page.invariant in
    let appended = c.in_ok-append_to.ensures {u = tt} in
    let front : take (i + 1) pages ≡ take i pages ++ page ∷ [] = simp unary_clauses (take-suc pages i page c.loop-page-test.true) ∙ ap (λ (p : List ℕ). take i pages ++ p ∷ []) (sym c.page-item.is) in
    record {
      bytes = appended.bytes ∙ ap (λ (b : List ℕ). b ++ page_in page) was.bytes ∙ flat_map_more page_in c.args.out.now.items (take i pages) page ∙ ap (λ (ps : List (List ℕ)). c.args.out.now.items ++ flat_map page_in ps) (sym front);
      size = sizes_more (take (i + 1) pages) (take i pages) page (vec_len c.args.out.now) (vec_len c.loop-page.out) _ front was.size appended.size;
      capacity = le_trans was.capacity c.append_to.ensures.capacity;
    }

-- of an error
on_err : {A E : Type 0} (r : Result A E) (P : Type 0) → P → OnErr r P
on_err (Ok x) P p = tt
on_err (Err e) P p = p

pub returns-in_err-append_to-clause-full : goal.returns-in_err-append_to-clause-full
returns-in_err-append_to-clause-full c =
    let pages = c.args.pages.now in
    let was = c.loop-page.invariant in
    on_err c.from_residual.result (vec_capacity c.args.out.now < vec_len c.args.out.now + sizes pages)
    (sizes_full pages c.loop-page.page-index c.page-item.result (vec_len c.args.out.now) (vec_len c.loop-page.out) (vec_capacity c.args.out.now) (vec_capacity c.loop-page.out) c.loop-page-test.true c.page-item.is was.size was.capacity (c.in_err-append_to.ensures {u = tt}).full)
