use Rattle.std.proofs.Common.{◌≡◌, ◌++◌, List, ℕ, length, take, drop, ap, sym, ◌∙◌, subst, arith}
use Rattle.std.proofs.Math.Seq.{take-append_seam}
use Rattle.xcp_slave.specs.SlaveValue.{layout_of}
use Rattle.xcp_flash.specs.References.{AreReferences, kept_pages}
use Rattle.xcp_flash.proofs.KeptLemmas.{kept_sized}
use Rattle.xcp_flash.proofs.references.References.update.Goals as goal

pub returns-clause-kept : goal.returns-clause-kept
returns-clause-kept c =
    let v = c.args.slave.now in
    let new = c.update_each.new.pages in
    let rest = drop (length new) c.self.inside.pages.items in
    let many = c.deref_mut.ensures.len in
    let kept = c.update_each.auto.pages in
    let long : c.self.inside.pages.len ≡ length new = omega (arith, many, kept) in
    let all : take c.self.inside.pages.len (new ++ rest) ≡ kept_pages v = ap (λ (n : ℕ). take n (new ++ rest)) long ∙ take-append_seam new rest ∙ c.update_each.ensures.new in
    subst (λ (ps : List (List ℕ)). AreReferences ps (layout_of v)) (sym all) (kept_sized v c.known.ensures.transfer.layout c.known.ensures.transfer.pages)
