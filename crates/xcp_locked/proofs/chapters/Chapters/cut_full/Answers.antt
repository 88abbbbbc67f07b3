use Rattle.std.proofs.Common.{rules, ◌≡◌, ◌++◌, ◌∷◌, [], Some, arith}
use Rattle.xcp_locked.specs.Excerpts.{way_of}
use Rattle.xcp_locked.proofs.HasCutLemmas.{cut_one, enough_calls}
use Rattle.xcp_locked.proofs.chapters.Chapters.cut_full.Goals as goal

pub returns-clause-cut : goal.returns-clause-cut
returns-clause-cut g c =
    let cut = c.in-Ok-Some.cut in
    let not_other = c.if-task-gt0.false in
    let items : c.put.new.items.items ≡ c.args.self.now.items ++ cut ∷ [] = search rules in
    let way : way_of c.put.new.handing ≡ c.args.self.now.way = search rules in
    let is : c.in-Ok-Some.field-0 ≡ Some cut = search rules in
    let took = c.in-Ok-Some.ensures {u = tt} in
    cut_one c.args.chapter c.args.task c.args.self.now _ cut (omega (arith, not_other)) items way (λ never. enough_calls c.args.chapter _ _ _ _ cut is (c.least-least.ensures.full never) took.cut)
