use Rattle.std.proofs.Common.{rules, ◌≡◌, vec_len, length, slice_index_or, ap, sym, ◌∙◌, subst, arith}
use Rattle.together.specs.private.StandingCrews.{CrewStands}
use Rattle.together.proofs.crewing.in_scope.Goals as goal

pub returns-then-both-clause-crews : goal.returns-then-both-clause-crews
returns-then-both-clause-crews g c =
    let all = c.start_crews-crewed.ensures.all c.if-all-2.true in
    let len : vec_len c.start_crews-crewed.result.0 ≡ length c.args.crews.items = search rules in
    record {
      all = search rules;
      each = λ i w t low.
          let k = c.join_crews-done.ensures.each i t (omega (arith, len, low)) in
          let stands = subst (CrewStands (slice_index_or c.args.crews.items i w)) (sym k.two_is) (all.each i w k.two low) in
          let gave = slice_index_or c.join_crews-done.result.items i t in
          record {
            first = subst (λ x. g.A.Work.gives x gave.0) stands.first k.kept.first;
            second = subst (λ x. g.B.Work.gives x gave.1) stands.second k.kept.second;
          };
    }

pub returns-then-both-clause-works : goal.returns-then-both-clause-works
returns-then-both-clause-works g c =
    let all = c.start_all-handles.ensures.all c.if-both.true in
    let len : vec_len c.start_all-handles.result.0 ≡ length c.args.works.items = search rules in
    record {
      all = search rules;
      each = λ i w t low.
          let k = c.join_all-rest.ensures.each i t (omega (arith, len, low)) in
          subst (λ x. g.W.Work.gives x (slice_index_or c.join_all-rest.result.items i t)) (ap (λ h. h.promise.0.value) k.1.handle_is ∙ all.each i w k.1.handle low) k.1.kept;
    }
