use Rattle.std.proofs.Common.{◌≡◌, ◌+◌, ◌++◌, ◌∙◌, ap, arith, length, refl, sym}
use Rattle.std.specs.Prelude.{nat_lt}
use Rattle.std.proofs.lemmas.Result.{IfOk-weaker}
use Rattle.xcp_stay.specs.Team.{timekeepers}
use Rattle.xcp_stay.proofs.CountLemmas.{length-callers_of}
use Rattle.xcp_stay.proofs.KeptLemmas.{left_many}
use Rattle.xcp_stay.proofs.TeamLemmas.{have_served}
use Rattle.xcp_stay.proofs.TimekeeperLemmas.{count_all, few_there, fresh_dealt, have_all_served, is_there, last_dealt, numbered_all, tells_clock, tells_where}
use Rattle.xcp_stay.proofs.staying.stay_by_post.Goals as goal

pub deal-requires : goal.deal-requires
deal-requires g c =
    let tells = tells_clock g.N.Name.layout _ _ c.size-has_clock.ensures.value c.requires.ticks.0 in
    let dealt = ap length (c.in_ok-post.ensures {u = tt}).members in
    let opened = ap length c.requires.opened ∙ length-callers_of g.N.Name.layout g.N.Ledger.parts in
    let enough = c.requires.callers in
    (omega arith, (omega (arith, enough, dealt), λ some. c.requires.clock (sym tells ∙ some) ∙ sym (dealt ∙ opened)))

pub hire-requires-clause-last : goal.hire-requires-clause-last
hire-requires-clause-last g c =
    let tells = tells_clock g.N.Name.layout _ _ c.size-has_clock.ensures.value c.requires.ticks.0 in
    let said = c.in_ok-dealt.ensures {u = tt} in
    let crew = c.in_ok-dealt.dealt.crew in
    let own = c.in_ok-dealt.dealt.timekeepers in
    let all = sym c.requires.opened ∙ (sym (c.in_ok-post.ensures {u = tt}).members ∙ said.members.1) in
    let count = sym own.ok.0 ∙ said.timekeepers in
    last_dealt g.N.Name.layout g.N.Ledger.parts c.args.plan.tools c.args.plan.tasks crew.tools.items crew.hired.items crew.pumps.items own.items said.members.0 all (sym crew.tools.ok.0 ∙ said.tools) (sym crew.hired.ok.0 ∙ said.hired) (sym crew.pumps.ok.0 ∙ said.pumps)
    (few_there (nat_lt 0 c.size-has_clock.result) _ count)
    (λ some. c.requires.clock (sym tells ∙ tells_where (nat_lt 0 c.size-has_clock.result) _ count some))

pub hire-requires-clause-fresh : goal.hire-requires-clause-fresh
hire-requires-clause-fresh g c =
    let said = c.in_ok-dealt.ensures {u = tt} in
    let crew = c.in_ok-dealt.dealt.crew in
    let all = sym c.requires.opened ∙ (sym (c.in_ok-post.ensures {u = tt}).members ∙ said.members.1) in
    fresh_dealt g.N.Name.layout g.N.Ledger.parts crew.tools.items crew.hired.items crew.pumps.items c.in_ok-dealt.dealt.timekeepers.items said.members.0 all

pub conclude-requires : goal.conclude-requires
conclude-requires g c =
    let tells = tells_clock g.N.Name.layout _ _ c.size-has_clock.ensures.value c.requires.ticks.0 in
    let said = c.in_ok-dealt.ensures {u = tt} in
    let ran = c.in_ok-ended.ensures {u = tt} in
    let crew = c.in_ok-dealt.dealt.crew in
    let own = c.in_ok-dealt.dealt.timekeepers in
    let ended = c.in_ok-ended.ended in
    let all = sym c.requires.opened ∙ (sym (c.in_ok-post.ensures {u = tt}).members ∙ said.members.1) in
    let there = c.dismiss.ensures.same ∙ (c.hire.ensures ∙ (is_there (nat_lt 0 c.size-has_clock.result) _ (sym own.ok.0 ∙ said.timekeepers) ∙ tells)) in
    record {
      numbered = numbered_all g.N.Name.layout g.N.Ledger.parts c.args.plan.tools c.args.plan.tasks _ c.dismiss.result
          (have_served g.N.Name.layout g.N.Ledger.parts c.args.plan.tools c.args.plan.tasks _ (λ l. l.tool) (λ l. l.pump) (λ d. d.member) ended.left.items ended.rested.items _ crew.tools.items crew.hired.items crew.pumps.items (own.items ++ said.members.0)
          c.requires.limit all (sym crew.tools.ok.0 ∙ said.tools) (sym crew.hired.ok.0 ∙ said.hired) (sym crew.pumps.ok.0 ∙ said.pumps) refl ran.seats ran.tasks)
          there c.dismiss.ensures.told c.requires.clock;
    }

pub returns-clause-leaves : goal.returns-clause-leaves
returns-clause-leaves g c =
    let tells = tells_clock g.N.Name.layout _ _ c.size-has_clock.ensures.value c.requires.ticks.0 in
    let said = c.in_ok-dealt.ensures {u = tt} in
    let ran = c.in_ok-ended.ensures {u = tt} in
    let crew = c.in_ok-dealt.dealt.crew in
    let own = c.in_ok-dealt.dealt.timekeepers in
    let ended = c.in_ok-ended.ended in
    let all = sym c.requires.opened ∙ (sym (c.in_ok-post.ensures {u = tt}).members ∙ said.members.1) in
    let there = c.dismiss.ensures.same ∙ (c.hire.ensures ∙ (is_there (nat_lt 0 c.size-has_clock.result) _ (sym own.ok.0 ∙ said.timekeepers) ∙ tells)) in
    let served = have_served g.N.Name.layout g.N.Ledger.parts c.args.plan.tools c.args.plan.tasks _ (λ l. l.tool) (λ l. l.pump) (λ d. d.member) ended.left.items ended.rested.items _ crew.tools.items crew.hired.items crew.pumps.items (own.items ++ said.members.0) c.requires.limit all (sym crew.tools.ok.0 ∙ said.tools) (sym crew.hired.ok.0 ∙ said.hired) (sym crew.pumps.ok.0 ∙ said.pumps) refl ran.seats ran.tasks in
    IfOk-weaker c.conclude.result _ _ (λ s both. left_many (g.S.Scribe.wrote s.scribe.scribe.value) g.N.Name.layout (length s.members.items) (c.args.plan.tools + c.args.plan.tools + c.args.plan.tasks + timekeepers g.N.Name.layout) s.keeper s.locked s.members.items
    (count_all g.N.Name.layout g.N.Ledger.parts c.args.plan.tools c.args.plan.tasks s.members.items (have_all_served g.N.Name.layout g.N.Ledger.parts c.args.plan.tools c.args.plan.tasks s.members.items _ c.dismiss.result both.1 served there c.dismiss.ensures.told)) both.0) c.conclude.ensures

pub returns-clause-served : goal.returns-clause-served
returns-clause-served g c =
    let tells = tells_clock g.N.Name.layout _ _ c.size-has_clock.ensures.value c.requires.ticks.0 in
    let said = c.in_ok-dealt.ensures {u = tt} in
    let ran = c.in_ok-ended.ensures {u = tt} in
    let crew = c.in_ok-dealt.dealt.crew in
    let own = c.in_ok-dealt.dealt.timekeepers in
    let ended = c.in_ok-ended.ended in
    let all = sym c.requires.opened ∙ (sym (c.in_ok-post.ensures {u = tt}).members ∙ said.members.1) in
    let there = c.dismiss.ensures.same ∙ (c.hire.ensures ∙ (is_there (nat_lt 0 c.size-has_clock.result) _ (sym own.ok.0 ∙ said.timekeepers) ∙ tells)) in
    let served = have_served g.N.Name.layout g.N.Ledger.parts c.args.plan.tools c.args.plan.tasks _ (λ l. l.tool) (λ l. l.pump) (λ d. d.member) ended.left.items ended.rested.items _ crew.tools.items crew.hired.items crew.pumps.items (own.items ++ said.members.0) c.requires.limit all (sym crew.tools.ok.0 ∙ said.tools) (sym crew.hired.ok.0 ∙ said.hired) (sym crew.pumps.ok.0 ∙ said.pumps) refl ran.seats ran.tasks in
    IfOk-weaker c.conclude.result _ _ (λ s both. have_all_served g.N.Name.layout g.N.Ledger.parts c.args.plan.tools c.args.plan.tasks s.members.items _ c.dismiss.result both.1 served there c.dismiss.ensures.told) c.conclude.ensures
