use Rattle.std.proofs.Common.{ap, ◌∙◌, subst, ◌≡◌, true}
use Rattle.xcp_outlet.specs.PassKnowledge.{half}
use Rattle.xcp_outlet.specs.private.KnownHalves.{both_halves}
use mathlib.Core.List.{IsPrefix}
use Rattle.xcp_outlet.specs.ChannelRule.{of}
use Rattle.xcp_outlet.specs.OutletEnds.{putting_of, taking_of, knows, packets, has_mark, Putting, Taking}
use Rattle.xcp_outlet.proofs.ChannelRuleLemmas.{meets, meeting}
use Rattle.xcp_outlet.proofs.took.Took.meet.Goals as goal

pub absorb-requires-clause-rule : goal.absorb-requires-clause-rule
absorb-requires-clause-rule c = meets _ _ _ _ c.put.inside.is_data (half (putting_of c.put.inside.is_data c.put.inside.ended c.put.inside.pass).put c.put.inside.ended) c.put.invariant.1

pub returns-clause-begins : goal.returns-clause-begins
returns-clause-begins c =
    let p = c.put.inside in
    let s = c.self.inside in
    let t = (taking_of s.pass).taken in
    let m = meeting p.is_data p.ended (putting_of p.is_data p.ended p.pass).put t (knows s.pass) (knows c.absorb.new.pass) c.self.invariant.1
    (c.absorb.ensures.rule ∙ ap (both_halves (knows s.pass)) c.put.invariant.1) c.learn_as.ensures.rule in
    subst (λ (x : Putting). IsPrefix (packets (of x.side c.args.self.now.taken)) x.put) c.put.view_is
    (subst (λ (y : Taking). IsPrefix (packets (of p.is_data y.taken)) (putting_of p.is_data p.ended p.pass).put) c.self.view_is m.0)

pub returns-clause-all : goal.returns-clause-all
returns-clause-all c =
    let p = c.put.inside in
    let s = c.self.inside in
    let t = (taking_of s.pass).taken in
    let m = meeting p.is_data p.ended (putting_of p.is_data p.ended p.pass).put t (knows s.pass) (knows c.absorb.new.pass) c.self.invariant.1
    (c.absorb.ensures.rule ∙ ap (both_halves (knows s.pass)) c.put.invariant.1) c.learn_as.ensures.rule in
    subst (λ (x : Putting). has_mark (of x.side c.args.self.now.taken) ≡ true → packets (of x.side c.args.self.now.taken) ≡ x.put) c.put.view_is
    (subst (λ (y : Taking). has_mark (of p.is_data y.taken) ≡ true → packets (of p.is_data y.taken) ≡ (putting_of p.is_data p.ended p.pass).put) c.self.view_is m.1)
