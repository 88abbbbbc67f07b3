use Rattle.std.proofs.Common.{◌≡◌, ◌<◌, ◌+◌, ◌∙◌, List, rules, refl, sym, arith, length}
use Rattle.xcp_trace.specs.declared.Entry.{Entry}
use Rattle.xcp_record.proofs.TapeLemmas.{nothing}
use Rattle.xcp_record.proofs.CallLemmas.{walks_more, walks_none, walks_on}
use Rattle.xcp_record.proofs.CheckLemmas.{checked_all, differs_here, few_checked, heard_all, heard_here, heard_more, run_more}
use Rattle.xcp_record.proofs.auditing.check_calls.Goals as goal

pub returns-clause-ok : goal.returns-clause-ok
returns-clause-ok g c =
    let was = c.loop-left.invariant in
    let none : length c.loop-left.left.now ≡ 0 = search rules in
    checked_all c.args.slave.now c.loop-left.slave c.args.bytes.now c.loop-left.left.now was.0 was.1 was.2 (nothing c.loop-left.left.now none)

pub returns-clause-told : goal.returns-clause-told
returns-clause-told g c =
    let was = c.loop-left.invariant in
    let none : length c.loop-left.left.now ≡ 0 = search rules in
    heard_all (λ calls. g.T.Witness.hears c.args.witness.now c.args.roster calls c.loop-left.witness) c.args.bytes.now c.loop-left.left.now was.0 was.1 was.4 (nothing c.loop-left.left.now none)

pub returns-then-not-answers-clause-err : goal.returns-then-not-answers-clause-err
returns-then-not-answers-clause-err g c = λ strings spells.
    let was = c.loop-left.invariant in
    let next = c.in-Some.ensures.some in (
      was.0,
      was.3,
      differs_here c.args.slave.now c.loop-left.slave c.args.bytes.now c.loop-left.left.now c.in-Some.more.now next.string was.0 c.owned-call.result was.1 was.2 next.joined
          (c.owned-call.ensures ∙ sym next.spells) (c.answers.ensures.no c.if-not-answers.true) strings spells,
    )

pub returns-then-not-answers-clause-told_some : goal.returns-then-not-answers-clause-told_some
returns-then-not-answers-clause-told_some g c = λ strings spells.
    let was = c.loop-left.invariant in
    let next = c.in-Some.ensures.some in
    let Heard : List Entry → Type 0 = λ calls. g.T.Witness.hears c.args.witness.now c.args.roster calls c.told.new.self in (
      was.0,
      was.3,
      heard_here Heard c.args.bytes.now c.loop-left.left.now c.in-Some.more.now next.string was.0 c.owned-call.result was.1 next.joined (c.owned-call.ensures ∙ sym next.spells) strings spells
          (g.met.T.Witness.hears_more _ _ _ _ _ _ was.4 c.told.ensures),
    )

pub loop-left-init : goal.loop-left-init
loop-left-init g c = (0, walks_none c.args.bytes.now, refl, omega arith, g.met.T.Witness.hears_none c.args.witness.now c.args.roster)

pub unreachable-requires : goal.unreachable-requires
unreachable-requires g c =
    let some : 0 < length c.loop-left.left.now = search rules in
    walks_on c.args.bytes.now c.loop-left.left.now c.loop-left.invariant.0 c.loop-left.invariant.1 some (c.in_default.ensures {u = tt}).none c.requires.calls.0 c.requires.calls.1

pub overflow_add-place : goal.overflow_add-place
overflow_add-place g c =
    let few = few_checked c.args.bytes.now c.loop-left.left.now c.loop-left.invariant.0 65536 c.requires.calls.0 c.loop-left.invariant.1 c.requires.calls.1 c.requires.calls.2 in
    let place = c.loop-left.invariant.3 in
    let before = c.requires.before in
    search (rules, arith, few, place, before)

pub loop-left-preserved : goal.loop-left-preserved
loop-left-preserved g c =
    let was = c.loop-left.invariant in
    let next = c.in-Some.ensures.some in
    let is = c.owned-call.ensures ∙ sym next.spells in (
      was.0 + 1,
      walks_more c.args.bytes.now c.loop-left.left.now c.in-Some.more.now was.0 _ was.1 next,
      run_more c.args.slave.now c.loop-left.slave c.answers.new.slave was.1.done next.string c.owned-call.result is was.2 (c.answers.ensures.yes c.if-not-answers.false),
      (let place = was.3 in omega (arith, place)),
      heard_more (λ calls. g.T.Witness.hears c.args.witness.now c.args.roster calls c.told.new.self) was.1.done next.string c.owned-call.result is (g.met.T.Witness.hears_more _ _ _ _ _ _ was.4 c.told.ensures),
    )
