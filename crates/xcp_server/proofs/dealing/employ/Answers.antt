use Rattle.std.proofs.Common.{rules, ◌≡◌, [], ap, length, sym, subst, vec_len, ◌∙◌, arith}
use Rattle.xcp_locked.specs.Excerpts.{ChaptersValue, HandsNone, none_cut, way_of}
use Rattle.xcp_locked.proofs.PairedListLemmas.{all_more, dealt_more}
use Rattle.xcp_server.proofs.WrittenChapterLemmas.{GoesTo, goes_on, way_of_first}
use Rattle.xcp_server.proofs.dealing.employ.Goals as goal

pub loop-task-preserved : goal.loop-task-preserved
loop-task-preserved g c =
    let at = c.loop-task in
    let was = at.invariant in
    let heard = c.in-Some.ensures.items in
    let lent = c.in-Some-next.ensures.items in
    let fewer = ap length heard in
    let less = ap length lent in
    let pushed = c.push_reserved.ensures.len in
    let room = c.push_reserved.ensures.capacity in
    let w = c.handing_in.result in (
      omega (arith, pushed, was.0),
      omega (arith, room, was.1),
      dealt_more (λ w. w.caller) at.workers.items _ w _ _ _ _ was.2 heard c.handing_in.ensures.caller c.push_reserved.ensures.items,
      omega (arith, fewer, was.3),
      dealt_more (λ w. w.reader) at.workers.items _ w _ _ _ _ was.4 lent c.handing_in.ensures.reader c.push_reserved.ensures.items,
      omega (arith, less, was.5),
      all_more (λ w. w.chapters.items ≡ []) at.workers.items _ w was.6 (ap (λ (k : ChaptersValue). k.items) c.handing_in.ensures.chapters) c.push_reserved.ensures.items,
      subst (λ h. HandsNone h) (sym c.take.ensures.after) tt,
      subst (λ h. GoesTo (way_of c.args.handing) (way_of h) c.push_reserved.new.self.items) (sym c.take.ensures.after) (goes_on _ _ at.workers.items _ w was.8 (c.handing_in.ensures.chapters ∙ ap (λ h. none_cut (way_of h)) c.take.ensures.value) c.push_reserved.ensures.items),
    )

pub returns-clause-way : goal.returns-clause-way
returns-clause-way g c =
    let count : vec_len c.loop-task.workers ≡ c.args.tasks = search rules in
    let is : vec_len c.loop-task.workers ≡ length c.loop-task.workers.items = search rules in
    way_of_first _ _ _ c.loop-task.invariant.8 (λ none. ap (λ h. way_of h) (c.requires.handing.1 (omega (arith, count, is, none))))
