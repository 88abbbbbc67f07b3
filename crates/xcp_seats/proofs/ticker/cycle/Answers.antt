use Rattle.std.proofs.Common.{rules, [], refl, inl, sym, ◌∙◌, append-nil}
use Rattle.xcp_locked.specs.Tasks.{duty}
use Rattle.xcp_seats.proofs.TickLemmas.{closes_as, raised_of, took_of}
use Rattle.xcp_seats.proofs.ticker.cycle.Goals as goal

pub returns-then-task-eq0 : goal.returns-then-task-eq0
returns-then-task-eq0 g c =
    let p = duty c.args.member.now c.args.task in
    let was = c.raise.ensures.same in
    let is = c.store.ensures.same in
    record {
      next = refl;
      same = record { number = is.number ∙ was.number; events = is.events ∙ was.events; signals = is.signals ∙ was.signals };
      mid = c.raise.new.member.receipts;
      accepted = c.raise.result;
      raised = raised_of g.N.Name.layout p c.args.number c.args.member.now.number _ _ _ _ _ _ c.raise.ensures.told c.take_image.ensures.seen c.take_image.ensures.newest;
      stored = c.store.ensures.stored.0;
      grown = c.store.ensures.stored.1;
      closes = closes_as p c.store.ensures.stored.0 c.if-task-eq0.true c.store.ensures.stored.2;
      took = took_of g.N.Name.layout _ c.args.member.now.number _ _ _ _ _ _ _ _ c.raise.ensures.told c.take_image.ensures.seen c.take_image.ensures.took;
      whole = c.take_image.ensures.whole;
    }

pub returns-else-task-eq0 : goal.returns-else-task-eq0
returns-else-task-eq0 g c =
    let p = duty c.args.member.now c.args.task in
    record {
      next = refl;
      same = c.raise.ensures.same;
      mid = c.raise.new.member.receipts;
      accepted = c.raise.result;
      raised = raised_of g.N.Name.layout p c.args.number c.args.member.now.number _ _ _ _ _ _ c.raise.ensures.told c.take_image.ensures.seen c.take_image.ensures.newest;
      stored = [];
      grown = sym (append-nil c.raise.new.member.receipts);
      closes = inl refl;
      took = took_of g.N.Name.layout _ c.args.member.now.number _ _ _ _ _ _ _ _ c.raise.ensures.told c.take_image.ensures.seen c.take_image.ensures.took;
      whole = c.take_image.ensures.whole;
    }
