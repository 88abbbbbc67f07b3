use Rattle.std.proofs.Common.{◌∙◌, refl}
use Rattle.std.proofs.lemmas.Option.{slice_get_read}
use Rattle.xcp_locked.proofs.locked.Locked.settle_each.Goals as goal

pub returns-in-Err-clause-first : goal.returns-in-Err-clause-first
returns-in-Err-clause-first g c =
    let was = c.loop-caller.invariant in record {
      caller = c.index-callers-caller.result;
      at_place = slice_get_read c.args.callers.now _ c.loop-caller.caller _ refl c.loop-caller-test.true c.index-callers-caller.is;
      differs = rw was.0 at (c.in-Err.ensures {u = tt}).settled;
      before = was.1;
    }

pub returns-in-Err-clause-same : goal.returns-in-Err-clause-same
returns-in-Err-clause-same g c = c.settle.ensures.same ∙ c.loop-caller.invariant.0
