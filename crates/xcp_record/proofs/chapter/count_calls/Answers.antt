use Rattle.std.proofs.Common.{◌<◌, rules, arith, length}
use Rattle.xcp_record.proofs.CallLemmas.{walks_more, walks_on, walks_short}
use Rattle.xcp_record.proofs.chapter.count_calls.Goals as goal

pub returns-in_default-clause-none : goal.returns-in_default-clause-none
returns-in_default-clause-none c =
    let some : 0 < length c.loop-left.left.now = search rules in
    walks_on c.args.bytes.now c.loop-left.left.now c.loop-left.count c.loop-left.invariant some (c.in_default.ensures {u = tt}).none

pub overflow_add-count : goal.overflow_add-count
overflow_add-count c =
    let short = walks_short c.args.bytes.now c.loop-left.left.now c.loop-left.count c.loop-left.invariant in
    search (rules, arith, short)

pub loop-left-preserved : goal.loop-left-preserved
loop-left-preserved c = walks_more c.args.bytes.now c.loop-left.left.now c.in-Some.more.now c.loop-left.count _ c.loop-left.invariant c.in-Some.ensures.some
