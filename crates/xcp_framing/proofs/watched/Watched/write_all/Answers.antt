use Rattle.std.proofs.Common.{◌≡◌, ◌-◌, ◌≤◌, length, take, drop, arith, length-drop}
use Rattle.std.proofs.Math.Seq.{take-add}
use Rattle.std.proofs.lemmas.List.{take_all}
use Rattle.std.proofs.lemmas.Bool.Decides.{nat_tests}
use Rattle.xcp_framing.proofs.KnownBytesLemmas.{appends_more, front_kept, keeps_none}
use Rattle.xcp_framing.proofs.watched.Watched.write_all.Goals as goal

pub loop-written-preserved : goal.loop-written-preserved
loop-written-preserved g c =
    let t = c.args.text.now in
    let i = c.loop-written.written in
    let rest : take (length t - i) (drop i t) ≡ drop i t = take_all (length t - i) (drop i t) (omega (arith, length-drop i t)) in
    let bound : c.in-Ok.count ≤ length (drop i t) = rw rest at c.in-Ok.ensures.bound in
    record {
      within = omega (arith, length-drop i t);
      failures = grind (arith, nat_tests, c.in-Ok.ensures.counted.failures);
      bytes = rw take-add (appends_more _ _ _ _ _ c.loop-written.invariant.bytes (rw rest at c.in-Ok.ensures.bytes));
    }

pub returns-in_default-clause-front : goal.returns-in_default-clause-front
returns-in_default-clause-front g c = front_kept _ _ _ _ _ c.loop-written.invariant.bytes c.in_default.ensures.bytes

pub returns-then-count-eq0-clause-front : goal.returns-then-count-eq0-clause-front
returns-then-count-eq0-clause-front g c = front_kept _ _ _ _ _ c.loop-written.invariant.bytes (keeps_none _ _ (rw c.if-count-eq0.true at c.in-Ok.ensures.bytes))
