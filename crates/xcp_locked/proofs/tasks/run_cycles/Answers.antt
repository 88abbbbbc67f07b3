use Rattle.std.proofs.Common.{rules, ◌≡◌, ◌≤◌, ℕ, ◌+◌, Bool, true, false, refl, subst, arith}
use Rattle.std.specs.Prelude.{is_none}
use Rattle.xcp_locked.specs.Tasks.{Duty, Grew, IsFresh, duty}
use Rattle.xcp_locked.proofs.TaskPlanLemmas.{duty_same, same_after, starts, stopped}
use Rattle.xcp_locked.proofs.TaskOutcomeLemmas.{none_left}
use Rattle.xcp_locked.proofs.TaskImageLaws.{took_less, took_more, took_nothing}
use Rattle.xcp_locked.proofs.HasCutLemmas.{cut_less, cut_more, cut_nothing}
use Rattle.xcp_locked.specs.TaskImages.{Took}
use Rattle.xcp_locked.proofs.tasks.run_cycles.Goals as goal

pub returns-in-Some-clause-grew : goal.returns-in-Some-clause-grew
returns-in-Some-clause-grew g c =
    let p : Duty = duty c.args.worker.now.caller c.args.task in
    let n : ℕ = c.loop-n.n in
    let was = c.loop-n.invariant in
    let le : n + 1 ≤ c.args.cycles = search rules in
    let same : duty c.loop-n.worker.caller c.args.task ≡ p = duty_same c.args.worker.now.caller c.loop-n.worker.caller c.args.task was.1 in
    let one = subst (λ (q : Duty). Grew q n true c.args.worker.now.caller.receipts c.loop-n.worker.caller.receipts → Grew q (n + 1) (is_none c.cycle.result) c.args.worker.now.caller.receipts c.cycle.new.worker.caller.receipts) same (c.cycle.ensures.grew c.args.worker.now.caller.receipts n refl) in
    let more : Grew p (n + 1) false c.args.worker.now.caller.receipts c.cycle.new.worker.caller.receipts = subst (λ (o : _). Grew p (n + 1) (is_none o) c.args.worker.now.caller.receipts c.cycle.new.worker.caller.receipts) c.in-Some.is (one was.0) in
    stopped p (n + 1) c.args.cycles _ _ le more

pub returns-in-Some-clause-took : goal.returns-in-Some-clause-took
returns-in-Some-clause-took g c =
    let w = c.args.worker.now in
    let n : ℕ = c.loop-n.n in
    let more = took_more n (is_none c.cycle.result) _ _ _ _ _ _ c.loop-n.invariant.2 c.cycle.ensures.took in
    took_less (n + 1) c.args.cycles _ _ _ _ (subst (λ (o : _). Took (n + 1) (is_none o) w.reader c.cycle.new.worker.reader w.last c.cycle.new.worker.last) c.in-Some.is more)

pub returns-in-Some-clause-cut : goal.returns-in-Some-clause-cut
returns-in-Some-clause-cut g c =
    let n : ℕ = c.loop-n.n in
    let le : n + 1 ≤ c.args.cycles = search rules in
    cut_less (n + 1) c.args.cycles _ _ _ _ le (cut_more n _ _ _ _ _ c.loop-n.invariant.3 c.cycle.ensures.cut)

pub loop-n-init : goal.loop-n-init
loop-n-init g c = (starts _ _, record { number = refl; events = refl; signals = refl }, took_nothing 0 true _ _ (λ _. refl), cut_nothing 0 _ _ _ _ refl, λ last e. absurd (omega (arith, e)))

pub loop-n-preserved : goal.loop-n-preserved
loop-n-preserved g c =
    let w = c.args.worker.now in
    let p : Duty = duty w.caller c.args.task in
    let n : ℕ = c.loop-n.n in
    let was = c.loop-n.invariant in
    let whole : is_none c.cycle.result ≡ true = none_left c.cycle.result c.in_default.not-Some in
    let same : duty c.loop-n.worker.caller c.args.task ≡ p = duty_same w.caller c.loop-n.worker.caller c.args.task was.1 in
    let one = subst (λ (q : Duty). Grew q n true w.caller.receipts c.loop-n.worker.caller.receipts → Grew q (n + 1) (is_none c.cycle.result) w.caller.receipts c.cycle.new.worker.caller.receipts) same (c.cycle.ensures.grew w.caller.receipts n refl) in
    let more = took_more n (is_none c.cycle.result) _ _ _ _ _ _ was.2 c.cycle.ensures.took in
    let fresh = c.cycle.ensures.fresh whole in
    let of : IsFresh g.N.Name.layout p n w.caller.number c.cycle.new.worker.caller.receipts c.cycle.new.worker.reader = subst (λ (q : Duty). IsFresh g.N.Name.layout q n w.caller.number c.cycle.new.worker.caller.receipts c.cycle.new.worker.reader) same (subst (λ (k : ℕ). IsFresh g.N.Name.layout (duty c.loop-n.worker.caller c.args.task) n k c.cycle.new.worker.caller.receipts c.cycle.new.worker.reader) was.1.number fresh) in (
      subst (λ (b : Bool). Grew p (n + 1) b w.caller.receipts c.cycle.new.worker.caller.receipts) whole (one was.0),
      same_after _ _ _ was.1 c.cycle.ensures.same,
      subst (λ (b : Bool). Took (n + 1) b w.reader c.cycle.new.worker.reader w.last c.cycle.new.worker.last) whole more,
      cut_more n _ _ _ _ _ was.3 c.cycle.ensures.cut,
      λ last e. subst (λ (k : ℕ). IsFresh g.N.Name.layout p k w.caller.number c.cycle.new.worker.caller.receipts c.cycle.new.worker.reader) (omega (arith, e)) of,
    )
