use Rattle.std.proofs.Common.{rules, ◌≡◌, ℕ, ◌+◌, List, [], ◌∷◌, Bool, true, false, true≢false, refl, sym, subst}
use Rattle.xcp_locked.specs.Tasks.{Duty, Grew, closing_of, duty, cycle_event}
use Rattle.xcp_bank.specs.BankEnds.{ReaderEnd}
use Rattle.xcp_locked.specs.TaskImages.{IsTold, Took}
use Rattle.xcp_locked.specs.private.TaskSteps.{Adds}
use Rattle.xcp_locked.specs.declared.receipt.Receipt.{Receipt}
use Rattle.xcp_locked.proofs.TaskPlanLemmas.{nothing_done, event_done, all_done}
use Rattle.xcp_locked.proofs.TaskImageLaws.{is_fresh, took_it, took_nothing, took_told}
use Rattle.xcp_locked.proofs.TaskOutcomeLemmas.{own_anyway}
use Rattle.xcp_locked.proofs.HasCutLemmas.{cut_nothing}
use Rattle.xcp_locked.proofs.tasks.cycle.Goals as goal

pub returns-then-not-before-clause-grew : goal.returns-then-not-before-clause-grew
returns-then-not-before-clause-grew g c old n is gr = nothing_done _ n old _ gr

pub returns-in-Some-clause-grew : goal.returns-in-Some-clause-grew
returns-in-Some-clause-grew g c old n is gr =
    let p : Duty = duty c.args.worker.now.caller c.args.task in
    let e : c.raise.new.caller.receipts ≡ c.args.worker.now.caller.receipts = search rules in
    subst (λ (z : List Receipt). Grew p (n + 1) false old z) (sym e) (nothing_done p n old _ gr)

pub returns-in-Err-clause-grew : goal.returns-in-Err-clause-grew
returns-in-Err-clause-grew g c old n is gr =
    let p : Duty = duty c.args.worker.now.caller c.args.task in
    let k : ℕ = c.args.cycle in
    let a : Adds (cycle_event p k ∷ []) c.args.worker.now.caller.receipts c.raise.new.caller.receipts = search rules in
    let e : c.close.new.caller.receipts ≡ c.raise.new.caller.receipts = search rules in
    subst (λ (z : List Receipt). Grew p (n + 1) false old z) (sym e)
    (subst (λ (j : ℕ). Grew p (j + 1) false old c.raise.new.caller.receipts) (sym is) (event_done p k old _ _ (subst (λ (j : ℕ). Grew p j true old c.args.worker.now.caller.receipts) is gr) a))

-- the whole cycle was submitted
whole_cycle : (p : Duty) (k n : ℕ) (whole : Bool) (old was mid now : List Receipt) → n ≡ k → Grew p n true old was → Adds (cycle_event p k ∷ []) was mid → Adds (closing_of p) mid now → Grew p (n + 1) whole old now
whole_cycle p k n whole old was mid now is gr a b = subst (λ (j : ℕ). Grew p (j + 1) whole old now) (sym is) (all_done p k whole old was mid now (subst (λ (j : ℕ). Grew p j true old was) is gr) a b)

pub returns-in-Some-cut_full-clause-grew : goal.returns-in-Some-cut_full-clause-grew
returns-in-Some-cut_full-clause-grew g c old n is gr =
    let p : Duty = duty c.args.worker.now.caller c.args.task in
    let a : Adds (cycle_event p c.args.cycle ∷ []) c.args.worker.now.caller.receipts c.raise.new.caller.receipts = search rules in
    let b : Adds (closing_of p) c.raise.new.caller.receipts c.close.new.caller.receipts = search rules in
    whole_cycle p c.args.cycle n false old _ _ _ is gr a b

pub returns-then-not-after-clause-grew : goal.returns-then-not-after-clause-grew
returns-then-not-after-clause-grew g c old n is gr =
    let p : Duty = duty c.args.worker.now.caller c.args.task in
    let a : Adds (cycle_event p c.args.cycle ∷ []) c.args.worker.now.caller.receipts c.raise.new.caller.receipts = search rules in
    let b : Adds (closing_of p) c.raise.new.caller.receipts c.close.new.caller.receipts = search rules in
    whole_cycle p c.args.cycle n false old _ _ _ is gr a b

pub returns-clause-grew : goal.returns-clause-grew
returns-clause-grew g c old n is gr =
    let p : Duty = duty c.args.worker.now.caller c.args.task in
    let a : Adds (cycle_event p c.args.cycle ∷ []) c.args.worker.now.caller.receipts c.raise.new.caller.receipts = search rules in
    let b : Adds (closing_of p) c.raise.new.caller.receipts c.close.new.caller.receipts = search rules in
    whole_cycle p c.args.cycle n true old _ _ _ is gr a b

pub returns-in-Some-clause-own : goal.returns-in-Some-clause-own
returns-in-Some-clause-own g c = own_anyway g.G.Gate.may_end c.args.task _ (c.in-Some.ensures.own c.args.task)

pub returns-in-Err-clause-own : goal.returns-in-Err-clause-own
returns-in-Err-clause-own g c = own_anyway g.G.Gate.may_end c.args.task _ (c.in-Err.ensures.own c.args.task)

pub returns-then-not-before-clause-took : goal.returns-then-not-before-clause-took
returns-then-not-before-clause-took g c = took_nothing 1 false _ _ (λ e. absurd (true≢false (sym e)))

pub returns-in-Some-clause-took : goal.returns-in-Some-clause-took
returns-in-Some-clause-took g c =
    let e : c.raise.new.reader ≡ c.args.worker.now.reader = search rules in
    subst (λ (r : ReaderEnd). Took 1 false c.args.worker.now.reader r c.args.worker.now.last c.args.worker.now.last) (sym e) (took_nothing 1 false _ _ (λ n. absurd (true≢false (sym n))))

pub returns-in-Err-clause-took : goal.returns-in-Err-clause-took
returns-in-Err-clause-took g c =
    let t : IsTold g.N.Name.layout c.args.worker.now.caller.number (cycle_event (duty c.args.worker.now.caller c.args.task) c.args.cycle) c.args.worker.now.caller.receipts c.raise.new.caller.receipts c.args.worker.now.reader c.raise.new.reader = search rules in
    took_it false _ _ _ _ (took_told _ _ _ _ _ _ _ _ _ _ t c.take_image.ensures.seen c.take_image.ensures.took)

pub returns-in-Some-cut_full-clause-took : goal.returns-in-Some-cut_full-clause-took
returns-in-Some-cut_full-clause-took g c =
    let t : IsTold g.N.Name.layout c.args.worker.now.caller.number (cycle_event (duty c.args.worker.now.caller c.args.task) c.args.cycle) c.args.worker.now.caller.receipts c.raise.new.caller.receipts c.args.worker.now.reader c.raise.new.reader = search rules in
    took_it false _ _ _ _ (took_told _ _ _ _ _ _ _ _ _ _ t c.take_image.ensures.seen c.take_image.ensures.took)

pub returns-then-not-after-clause-took : goal.returns-then-not-after-clause-took
returns-then-not-after-clause-took g c =
    let t : IsTold g.N.Name.layout c.args.worker.now.caller.number (cycle_event (duty c.args.worker.now.caller c.args.task) c.args.cycle) c.args.worker.now.caller.receipts c.raise.new.caller.receipts c.args.worker.now.reader c.raise.new.reader = search rules in
    took_it false _ _ _ _ (took_told _ _ _ _ _ _ _ _ _ _ t c.take_image.ensures.seen c.take_image.ensures.took)

pub returns-clause-took : goal.returns-clause-took
returns-clause-took g c =
    let t : IsTold g.N.Name.layout c.args.worker.now.caller.number (cycle_event (duty c.args.worker.now.caller c.args.task) c.args.cycle) c.args.worker.now.caller.receipts c.raise.new.caller.receipts c.args.worker.now.reader c.raise.new.reader = search rules in
    took_told _ _ _ _ _ _ _ _ _ _ t c.take_image.ensures.seen c.take_image.ensures.took

pub returns-clause-fresh : goal.returns-clause-fresh
returns-clause-fresh g c none =
    let p : Duty = duty c.args.worker.now.caller c.args.task in
    let t : IsTold g.N.Name.layout c.args.worker.now.caller.number (cycle_event (duty c.args.worker.now.caller c.args.task) c.args.cycle) c.args.worker.now.caller.receipts c.raise.new.caller.receipts c.args.worker.now.reader c.raise.new.reader = search rules in
    let b : Adds (closing_of p) c.raise.new.caller.receipts c.close.new.caller.receipts = search rules in
    is_fresh _ p c.args.cycle _ _ _ _ _ _ _ t b c.take_image.ensures.seen c.take_image.ensures.newest

pub returns-then-not-before-clause-cut : goal.returns-then-not-before-clause-cut
returns-then-not-before-clause-cut g c = cut_nothing 1 _ _ _ _ refl

pub returns-in-Some-clause-cut : goal.returns-in-Some-clause-cut
returns-in-Some-clause-cut g c = cut_nothing 1 _ _ _ _ refl

pub returns-in-Err-clause-cut : goal.returns-in-Err-clause-cut
returns-in-Err-clause-cut g c = cut_nothing 1 _ _ _ _ refl
