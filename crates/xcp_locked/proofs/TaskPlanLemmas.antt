-- What the cycles submit, put together.
use Rattle.std.proofs.Common.{◌≡◌, ℕ, zero, suc, ◌+◌, ◌-◌, ◌≤◌, Bool, true, false, true≢false, List, [], ◌∷◌, ◌++◌, sym, refl, ap, ◌∙◌, subst, cond, arith, append_assoc, ne_eqb, eq-eqb}
use Rattle.xcp_locked.specs.declared.receipt.Receipt.{Receipt}
use Rattle.std.specs.Prelude.{Result, Ok, Err, IfOk}
use Rattle.xcp_slave.specs.declared.request.Request.{Request}
use Rattle.xcp_slave.specs.declared.request.Request.TheVariants as requests
use Rattle.xcp_locked.specs.Tasks.{Duty, duty, receipt_requests, cycle_event, closing_of, cycle_of, plan, Grew, Same}
use Rattle.xcp_locked.specs.private.TaskSteps.{Adds}
use Rattle.xcp_locked.specs.Caller.{CallerValue}

reqs_append : (xs ys : List Receipt) → receipt_requests (xs ++ ys) ≡ receipt_requests xs ++ receipt_requests ys
reqs_append [] ys = refl
reqs_append (x ∷ xs) ys = ap (λ (z : List Request). x.request ∷ z) (reqs_append xs ys)

-- one cycle more, of which these were submitted
pub one_more : (p : Duty) (n : ℕ) (whole : Bool) (old new new' : List Receipt) (now : List Receipt) (rest : List Request) → Grew p n true old new → new' ≡ new ++ now → cycle_of p n ≡ receipt_requests now ++ rest → (whole ≡ true → rest ≡ []) → Grew p (n + 1) whole old new'
one_more p n whole old new new' now rest g is c all =
    let same : plan p n ≡ receipt_requests g.more = g.planned ∙ (ap (λ (z : List Request). receipt_requests g.more ++ z) (g.all refl) ∙ end (receipt_requests g.more)) in
    let next : plan p (n + 1) ≡ plan p n ++ cycle_of p n = ap (plan p) (plus n) in record {
      more = g.more ++ now;
      new_is = is ∙ (ap (λ (z : List Receipt). z ++ now) g.new_is ∙ append_assoc old g.more now);
      rest = rest;
      planned = next ∙ ((λ i. same i ++ c i) ∙ (sym (append_assoc (receipt_requests g.more) (receipt_requests now) rest) ∙ ap (λ (z : List Request). z ++ rest) (sym (reqs_append g.more now))));
      all = all;
    }
  where
    end : (xs : List Request) → xs ++ [] ≡ xs
    end [] = refl
    end (x ∷ xs) = ap (λ (z : List Request). x ∷ z) (end xs)

    plus : (k : ℕ) → k + 1 ≡ suc k
    plus k = omega arith

-- a plan of fewer cycles begins one of more
plan_more : (p : Duty) (n k : ℕ) → (rest : List Request) × (plan p (k + n) ≡ plan p n ++ rest)
plan_more p n zero = ([], ap (plan p) (nought n) ∙ sym (end (plan p n)))
  where
    end : (xs : List Request) → xs ++ [] ≡ xs
    end [] = refl
    end (x ∷ xs) = ap (λ (z : List Request). x ∷ z) (end xs)

    nought : (k : ℕ) → 0 + k ≡ k
    nought k = omega arith
plan_more p n (suc k) = let r = plan_more p n k in (r.0 ++ cycle_of p (k + n), ap (plan p) (over k n) ∙ (ap (λ (z : List Request). z ++ cycle_of p (k + n)) r.1 ∙ append_assoc (plan p n) r.0 (cycle_of p (k + n))))
  where
    over : (a b : ℕ) → suc a + b ≡ suc (a + b)
    over a b = omega arith

-- receipts of a beginning of a plan are those of a beginning of the plan of as many cycles or more
pub stopped : (p : Duty) (n cycles : ℕ) (old new : List Receipt) → n ≤ cycles → Grew p n false old new → Grew p cycles false old new
stopped p n cycles old new le g =
    let k : ℕ = cycles - n in
    let is : k + n ≡ cycles = omega arith in
    let m = plan_more p n k in record {
      more = g.more;
      new_is = g.new_is;
      rest = g.rest ++ m.0;
      planned = ap (plan p) (sym is) ∙ (m.1 ∙ (ap (λ (z : List Request). z ++ m.0) g.planned ∙ append_assoc (receipt_requests g.more) g.rest m.0));
      all = λ e. absurd (true≢false (sym e));
    }

-- receipts of whole cycles are those of a beginning of the plan of one cycle more
pub nothing_done : (p : Duty) (n : ℕ) (old new : List Receipt) → Grew p n true old new → Grew p (n + 1) false old new
nothing_done p n old new g = one_more p n false old new new [] (cycle_of p n) g (sym (end new)) refl (λ e. absurd (true≢false (sym e)))
  where
    end : (xs : List Receipt) → xs ++ [] ≡ xs
    end [] = refl
    end (x ∷ xs) = ap (λ (z : List Receipt). x ∷ z) (end xs)

-- the same with the receipt of the next cycle's event behind them
pub event_done : (p : Duty) (n : ℕ) (old new mid : List Receipt) → Grew p n true old new → Adds (cycle_event p n ∷ []) new mid → Grew p (n + 1) false old mid
event_done p n old new mid g a = one_more p n false old new mid a.0 (closing_of p) g a.2 (ap (λ (z : List Request). z ++ closing_of p) (sym a.1)) (λ e. absurd (true≢false (sym e)))

-- receipts of whole cycles, of the next one's event and of what closes it are those of one whole cycle more
pub all_done : (p : Duty) (n : ℕ) (whole : Bool) (old new mid end : List Receipt) → Grew p n true old new → Adds (cycle_event p n ∷ []) new mid → Adds (closing_of p) mid end → Grew p (n + 1) whole old end
all_done p n whole old new mid end g a b = one_more p n whole old new end (a.0 ++ b.0) [] g (b.2 ∙ (ap (λ (z : List Receipt). z ++ b.0) a.2 ∙ append_assoc new a.0 b.0))
    ((λ i. sym a.1 i ++ sym b.1 i) ∙ (sym (reqs_append a.0 b.0) ∙ sym (none (receipt_requests (a.0 ++ b.0))))) (λ e. refl)
  where
    none : (xs : List Request) → xs ++ [] ≡ xs
    none [] = refl
    none (x ∷ xs) = ap (λ (z : List Request). x ∷ z) (none xs)

-- a receipt that stands last adds its request
pub one_added : (request : Request) (old new : List Receipt) (r : Receipt) → r.request ≡ request → new ≡ old ++ r ∷ [] → Adds (request ∷ []) old new
one_added request old new r is e = (r ∷ [], ap (λ (z : Request). z ∷ []) is, e)

-- a task other than task 0 adds nothing behind the event of a cycle
pub none_added : (p : Duty) (old : List Receipt) → ¬ (p.task ≡ 0) → Adds (closing_of p) old old
none_added p old ne = subst (λ (b : Bool). Adds (cond b (requests.FinishStore ∷ []) []) old old) (sym (ne_eqb p.task 0 ne)) ([], refl, sym (end old))
  where
    end : (xs : List Receipt) → xs ++ [] ≡ xs
    end [] = refl
    end (x ∷ xs) = ap (λ (z : List Receipt). x ∷ z) (end xs)

-- task 0 adds a FinishStore behind the event of a cycle
pub last_added : (p : Duty) (old new : List Receipt) → p.task ≡ 0 → Adds (requests.FinishStore ∷ []) old new → Adds (closing_of p) old new
last_added p old new is a = subst (λ (b : Bool). Adds (cond b (requests.FinishStore ∷ []) []) old new) (sym (eq-eqb p.task 0 is)) a

-- before the first cycle, no receipt more is what the whole plan of no cycle adds
pub starts : (p : Duty) (rs : List Receipt) → Grew p 0 true rs rs
starts p rs = record { more = []; new_is = sym (nil_end rs); rest = []; planned = refl; all = λ _. refl }
  where
    nil_end : (xs : List Receipt) → xs ++ [] ≡ xs
    nil_end [] = refl
    nil_end (x ∷ xs) = ap (λ (z : List Receipt). x ∷ z) (nil_end xs)

-- a task that never began
pub left : (p : Duty) (cycles : ℕ) (rs : List Receipt) → Grew p cycles false rs rs
left p cycles rs = stopped p 0 cycles rs rs (omega arith) (record { more = []; new_is = sym (nil_end rs); rest = []; planned = refl; all = λ _. refl })
  where
    nil_end : (xs : List Receipt) → xs ++ [] ≡ xs
    nil_end [] = refl
    nil_end (x ∷ xs) = ap (λ (z : List Receipt). x ∷ z) (nil_end xs)

-- a caller that is the same one has the same duty in a task
pub duty_same : (old new : CallerValue) (task : ℕ) → Same old new → duty new task ≡ duty old task
duty_same old new task s i = record { events = s.events i; signals = s.signals i; task = task }

-- a caller that stays the same one in two steps is the same one behind both
pub same_after : (a b c : CallerValue) → Same a b → Same b c → Same a c
same_after a b c s t = record { number = t.number ∙ s.number; events = t.events ∙ s.events; signals = t.signals ∙ s.signals }

-- what follows from a fact about a value holds of it, where a call gave one
pub if_ok : {A E : Type 0} {P Q : A → Type 0} (r : Result A E) → ((a : A) → P a → Q a) → IfOk r P → IfOk r Q
if_ok (Ok a) f h = f a h
if_ok (Err e) f h = tt

-- what a task did, said of its worker
pub grew_numbered : {whole : Bool} (c c' : CallerValue) (task task' cycles cycles' : ℕ) {new : List Receipt} → task' ≡ task → cycles' ≡ cycles → c' ≡ c → Grew (duty c' task') cycles' whole c'.receipts new → Grew (duty c task) cycles whole c.receipts new
grew_numbered {whole} c c' task task' cycles cycles' {new} t n e g =
    subst (λ (x : CallerValue). Grew (duty x task) cycles whole x.receipts new) e (subst (λ (k : ℕ). Grew (duty c' task) k whole c'.receipts new) n (subst (λ (k : ℕ). Grew (duty c' k) cycles' whole c'.receipts new) t g))
