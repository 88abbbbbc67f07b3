-- Runs, step by step.
use Rattle.std.proofs.Common.{◌≡◌, List, [], ◌∷◌, ◌++◌, refl, sym, ap, ◌∙◌, subst}
use Rattle.xcp_slave.specs.declared.request.Request.{Request}
use Rattle.xcp_slave.specs.Outcomes.{Answer}
use Rattle.xcp_slave.specs.declared.exchange.Exchange.{Exchange}
use Rattle.xcp_memory.specs.Layout.{LayoutValue}
use Rattle.xcp_slave.specs.SlaveValue.{SlaveValue, layout_of, opening}
use Rattle.xcp_slave.specs.Step.{Answers}
use Rattle.xcp_slave.specs.Run.{Run, requests_of}
use Rattle.xcp_slave.proofs.StepLaws.{answers-single, answers-some}
use Rattle.xcp_slave.proofs.LayoutKeptLemmas.{answers-layout}

-- for each slave and each list of requests there is a run
pub run-some : (v : SlaveValue) (qs : List Request) → (xs : List Exchange) × (w : SlaveValue) × (requests_of xs ≡ qs) × Run v xs w
run-some v [] = ([], v, refl, refl)
run-some v (q ∷ qs) =
    let s = answers-some v q in
    let r = run-some s.1 qs in
    let x : Exchange = record { request = q; answer = s.0 } in
    (x ∷ r.0, r.1, ap (λ (zs : List Request). q ∷ zs) r.2, (s.1, s.2, r.3))

-- and no other: where a run begins and its requests determine its answers and where it ends
pub run-single : (v : SlaveValue) (xs ys : List Exchange) (w u : SlaveValue) → requests_of xs ≡ requests_of ys → Run v xs w → Run v ys u → (xs ≡ ys) × (w ≡ u)
run-single v [] [] w u e h k = (refl, h ∙ sym k)
run-single v [] (y ∷ ys) w u e h k = (cc, cc)
run-single v (x ∷ xs) [] w u e h k = (cc, cc)
run-single v (x ∷ xs) (y ∷ ys) w u e h k =
    let same : x.request ≡ y.request = cc in
    let others : requests_of xs ≡ requests_of ys = cc in
    let s = answers-single v x.request x.answer y.answer h.0 k.0 h.1 (subst (λ (q : Request). Answers v q y.answer k.0) (sym same) k.1) in
    let r = run-single h.0 xs ys w u others h.2 (subst (λ (m : SlaveValue). Run m ys u) (sym s.1) k.2) in
    let make : Request → Answer → Exchange = λ q a. record { request = q; answer = a } in
    let first : x ≡ y = ap (λ (q : Request). make q x.answer) same ∙ ap (λ (a : Answer). make y.request a) s.0 in
    (ap (λ (z : Exchange). z ∷ xs) first ∙ ap (λ (zs : List Exchange). y ∷ zs) r.0, r.1)

-- no run changes the layout
pub run-layout : (v : SlaveValue) (xs : List Exchange) (w : SlaveValue) → Run v xs w → layout_of w ≡ layout_of v
run-layout v [] w h = ap (λ (x : SlaveValue). layout_of x) h
run-layout v (x ∷ xs) w h = run-layout h.0 xs w h.2 ∙ answers-layout v x.request x.answer h.0 h.1

-- one more step at the end
pub run-more : (v : SlaveValue) (xs : List Exchange) (w : SlaveValue) (x : Exchange) (u : SlaveValue) → Run v xs w → Answers w x.request x.answer u → Run v (xs ++ x ∷ []) u
run-more v [] w x u r a = (u, rw r at a, refl)
run-more v (y ∷ ys) w x u r a = (r.0, r.1, run-more r.0 ys w x u r.2 a)

-- the run of a slave from its opening goes on by one step
pub run-extended : (v : SlaveValue) (xs : List Exchange) (q : Request) (a : Answer) (w : SlaveValue) → Run (opening (layout_of v)) xs v → Answers v q a w → Run (opening (layout_of w)) (xs ++ record { request = q; answer = a } ∷ []) w
run-extended v xs q a w r h =
    subst (λ (l : LayoutValue). Run (opening l) (xs ++ record { request = q; answer = a } ∷ []) w) (sym (answers-layout v q a w h)) (run-more (opening (layout_of v)) xs v (record { request = q; answer = a }) w r h)
