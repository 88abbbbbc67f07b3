-- A journal that is one entry longer.
use Rattle.std.proofs.Common.{◌≡◌, ℕ, ◌+◌, List, [], ◌∷◌, ◌++◌, length, length-append, refl, sym, ap, ◌∙◌, subst}
use Rattle.xcp_slave.specs.declared.exchange.Exchange.{Exchange}
use Rattle.xcp_slave.specs.declared.request.Request.{Request}
use Rattle.xcp_slave.specs.Outcomes.{Answer}
use Rattle.xcp_slave.specs.SlaveValue.{SlaveValue}
use Rattle.xcp_slave.specs.Step.{Answers}
use Rattle.xcp_slave.specs.Run.{Run}
use Rattle.xcp_slave.proofs.RunLaws.{run-more}
use Rattle.xcp_trace.specs.declared.Entry.{Entry}
use Rattle.xcp_locked.specs.Journal.{entry, exchanges}

-- the exchanges of a journal with one more entry are those before, and then the entry's
pub exchanges_snoc : (es : List Entry) (e : Entry) → exchanges (es ++ e ∷ []) ≡ exchanges es ++ e.exchange ∷ []
exchanges_snoc [] e = refl
exchanges_snoc (x ∷ es) e = ap (λ (z : List Exchange). x.exchange ∷ z) (exchanges_snoc es e)

-- before any call
pub run_first : (base v : SlaveValue) (es : List Entry) → es ≡ [] → v ≡ base → Run base (exchanges es) v
run_first base v es none is = subst (λ (z : List Entry). Run base (exchanges z) v) (sym none) is

-- the run of a journal goes on by one call
run_snoc : (base v : SlaveValue) (es : List Entry) (by : ℕ) (q : Request) (a : Answer) (w : SlaveValue) → Run base (exchanges es) v → Answers v q a w → Run base (exchanges (es ++ entry by q a ∷ [])) w
run_snoc base v es by q a w r h = subst (λ (z : List Exchange). Run base z w) (sym (exchanges_snoc es (entry by q a))) (run-more base (exchanges es) v (record { request = q; answer = a }) w r h)

-- the same, of a journal that is said to be one call longer
pub run_goes_on : (base v : SlaveValue) (es more : List Entry) (by : ℕ) (q : Request) (a : Answer) (w : SlaveValue) → more ≡ es ++ entry by q a ∷ [] → Run base (exchanges es) v → Answers v q a w → Run base (exchanges more) w
run_goes_on base v es more by q a w is r h = subst (λ (z : List Entry). Run base (exchanges z) w) (sym is) (run_snoc base v es by q a w r h)

-- a journal that is one entry longer than one that stands for the old one
pub one_more : (old mid new : List Entry) (e : Entry) → mid ≡ old → new ≡ mid ++ e ∷ [] → (new ≡ old ++ e ∷ []) × (length new ≡ length old + 1)
one_more old mid new e same more = let is : new ≡ old ++ e ∷ [] = more ∙ ap (λ (z : List Entry). z ++ e ∷ []) same in (is, ap length is ∙ length-append old (e ∷ []))
