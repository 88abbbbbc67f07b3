-- Steps, one behind another.
use Rattle.std.proofs.Common.{List, [], ◌∷◌, ◌++◌, refl, sym, subst}
use Rattle.xcp_seats.specs.Trails.{Leads, Repeats}

leads_more : {A : Type 0} (Step : A → A → Type 0) (a : A) (xs : List A) (b c : A) → Leads Step a xs b → Step b c → Leads Step a (xs ++ c ∷ []) c
leads_more Step a [] b c h s = (subst (λ x. Step x c) (sym h) s, refl)
leads_more Step a (x ∷ xs) b c h s = (h.0, leads_more Step x xs b c h.1 s)

-- none was made yet
pub none_yet : {A : Type 0} (Step : A → A → Type 0) (a : A) → Repeats Step a a
none_yet Step a = record { trail = []; leads = refl }

-- and one more behind them
pub one_more : {A : Type 0} (Step : A → A → Type 0) (a b c : A) → Repeats Step a b → Step b c → Repeats Step a c
one_more Step a b c r s = record { trail = r.trail ++ c ∷ []; leads = leads_more Step a r.trail b c r.leads s }
