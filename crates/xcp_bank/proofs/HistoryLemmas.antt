-- The history that the rule has, and what each keeps of it.
use Rattle.std.proofs.Common.{◌≡◌, ◌≢◌, ℕ, suc, ◌+◌, Bool, true, false, cond, eqb, eq-eqb, ne_eqb, List, [], ◌∷◌, ◌++◌, refl, sym, ap, ◌∙◌, subst, append_assoc, get_or}
use Rattle.std.proofs.lemmas.List.{append-nil}
use Rattle.pin_core.specs.declared.events.Seen.{Seen}
use Rattle.pin_core.specs.State.{PinState}
use Rattle.pin_core.specs.Steps.{Steps, Runs}
use Rattle.xcp_bank.specs.PinHistory.{Deed, deed_events, answers_of, doer, deeds_by, Grows, Does, AllScans, has_scanned, has_read, reads_of}
use mathlib.Core.List.{IsPrefix}
use Rattle.xcp_bank.specs.SeatKnowledge.{Reading}
use Rattle.xcp_bank.specs.TableRule.{RecordsAll, StandsForAll}

-- equal lists of answers have the same first answer
pub head_same : (a b : Seen) (l m : List Seen) → a ∷ l ≡ b ∷ m → a ≡ b
head_same a b l m e = cc

-- equal lists of answers have the same answers behind the first
pub tail_same : (a b : Seen) (l m : List Seen) → a ∷ l ≡ b ∷ m → l ≡ m
tail_same a b l m e = cc

-- a run of a history and a step from its end make a run of the history with this deed at its end
pub runs_more : (W : ℕ) (s t u : PinState) (ds : List Deed) (d : Deed) → Runs W s (deed_events ds) (answers_of ds) t → Steps W t d.0 d.1 u → Runs W s (deed_events (ds ++ d ∷ [])) (answers_of (ds ++ d ∷ [])) u
runs_more W s t u [] d r st = (d.1, u, [], refl, subst (λ (z : PinState). Steps W z d.0 d.1 u) r.1 st, (refl, refl))
runs_more W s t u (x ∷ ds) d r st = (r.0, r.1, answers_of (ds ++ d ∷ []), ap (λ (z : Seen). z ∷ answers_of (ds ++ d ∷ [])) (head_same x.1 r.0 (answers_of ds) r.2 r.3), r.4, runs_more W r.1 t u ds d (subst (λ (l : List Seen). Runs W r.1 (deed_events ds) l t) (sym (tail_same x.1 r.0 (answers_of ds) r.2 r.3)) r.5) st)

one : (d : Deed) (l m n : List Deed) → l ≡ m ++ n → (t : Bool) → cond t (d ∷ l) l ≡ cond t (d ∷ m) m ++ n
one d l m n e true = ap (λ (z : List Deed). d ∷ z) e
one d l m n e false = e

-- one's own deeds in two histories joined are those in the first and then those in the second
pub by_app : (who : ℕ) (ds bs : List Deed) → deeds_by who (ds ++ bs) ≡ deeds_by who ds ++ deeds_by who bs
by_app who [] bs = refl
by_app who (d ∷ ds) bs = one d (deeds_by who (ds ++ bs)) (deeds_by who ds) (deeds_by who bs) (by_app who ds bs) (eqb who (doer d.0))

-- in a history of a single deed of one's own, one's own deeds are this one
pub by_own : (who : ℕ) (d : Deed) → who ≡ doer d.0 → deeds_by who (d ∷ []) ≡ d ∷ []
by_own who d e = ap (λ (t : Bool). cond t (d ∷ []) []) (eq-eqb who (doer d.0) e)

by_other : (who : ℕ) (d : Deed) → who ≢ doer d.0 → deeds_by who (d ∷ []) ≡ []
by_other who d ne = ap (λ (t : Bool). cond t (d ∷ []) []) (ne_eqb who (doer d.0) ne)

-- a history that stays as it is grows by no deed of one's own
pub grows_none : (who : ℕ) (h : List Deed) → Grows who h h []
grows_none who h = record { more = []; is = sym (append-nil h); own_is = refl }

-- another's deed
pub grows_else : (who : ℕ) (k h o : List Deed) (d : Deed) → who ≢ doer d.0 → Grows who k h o → Grows who k (h ++ d ∷ []) o
grows_else who k h o d ne g = record {
  more = g.more ++ d ∷ [];
  is = ap (λ (l : List Deed). l ++ d ∷ []) g.is ∙ append_assoc k g.more (d ∷ []);
  own_is = by_app who g.more (d ∷ []) ∙ ((λ i. deeds_by who g.more ++ by_other who d ne i) ∙ (append-nil (deeds_by who g.more) ∙ g.own_is));
}

-- one's own
pub grows_own : (who : ℕ) (k h o : List Deed) (d : Deed) → who ≡ doer d.0 → Grows who k h o → Grows who k (h ++ d ∷ []) (o ++ d ∷ [])
grows_own who k h o d e g = record {
  more = g.more ++ d ∷ [];
  is = ap (λ (l : List Deed). l ++ d ∷ []) g.is ∙ append_assoc k g.more (d ∷ []);
  own_is = by_app who g.more (d ∷ []) ∙ (λ i. g.own_is i ++ by_own who d e i);
}

-- where a history grows twice, one's own deeds are those of the first time and then those of the second
pub grows_again : (who : ℕ) (a b c o p : List Deed) → Grows who a b o → Grows who b c p → Grows who a c (o ++ p)
grows_again who a b c o p g h = record {
  more = g.more ++ h.more;
  is = h.is ∙ (ap (λ (l : List Deed). l ++ h.more) g.is ∙ append_assoc a g.more h.more);
  own_is = by_app who g.more h.more ∙ (λ i. g.own_is i ++ h.own_is i);
}

-- others' deeds, and one of one's own
pub grows_act : (who : ℕ) (a b c o : List Deed) (d : Deed) → who ≡ doer d.0 → Grows who a b o → Grows who b c [] → Grows who a (c ++ d ∷ []) (o ++ d ∷ [])
grows_act who a b c o d e g h = grows_own who a c o d e (subst (Grows who a c) (append-nil o) (grows_again who a b c o [] g h))

-- a list of Scans with one more Scan at its end has only Scans
pub scans_more : (ds : List Deed) (b n : ℕ) → AllScans ds → AllScans (ds ++ has_scanned b n ∷ [])
scans_more [] b n k = ((b, n, refl), tt)
scans_more (d ∷ ds) b n k = (k.0, scans_more ds b n k.1)

-- one Read more
pub reads_more : (r : ℕ) (words : List ℕ) (from n k v : ℕ) → from + n ≡ k → v ≡ get_or words k 0 → reads_of r words from n ++ has_read r k v ∷ [] ≡ reads_of r words from (suc n)
reads_more r words from n k v at is =
    let at' : k ≡ from + n = sym at in
    let is' : v ≡ get_or words (from + n) 0 = is ∙ ap (λ (m : ℕ). get_or words m 0) at' in
    λ i. reads_of r words from n ++ has_read r (at' i) (is' i) ∷ []

-- a step of one's own, behind all that has happened
pub does_step : (who : ℕ) (k p h : List Deed) (d : Deed) → who ≡ doer d.0 → Grows who k h p → Does who k p (h ++ d ∷ []) [] (d ∷ [])
does_step who k p h d e g = let n = grows_own who k h p d e g in record { more = n.more; is = n.is; own_is = append-nil (deeds_by who n.more) ∙ n.own_is }

-- what one does from one call's end to a second's and on to a third's is the deeds of both stretches, in order
pub does_again : (who : ℕ) (a p b q c r ds es : List Deed) → Does who a p b q ds → Does who b q c r es → Does who a p c r (ds ++ es)
does_again who a p b q c r ds es g h = record {
  more = g.more ++ h.more;
  is = h.is ∙ (ap (λ (l : List Deed). l ++ h.more) g.is ∙ append_assoc a g.more h.more);
  own_is = ap (λ (l : List Deed). l ++ r) (by_app who g.more h.more)
      ∙ (append_assoc (deeds_by who g.more) (deeds_by who h.more) r
      ∙ (ap (λ (l : List Deed). deeds_by who g.more ++ l) h.own_is
      ∙ (sym (append_assoc (deeds_by who g.more) q es)
      ∙ (ap (λ (l : List Deed). l ++ es) g.own_is ∙ append_assoc p ds es))));
}

-- where the history and one's own pending deeds stay as they are, one has done nothing
pub does_none : (who : ℕ) (a p : List Deed) → Does who a p a p []
does_none who a p = record { more = []; is = sym (append-nil a); own_is = sym (append-nil p) }

-- a deed whose place isn't known yet
pub does_pending : (who : ℕ) (a p : List Deed) (d : Deed) → Does who a p a (p ++ d ∷ []) (d ∷ [])
does_pending who a p d = record { more = []; is = sym (append-nil a); own_is = refl }

-- what begins the history begins it with one deed more
pub begins_more : (a h : List Deed) (d : Deed) → IsPrefix a h → IsPrefix a (h ++ d ∷ [])
begins_more a h d g = (g.0 ++ d ∷ [], sym (append_assoc a g.0 (d ∷ [])) ∙ ap (λ (l : List Deed). l ++ d ∷ []) g.1)

-- a history that grew by no deed of the writer's, and then by any one deed, begins with what it was
pub begins_whole : (a h : List Deed) (d : Deed) → Grows 0 a h [] → IsPrefix a (h ++ d ∷ [])
begins_whole a h d g = begins_more a h d (g.more, sym g.is)

-- those whose own deed this isn't
pub records_still : (h : List Deed) (d : Deed) (s : PinState) (own : ℕ → ℕ) (j : ℕ) (xs : List (ℕ × Reading)) → StandsForAll s own j xs → RecordsAll h xs → ((q : ℕ) → own q ≡ j → suc q ≢ doer d.0) → RecordsAll (h ++ d ∷ []) xs
records_still h d s own j [] k c none = tt
records_still h d s own j (y ∷ ys) k c none = (record { grows = grows_else (suc y.0) y.1.history h y.1.pending d (none y.0 (k.0).mine) (c.0).grows; heard = begins_more y.1.heard h d (c.0).heard }, records_still h d s own j ys k.1 c.1 none)
