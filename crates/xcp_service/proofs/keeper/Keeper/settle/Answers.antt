use Rattle.std.proofs.Common.{◌≡◌, ◌++◌, ◌∷◌, [], ◌∙◌, ℕ, List, length, map, take, drop, ap, ap₂, arith, inr, refl, sym, subst}
use Rattle.std.specs.List.{AllByRecursion}
use Rattle.xcp_locked.specs.Sheaves.{SheafValue}
use Rattle.xcp_service.specs.private.Waiting.{AreKept, FitsAll, IsCountedFor, IsSheafUnfit, WaitingValue, chapters_in, settled_mark}
use Rattle.xcp_service.specs.Keeping.{KeeperValue}
use Rattle.xcp_service.specs.Refusals.{HasItsDue, RefusesSheaf}
use Rattle.xcp_service.proofs.JoinedMoreLemmas.{numbers}
use Rattle.xcp_service.proofs.KeepingLemmas.{counted_for, kept_sheaf, marked_chapters, marked_length, written}
use Rattle.xcp_service.proofs.RefusalLemmas.{due_of, refuses_of}
use Rattle.xcp_service.proofs.keeper.Keeper.settle.Goals as goal

pub check_sheaf-requires-clause-counted : goal.check_sheaf-requires-clause-counted
check_sheaf-requires-clause-counted g c =
    let k = c.self.inside in
    let s = c.args.sheaf.now in
    subst (λ (ws : List WaitingValue). AllByRecursion (IsCountedFor s.caller) ws) (sym c.as_slice.ensures.value)
    (counted_for k.chapters.list k.sheaves.list s.caller (omega (arith, c.caller-caller.ensures, c.caller-caller.type_inv)) k.waiting.items c.self.invariant.1.waiting)

-- what was written over the chapters that wait
all_marked : (ws old new : List WaitingValue) (n caller until c2 u2 : ℕ) → old ≡ ws → length old ≡ n → new ≡ map (settled_mark c2 u2) old → c2 ≡ caller → u2 ≡ until → take n (new ++ drop (length new) ws) ≡ map (settled_mark caller until) ws
all_marked ws old new n caller until c2 u2 is count fresh who til =
    let now : new ≡ map (settled_mark caller until) ws = fresh ∙ (ap₂ (λ (a b : ℕ). map (settled_mark a b) old) who til ∙ ap (map (settled_mark caller until)) is) in
    let l = ap length is in
    let m = ap length fresh ∙ marked_length c2 u2 old in
    written new ws n (m ∙ l) (sym count ∙ l) ∙ now

pub invariant_of-self-2 : goal.invariant_of-self-2
invariant_of-self-2 g c =
    let k = c.self.inside in
    let s = c.args.sheaf.now in
    let fits = subst (λ (ws : List WaitingValue). FitsAll s ws) c.as_slice.ensures.value (c.in_default.ensures {u = tt}).fits in
    let kept = kept_sheaf k.chapters.list k.sheaves.list k.waiting.items s (numbers g.N.Name.layout k.chapters.list k.number k.before _ c.self.invariant.0) fits c.self.invariant.1 in
    let marked_all = all_marked k.waiting.items c.as_mut_slice.result.now c.mark_all.new.waiting k.waiting.len s.caller s.until _ _ c.as_mut_slice.ensures.value c.as_mut_slice.ensures.len c.mark_all.ensures c.caller-caller.ensures c.until-until.ensures in
    let sheaves : k.sheaves.list ++ s ∷ [] ≡ c.push_reserved.new.self.list = sym (c.push_reserved.ensures ∙ ap (λ (l : List SheafValue). l ++ s ∷ []) c.reserve.ensures.list) in (
      c.self.invariant.0,
      subst (λ (ws : List WaitingValue). AreKept k.chapters.list c.push_reserved.new.self.list ws) (sym marked_all) (subst (λ (l : List SheafValue). AreKept k.chapters.list l (map (settled_mark s.caller s.until) k.waiting.items)) sheaves kept),
      c.self.invariant.2,
      c.self.invariant.3,
    )

pub returns-clause-waiting : goal.returns-clause-waiting
returns-clause-waiting g c =
    let k = c.self.inside in
    let s = c.args.sheaf.now in
    let marked_all = all_marked k.waiting.items c.as_mut_slice.result.now c.mark_all.new.waiting k.waiting.len s.caller s.until _ _ c.as_mut_slice.ensures.value c.as_mut_slice.ensures.len c.mark_all.ensures c.caller-caller.ensures c.until-until.ensures in
    ap chapters_in marked_all ∙ (marked_chapters s.caller s.until k.waiting.items ∙ ap (λ (v : KeeperValue). v.waiting) c.self.view_is)

pub returns-in-Err-clause-refused : goal.returns-in-Err-clause-refused
returns-in-Err-clause-refused g c =
    let k = c.self.inside in
    let s = c.args.sheaf.now in
    let unfit = subst (λ (ws : List WaitingValue). IsSheafUnfit s ws c.in-Err.discord) c.as_slice.ensures.value c.in-Err.ensures.unfit in
    inr (c.in-Err.discord, refl, subst (λ (v : KeeperValue). RefusesSheaf v s c.in-Err.discord) c.self.view_is (refuses_of _ k.waiting.items s c.in-Err.discord (numbers g.N.Name.layout k.chapters.list k.number k.before _ c.self.invariant.0) c.self.invariant.1 (omega (arith, c.caller-caller.ensures, c.caller-caller.type_inv)) unfit))

pub returns-clause-due : goal.returns-clause-due
returns-clause-due g c =
    let k = c.self.inside in
    let s = c.args.sheaf.now in
    let fits = subst (λ (ws : List WaitingValue). FitsAll s ws) c.as_slice.ensures.value (c.in_default.ensures {u = tt}).fits in
    subst (λ (v : KeeperValue). HasItsDue v s) c.self.view_is (due_of _ k.waiting.items s (numbers g.N.Name.layout k.chapters.list k.number k.before _ c.self.invariant.0) c.self.invariant.1 (omega (arith, c.caller-caller.ensures, c.caller-caller.type_inv)) fits)
