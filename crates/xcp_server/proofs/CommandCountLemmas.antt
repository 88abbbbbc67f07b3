-- The commands among the calls of a connection, and the last call of the first caller.
use Rattle.std.proofs.Common.{◌≡◌, ℕ, zero, suc, ◌+◌, List, [], ◌∷◌, ◌++◌, length, map, cond, refl, sym, ap, ◌∙◌, subst, append-nil, ⊎_elim, inl, inr, arith}
use Rattle.std.proofs.lemmas.List.Sums.{sum_by-append, sum_by-cons}
use Rattle.std.specs.Prelude.{◌⊎◌, Option, Some, None, Result, Ok, Err, slice_set}
use Rattle.std.specs.List.{count_by, slice_get}
use Rattle.xcp_memory.specs.Layout.{LayoutValue}
use Rattle.xcp_slave.specs.Outcomes.{Answer}
use Rattle.xcp_slave.specs.declared.Exchange.{Exchange}
use Rattle.xcp_slave.specs.declared.Request.{Request}
use Rattle.xcp_slave.specs.declared.Request.TheVariants as requests
use Rattle.xcp_slave.specs.Run.{requests_of}
use Rattle.xcp_framing.specs.CountedCalls.{StreamPlace}
use Rattle.xcp_framing.specs.ServeBy.{ServesBy, command}
use Rattle.xcp_trace.specs.declared.Entry.{Entry}
use Rattle.xcp_framing.specs.CountedCalls.{Watched}
use Rattle.xcp_framing.specs.declared.serving.ServeError.{ServeError}
use Rattle.xcp_framing.specs.declared.serving.Served.{Served}
use Rattle.xcp_outlet.specs.declared.fault.SendError.{SendError}
use Rattle.xcp_connection.specs.declared.closing.Closed.{Closed}
use Rattle.xcp_locked.specs.declared.errors.LockedError.{LockedError}
use Rattle.xcp_locked.specs.declared.receipt.Receipt.{Receipt}
use Rattle.xcp_locked.specs.declared.tasks.TaskError.{TaskError}
use Rattle.xcp_connection.specs.Connections.{outcome_of}
use Rattle.xcp_locked.specs.Caller.{CallerValue, accepting, callers_of, fresh_caller}
use Rattle.xcp_locked.specs.Journal.{entry}
use Rattle.xcp_server.specs.LastHangup.{EndsSession, HungUp}
use Rattle.xcp_locked.specs.PairedLists.{EachFrom}
use Rattle.xcp_locked.specs.Receipts.{exchanges_of, receipt}
use Rattle.std.specs.Option.{option_or}
use Rattle.xcp_server.specs.ServerOutcome.{CountTheirCommands, ServedAt, command_count, is_command}
use Rattle.xcp_locked.specs.Tasks.{refused_with}
use Rattle.xcp_locked.proofs.TallyLemmas.{none≢some, some_same}

no_ok : {A E : Type 0} {x : E} {y : A} → ◌≡◌ {A = Result A E} (Err x) (Ok y) → ⊥
no_ok h = cc

abbrev one_if : Request → ℕ
one_if r = cond (is_command r) 1 0

abbrev asked : List Exchange → ℕ
asked xs = count_by (λ x. is_command x.request) xs

asked_one : (x : Exchange) (xs : List Exchange) → asked (x ∷ xs) ≡ one_if x.request + asked xs
asked_one x xs = sum_by-cons (λ (y : Exchange). one_if y.request) x xs

asked_both : (xs ys : List Exchange) → asked (xs ++ ys) ≡ asked xs + asked ys
asked_both xs ys = sum_by-append (λ (y : Exchange). one_if y.request) xs ys

first_of : List Request → Request
first_of [] = requests.Hangup
first_of (r ∷ rs) = r

others_of : List Request → List Request
others_of [] = []
others_of (r ∷ rs) = rs

-- exchanges of packets' commands, one for each
by_commands : (packets : List (List ℕ)) (xs : List Exchange) → requests_of xs ≡ map command packets → asked xs ≡ length packets
unfolding first_of others_of
by_commands [] [] is = refl
by_commands [] (x ∷ xs) is = absurd (let n = ap length is in omega (arith, n))
by_commands (p ∷ ps) [] is = absurd (let n = ap length is in omega (arith, n))
by_commands (p ∷ ps) (x ∷ xs) is =
    let whole = asked_one x xs in
    let one : one_if x.request ≡ 1 = ap (λ rs. one_if (first_of rs)) is in
    let rest = by_commands ps xs (ap others_of is) in
    omega (arith, whole, one, rest)

commands_one : (r : Receipt) (rs : List Receipt) → command_count (r ∷ rs) ≡ one_if r.request + command_count rs
commands_one r rs = sum_by-cons (λ (x : Receipt). one_if x.request) r rs

commands_both : (xs ys : List Receipt) → command_count (xs ++ ys) ≡ command_count xs + command_count ys
commands_both xs ys = sum_by-append (λ (x : Receipt). one_if x.request) xs ys

asked_commands : (rs : List Receipt) → asked (exchanges_of rs) ≡ command_count rs
asked_commands [] = refl
asked_commands (r ∷ rs) =
    let a = asked_one (record { request = r.request; answer = r.answer }) (exchanges_of rs) in
    let b = commands_one r rs in
    let c = asked_commands rs in
    omega (arith, a, b, c)

-- a stream that ended well counted the commands of a caller that had made no call before
stream_counts : (m : ℕ) (end : Result Served ServeError) (served : Served) (from to : StreamPlace) (old new : List Receipt) (before after : List (List ℕ)) → ServesBy m end from to (exchanges_of old) (exchanges_of new) before after → end ≡ Ok served → old ≡ [] → served.frames ≡ command_count new
stream_counts m end served from to old new before after h is none =
    let s : ServesBy m (Ok served) from to [] (exchanges_of new) before after =
    subst (λ e. ServesBy m e from to [] (exchanges_of new) before after) is (subst (λ rs. ServesBy m end from to (exchanges_of rs) (exchanges_of new) before after) none h) in
    let all = by_commands s.packets s.exchanges s.puts.asked in
    let grown = ap asked s.grown in
    let same = asked_commands new in
    let counted = s.counts.0 in
    omega (arith, all, grown, same, counted)

-- a connection that ended well was heard well
heard_well : (heard : Result Served ServeError) (pumped : Result ℕ ServeError) (sent : Result ℕ SendError) (told : Served) → outcome_of heard pumped sent ≡ Ok told → heard ≡ Ok told
heard_well (Ok served) (Ok n) (Ok k) told is = is
heard_well (Ok served) (Ok n) (Err e) told is = absurd (no_ok is)
heard_well (Ok served) (Err e) sent told is = absurd (no_ok is)
heard_well (Err e) pumped sent told is = is

get_front : {A : Type 0} (xs ys : List A) (i : ℕ) (a : A) → slice_get xs i ≡ Some a → slice_get (xs ++ ys) i ≡ Some a
get_front [] ys i a h = absurd (none≢some a h)
get_front (x ∷ xs) ys zero a h = h
get_front (x ∷ xs) ys (suc i) a h = get_front xs ys i a h

get_either : {A : Type 0} (xs ys : List A) (i : ℕ) (a : A) → slice_get (xs ++ ys) i ≡ Some a → (slice_get xs i ≡ Some a) ⊎ ((j : ℕ) × (slice_get ys j ≡ Some a))
get_either [] ys i a h = inr (i, h)
get_either (x ∷ xs) ys zero a h = inl h
get_either (x ∷ xs) ys (suc i) a h = get_either xs ys i a h

only_one : {A : Type 0} (x a : A) (j : ℕ) → slice_get (x ∷ []) j ≡ Some a → x ≡ a
only_one x a zero h = some_same x a h
only_one x a (suc j) h = absurd (none≢some a h)

-- those that were opened have made no call
opened_idle : (l : LayoutValue) (n i : ℕ) (c : CallerValue) → slice_get (callers_of l n) i ≡ Some c → c.receipts ≡ []
opened_idle l zero i c h = absurd (none≢some c h)
opened_idle l (suc n) i c h =
    ⊎_elim (λ before. opened_idle l n i c before) (λ last. sym (ap (λ (x : CallerValue). x.receipts) (only_one (fresh_caller l n) c last.0 last.1))) (get_either (callers_of l n) (fresh_caller l n ∷ []) i c h)

-- what stands at a place of lists that belong together
each_at : {A B : Type 0} (R : ℕ → A → B → Type 0) (k : ℕ) (xs : List A) (ys : List B) (C : Type 0) (f : B → C) (i : ℕ) (v : C) → EachFrom R k xs ys → slice_get (map f ys) i ≡ Some v → (x : A) × (y : B) × R (k + i) x y × (f y ≡ v) × (slice_get ys i ≡ Some y)
each_at R k [] [] C f i v h at = absurd (none≢some v at)
each_at R k (x ∷ xs) [] C f i v h at = absurd h
each_at R k [] (y ∷ ys) C f i v h at = absurd h
each_at R k (x ∷ xs) (y ∷ ys) C f zero v h at = let e : k ≡ k + 0 = omega arith in (x, y, subst (λ n. R n x y) e h.0, some_same (f y) v at, refl)
each_at R k (x ∷ xs) (y ∷ ys) C f (suc i) v h at =
    let r = each_at R (k + 1) xs ys C f i v h.1 at in
    let e : (k + 1) + i ≡ k + suc i = omega arith in
    (r.0, r.1, subst (λ n. R n r.0 r.1) e r.2, r.3, r.4)

mapped_at : {A B : Type 0} (f : A → B) (xs : List A) (rest : List B) (i : ℕ) (x : A) → slice_get xs i ≡ Some x → slice_get (map f xs ++ rest) i ≡ Some (f x)
mapped_at f [] rest i x h = absurd (none≢some x h)
mapped_at f (y ∷ ys) rest zero x h = ap (λ z. Some (f z)) (some_same y x h)
mapped_at f (y ∷ ys) rest (suc i) x h = mapped_at f ys rest i x h

get_set : {A : Type 0} (xs : List A) (v x y z : A) (i : ℕ) → slice_get xs 0 ≡ Some z → slice_get xs i ≡ Some x → slice_get (slice_set xs 0 v) i ≡ Some y → ((x ≡ z) × (v ≡ y)) ⊎ (x ≡ y)
get_set [] v x y z i first old new = absurd (none≢some z first)
get_set (a ∷ more) v x y z zero first old new = inl (some_same x z (sym old ∙ first), some_same v y new)
get_set (a ∷ more) v x y z (suc i) first old new = inr (some_same x y (sym old ∙ new))

-- the last Hangup is no command
hangup_counts_none : (before after : Option TaskError) (old new : List CallerValue) (ch : ℕ) (journal : List Entry) (i : ℕ) (o c : CallerValue) → HungUp before after old new ch journal → slice_get old i ≡ Some o → slice_get new i ≡ Some c → command_count c.receipts ≡ command_count o.receipts
hangup_counts_none before after old new ch journal i o c h was is = ⊎_elim accepted refused h.outcome
  where
    accepted : (earlier : List Entry) × (answer : Answer) × (journal ≡ earlier ++ entry h.caller.number requests.Hangup answer ∷ []) × (new ≡ slice_set old 0 (accepting h.caller (receipt ch (length earlier) requests.Hangup answer))) × (after ≡ before) → command_count c.receipts ≡ command_count o.receipts
    accepted a = ⊎_elim
        (λ first.
        let one = ap (λ (x : CallerValue). command_count x.receipts) (sym first.1) ∙ commands_both h.caller.receipts (receipt ch (length a.0) requests.Hangup a.1 ∷ []) in
        let none : one_if requests.Hangup ≡ 0 = refl in
        let last = commands_one (receipt ch (length a.0) requests.Hangup a.1) [] in
        let nothing : command_count [] ≡ 0 = refl in
        let same = ap (λ (x : CallerValue). command_count x.receipts) first.0 in
        omega (arith, one, none, last, nothing, same))
        (λ other. ap (λ (x : CallerValue). command_count x.receipts) (sym other))
        (get_set old (accepting h.caller (receipt ch (length a.0) requests.Hangup a.1)) o c h.caller i h.first was (ap (λ cs. slice_get cs i) (sym a.3) ∙ is))

    refused : (e : LockedError) × (new ≡ old) × (after ≡ option_or before (Some (refused_with e))) → command_count c.receipts ≡ command_count o.receipts
    refused r = ap (λ (x : CallerValue). command_count x.receipts) (some_same c o (sym is ∙ (ap (λ cs. slice_get cs i) r.1 ∙ was)))

-- each connection that ended well counted the commands of its tool's caller
pub all_count : {I O : Type 0} (remaining : I → Option (List ℕ)) (contents : O → Option (List ℕ)) (m turns : ℕ) (l : LayoutValue) (n : ℕ) (given : List (Watched I × Watched O)) (closed : List (Closed CallerValue I O)) (outcomes : List (Result Served ServeError)) (tools pumps hired spare others last new : List CallerValue) (ch : ℕ) (journal : List Entry) (before after : Option TaskError)
    → callers_of l n ≡ tools ++ hired ++ pumps ++ spare → EachFrom (ServedAt remaining contents m turns tools pumps) 0 given closed → outcomes ≡ map (λ d. d.outcome) closed → HungUp before after (map (λ d. d.tool) closed ++ others ++ last ++ spare) new ch journal → CountTheirCommands outcomes new
all_count remaining contents m turns l n given closed outcomes tools pumps hired spare others last new ch journal before after dealt served outcomes_are h i told c ended there =
    let one = each_at (ServedAt remaining contents m turns tools pumps) 0 given closed (Result Served ServeError) (λ d. d.outcome) i (Ok told) served (ap (λ es. slice_get es i) (sym outcomes_are) ∙ ended) in
    let at = one.2 in
    let a = at.attended in
    let opened : slice_get (callers_of l n) (0 + i) ≡ Some at.tool =
    ap (λ cs. slice_get cs (0 + i)) dealt ∙ get_front (tools ++ hired ++ pumps) spare (0 + i) at.tool (get_front (tools ++ hired) pumps (0 + i) at.tool (get_front tools hired (0 + i) at.tool at.tool_at)) in
    let counted = stream_counts m one.1.heard told _ _ at.tool.receipts one.1.tool.receipts _ _ a.serves (heard_well one.1.heard one.1.pumped one.1.sent told (sym a.outcome ∙ one.3)) (opened_idle l n (0 + i) at.tool opened) in
    let old = map (λ d. d.tool) closed ++ others ++ last ++ spare in
    let front : slice_get (map (λ d. d.tool) closed) i ≡ Some one.1.tool = ap (λ cs. slice_get cs i) (sym (append-nil (map (λ d. d.tool) closed))) ∙ mapped_at (λ d. d.tool) closed [] i one.1 one.4 in
    let back : slice_get old i ≡ Some one.1.tool = get_front (map (λ d. d.tool) closed ++ others ++ last) spare i one.1.tool (get_front (map (λ d. d.tool) closed ++ others) last i one.1.tool (get_front (map (λ d. d.tool) closed) others i one.1.tool front)) in
    counted ∙ sym (hangup_counts_none before after old new ch journal i one.1.tool c h back there)

-- without a fault the last Hangup was accepted
pub ends_session : (before after : Option TaskError) (old new : List CallerValue) (ch : ℕ) (journal : List Entry) → HungUp before after old new ch journal → EndsSession after new ch journal
ends_session before after old new ch journal h none = ⊎_elim
    (λ a.
    let last = accepting h.caller (receipt ch (length a.0) requests.Hangup a.1) in
    (last, ap (λ cs. slice_get cs 0) a.3 ∙ first_set old last h.caller h.first, record { earlier = a.0; answer = a.1; last = a.2; receipts = h.caller.receipts; told = refl }))
    (λ r. absurd (never before _ (sym r.2 ∙ none)))
    h.outcome
  where
    first_set : (xs : List CallerValue) (v x : CallerValue) → slice_get xs 0 ≡ Some x → slice_get (slice_set xs 0 v) 0 ≡ Some v
    first_set [] v x first = absurd (none≢some x first)
    first_set (a ∷ more) v x first = refl

    never : (b : Option TaskError) (f : TaskError) → option_or b (Some f) ≡ None → ⊥
    never None f e = none≢some f (sym e)
    never (Some b) f e = none≢some b (sym e)
