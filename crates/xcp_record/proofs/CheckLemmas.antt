-- Calls that the slave answers as they say, and one that it doesn't.
use Rattle.std.proofs.Common.{◌≡◌, ◌≤◌, ℕ, List, [], ◌∷◌, ◌++◌, suc, length, map, take, refl, sym, ap, ◌∙◌, subst, arith, append_assoc, length-append}
use Rattle.std.proofs.lemmas.List.{length-map, map-append, take_at}
use Rattle.xcp_slave.specs.Run.{Run}
use Rattle.xcp_slave.specs.SlaveValue.{SlaveValue}
use Rattle.xcp_slave.specs.Step.{Answers}
use Rattle.xcp_trace.specs.declared.Entry.{Entry}
use Rattle.xcp_trace.specs.EntrySpelling.{entry_in}
use Rattle.xcp_trace.specs.Tape.{framed}
use Rattle.xcp_record.specs.JournalFile.{exchanges}
use Rattle.xcp_record.specs.Audit.{Differs}
use Rattle.xcp_record.specs.private.Calls.{SpellsCalls, Walks}
use Rattle.xcp_record.proofs.TapeLemmas.{spelt_same}
use Rattle.xcp_record.proofs.CallLemmas.{first_is, goes_on, walks_all}
use Rattle.xcp_record.proofs.FileLemmas.{run_on}

-- one more call is a run too
pub run_more : (v mid w : SlaveValue) (done : List (List ℕ)) (s : List ℕ) (call : Entry) → call ≡ entry_in s → Run v (exchanges (map entry_in done)) mid
    → Answers mid call.exchange.request call.exchange.answer w → Run v (exchanges (map entry_in (done ++ s ∷ []))) w
run_more v mid w done s call is run answers =
    let next : Answers mid (entry_in s).exchange.request (entry_in s).exchange.answer w = subst (λ (e : Entry). Answers mid e.exchange.request e.exchange.answer w) is answers in
    subst (λ xs. Run v xs w) (sym (ap exchanges (map-append entry_in done (s ∷ [])) ∙ map-append (λ (e : Entry). e.exchange) (map entry_in done) (entry_in s ∷ [])))
    (run_on v mid w (exchanges (map entry_in done)) (exchanges (entry_in s ∷ [])) run (w, next, refl))

-- all calls are checked
pub checked_all : (v w : SlaveValue) (bytes left : List ℕ) (n : ℕ) (walks : Walks bytes left n) → Run v (exchanges (map entry_in walks.done)) w → left ≡ []
    → (strings : List (List ℕ)) → SpellsCalls bytes strings → Run v (exchanges (map entry_in strings)) w
checked_all v w bytes left n walks run none strings spells =
    subst (λ ss. Run v (exchanges (map entry_in ss)) w) (spelt_same walks.done strings ((walks_all bytes left n walks none).whole ∙ sym spells.whole)) run

-- this call differs
pub differs_here : (v mid : SlaveValue) (bytes left more s : List ℕ) (n : ℕ) (call : Entry) (walks : Walks bytes left n) → Run v (exchanges (map entry_in walks.done)) mid → left ≡ framed s ++ more
    → call ≡ entry_in s → ((w : SlaveValue) → Answers mid call.exchange.request call.exchange.answer w → ⊥) → (strings : List (List ℕ)) → SpellsCalls bytes strings → Differs v (map entry_in strings) n
differs_here v mid bytes left more s n call walks run next is other strings spells =
    let on = goes_on bytes left walks.done strings spells walks.joined in
    let first = first_is left more s on.0 on.2 next in record {
      earlier = map entry_in walks.done;
      call = call;
      later = map entry_in first.0;
      joined = ap (map entry_in) (on.1 ∙ ap (λ l. walks.done ++ l) first.1) ∙ map-append entry_in walks.done (s ∷ first.0) ∙ ap (λ e. map entry_in walks.done ++ e ∷ map entry_in first.0) (sym is);
      place = length-map walks.done entry_in ∙ walks.number;
      slave = mid;
      run = run;
      other = other;
    }

-- there are no more calls than the chapter may have
pub few_checked : (bytes left : List ℕ) (n most : ℕ) (strings : List (List ℕ)) → Walks bytes left n → SpellsCalls bytes strings → length strings ≤ most → n ≤ most
few_checked bytes left n most strings walks spells few =
    let on = goes_on bytes left walks.done strings spells walks.joined in
    let a = ap length on.1 in
    let b = length-append walks.done on.0 in
    let c = walks.number in
    omega (arith, a, b, c, few)

-- one more call is heard
pub heard_more : (Hears : List Entry → Type 0) (done : List (List ℕ)) (s : List ℕ) (call : Entry) → call ≡ entry_in s → Hears (map entry_in done ++ call ∷ []) → Hears (map entry_in (done ++ s ∷ []))
heard_more Hears done s call is heard = subst Hears (ap (λ e. map entry_in done ++ e ∷ []) is ∙ sym (map-append entry_in done (s ∷ []))) heard

-- all calls are heard
pub heard_all : (Hears : List Entry → Type 0) (bytes left : List ℕ) (n : ℕ) (walks : Walks bytes left n) → Hears (map entry_in walks.done) → left ≡ []
    → (strings : List (List ℕ)) → SpellsCalls bytes strings → Hears (map entry_in strings)
heard_all Hears bytes left n walks heard none strings spells =
    subst (λ ss. Hears (map entry_in ss)) (spelt_same walks.done strings ((walks_all bytes left n walks none).whole ∙ sym spells.whole)) heard

-- the calls up to this one are heard
pub heard_here : (Hears : List Entry → Type 0) (bytes left more s : List ℕ) (n : ℕ) (call : Entry) (walks : Walks bytes left n) → left ≡ framed s ++ more → call ≡ entry_in s
    → (strings : List (List ℕ)) → SpellsCalls bytes strings → Hears (map entry_in walks.done ++ call ∷ []) → Hears (take (suc n) (map entry_in strings))
heard_here Hears bytes left more s n call walks next is strings spells heard =
    let on = goes_on bytes left walks.done strings spells walks.joined in
    let first = first_is left more s on.0 on.2 next in
    let front = map entry_in walks.done ++ call ∷ [] in
    let all : map entry_in strings ≡ front ++ map entry_in first.0 =
    ap (map entry_in) (on.1 ∙ ap (λ l. walks.done ++ l) first.1) ∙ map-append entry_in walks.done (s ∷ first.0)
    ∙ ap (λ e. map entry_in walks.done ++ e ∷ map entry_in first.0) (sym is)
    ∙ sym (append_assoc (map entry_in walks.done) (call ∷ []) (map entry_in first.0)) in
    let size : length front ≡ suc n =
    length-append (map entry_in walks.done) (call ∷ []) ∙ (let a = length-map walks.done entry_in in let b = walks.number in omega (arith, a, b)) in
    subst Hears (sym (ap (take (suc n)) all ∙ take_at front (map entry_in first.0) (suc n) size)) heard
