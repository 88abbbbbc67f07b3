-- Connections that were served, and the callers that come back.
use Rattle.std.proofs.Common.{◌≡◌, ℕ, zero, suc, ◌+◌, ◌≤◌, List, [], ◌∷◌, ◌++◌, length, map, refl, sym, ap, ◌∙◌, subst, append_assoc, append-nil, length-append, length-set, ⊎_elim, arith}
use Rattle.std.specs.Prelude.{Option, Some, false}
use Rattle.std.specs.List.{AllZip, slice_get}
use Rattle.std.proofs.lemmas.Slice.Zip.{AllZip-long}
use Rattle.std.specs.Vec.Iter.{into_iter_items}
use Rattle.xcp_bank.specs.BankEnds.{ReaderEnd}
use Rattle.xcp_framing.specs.CountedCalls.{Watched}
use Rattle.xcp_memory.specs.Layout.{LayoutValue}
use Rattle.xcp_slave.specs.SlaveValue.{SlaveValue}
use Rattle.xcp_trace.specs.declared.Entry.{Entry}
use Rattle.xcp_outlet.specs.OutletEnds.{Outlet}
use Rattle.xcp_connection.specs.declared.closing.Closed.{Closed}
use Rattle.xcp_connection.specs.declared.connection.Limits.{Limits}
use Rattle.xcp_server.specs.declared.dealing.Ended.{Ended}
use Rattle.xcp_server.specs.declared.dealing.Duties.{Duties}
use Rattle.xcp_locked.specs.declared.tasks.Done.{Done}
use Rattle.xcp_locked.specs.declared.tasks.TaskError.{TaskError}
use Rattle.xcp_locked.specs.Caller.{CallerValue, callers_of, fresh_caller}
use Rattle.xcp_server.specs.private.DealtCallers.{Dealt}
use Rattle.xcp_server.specs.LastHangup.{HungUp}
use Rattle.xcp_locked.specs.LockedSlave.{IsReached}
use Rattle.xcp_locked.specs.PairedLists.{EachFrom}
use Rattle.xcp_server.specs.private.ServerRoom.{IsEndedRoom}
use Rattle.xcp_locked.specs.TaskOutcome.{DoneAs, IsTaskOf, WorkedAs}
use Rattle.xcp_server.specs.private.ConnectionParts.{IsConnectionWithin}
use Rattle.xcp_server.proofs.ConnectionOutcomeLemmas.{zip_mapped}
use Rattle.xcp_locked.proofs.PairedListLemmas.{each_length, each_through, zip_from}
use Rattle.xcp_locked.proofs.TaskOutcomeLemmas.{worked_as}

-- the list of n callers that have made no call has n of them
pub length-callers_of : (l : LayoutValue) (n : ℕ) → length (callers_of l n) ≡ n
length-callers_of l zero = refl
length-callers_of l (suc n) = let e = length-callers_of l n in let m = length-append (callers_of l n) (fresh_caller l n ∷ []) in omega (arith, e, m)

-- a list that is made of another one, element by element, is as long
pub length_map : {A B : Type 0} (f : A → B) (xs : List A) → length (map f xs) ≡ length xs
length_map f [] = refl
length_map f (x ∷ xs) = let e = length_map f xs in omega (arith, e)

-- to map a list by one function and then by another is to map it once by both
pub map_map : {A B C : Type 0} (f : A → B) (g : B → C) (xs : List A) → map g (map f xs) ≡ map (λ x. g (f x)) xs
map_map f g [] = refl
map_map f g (x ∷ xs) = ap (λ z. g (f x) ∷ z) (map_map f g xs)

get_after : {A : Type 0} (xs : List A) (x : A) (more : List A) → slice_get (xs ++ x ∷ more) (length xs) ≡ Some x
get_after [] x more = refl
get_after (y ∷ xs) x more = get_after xs x more

-- each element has what is read off it at its place
each_at_place : {A B X : Type 0} (R : ℕ → A → B → Type 0) (f : B → X) (front rest : List X) (xs : List A) (ys : List B) → EachFrom R (length front) xs ys
    → EachFrom (λ i x y. R i x y × (slice_get (front ++ (map f ys ++ rest)) i ≡ Some (f y))) (length front) xs ys
each_at_place R f front rest [] [] h = tt
each_at_place R f front rest [] (y ∷ ys) h = absurd h
each_at_place R f front rest (x ∷ xs) [] h = absurd h
each_at_place {A} {B} {X} R f front rest (x ∷ xs) (y ∷ ys) h =
    let longer : length (front ++ f y ∷ []) ≡ length front + 1 = length-append front (f y ∷ []) in
    let next = each_at_place R f (front ++ f y ∷ []) rest xs ys (subst (λ n. EachFrom R n xs ys) (sym longer) h.1) in
    let same : (front ++ f y ∷ []) ++ (map f ys ++ rest) ≡ front ++ (map f (y ∷ ys) ++ rest) = append_assoc front (f y ∷ []) (map f ys ++ rest) in (
      (h.0, get_after front (f y) (map f ys ++ rest)),
      subst (λ zs. EachFrom (λ i a b. R i a b × (slice_get zs i ≡ Some (f b))) (length front + 1) xs ys) same
          (subst (λ n. EachFrom (λ i a b. R i a b × (slice_get ((front ++ f y ∷ []) ++ (map f ys ++ rest)) i ≡ Some (f b))) n xs ys) longer next),
    )

-- of lists that belong together, what is read off the second one's elements stands at their places
pub each_also : {A B X : Type 0} (R : ℕ → A → B → Type 0) (f : B → X) (xs : List A) (ys : List B) → EachFrom R 0 xs ys → EachFrom (λ i x y. R i x y × (slice_get (map f ys) i ≡ Some (f y))) 0 xs ys
each_also R f xs ys h = subst (λ zs. EachFrom (λ i x y. R i x y × (slice_get zs i ≡ Some (f y))) 0 xs ys) (append-nil (map f ys)) (each_at_place R f [] [] xs ys h)

module _ {N G R L I O : Type 0} (limits : Limits) (cycles chapter tasks : ℕ) (opened : List CallerValue) (readers : List ReaderEnd) (streams : List (Watched I × Watched O)) (outlets : List Outlet) (d : Duties N G R L I O) (deal : Dealt limits cycles chapter tasks opened readers (map (λ s. s.0) streams) outlets d) where
  abbrev tools : List CallerValue
  tools = map (λ c. c.0.station.caller) d.connections.items

  abbrev hired : List CallerValue
  hired = map (λ w. w.caller) deal.workers

  abbrev drains : List CallerValue
  drains = map (λ c. c.1.station.caller) d.connections.items

  pub as_many_connections : length d.connections.items ≡ length streams
  as_many_connections = AllZip-long (IsConnectionWithin limits) (map (λ s. s.0) streams) d.connections.items deal.connections ∙ length_map (λ s. s.0) streams

  pub as_many_tools : length (map (λ c. c.0.station.caller) d.connections.items) ≡ length streams
  as_many_tools = length_map (λ c. c.0.station.caller) d.connections.items ∙ as_many_connections

  pub as_many_pumps : length (map (λ c. c.1.station.caller) d.connections.items) ≡ length streams
  as_many_pumps = length_map (λ c. c.1.station.caller) d.connections.items ∙ as_many_connections

  pub as_many_tasks : length d.tasks.items ≡ tasks
  as_many_tasks = each_length (IsTaskOf cycles chapter) 0 deal.workers d.tasks.items deal.numbered ∙ deal.hired

  pub as_many_callers : length opened ≡ length streams + (tasks + (length streams + length (into_iter_items d.spare)))
  as_many_callers =
      let whole = ap length deal.in_order in
      let a = length-append (tools ++ hired ++ drains) (into_iter_items d.spare) in
      let b = length-append (tools ++ hired) drains in
      let f = length-append tools hired in
      let w = length_map (λ w. w.caller) deal.workers in
      let t = as_many_tools in let p = as_many_pumps in let n = deal.hired in omega (arith, whole, a, b, f, w, t, p, n)

  -- the tasks' readers and the unused ones are all
  pub as_many_readers : tasks + length (into_iter_items d.unused) ≡ length readers
  as_many_readers =
      let whole = ap length deal.readers_in_order in
      let a = length-append (map (λ w. w.reader) deal.workers) (into_iter_items d.unused) in
      let w = length_map (λ w. w.reader) deal.workers in
      let n = deal.hired in omega (arith, whole, a, w, n)

  -- each connection is that of its stream, for the callers of its place
  pub all_dealt : EachFrom (λ i e c. (IsConnectionWithin limits e.0 c × (slice_get tools i ≡ Some c.0.station.caller)) × (slice_get drains i ≡ Some c.1.station.caller)) 0 streams d.connections.items
  all_dealt =
      each_also (λ i e c. IsConnectionWithin limits e.0 c × (slice_get tools i ≡ Some c.0.station.caller)) (λ c. c.1.station.caller) streams d.connections.items
      (each_also (λ i e c. IsConnectionWithin limits e.0 c) (λ c. c.0.station.caller) streams d.connections.items
      (zip_from (λ e c. IsConnectionWithin limits e.0 c) 0 streams d.connections.items (zip_mapped (λ s. s.0) (IsConnectionWithin limits) streams d.connections.items deal.connections)))

  -- each task was done for the worker of its place
  pub all_worked : (layout : LayoutValue) (may_end : Type 0) (done : List (Done N)) → AllZip (DoneAs layout may_end) d.tasks.items done → EachFrom (WorkedAs layout may_end cycles chapter) 0 deal.workers done
  all_worked layout may_end done =
      each_through (IsTaskOf cycles chapter) (DoneAs layout may_end) (WorkedAs layout may_end cycles chapter)
      (λ i w t k is h. worked_as layout may_end cycles t.cycles chapter t.chapter i t.task w t.worker k.worker k.fault is.number is.cycles_are is.chapter_is is.worker h) 0 deal.workers d.tasks.items done deal.numbered

  -- as many callers come back as were dealt out
  pub all_there : (closed : List (Closed CallerValue I O)) (done : List (Done N)) → length closed ≡ length d.connections.items → length done ≡ length d.tasks.items
      → ((length closed + length done) + length closed) + length (into_iter_items d.spare) ≡ length opened
  all_there closed done a b = let tools_are = as_many_connections in let tasks_are = as_many_tasks in let whole = as_many_callers in omega (arith, a, b, tools_are, tasks_are, whole)

  pub back_in_order : (closed : List (Closed CallerValue I O)) (done : List (Done N)) → length closed ≡ length d.connections.items → length done ≡ length d.tasks.items
      → length (map (λ k. k.tool) closed ++ map (λ k. k.worker.caller) done ++ map (λ k. k.pump) closed ++ into_iter_items d.spare) ≡ length opened
  back_in_order closed done a b =
      let there = all_there closed done a b in
      let first = map (λ k. k.tool) closed in
      let next = map (λ k. k.worker.caller) done in
      let last = map (λ k. k.pump) closed in
      let x = length-append (first ++ next ++ last) (into_iter_items d.spare) in
      let y = length-append (first ++ next) last in
      let z = length-append first next in
      let p = length_map (λ k. k.tool) closed in
      let q = length_map (λ k. k.worker.caller) done in
      let r = length_map (λ k. k.pump) closed in
      omega (arith, there, x, y, z, p, q, r)

-- what is left behind the first ones
pub left_behind : {A : Type 0} (first rest all : List A) → first ++ rest ≡ all → length first + length rest ≡ length all
left_behind first rest all whole = sym (length-append first rest) ∙ ap length whole

-- what the last Hangup did, said of an equal fault before it and of equal callers
pub hung_up_as : (before before' after : Option TaskError) (old old' new : List CallerValue) (ch : ℕ) (journal : List Entry) → before ≡ before' → old ≡ old' → HungUp before after old new ch journal → HungUp before' after old' new ch journal
hung_up_as before before' after old old' new ch journal e f h = subst (λ b. HungUp b after old' new ch journal) e (subst (λ cs. HungUp before after cs new ch journal) f h)

-- room for so many callers and connections is room for fewer
pub room_for_fewer : {N I O : Type 0} (k k' e e' : ℕ) (r : Ended N I O) → k' ≤ k → e' ≤ e → IsEndedRoom k e r → IsEndedRoom k' e' r
room_for_fewer k k' e e' r a b h =
    let callers = h.for_callers in let pumps = h.for_pumps in let streams = h.for_outcomes in let left = h.for_left in
    record {
      no_caller = h.no_caller;
      no_pump = h.no_pump;
      no_outcome = h.no_outcome;
      nothing_left = h.nothing_left;
      for_callers = omega (arith, a, callers);
      for_pumps = omega (arith, b, pumps);
      for_outcomes = omega (arith, b, streams);
      for_left = omega (arith, b, left);
    }

-- as many callers as before the last Hangup
pub all_come_back : (before after : Option TaskError) (old new : List CallerValue) (ch : ℕ) (journal : List Entry) → HungUp before after old new ch journal → length new ≡ length old
all_come_back before after old new ch journal h = ⊎_elim (λ accepted. ap length accepted.3 ∙ length-set old 0 _) (λ refused. ap length refused.1) h.outcome

-- what is reached from the opening of a layout is so from that of the same one
pub reached_as : (l l' : LayoutValue) (n : ℕ) (v : SlaveValue) → l ≡ l' → IsReached l n v → IsReached l' n v
reached_as l l' n v e h = subst (λ k. IsReached k n v) e h
