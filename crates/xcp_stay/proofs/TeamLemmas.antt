-- Lists of callers that are dealt out, and what is left of them.
use Rattle.std.proofs.Common.{◌≡◌, ◌∙◌, ◌+◌, ℕ, zero, suc, List, [], ◌∷◌, ◌++◌, length, map, take, drop, refl, sym, ap, subst, slice_index_or, slice_set, append_assoc, arith}
use Rattle.std.specs.Prelude.{All}
use Rattle.std.specs.List.{AllZip}
use Rattle.xcp_memory.specs.Layout.{LayoutValue}
use Rattle.xcp_locked.specs.Caller.{CallerValue, callers_of}
use Rattle.xcp_seats.specs.Seating.{Pair, SeatValue, pair}
use Rattle.xcp_seats.specs.Ticking.{TaskValue}
use Rattle.xcp_service.proofs.KeepingLemmas.{written}
use Rattle.xcp_stay.specs.Team.{HaveServed, SeatLeft, SeatsFrom, SeatsServed, TaskLeft, TasksFrom, TasksServed}

one_more_task : (k : ℕ) (ts : List TaskValue) (t : TaskValue) → TasksFrom k ts → t.task ≡ k + length ts → TasksFrom k (ts ++ t ∷ [])
one_more_task k [] t h n = (omega (arith, n), tt)
one_more_task k (x ∷ xs) t h n = (h.0, one_more_task (k + 1) xs t h.1 (omega (arith, n)))

-- one more task, whose number is that of those before it
pub tasks_more : (k : ℕ) (ts : List TaskValue) (t : TaskValue) (more : List TaskValue) → TasksFrom k ts → t.task ≡ k + length ts → more ≡ ts ++ t ∷ [] → TasksFrom k more
tasks_more k ts t more h n is = subst (λ z. TasksFrom k z) (sym is) (one_more_task k ts t h n)

one_more_seat : (k : ℕ) (ss : List SeatValue) (s : SeatValue) → SeatsFrom k ss → s.number ≡ k + length ss → SeatsFrom k (ss ++ s ∷ [])
one_more_seat k [] s h n = (omega (arith, n), tt)
one_more_seat k (x ∷ xs) s h n = (h.0, one_more_seat (k + 1) xs s h.1 (omega (arith, n)))

-- one more seat, whose number is that of those before it
pub seats_more : (k : ℕ) (ss : List SeatValue) (s : SeatValue) (more : List SeatValue) → SeatsFrom k ss → s.number ≡ k + length ss → more ≡ ss ++ s ∷ [] → SeatsFrom k more
seats_more k ss s more h n is = subst (λ z. SeatsFrom k z) (sym is) (one_more_seat k ss s h n)

-- lists belong together where the second is made of one that does
pub zip_mapped : {A B C : Type 0} (R : A → C → Type 0) (f : B → C) (xs : List A) (ys : List B) → AllZip (λ x y. R x (f y)) xs ys → AllZip R xs (map f ys)
zip_mapped R f [] [] h = tt
zip_mapped R f (x ∷ xs) (y ∷ ys) h = (h.0, zip_mapped R f xs ys h.1)
zip_mapped R f [] (y ∷ ys) h = absurd h
zip_mapped R f (x ∷ xs) [] h = absurd h

-- the same where the first is
pub mapped_zip : {A B C : Type 0} (R : A → C → Type 0) (f : B → A) (xs : List B) (ys : List C) → AllZip (λ x y. R (f x) y) xs ys → AllZip R (map f xs) ys
mapped_zip R f [] [] h = tt
mapped_zip R f (x ∷ xs) (y ∷ ys) h = (h.0, mapped_zip R f xs ys h.1)
mapped_zip R f [] (y ∷ ys) h = absurd h
mapped_zip R f (x ∷ xs) [] h = absurd h

-- what was gathered in three turns
pub gathered : {A B C : Type 0} (f g : A → B) (h : C → B) (ls ls' : List A) (rs rs' : List C) (one two three ps ps' : List B) → ls ≡ ls' → rs ≡ rs' → ps' ≡ ps → one ≡ map f ls → ps ≡ map g ls → two ≡ one ++ map h rs → three ≡ two ++ ps'
    → three ≡ map f ls' ++ (map h rs' ++ map g ls')
gathered f g h ls ls' rs rs' one two three ps ps' ls_are rs_are ps_are first pumps second third =
    third ∙ (ap (λ z. z ++ ps') second ∙ (append_assoc one (map h rs) ps' ∙ (ap (λ z. z ++ (map h rs ++ ps')) (first ∙ ap (λ z. map f z) ls_are)
    ∙ (ap (λ z. map f ls' ++ (map h z ++ ps')) rs_are ∙ ap (λ z. map f ls' ++ (map h rs' ++ z)) (ps_are ∙ (pumps ∙ ap (λ z. map g z) ls_are))))))

-- What seats did, where their threads' promises are of these seats.
pub seats_served : {H L : Type 0} (m : ℕ) (value : H → SeatValue) (two : L → Pair) (hs : List H) (ls : List L) (seats : List SeatValue) (tools pumps : List CallerValue) → map value hs ≡ seats → map (λ (s : SeatValue). s.tool) seats ≡ tools → map (λ (s : SeatValue). s.pump) seats ≡ pumps
    → All (λ (s : SeatValue). s.max_cto ≡ m) seats → AllZip (λ x y. SeatLeft (value x) (two y)) hs ls → SeatsServed m tools pumps (map two ls)
seats_served m value two hs ls seats tools pumps are tools_are pumps_are limit sat = record {
  seats = seats;
  limit = limit;
  tools_are = tools_are;
  pumps_are = pumps_are;
  sat = subst (λ z. AllZip SeatLeft z (map two ls)) are (mapped_zip SeatLeft value hs (map two ls) (zip_mapped (λ x y. SeatLeft (value x) y) two hs ls sat));
}

-- the same where there are as many ends as tasks, and each is that of the task at its place
pub tasks_served : {D : Type 0} (layout : LayoutValue) (caller : D → CallerValue) (tickers : List TaskValue) (ds : List D) (callers : List CallerValue) → TasksFrom 0 tickers → map (λ (t : TaskValue). t.caller) tickers ≡ callers
    → AllZip (λ t d. TaskLeft layout t (caller d)) tickers ds → TasksServed layout callers (map caller ds)
tasks_served layout caller tickers ds callers numbered are ticked = record {
  tickers = tickers;
  numbered = numbered;
  callers_are = are;
  ticked = zip_mapped (TaskLeft layout) caller tickers ds ticked;
}

-- a list still stands behind another one where both are one element longer
pub one_behind : {A : Type 0} (front xs : List A) (x : A) (ys more : List A) → ys ≡ front ++ xs → more ≡ ys ++ x ∷ [] → more ≡ front ++ (xs ++ x ∷ [])
one_behind front xs x ys more was is = is ∙ (ap (λ z. z ++ x ∷ []) was ∙ append_assoc front xs (x ∷ []))

-- nothing is changed where what stands there already is put there
pub set_same : {A : Type 0} (xs : List A) (k : ℕ) (x d : A) → x ≡ slice_index_or xs k d → slice_set xs k x ≡ xs
set_same [] k x d h = refl
set_same (y ∷ ys) zero x d h = ap (λ z. z ∷ ys) h
set_same (y ∷ ys) (suc k) x d h = ap (λ z. y ∷ z) (set_same ys k x d h)

map_map : {A B C : Type 0} (f : A → B) (h : B → C) (xs : List A) → map h (map f xs) ≡ map (λ x. h (f x)) xs
map_map f h [] = refl
map_map f h (x ∷ xs) = ap (λ z. h (f x) ∷ z) (map_map f h xs)

-- what was dealt out served, and was gathered in the order in which it was dealt
pub have_served : {L D : Type 0} (layout : LayoutValue) (callers tools tasks limit : ℕ) (tool pump : L → CallerValue) (member : D → CallerValue) (ls : List L) (ds : List D) (former one two three spare : List CallerValue) → limit ≡ layout.max_cto → callers_of layout callers ≡ one ++ (two ++ (three ++ spare))
    → length one ≡ tools → length two ≡ tasks → length three ≡ tools → former ≡ map tool ls ++ (map member ds ++ map pump ls) → SeatsServed limit one three (map (λ l. pair (tool l) (pump l)) ls) → TasksServed layout two (map member ds) → HaveServed layout callers tools tasks former
have_served layout callers tools tasks limit tool pump member ls ds former one two three spare is dealt ones twos threes gathered seats ticked = record {
  for_tools = one;
  for_tasks = two;
  for_pumps = three;
  spare = spare;
  dealt = dealt;
  counted = (ones, twos, threes);
  left = map (λ l. pair (tool l) (pump l)) ls;
  rested = map member ds;
  gathered = gathered ∙ ((λ i. sym (map_map (λ l. pair (tool l) (pump l)) (λ p. p.tool) ls) i ++ (map member ds ++ sym (map_map (λ l. pair (tool l) (pump l)) (λ p. p.pump) ls) i)));
  seats = subst (λ m. SeatsServed m one three (map (λ l. pair (tool l) (pump l)) ls)) is seats;
  ticked = ticked;
}

-- a list that was lent, and came back as it was
pub written_back : {X : Type 0} (items lent back : List X) (n : ℕ) → lent ≡ items → length lent ≡ n → back ≡ lent → take n (back ++ drop (length back) items) ≡ items
written_back items lent back n is count same = written back items n (ap length (same ∙ is)) (sym count ∙ ap length is) ∙ (same ∙ is)
