-- Whose the session is: of who connected last; and there is room for all seats.
use Rattle.std.proofs.Common.{◌≡◌, ◌≤◌, ◌<◌, ◌+◌, ℕ, zero, suc, Bool, true, false, not, ◌&&◌, ◌||◌, ◌==◌, cond, List, [], ◌∷◌, length, Option, Some, None, filter, if◌then◌else◌, refl, sym, ap, subst, ◌∙◌, arith, eqb-true}
use Rattle.std.proofs.lemmas.Bool.{eqb-false}
use Rattle.std.specs.List.{AllByRecursion}
use Rattle.xcp_packet.specs.BlockPacketLemmas.{block_begins}
use Rattle.xcp_packet.specs.PacketTrains.{block_packets}
use Rattle.arrayvec.specs.ArrayVec.{ArrayVec}
use Rattle.xcp_slave.specs.AnswerInBytes.{answer_in}
use Rattle.xcp_slave.specs.declared.outcome.Cut.{Cut}
use Rattle.xcp_slave.specs.declared.outcome.Cut.TheVariants as cuts
use Rattle.xcp_slave.specs.declared.outcome.Outcome.TheVariants as answers
use Rattle.xcp_service.specs.Happenings.{Happening, called, connected_last, has_gone, is_seat, seats_after, went}
use Rattle.xcp_service.specs.Sessions.{connects, ends, first_is, has_session, is_positive, without}
use Rattle.xcp_service.specs.private.Seats.{AreSeats, AreSingle, Lacks}

-- what holds of all holds of those that a filter keeps
all_cond : (P : ℕ → Type 0) (b : Bool) (x : ℕ) (xs : List ℕ) → P x → AllByRecursion P xs → AllByRecursion P (cond b (x ∷ xs) xs)
all_cond P true x xs p h = (p, h)
all_cond P false x xs p h = h

all_filter : (P : ℕ → Type 0) (test : ℕ → Bool) (xs : List ℕ) → AllByRecursion P xs → AllByRecursion P (filter test xs)
all_filter P test [] h = tt
all_filter P test (x ∷ xs) h = all_cond P (test x) x (filter test xs) h.0 (all_filter P test xs h.1)

single_cond : (b : Bool) (x : ℕ) (xs : List ℕ) → Lacks x xs → AreSingle xs → AreSingle (cond b (x ∷ xs) xs)
single_cond true x xs p h = (p, h)
single_cond false x xs p h = h

single_filter : (test : ℕ → Bool) (xs : List ℕ) → AreSingle xs → AreSingle (filter test xs)
single_filter test [] h = tt
single_filter test (x ∷ xs) h = single_cond (test x) x (filter test xs) (all_filter (λ s. (s == x) ≡ false) test xs h.0) (single_filter test xs h.1)

-- without a seat it isn't there
lacks_cond : (b : Bool) (seat x : ℕ) (xs : List ℕ) → (x == seat) ≡ b → Lacks seat xs → Lacks seat (cond (not b) (x ∷ xs) xs)
lacks_cond true seat x xs e h = h
lacks_cond false seat x xs e h = (e, h)

lacks_without : (seat : ℕ) (xs : List ℕ) → Lacks seat (without seat xs)
lacks_without seat [] = tt
lacks_without seat (x ∷ xs) = lacks_cond (x == seat) seat x (without seat xs) refl (lacks_without seat xs)

-- and where it isn't there, nothing is left out
without_same : (seat : ℕ) (xs : List ℕ) → Lacks seat xs → without seat xs ≡ xs
without_same seat [] h = refl
without_same seat (x ∷ xs) h = let rest = without_same seat xs h.1 in λ i. cond (not (h.0 i)) (x ∷ rest i) (rest i)

-- of seats none of which is twice there one is left out at most
length_cond : (b : Bool) (seat x : ℕ) (xs : List ℕ) → (x == seat) ≡ b → Lacks x xs → length xs ≤ length (without seat xs) + 1
    → length (x ∷ xs) ≤ length (cond (not b) (x ∷ without seat xs) (without seat xs)) + 1
length_cond true seat x xs e lacks more =
    let same : without seat xs ≡ xs = without_same seat xs (subst (λ s. Lacks s xs) (eqb-true x seat e) lacks) in
    omega (arith, ap length same)
length_cond false seat x xs e lacks more = omega (arith, more)

length_without : (seat : ℕ) (xs : List ℕ) → AreSingle xs → length xs ≤ length (without seat xs) + 1
length_without seat [] h = omega arith
length_without seat (x ∷ xs) h = length_cond (x == seat) seat x xs refl h.0 (length_without seat xs h.1)

less_cond : (b : Bool) (n x : ℕ) (xs : List ℕ) → (x == n) ≡ b → x < n + 1 → AllByRecursion (λ s. s < n) xs → AllByRecursion (λ s. s < n) (cond (not b) (x ∷ xs) xs)
less_cond true n x xs e lt h = h
less_cond false n x xs e lt h = let other = eqb-false x n e in (omega (arith, other, lt), h)

less_without : (n : ℕ) (xs : List ℕ) → AllByRecursion (λ s. s < n + 1) xs → AllByRecursion (λ s. s < n) (without n xs)
less_without n [] h = tt
less_without n (x ∷ xs) h = less_cond (x == n) n x (without n xs) refl h.0 (less_without n xs h.1)

-- there are no more seats than they have numbers
fits : (n : ℕ) (xs : List ℕ) → AllByRecursion (λ s. s < n) xs → AreSingle xs → length xs ≤ n
fits zero [] below h = omega arith
fits zero (x ∷ xs) below h = absurd (omega (arith, below.0))
fits (suc n) xs below h =
    let less = less_without n xs (subst (λ m. AllByRecursion (λ s. s < m) xs) (omega arith) below) in
    omega (arith, length_without n xs h, fits n (without n xs) less (single_filter (λ s. not (s == n)) xs h))

-- without one of them they are still seats, none of them twice
pub seats_without : (seat : ℕ) (xs : List ℕ) → AreSeats xs → AreSeats (without seat xs)
seats_without seat xs h = record { numbers = all_filter (λ s. s < 256) (λ s. not (s == seat)) xs h.numbers; single = single_filter (λ s. not (s == seat)) xs h.single }

lacks_here : (seat : ℕ) (xs ys : List ℕ) → ys ≡ without seat xs → Lacks seat ys
lacks_here seat xs ys is = subst (Lacks seat) (sym is) (lacks_without seat xs)

-- and they are with that one before them, if its number is below 256
pub seats_more : (seat : ℕ) (xs ys : List ℕ) → ys ≡ without seat xs → seat < 256 → AreSeats ys → AreSeats (seat ∷ ys)
seats_more seat xs ys is lt h = record { numbers = (lt, h.numbers); single = (lacks_here seat xs ys is, h.single) }

room_below : (n seat : ℕ) (xs : List ℕ) → seat < n → AllByRecursion (λ s. s < n) xs → Lacks seat xs → AreSingle xs → length xs < n
room_below n seat xs lt below lacks single = omega (arith, fits n (seat ∷ xs) (lt, below) (lacks, single))

-- without a seat whose number is below 256, there are fewer than 256 seats
pub room : (seat : ℕ) (xs ys : List ℕ) → ys ≡ without seat xs → seat < 256 → AreSeats ys → length ys < 256
room seat xs ys is lt h = room_below 256 seat ys lt h.numbers (lacks_here seat xs ys is) h.single

-- ---- who connected last

-- these seats without all those
kept : List ℕ → List ℕ → List ℕ
kept gone xs = filter (λ s. not (has_gone s gone)) xs

first_of : List ℕ → Option ℕ
first_of [] = None
first_of (x ∷ xs) = Some x

all_kept : (xs : List ℕ) → kept [] xs ≡ xs
unfolding kept
all_kept [] = refl
all_kept (x ∷ xs) = ap (λ l. x ∷ l) (all_kept xs)

one_more_cond : (b : Bool) (gone : List ℕ) (x : ℕ) (us vs ws : List ℕ) → us ≡ filter (λ s. not (has_gone s gone)) ws → us ≡ vs
    → filter (λ s. not (has_gone s gone)) (cond (not b) (x ∷ ws) ws) ≡ cond (not (b || has_gone x gone)) (x ∷ vs) vs
one_more_cond true gone x us vs ws e f = sym e ∙ f
one_more_cond false gone x us vs ws e f = ap (λ l. cond (not (has_gone x gone)) (x ∷ l) l) (sym e ∙ f)

-- one left out, and then those, are one more left out
one_more : (seat : ℕ) (gone xs : List ℕ) → kept gone (without seat xs) ≡ kept (seat ∷ gone) xs
unfolding kept
one_more seat gone [] = refl
one_more seat gone (x ∷ xs) = one_more_cond (x == seat) gone x _ _ (without seat xs) refl (one_more seat gone xs)

among_too : (b : Bool) (seat x : ℕ) (gone : List ℕ) → (x == seat) ≡ b → has_gone seat gone ≡ true → (b || has_gone x gone) ≡ has_gone x gone
among_too true seat x gone e h = sym (subst (λ s. has_gone s gone ≡ true) (sym (eqb-true x seat e)) h)
among_too false seat x gone e h = refl

-- one that is left out already
no_more : (seat : ℕ) (gone xs : List ℕ) → has_gone seat gone ≡ true → kept (seat ∷ gone) xs ≡ kept gone xs
unfolding kept
no_more seat gone [] h = refl
no_more seat gone (x ∷ xs) h = let rest = no_more seat gone xs h in let same = among_too (x == seat) seat x gone refl h in λ i. cond (not (same i)) (x ∷ rest i) (rest i)

behind_connect : (b : Bool) (seat : ℕ) (gone xs : List ℕ) (last : Option ℕ) → has_gone seat gone ≡ b → first_of (kept gone xs) ≡ last
    → first_of (cond (not b) (seat ∷ kept gone (without seat xs)) (kept gone (without seat xs))) ≡ (if true && not b then Some seat else last)
unfolding first_of
behind_connect true seat gone xs last e h = ap first_of (one_more seat gone xs ∙ no_more seat gone xs e) ∙ h
behind_connect false seat gone xs last e h = refl

behind_call : (end connect : Bool) (seat : ℕ) (gone xs : List ℕ) (last : Option ℕ) → first_of (kept gone xs) ≡ last
    → first_of (kept gone (if end then [] else (if connect then seat ∷ without seat xs else xs)))
    ≡ (if end then None else (if connect && not (has_gone seat gone) then Some seat else last))
unfolding kept first_of
behind_call true connect seat gone xs last h = refl
behind_call false true seat gone xs last h = behind_connect (has_gone seat gone) seat gone xs last refl h
behind_call false false seat gone xs last h = h

first_kept : (gone : List ℕ) (happened : List Happening) → first_of (kept gone (seats_after happened)) ≡ connected_last gone happened
unfolding kept first_of
first_kept gone [] = refl
first_kept gone (called seat request answer ∷ before) = behind_call (ends request answer) (connects request answer) seat gone (seats_after before) _ (first_kept gone before)
first_kept gone (went seat ∷ before) = ap first_of (one_more seat gone (seats_after before)) ∙ first_kept (seat ∷ gone) before

first_told : (seat : ℕ) (xs : List ℕ) → first_is seat xs ≡ is_seat seat (first_of xs)
unfolding first_of
first_told seat [] = refl
first_told seat (x ∷ xs) = refl

-- the session is a seat's just where that seat connected last
pub of_who_connected_last : (seat : ℕ) (happened : List Happening) → has_session seat (seats_after happened) ≡ is_seat seat (connected_last [] happened)
of_who_connected_last seat happened =
    first_told seat (seats_after happened) ∙ ap (is_seat seat) (ap first_of (sym (all_kept (seats_after happened))) ∙ first_kept [] happened)

-- ---- what an answer begins with

block_answers : (width : ℕ) (bytes : List ℕ) → true ≡ is_positive (answers.Packets (block_packets width bytes))
block_answers width bytes = let h = block_begins width bytes in sym (ap (λ (ps : List (List ℕ)). is_positive (answers.Packets ps)) h.2)

-- a block has positive responses
pub block_told : (cut : Cut) (width : ℕ) (packet : ArrayVec ℕ) → cut ≡ cuts.Block width → true ≡ is_positive (answer_in (answers.Packets cut) packet)
block_told cut width packet is = subst (λ (c : Cut). true ≡ is_positive (answer_in (answers.Packets c) packet)) (sym is) (block_answers width packet.items)
