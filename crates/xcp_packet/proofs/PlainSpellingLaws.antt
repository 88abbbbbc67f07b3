-- What is put together is the plain spelling, and the plain spelling spells its command.
use Rattle.std.proofs.Common.{◌≡◌, ◌≤◌, ◌+◌, ◌-◌, ℕ, Bool, true, false, List, [], ◌∷◌, ◌++◌, length, replicate, refl, sym, ap, ◌∙◌, arith, append_assoc, length-append, if◌then◌else◌}
use Rattle.std.proofs.lemmas.Bool.Decides.{nat_tests}
use Rattle.std.proofs.lemmas.List.{append-nil, length-replicate}
use Rattle.std.proofs.Math.Seq.{drop-append_seam, get_or-append_seam}
use Rattle.std.specs.Prelude.{nat_le, ⊤}
use Rattle.xcp_packet.specs.ByteOrder.{word_bytes, double_bytes}
use Rattle.xcp_packet.specs.CommandForms.{Parameter, byte, word, double, rest, code, least, parameters}
use Rattle.xcp_packet.specs.CommandSpelling.{HasParameter, AllStand, spells}
use Rattle.xcp_packet.specs.PlainSpelling.{place_of, width_of, bytes_in, laid, plain, end_of, plain_length, HasWidth, AllHaveWidth, HasWidths}
use Rattle.xcp_packet.specs.private.EncodeByParameter.{up_to, start, put, with_parameters, built}
use Rattle.xcp_packet.proofs.ByteOrderLemmas.{length-bytes_of, reads_back}
use Rattle.xcp_packet.specs.declared.order.Order.{Order}
use Rattle.xcp_packet.specs.declared.command.Command.{Command}
use Rattle.xcp_packet.specs.declared.command.Command.TheVariants.{Disconnect}

-- nothing stands behind the rest
abbrev pub Ends : Parameter → List Parameter → Type 0
Ends (rest place bytes) xs = xs ≡ []
Ends _ xs = ⊤

-- The parameters stand one behind the other from place `at` on, nothing behind the rest, and end at n or later.
abbrev pub Placed : ℕ → ℕ → List Parameter → Type 0
Placed at n [] = n ≤ at
Placed at n (x ∷ xs) = (at ≤ place_of x) × Ends x xs × Placed (place_of x + width_of x) n xs

-- the same as a test
abbrev placed : ℕ → ℕ → List Parameter → Bool
placed at n [] = nat_le n at
placed at n (byte place x ∷ xs) = if nat_le at place then placed (place + 1) n xs else false
placed at n (word place x ∷ xs) = if nat_le at place then placed (place + 2) n xs else false
placed at n (double place x ∷ xs) = if nat_le at place then placed (place + 4) n xs else false
placed at n (rest place bytes ∷ []) = if nat_le at place then nat_le n place else false
placed at n (rest place bytes ∷ _) = false

both : (a b : ℕ) (t u : Bool) (P Q : Type 0) → nat_le a b ≡ t → (if t then u else false) ≡ true → (a ≤ b → u ≡ true → P) → P
both a b true u P Q e h f = f (grind (arith, nat_tests)) h
both a b false u P Q e h f = absurd cc

is_placed : (at n : ℕ) (xs : List Parameter) → placed at n xs ≡ true → Placed at n xs
is_placed at n [] h = grind (arith, nat_tests)
is_placed at n (byte place x ∷ xs) h = both at place (nat_le at place) (placed (place + 1) n xs) _ ⊥ refl h (λ a b. (a, tt, is_placed (place + 1) n xs b))
is_placed at n (word place x ∷ xs) h = both at place (nat_le at place) (placed (place + 2) n xs) _ ⊥ refl h (λ a b. (a, tt, is_placed (place + 2) n xs b))
is_placed at n (double place x ∷ xs) h = both at place (nat_le at place) (placed (place + 4) n xs) _ ⊥ refl h (λ a b. (a, tt, is_placed (place + 4) n xs b))
is_placed at n (rest place bytes ∷ []) h = both at place (nat_le at place) (nat_le n place) _ ⊥ refl h (λ a b. (a, refl, grind (arith, nat_tests)))
is_placed at n (rest place bytes ∷ x ∷ xs) h = absurd cc

-- The parameters of each command are so. The second line stands for all other commands, and is checked for each.
all_placed : (c : Command) → placed 1 (least c) (parameters c) ≡ true
all_placed Disconnect = refl
all_placed c = refl

-- a command's parameters stand one behind the other from place 1 on and end at its least length or later
pub command-placed : (c : Command) → Placed 1 (least c) (parameters c)
command-placed c = is_placed 1 (least c) (parameters c) (all_placed c)

-- a parameter's bytes are as many as it has
length-bytes_in : (order : Order) (x : Parameter) → length (bytes_in order x) ≡ width_of x
length-bytes_in order (byte place x) = refl
length-bytes_in order (word place x) = length-bytes_of order 2 x
length-bytes_in order (double place x) = length-bytes_of order 4 x
length-bytes_in order (rest place bytes) = refl

-- behind a list as long as its place, a parameter's bytes stand at its place
stands_there : (order : Order) (x : Parameter) (xs : List Parameter) (q r : List ℕ) → length q ≡ place_of x → HasWidth x → Ends x xs → (xs ≡ [] → r ≡ []) → HasParameter order x (q ++ (bytes_in order x ++ r))
stands_there order (byte place x) xs q r e w last none = rw (← e) (sym (get_or-append_seam q x r 0))
stands_there order (word place x) xs q r e w last none = rw (← e, drop-append_seam q (word_bytes order x ++ r)) (sym (reads_back order 2 x r w))
stands_there order (double place x) xs q r e w last none = rw (← e, drop-append_seam q (double_bytes order x ++ r)) (sym (reads_back order 4 x r w))
stands_there order (rest place bytes) xs q r e w last none = rw (none last, append-nil bytes.items, ← e) (sym (drop-append_seam q bytes.items))

laid-none : (order : Order) (at : ℕ) (xs : List Parameter) → xs ≡ [] → laid order at xs ≡ []
laid-none order at [] e = refl
laid-none order at (x ∷ xs) e = absurd cc

-- a list with zeros up to a place, and a parameter's bytes there
abbrev grown : Order → ℕ → List ℕ → Parameter → List ℕ
grown order at q x = (q ++ replicate (place_of x - at) 0) ++ bytes_in order x

length-padded : (at place : ℕ) (q : List ℕ) → length q ≡ at → at ≤ place → length (q ++ replicate (place - at) 0) ≡ place
length-padded at place q e h = simp (length-append, length-replicate) (omega arith)

length-grown : (order : Order) (at : ℕ) (q : List ℕ) (x : Parameter) → length q ≡ at → at ≤ place_of x → length (grown order at q x) ≡ place_of x + width_of x
length-grown order at q x e h =
    let pad : length (q ++ replicate (place_of x - at) 0) ≡ place_of x = length-padded at (place_of x) q e h in
    let wide : length (bytes_in order x) ≡ width_of x = length-bytes_in order x in
    rw (length-append (q ++ replicate (place_of x - at) 0) (bytes_in order x), pad, wide) refl

regroup : (a b c d : List ℕ) → ((a ++ b) ++ c) ++ d ≡ a ++ (b ++ (c ++ d))
regroup a b c d = simp append_assoc

-- behind a list as long as the first place, the parameters stand at their places
all_stand : (order : Order) (at n : ℕ) (xs : List Parameter) (q : List ℕ) → length q ≡ at → Placed at n xs → AllHaveWidth xs → AllStand order xs (q ++ laid order at xs)
all_stand order at n [] q e h w = tt
all_stand order at n (x ∷ xs) q e h w =
    let pad = replicate (place_of x - at) 0 in
    let more = laid order (place_of x + width_of x) xs in
    let one = stands_there order x xs (q ++ pad) (more) (length-padded at (place_of x) q e h.0) w.0 h.1 (laid-none order (place_of x + width_of x) xs) in
    let later = all_stand order (place_of x + width_of x) n xs (grown order at q x) (length-grown order at q x e h.0) h.2 w.1 in
    (rw append_assoc at one, rw regroup at later)

-- the parameters laid out end at their end
length-laid : (order : Order) (at n : ℕ) (xs : List Parameter) → Placed at n xs → at + length (laid order at xs) ≡ end_of at xs
length-laid order at n [] h = omega arith
length-laid order at n (x ∷ xs) h =
    let more : place_of x + width_of x + length (laid order (place_of x + width_of x) xs) ≡ end_of (place_of x + width_of x) xs = length-laid order (place_of x + width_of x) n xs h.2 in
    let wide : length (bytes_in order x) ≡ width_of x = length-bytes_in order x in
    let first : at ≤ place_of x = h.0 in
    rw (← more) (simp (length-append, length-replicate) (omega arith))

-- which is n or later
end-placed : (at n : ℕ) (xs : List Parameter) → Placed at n xs → n ≤ end_of at xs
end-placed at n [] h = h
end-placed at n (x ∷ xs) h = end-placed (place_of x + width_of x) n xs h.2

-- how long the plain spelling is
pub length_plain : (order : Order) (c : Command) → length (plain order c) ≡ plain_length c
length_plain order c =
    let e : 1 + length (laid order 1 (parameters c)) ≡ plain_length c = length-laid order 1 (least c) (parameters c) (command-placed c) in
    omega arith

-- the plain spelling spells its command
pub spells_plain : (order : Order) (c : Command) → HasWidths c → spells order c (plain order c)
spells_plain order c h =
    let long : least c ≤ plain_length c = end-placed 1 (least c) (parameters c) (command-placed c) in
    let e : length (plain order c) ≡ plain_length c = length_plain order c in
    (record { first = refl; enough = omega arith }, all_stand order 1 (least c) (parameters c) (code c ∷ []) refl (command-placed c) h)

joined_laid : (order : Order) (at n : ℕ) (xs : List Parameter) (q : List ℕ) → length q ≡ at → Placed at n xs → with_parameters order q xs ≡ q ++ laid order at xs
unfolding up_to put
joined_laid order at n [] q e h = sym (append-nil q)
joined_laid order at n (x ∷ xs) q e h =
    let same : put q (place_of x) (bytes_in order x) ≡ grown order at q x = rw e refl in
    let later = joined_laid order (place_of x + width_of x) n xs (grown order at q x) (length-grown order at q x e h.0) h.2 in
    ap (λ (p : List ℕ). with_parameters order p xs) same ∙ later ∙ regroup q (replicate (place_of x - at) 0) (bytes_in order x) (laid order (place_of x + width_of x) xs)

-- what is put together is the plain spelling
pub built_plain : (order : Order) (c : Command) → built order c ≡ plain order c
unfolding start
built_plain order c = joined_laid order 1 (least c) (parameters c) (code c ∷ []) refl (command-placed c)
