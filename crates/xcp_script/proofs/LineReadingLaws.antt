-- The words of lines as they are read, and those of whole lists of lines.
use Rattle.std.proofs.Common.{◌≡◌, ◌≢◌, ◌≤◌, ◌+◌, ◌==◌, ℕ, Bool, true, false, List, [], ◌∷◌, ◌++◌, length, drop, flat_map, map, option_map, All, Option, Some, None, suc, refl, sym, ◌∙◌, ap, arith, append_assoc, subst}
use Rattle.std.specs.List.{before_first, position_or_len, position_from}
use Rattle.std.proofs.lemmas.Bool.Decides.{nat_tests}
use Rattle.std.proofs.lemmas.Iterator.Adapters.{position_from-zero}
use Rattle.std.proofs.lemmas.List.{append-nil, drop_all}
use Rattle.std.proofs.lemmas.List.Elements.{All-append, All-cons, All-head, All-nil, All-tail}
use Rattle.xcp_slave.specs.declared.Request.{Request}
use Rattle.xcp_script.specs.Lines.{Lines, HasNoFeed, without_return, unless_empty}
use Rattle.xcp_script.specs.ScriptLine.{meaning}
use Rattle.xcp_script.specs.private.LineReading.{asked_before, faulty_from, lines_from, OfRead}
use Rattle.xcp_script.specs.Replay.{asked, asked_by, first_faulty, is_faulty, OfLines}

-- what stands before the first element that passes, where that isn't the first of all
before_cons : {X : Type 0} (p : X → Bool) (x : X) (xs : List X) → p x ≡ false → before_first p (x ∷ xs) ≡ x ∷ before_first p xs
before_cons p x xs h =
    let count : 1 + position_or_len p xs ≡ suc (position_or_len p xs) = omega arith in
    rw (h, count) refl

-- a fact for each value of a test
by_test : (b : Bool) (P : Type 0) → (b ≡ true → P) → (b ≡ false → P) → P
by_test true P if_true if_false = if_true refl
by_test false P if_true if_false = if_false refl

-- the requests before the first faulty line are the same, taken line by line or of the whole list
pub asked_is : (m : ℕ) (lines : List (List ℕ)) → asked_before m lines ≡ asked m lines
asked_is m [] = refl
asked_is m (l ∷ ls) =
    by_test (is_faulty (meaning m l)) _
    (λ h. rw h refl)
    (λ h.
    let first : asked_before m (l ∷ ls) ≡ asked_by (meaning m l) ++ asked_before m ls = rw h refl in
    first ∙ ap (λ (qs : List Request). asked_by (meaning m l) ++ qs) (asked_is m ls)
    ∙ sym (ap (λ (xs : List (List ℕ)). flat_map (λ line. asked_by (meaning m line)) xs) (before_cons (λ line. is_faulty (meaning m line)) l ls h)))

faulty_from_is : (m n : ℕ) (lines : List (List ℕ)) → faulty_from m n lines ≡ option_map (λ i. i + 1) (position_from (λ line. is_faulty (meaning m line)) n lines)
faulty_from_is m n [] = refl
faulty_from_is m n (l ∷ ls) =
    by_test (is_faulty (meaning m l)) _
    (λ h. rw h refl)
    (λ h. rw h (faulty_from_is m (n + 1) ls))

-- the number of the first faulty line is the same, counted line by line or in the whole list
pub faulty_is : (m : ℕ) (lines : List (List ℕ)) → faulty_from m 0 lines ≡ first_faulty m lines
faulty_is m lines = faulty_from_is m 0 lines ∙ ap (λ (o : Option ℕ). option_map (λ i. i + 1) o) (sym (position_from-zero (λ line. is_faulty (meaning m line)) lines))

-- a line feed ends a line
pub line_read : (begun line bs : List ℕ) → HasNoFeed line → lines_from begun (line ++ 10 ∷ bs) ≡ without_return (begun ++ line) ∷ lines_from [] bs
line_read begun [] bs h = ap (λ (xs : List ℕ). without_return xs ∷ lines_from [] bs) (sym (append-nil begun))
line_read begun (b ∷ line) bs h =
    let other : (b == 10) ≡ false = grind (arith, nat_tests, All-head (λ x. x ≢ 10) b line h) in
    rw other (line_read (begun ++ b ∷ []) line bs (All-tail (λ x. x ≢ 10) b line h) ∙ ap (λ (xs : List ℕ). without_return xs ∷ lines_from [] bs) (append_assoc begun (b ∷ []) line))

-- the end of the text ends one
last_read : (begun last : List ℕ) → HasNoFeed last → lines_from begun last ≡ unless_empty (begun ++ last)
last_read begun [] h = ap unless_empty (sym (append-nil begun))
last_read begun (b ∷ last) h =
    let other : (b == 10) ≡ false = grind (arith, nat_tests, All-head (λ x. x ≢ 10) b last h) in
    rw other (last_read (begun ++ b ∷ []) last (All-tail (λ x. x ≢ 10) b last h) ∙ ap unless_empty (append_assoc begun (b ∷ []) last))

all_read : (ended : List (List ℕ)) (last : List ℕ) → All HasNoFeed ended → HasNoFeed last
    → lines_from [] (flat_map (λ line. line ++ 10 ∷ []) ended ++ last) ≡ map without_return ended ++ unless_empty last
all_read [] last h k = last_read [] last k
all_read (line ∷ ended) last h k =
    let next : List ℕ = flat_map (λ (l : List ℕ). l ++ 10 ∷ []) ended in
    ap (λ (xs : List ℕ). lines_from [] xs) (append_assoc (line ++ 10 ∷ []) next last ∙ append_assoc line (10 ∷ []) (next ++ last))
    ∙ line_read [] line (next ++ last) (All-head HasNoFeed line ended h)
    ∙ ap (λ (ls : List (List ℕ)). without_return line ∷ ls) (all_read ended last (All-tail HasNoFeed line ended h) k)

-- a text has no lines but those that are read
pub lines_are_read : (text : List ℕ) (lines : List (List ℕ)) → Lines text lines → lines ≡ lines_from [] text
lines_are_read text lines h =
    h.are ∙ sym (all_read h.ended h.last h.ended_once h.not_ended) ∙ ap (λ (xs : List ℕ). lines_from [] xs) (sym h.whole)

-- a fact about the lines as they are read is one about the lines
pub of_lines : (input : Option (List ℕ)) (Holds : List (List ℕ) → Type 0) → OfRead input Holds → OfLines input Holds
of_lines None Holds h = tt
of_lines (Some text) Holds h = λ lines are. subst Holds (sym (lines_are_read text lines are)) h

-- the lines that are read are lines of the text
pub record Cut (begun text : List ℕ) : Type 0 where
  pub ended : List (List ℕ)
  pub last : List ℕ
  pub whole : begun ++ text ≡ flat_map (λ line. line ++ 10 ∷ []) ended ++ last
  pub ended_once : All HasNoFeed ended
  pub not_ended : HasNoFeed last
  pub are : lines_from begun text ≡ map without_return ended ++ unless_empty last

feed_between : (begun bs : List ℕ) → begun ++ 10 ∷ bs ≡ (begun ++ 10 ∷ []) ++ bs
feed_between begun bs = sym (append_assoc begun (10 ∷ []) bs)

cut : (begun text : List ℕ) → HasNoFeed begun → Cut begun text
cut begun [] h = record {
  ended = [];
  last = begun;
  whole = append-nil begun;
  ended_once = All-nil HasNoFeed;
  not_ended = h;
  are = refl;
}
cut begun (b ∷ bs) h =
    by_test (b == 10) _
    (λ k.
    let feed : b ≡ 10 = grind (arith, nat_tests, k) in
    let later = cut [] bs (All-nil (λ x. x ≢ 10)) in
    let next : List ℕ = flat_map (λ (l : List ℕ). l ++ 10 ∷ []) later.ended in
    record {
      ended = begun ∷ later.ended;
      last = later.last;
      whole = rw feed (feed_between begun bs ∙ ap (λ (xs : List ℕ). (begun ++ 10 ∷ []) ++ xs) later.whole ∙ sym (append_assoc (begun ++ 10 ∷ []) next later.last));
      ended_once = All-cons HasNoFeed begun later.ended h later.ended_once;
      not_ended = later.not_ended;
      are = rw k (ap (λ (ls : List (List ℕ)). without_return begun ∷ ls) later.are);
    })
    (λ k.
    let other : b ≢ 10 = grind (arith, nat_tests, k) in
    let later = cut (begun ++ b ∷ []) bs (All-append (λ x. x ≢ 10) begun (b ∷ []) h (All-cons (λ x. x ≢ 10) b [] other (All-nil (λ x. x ≢ 10)))) in
    record {
      ended = later.ended;
      last = later.last;
      whole = sym (append_assoc begun (b ∷ []) bs) ∙ later.whole;
      ended_once = later.ended_once;
      not_ended = later.not_ended;
      are = rw k later.are;
    })

-- the lines that are read of a text are its lines
pub lines_of : (text : List ℕ) → Lines text (lines_from [] text)
lines_of text =
    let read = cut [] text (All-nil (λ x. x ≢ 10)) in
    record { ended = read.ended; last = read.last; whole = read.whole; ended_once = read.ended_once; not_ended = read.not_ended; are = read.are }

-- a text has one list of lines only
pub one_list_only : (text : List ℕ) (lines others : List (List ℕ)) → Lines text lines → Lines text others → lines ≡ others
one_list_only text lines others h k = lines_are_read text lines h ∙ sym (lines_are_read text others k)

-- the lines that have ended and the last one, when all bytes have been read
pub lines_put : (text begun : List ℕ) (lines : List (List ℕ)) (i : ℕ) → length text ≤ i
    → lines ++ lines_from begun (drop i text) ≡ lines_from [] text → lines ++ unless_empty begun ≡ lines_from [] text
lines_put text begun lines i h k = rw (drop_all i text h) at k

-- the same with the last line among them
pub lines_done : (text : List ℕ) (put all : List (List ℕ)) → put ≡ lines_from [] text → all ≡ put → Lines text all
lines_done text put all k l = subst (λ (ls : List (List ℕ)). Lines text ls) (sym (l ∙ k)) (lines_of text)
