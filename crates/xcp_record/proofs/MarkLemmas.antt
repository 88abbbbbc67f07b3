-- An end mark is no chapter, and another one is none.
use Rattle.std.proofs.Common.{◌≡◌, ◌<◌, ◌*◌, ◌^◌, ℕ, List, [], ◌∷◌, ◌++◌, length, refl, sym, ap, ◌∙◌, arith, append_assoc, append-nil, length-append, inl, inr}
use Rattle.std.specs.Prelude.{slice_index}
use Rattle.std.specs.Int.{w32, w64, from_le_bytes, to_le_bytes}
use Rattle.std.proofs.lemmas.Nat.{from_le_bytes-to_le_bytes_4}
use Rattle.sha2.specs.Sha256.{sha256}
use Rattle.xcp_trace.specs.Tape.{spelt}
use Rattle.xcp_record.specs.declared.ending.FileEnding.{FileEnding}
use Rattle.xcp_record.specs.declared.ending.FileEnding.TheVariants as endings
use Rattle.xcp_record.specs.FileFormat.{chapter_bytes, chapter_head, chapter_in, ending_in, mark_bytes, mark_head, mark_in, most_call, most_calls, no_chapter, size_in}
use Rattle.xcp_record.specs.JournalFile.{EndsInside, IsChapter, IsNoChapter, IsNoEnd, IsNoPart}
use Rattle.xcp_record.proofs.TapeLemmas.{append_same}
use Rattle.xcp_record.proofs.FormatLemmas.{head_length, sha256_length, size_again, size_front, spelt_short, too_large}

-- the number of calls, as a chapter's head says it
unfoldable count_in : List ℕ → ℕ
count_in bytes = from_le_bytes w32 (slice_index bytes 8 ∷ slice_index bytes 9 ∷ slice_index bytes 10 ∷ slice_index bytes 11 ∷ [])

count_again : (n c s : ℕ) → c < 2 ^ 32 → count_in (chapter_head n c s) ≡ c
unfolding chapter_head count_in
count_again n c s h = from_le_bytes-to_le_bytes_4 c h

-- a mark's bytes
mark_head_length : length mark_head ≡ 16
mark_head_length = head_length no_chapter 0 8

count_length : (n : ℕ) → length (to_le_bytes w64 n) ≡ 8
count_length n = refl

mark_joined : (before : List ℕ) (n : ℕ) → mark_in before n ≡ mark_head ++ (to_le_bytes w64 n ++ sha256 (before ++ mark_bytes n))
mark_joined before n = append_assoc mark_head (to_le_bytes w64 n) (sha256 (before ++ mark_bytes n))

-- a mark has 56 bytes
pub mark_length : (before : List ℕ) (n : ℕ) → length (mark_in before n) ≡ 56
mark_length before n =
    let a = length-append (mark_bytes n) (sha256 (before ++ mark_bytes n)) in
    let b = length-append mark_head (to_le_bytes w64 n) in
    let c = mark_head_length in
    let d = count_length n in
    let e = sha256_length (before ++ mark_bytes n) in
    omega (arith, a, b, c, d, e)

-- its head says that 8 bytes stand where a chapter's calls would
pub mark_size : size_in mark_head ≡ 8
mark_size = size_again no_chapter 0 8 (omega arith)

-- a mark doesn't end inside itself
pub mark_whole : (before : List ℕ) (n : ℕ) → size_in (mark_in before n) ≡ 8
mark_whole before n = ap size_in (mark_joined before n) ∙ size_front no_chapter 0 8 (to_le_bytes w64 n ++ sha256 (before ++ mark_bytes n)) (omega arith)

-- a chapter has bytes
pub chapter_some : (before : List ℕ) (n : ℕ) (s : List (List ℕ)) (more : List ℕ) → chapter_in before n s ++ more ≡ [] → ⊥
chapter_some before n s more h =
    let h16 = head_length n (length s) (length (spelt s)) in
    let e = ap length h in
    let a = length-append (chapter_in before n s) more in
    let b = length-append (chapter_bytes n s) (sha256 (before ++ chapter_bytes n s)) in
    let c = length-append (chapter_head n (length s) (length (spelt s))) (spelt s) in
    absurd (omega (arith, h16, e, a, b, c))

-- no chapter has a mark's head
head_differs : (number : ℕ) (strings : List (List ℕ)) → IsChapter strings → chapter_head number (length strings) (length (spelt strings)) ≡ mark_head → ⊥
head_differs number strings chapter h =
    let few = chapter.few in
    let short = spelt_short strings chapter.each in
    let none : length strings ≡ 0 = sym (count_again number (length strings) (length (spelt strings)) (omega (arith, few))) ∙ ap count_in h ∙ count_again no_chapter 0 8 (omega arith) in
    let some : length (spelt strings) ≡ 8 = sym (size_again number (length strings) (length (spelt strings)) (omega (arith, few, short))) ∙ ap size_in h ∙ mark_size in
    absurd (omega (arith, none, some, short))

-- so none stands where a mark's head stands
pub mark_no_chapter : (before : List ℕ) (number : ℕ) (first rest : List ℕ) → first ≡ mark_head → IsNoChapter number before (first ++ rest)
mark_no_chapter before number first rest is strings more chapter front =
    let h = chapter_head number (length strings) (length (spelt strings)) in
    let sum = sha256 (before ++ chapter_bytes number strings) in
    let left : chapter_in before number strings ++ front.0 ≡ h ++ (spelt strings ++ (sum ++ front.0)) =
    append_assoc (h ++ spelt strings) sum front.0 ∙ append_assoc h (spelt strings) (sum ++ front.0) in
    let one = append_same h first _ _ (head_length _ _ _ ∙ sym (ap length is ∙ mark_head_length)) (sym left ∙ front.1 ∙ append_assoc first rest more) in
    head_differs number strings chapter (one.0 ∙ is)

-- nor at the head of a mark
pub mark_not_begun : (before other : List ℕ) (number n : ℕ) (strings : List (List ℕ)) (more : List ℕ) → IsChapter strings → chapter_in before number strings ++ more ≡ mark_in other n → ⊥
mark_not_begun before other number n strings more chapter h =
    mark_no_chapter before number mark_head (to_le_bytes w64 n ++ sha256 (other ++ mark_bytes n)) refl strings [] chapter
    (more, h ∙ mark_joined other n ∙ sym (append-nil (mark_head ++ (to_le_bytes w64 n ++ sha256 (other ++ mark_bytes n)))))

-- what has another head is no mark
pub other_mark_head : (before : List ℕ) (n : ℕ) (first rest : List ℕ) → length first ≡ 16 → (first ≡ mark_head → ⊥) → IsNoEnd n before (first ++ rest)
other_mark_head before n first rest is other more h =
    other (append_same first mark_head _ _ (is ∙ sym mark_head_length) (sym (append_assoc first rest more) ∙ h ∙ mark_joined before n)).0

-- nor is what has more bytes of calls than a chapter may have
pub large_no_part : (before : List ℕ) (number n : ℕ) (rest : List ℕ) → length rest ≡ 16 → most_call * most_calls < size_in rest → IsNoPart n number before rest
large_no_part before number n rest is large = (
  too_large before number rest is large,
  λ more h.
      let size = ap size_in (append_same rest mark_head _ _ (is ∙ sym mark_head_length) (h ∙ mark_joined before n)).0 ∙ mark_size in
      absurd (omega (arith, size, large)),
)

-- where a mark stands its number of calls and its digest are these
mark_parts : (before : List ℕ) (n : ℕ) (calls digest more : List ℕ) → length calls ≡ 8 → length digest ≡ 32 → (mark_head ++ calls ++ digest) ++ more ≡ mark_in before n
    → (calls ≡ to_le_bytes w64 n) × (digest ≡ sha256 (before ++ mark_bytes n))
mark_parts before n calls digest more size whole h =
    let right : (mark_head ++ calls ++ digest) ++ more ≡ mark_head ++ (calls ++ (digest ++ more)) =
    append_assoc (mark_head ++ calls) digest more ∙ append_assoc mark_head calls (digest ++ more) in
    let sum = sha256 (before ++ mark_bytes n) in
    let one = append_same mark_head mark_head (calls ++ (digest ++ more)) (to_le_bytes w64 n ++ sum) refl (sym right ∙ h ∙ mark_joined before n) in
    let two = append_same calls (to_le_bytes w64 n) (digest ++ more) sum (size ∙ sym (count_length n)) one.1 in
    let three = append_same digest sum more [] (whole ∙ sym (sha256_length _)) (two.1 ∙ sym (append-nil sum)) in
    (two.0, three.0)

mark_summed : (before : List ℕ) (n : ℕ) (first calls sum : List ℕ) → first ≡ mark_head → calls ≡ to_le_bytes w64 n → sum ≡ sha256 ((before ++ first) ++ calls) → sum ≡ sha256 (before ++ mark_bytes n)
mark_summed before n first calls sum is count summed =
    summed ∙ ap sha256 (append_assoc before first calls) ∙ ap (λ f. sha256 (before ++ (f ++ calls))) is ∙ ap (λ c. sha256 (before ++ (mark_head ++ c))) count

-- behind a mark's head, 8 bytes other than the number of all calls make no end mark
pub other_count : (before : List ℕ) (n : ℕ) (first calls digest : List ℕ) → first ≡ mark_head → length calls ≡ 8 → length digest ≡ 32 → (calls ≡ to_le_bytes w64 n → ⊥) → IsNoEnd n before (first ++ calls ++ digest)
other_count before n first calls digest is size whole other more h =
    other (mark_parts before n calls digest more size whole (ap (λ f. (f ++ calls ++ digest) ++ more) (sym is) ∙ h)).0

-- nor does another digest than that of all before it
pub other_sum : (before : List ℕ) (n : ℕ) (first calls digest sum : List ℕ) → first ≡ mark_head → length calls ≡ 8 → length digest ≡ 32 → calls ≡ to_le_bytes w64 n
    → sum ≡ sha256 ((before ++ first) ++ calls) → (sum ≡ digest → ⊥) → IsNoEnd n before (first ++ calls ++ digest)
other_sum before n first calls digest sum is size whole count summed other more h =
    other (mark_summed before n first calls sum is count summed ∙ sym (mark_parts before n calls digest more size whole (ap (λ f. (f ++ calls ++ digest) ++ more) (sym is) ∙ h)).1)

-- what has these parts is the mark
pub mark_is : (before : List ℕ) (n : ℕ) (first calls digest sum : List ℕ) → first ≡ mark_head → calls ≡ to_le_bytes w64 n → sum ≡ sha256 ((before ++ first) ++ calls) → sum ≡ digest
    → first ++ calls ++ digest ≡ mark_in before n
mark_is before n first calls digest sum is count summed same =
    ap (λ f. f ++ calls ++ digest) is ∙ ap (λ c. mark_head ++ c ++ digest) count ∙ ap (λ d. mark_bytes n ++ d) (sym same ∙ mark_summed before n first calls sum is count summed)

-- bytes behind a mark make it none
pub mark_too_long : (before : List ℕ) (n : ℕ) (read behind : List ℕ) → read ≡ mark_in before n → 0 < length behind → IsNoEnd n before (read ++ behind)
mark_too_long before n read behind is some more h =
    let a = ap length h in
    let b = length-append (read ++ behind) more in
    let c = length-append read behind in
    let d = ap length is in
    absurd (omega (arith, a, b, c, d, some))

-- an ending adds as many bytes as a mark has, or none
pub no_ending_inside : (before rest : List ℕ) (n : ℕ) (ending : FileEnding) → rest ≡ ending_in before n ending → 0 < length rest → EndsInside rest → ⊥
no_ending_inside before rest n endings.Open is some inside = let e = ap length is in absurd (omega (arith, e, some))
no_ending_inside before rest n endings.Ended is some inside = elim inside [
  | inl few ↦ let e = ap length is in let l = mark_length before n in absurd (omega (arith, e, l, few))
  | inr few ↦ let e = ap length is in let l = mark_length before n in let s = ap size_in is ∙ mark_whole before n in absurd (omega (arith, e, l, s, few))
]

-- and no chapter begins it
pub ending_not_begun : (before other : List ℕ) (number n : ℕ) (ending : FileEnding) (strings : List (List ℕ)) (more : List ℕ) → IsChapter strings → chapter_in before number strings ++ more ≡ ending_in other n ending → ⊥
ending_not_begun before other number n endings.Ended strings more chapter h = mark_not_begun before other number n strings more chapter h
ending_not_begun before other number n endings.Open strings more chapter h = chapter_some before number strings more h

-- endings that add the same are the same
pub one_ending : (before other : List ℕ) (n m : ℕ) (a b : FileEnding) → ending_in before n a ≡ ending_in other m b → b ≡ a
one_ending before other n m endings.Ended endings.Ended h = refl
one_ending before other n m endings.Open endings.Open h = refl
one_ending before other n m endings.Ended endings.Open h = let e = ap length h in let l = mark_length before n in absurd (omega (arith, e, l))
one_ending before other n m endings.Open endings.Ended h = let e = ap length h in let l = mark_length other m in absurd (omega (arith, e, l))
