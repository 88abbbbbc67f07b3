-- The parts of a chapter in a file's bytes.
use Rattle.std.proofs.Common.{inl, inr, ◌≡◌, ◌≤◌, ◌<◌, ℕ, zero, suc, ◌+◌, ◌*◌, ◌^◌, List, [], ◌∷◌, ◌++◌, length, take, refl, sym, ap, ◌∙◌, subst, arith, append_assoc, length-append, length-drop, length-take-le}
use Rattle.std.specs.Prelude.{slice_index}
use Rattle.std.proofs.Math.ListN.{get_or-append}
use Rattle.std.specs.List.{AllByRecursion}
use Rattle.std.specs.Int.{w32, from_le_bytes}
use Rattle.std.proofs.lemmas.Nat.{from_le_bytes-to_le_bytes_4}
use Rattle.sha2.specs.Sha256.{digest_bytes, sha256}
use Rattle.xcp_trace.specs.Tape.{framed, spelt}
use Rattle.xcp_trace.specs.EntrySpelling.{IsEntryString}
use mathlib.Core.List.{IsPrefix}
use Rattle.xcp_record.specs.FileFormat.{chapter_bytes, chapter_head, chapter_in, most_call, most_calls, size_in}
use Rattle.xcp_record.specs.JournalFile.{EndsInside, IsChapter, IsNoChapter}
use Rattle.xcp_record.specs.private.Calls.{SpellsCalls}
use Rattle.xcp_record.proofs.TapeLemmas.{append_same, spelt_same}

digest_length : (h : List ℕ) (n : ℕ) → length (digest_bytes h n) ≡ 4 * n
unfolding digest_bytes
digest_length h zero = refl
digest_length h (suc n) = length-append (digest_bytes h n) _ ∙ (let before = digest_length h n in omega (arith, before))

-- a digest has 32 bytes
pub sha256_length : (m : List ℕ) → length (sha256 m) ≡ 32
unfolding sha256
sha256_length m = digest_length _ 8

-- a chapter's head has 16 bytes
pub head_length : (n c s : ℕ) → length (chapter_head n c s) ≡ 16
unfolding chapter_head
head_length n c s = refl

-- the size is read again off the head
pub size_again : (n c s : ℕ) → s < 2 ^ 32 → size_in (chapter_head n c s) ≡ s
unfolding chapter_head size_in
size_again n c s h = from_le_bytes-to_le_bytes_4 s h

-- and whatever stands behind it
pub size_front : (n c s : ℕ) (more : List ℕ) → s < 2 ^ 32 → size_in (chapter_head n c s ++ more) ≡ s
unfolding chapter_head size_in
size_front n c s more h = from_le_bytes-to_le_bytes_4 s h

-- a call takes at most 519 bytes
pub entry_short : (s : List ℕ) → IsEntryString s → length (framed s) ≤ most_call
entry_short s e = let head = e.caller in let most = e.exchange.told in let asked = e.exchange.asked in let n = length-drop 1 s in omega (arith, head, most, asked, n)

-- calls take at most 519 bytes each
pub spelt_short : (ss : List (List ℕ)) → AllByRecursion IsEntryString ss → length (spelt ss) ≤ most_call * length ss
spelt_short [] all = omega arith
spelt_short (s ∷ ss) all =
    let one = entry_short s all.0 in
    let more = spelt_short ss all.1 in
    let e = length-append (framed s) (spelt ss) in
    omega (arith, one, more, e)

-- the calls of a chapter take at most 65,536 times 519 bytes
pub chapter_short : (ss : List (List ℕ)) → IsChapter ss → length (spelt ss) ≤ most_call * most_calls
chapter_short ss c = let h = spelt_short ss c.each in let few = c.few in omega (arith, h, few)

-- What stands where a chapter stands: its head, its calls' bytes and its digest are these.
pub parts_are : (before : List ℕ) (number : ℕ) (strings : List (List ℕ)) (first calls digest more : List ℕ)
    → length first ≡ 16 → length calls ≡ size_in first → length digest ≡ 32 → IsChapter strings
    → IsPrefix (chapter_in before number strings) ((first ++ calls ++ digest) ++ more)
    → (chapter_head number (length strings) (length (spelt strings)) ≡ first) × (spelt strings ≡ calls) × (sha256 (before ++ chapter_bytes number strings) ≡ digest)
parts_are before number strings first calls digest more is_first is_size is_digest chapter front =
    let h = chapter_head number (length strings) (length (spelt strings)) in
    let sum = sha256 (before ++ chapter_bytes number strings) in
    let short = chapter_short strings chapter in
    let left : chapter_in before number strings ++ front.0 ≡ h ++ (spelt strings ++ (sum ++ front.0)) =
    append_assoc (h ++ spelt strings) sum front.0 ∙ append_assoc h (spelt strings) (sum ++ front.0) in
    let right : (first ++ calls ++ digest) ++ more ≡ first ++ (calls ++ (digest ++ more)) =
    append_assoc (first ++ calls) digest more ∙ append_assoc first calls (digest ++ more) in
    let one = append_same h first _ _ (head_length _ _ _ ∙ sym is_first) (sym left ∙ front.1 ∙ right) in
    let size : length (spelt strings) ≡ length calls = sym (size_again number (length strings) (length (spelt strings)) (omega (arith, short))) ∙ ap size_in one.0 ∙ sym is_size in
    let two = append_same (spelt strings) calls _ _ size one.1 in
    let three = append_same sum digest _ _ (sha256_length _ ∙ sym is_digest) two.1 in
    (one.0, two.0, three.0)

-- no chapter has calls of more bytes
pub too_large : (before : List ℕ) (number : ℕ) (rest : List ℕ) → length rest ≡ 16 → most_call * most_calls < size_in rest → IsNoChapter number before rest
too_large before number rest is large strings more chapter front =
    let h = chapter_head number (length strings) (length (spelt strings)) in
    let sum = sha256 (before ++ chapter_bytes number strings) in
    let short = chapter_short strings chapter in
    let left : chapter_in before number strings ++ front.0 ≡ h ++ (spelt strings ++ (sum ++ front.0)) =
    append_assoc (h ++ spelt strings) sum front.0 ∙ append_assoc h (spelt strings) (sum ++ front.0) in
    let one = append_same h rest _ _ (head_length _ _ _ ∙ sym is) (sym left ∙ front.1) in
    let size : length (spelt strings) ≡ size_in rest = sym (size_again number (length strings) (length (spelt strings)) (omega (arith, short))) ∙ ap size_in one.0 in
    absurd (omega (arith, short, size, large))

-- nor another digest than that of all before it
pub other_digest : (before : List ℕ) (number : ℕ) (first calls digest : List ℕ) → length first ≡ 16 → length calls ≡ size_in first → length digest ≡ 32
    → (sha256 (before ++ first ++ calls) ≡ digest → ⊥) → IsNoChapter number before (first ++ calls ++ digest)
other_digest before number first calls digest is_first is_size is_digest other strings more chapter front =
    let parts = parts_are before number strings first calls digest more is_first is_size is_digest chapter front in
    let h = chapter_head number (length strings) (length (spelt strings)) in
    other (ap sha256 (append_assoc before first calls) ∙ ap (λ b. sha256 (before ++ (b ++ calls))) (sym parts.0) ∙ ap (λ b. sha256 (before ++ (h ++ b))) (sym parts.1) ∙ parts.2)

-- nor bytes that are no calls
pub no_calls : (before : List ℕ) (number : ℕ) (first calls digest : List ℕ) → length first ≡ 16 → length calls ≡ size_in first → length digest ≡ 32
    → ((strings : List (List ℕ)) → SpellsCalls calls strings → ⊥) → IsNoChapter number before (first ++ calls ++ digest)
no_calls before number first calls digest is_first is_size is_digest none strings more chapter front =
    let parts = parts_are before number strings first calls digest more is_first is_size is_digest chapter front in
    none strings (record { whole = parts.1; each = chapter.each })

-- nor too many calls
pub too_many : (before : List ℕ) (number : ℕ) (first calls digest : List ℕ) (strings : List (List ℕ)) → length first ≡ 16 → length calls ≡ size_in first → length digest ≡ 32
    → SpellsCalls calls strings → most_calls < length strings → IsNoChapter number before (first ++ calls ++ digest)
too_many before number first calls digest spelled is_first is_size is_digest spells many strings more chapter front =
    let parts = parts_are before number strings first calls digest more is_first is_size is_digest chapter front in
    let same = ap length (spelt_same strings spelled (parts.1 ∙ sym spells.whole)) in
    let few = chapter.few in
    absurd (omega (arith, same, few, many))

-- nor another head than its own
pub other_head : (before : List ℕ) (number : ℕ) (first calls digest : List ℕ) (strings : List (List ℕ)) → length first ≡ 16 → length calls ≡ size_in first → length digest ≡ 32
    → SpellsCalls calls strings → (chapter_head number (length strings) (length calls) ≡ first → ⊥) → IsNoChapter number before (first ++ calls ++ digest)
other_head before number first calls digest spelled is_first is_size is_digest spells other strings more chapter front =
    let parts = parts_are before number strings first calls digest more is_first is_size is_digest chapter front in
    let same = ap length (spelt_same strings spelled (parts.1 ∙ sym spells.whole)) in
    other (sym (ap (λ n. chapter_head number n (length calls)) same) ∙ (sym (ap (λ b. chapter_head number (length strings) (length b)) parts.1) ∙ parts.0))

-- the size that a head says, whatever stands behind it
pub size_at : (a more : List ℕ) → length a ≡ 16 → size_in (a ++ more) ≡ size_in a
unfolding size_in
size_at a more h =
    rw (get_or-append a more 0 12 (omega (arith, h)), get_or-append a more 0 13 (omega (arith, h)), get_or-append a more 0 14 (omega (arith, h)), get_or-append a more 0 15 (omega (arith, h))) refl

-- the size as it is read
pub size_is : (a : List ℕ) (n : ℕ) → n ≡ from_le_bytes w32 (slice_index a 12 ∷ slice_index a 13 ∷ slice_index a 14 ∷ slice_index a 15 ∷ []) → n ≡ size_in a
unfolding size_in
size_is a n h = h

-- a head that isn't whole ends inside a chapter
pub inside_head : (a : List ℕ) (n : ℕ) → (n ≡ 0 → ⊥) → n < 16 → n ≤ length a → (0 < length (take n a)) × EndsInside (take n a)
inside_head a n some few fits = let l = length-take-le n a fits in (omega (arith, l, some), inl (omega (arith, l, few)))

-- and so does what is less than the head says
pub inside_chapter : (first more : List ℕ) → length first ≡ 16 → length more < 32 + size_in first → (0 < length (first ++ more)) × EndsInside (first ++ more)
inside_chapter first more is less =
    let l = length-append first more in
    let s = size_at first more is in
    (omega (arith, l, is), inr (omega (arith, l, is, less, s)))

-- a head with not all of its calls' bytes behind it ends inside a chapter
pub inside_calls : (first calls : List ℕ) (n : ℕ) → length first ≡ 16 → length calls ≡ size_in first → n < length calls → (0 < length (first ++ take n calls)) × EndsInside (first ++ take n calls)
inside_calls first calls n is size less =
    let l = length-take-le n calls (omega (arith, less)) in
    inside_chapter first (take n calls) is (omega (arith, l, size, less))

-- and so do a head and all its calls' bytes with not all of the digest behind them
pub inside_digest : (first calls digest : List ℕ) (n : ℕ) → length first ≡ 16 → length calls ≡ size_in first → length digest ≡ 32 → n < 32
    → (0 < length ((first ++ calls) ++ take n digest)) × EndsInside ((first ++ calls) ++ take n digest)
inside_digest first calls digest n is size whole less =
    let l = length-take-le n digest (omega (arith, less, whole)) in
    let m = length-append calls (take n digest) in
    subst (λ b. (0 < length b) × EndsInside b) (sym (append_assoc first calls (take n digest))) (inside_chapter first (calls ++ take n digest) is (omega (arith, l, m, size, less)))

-- what was read is the chapter of its calls
pub chapter_whole : (before : List ℕ) (number : ℕ) (first calls digest : List ℕ) (strings : List (List ℕ)) → SpellsCalls calls strings → chapter_head number (length strings) (length calls) ≡ first
    → digest ≡ sha256 ((before ++ first) ++ calls) → (first ++ calls) ++ digest ≡ chapter_in before number strings
chapter_whole before number first calls digest strings spells is sum =
    ap (λ d. (first ++ calls) ++ d) (sum ∙ ap sha256 (append_assoc before first calls))
    ∙ ap (λ f. (f ++ calls) ++ sha256 (before ++ (f ++ calls))) (sym is)
    ∙ ap (λ b. (chapter_head number (length strings) (length b) ++ b) ++ sha256 (before ++ (chapter_head number (length strings) (length b) ++ b))) (sym spells.whole)

-- parts that are taken one by one
pub regrouped : (before first calls digest : List ℕ) → ((before ++ first) ++ calls) ++ digest ≡ before ++ ((first ++ calls) ++ digest)
regrouped before first calls digest =
    append_assoc (before ++ first) calls digest ∙ append_assoc before first (calls ++ digest) ∙ ap (λ b. before ++ b) (sym (append_assoc first calls digest))
