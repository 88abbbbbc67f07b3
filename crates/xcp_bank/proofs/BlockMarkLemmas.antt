-- The marks of blocks, as a publication changes them.
use Rattle.std.proofs.Common.{◌≡◌, ◌≢◌, ◌⊎◌, inl, inr, ℕ, zero, suc, ◌+◌, ◌-◌, ◌*◌, ◌/◌, ◌<◌, ◌≤◌, min, Bool, true, false, true≢false, List, [], length, take, drop, replicate, set, get_or, sym, refl, ap, ◌∙◌, subst, arith, length-set, get_or-set_other, get_or-set_same}
use Rattle.std.proofs.lemmas.List.{ext_get_or, length-take-le, length-drop, get_or-take, get_or-drop, length-replicate}
use Rattle.std.specs.Int.{w64, from_le_bytes}
use mathlib.Core.Logic.{dite}
use native.Mathlib.Decide.{ℕ_discrete, dec_le}
use Rattle.pin_core.specs.State.{opening}
use Rattle.xcp_bank.specs.private.ImageWords.{word_in_image, words_for}
use Rattle.xcp_bank.specs.private.BlockMarks.{blocks_in, mark_of, Sized, IsMarked, MarkedToo, TakenAway}
use Rattle.xcp_bank.specs.private.SeatSteps.{HasWords}
use Rattle.xcp_bank.proofs.ImageLemmas.{for_word}

-- the block of a word has marks
pub in_marks : (n k b : ℕ) → k < n → b < 8 → 8 * (k / 64) + b < 8 * blocks_in n
in_marks n k b inside low = omega arith

-- a block that has marks has a word
pub has_words : (n size block : ℕ) → size ≡ 8 * blocks_in n → block < size / 8 → 64 * block < n
has_words n size block is inside = omega arith

-- at the opening all buffers have the same size
pub sized_first : (words : List ℕ) → Sized (length words) (opening words).words
sized_first words = record { buffers = refl; wide = wide }
  where
    blank : length (replicate {A = ℕ} (length words) 0) ≡ length words
    blank = length-replicate (length words) 0

    wide : (b : ℕ) → b < 8 → length (get_or (opening words).words b []) ≡ length words
    wide zero low = refl
    wide (suc zero) low = blank
    wide (suc (suc zero)) low = blank
    wide (suc (suc (suc zero))) low = blank
    wide (suc (suc (suc (suc zero)))) low = blank
    wide (suc (suc (suc (suc (suc zero))))) low = blank
    wide (suc (suc (suc (suc (suc (suc zero)))))) low = blank
    wide (suc (suc (suc (suc (suc (suc (suc zero))))))) low = blank
    wide (suc (suc (suc (suc (suc (suc (suc (suc b)))))))) low = absurd (omega arith)

-- where all is marked, nothing has to agree
pub all_marked : (W : ℕ) (marks : List Bool) (all : List (List ℕ)) (image : List ℕ) → length marks ≡ 8 * blocks_in (W - 1) → ((i : ℕ) → i < length marks → get_or marks i false ≡ true)
    → Sized W all → length image ≡ 8 * (W - 1) → IsMarked W marks all image
all_marked W marks all image size each sized long = record {
  size = size;
  sized = sized;
  long = long;
  agrees = λ b k low inside clean. (let here = in_marks (W - 1) k b inside low in absurd (true≢false (sym (each (8 * (k / 64) + b) (subst (λ (n : ℕ). 8 * (k / 64) + b < n) (sym size) here)) ∙ clean)));
}

-- images that have the same bytes in a word have the same word
same_word : (a b : List ℕ) (k : ℕ) → 8 * k + 8 ≤ length a → length a ≡ length b → ((i : ℕ) → 8 * k ≤ i → i < 8 * k + 8 → get_or a i 0 ≡ get_or b i 0) → word_in_image a k ≡ word_in_image b k
same_word a b k inside long same =
    let da = length-drop (8 * k) a in let db = length-drop (8 * k) b in
    let ta = length-take-le 8 (drop (8 * k) a) (omega arith) in let tb = length-take-le 8 (drop (8 * k) b) (omega arith) in
    ap (from_le_bytes w64) (ext_get_or 0 (take 8 (drop (8 * k) a)) (take 8 (drop (8 * k) b)) (omega arith)
    (λ i l. (let low : i < 8 = omega arith in
    get_or-take 8 (drop (8 * k) a) i 0 low ∙ (get_or-drop (8 * k) a i 0 ∙ (same (8 * k + i) (omega arith) (omega arith) ∙ sym (get_or-take 8 (drop (8 * k) b) i 0 low ∙ get_or-drop (8 * k) b i 0))))))

-- marks that were right for the newest image, and the blocks of some bytes, are right for an image that is the same outside of these
pub marked_for : (W start end : ℕ) (old new : List Bool) (all : List (List ℕ)) (last image : List ℕ) → IsMarked W old all last → MarkedToo start end old new → length image ≡ 8 * (W - 1)
    → ((i : ℕ) → i < length image → (i < start) ⊎ (end ≤ i) → get_or image i 0 ≡ get_or last i 0) → IsMarked W new all image
marked_for W start end old new all last image m too long outside = record {
  size = too.size ∙ m.size;
  sized = m.sized;
  long = long;
  agrees = λ b k low inside clean.
      (let place : ℕ = 8 * (k / 64) + b in
      let aside = unmarked place clean in
      let same : (i : ℕ) → 8 * k ≤ i → i < 8 * k + 8 → get_or last i 0 ≡ get_or image i 0 = (λ i from below. sym (outside i (omega arith) (apart k b i low from below aside))) in
      let wide = m.long in
      m.agrees b k low inside (sym (too.outside place aside) ∙ clean) ∙ same_word last image k (omega arith) (wide ∙ sym long) same);
}
  where
    unmarked : (i : ℕ) → get_or new i false ≡ false → (512 * (i / 8) + 512 ≤ start) ⊎ (end ≤ 512 * (i / 8))
    unmarked i clean = dite (dec_le (512 * (i / 8) + 512) start)
        (λ before. inl before)
        (λ n. dite (dec_le end (512 * (i / 8))) (λ behind. inr behind) (λ m. absurd (true≢false (sym (too.inside i (omega arith) (omega arith)) ∙ clean))))

    apart : (k b i : ℕ) → b < 8 → 8 * k ≤ i → i < 8 * k + 8 → (512 * ((8 * (k / 64) + b) / 8) + 512 ≤ start) ⊎ (end ≤ 512 * ((8 * (k / 64) + b) / 8)) → (i < start) ⊎ (end ≤ i)
    apart k b i low from below (inl before) = inl (omega arith)
    apart k b i low from below (inr behind) = inr (omega arith)

-- before the first block no mark was taken away
pub taken_none : (b from : ℕ) (old : List Bool) → TakenAway b from from old old
taken_none b from old = record { size = refl; gone = λ block above below. absurd (omega arith); others = λ block c low apart. refl }

-- the blocks before another one aren't marked
pub taken_to : (b from block next : ℕ) (old new : List Bool) → block ≤ next → ((q : ℕ) → block ≤ q → q < next → mark_of new q b ≡ false) → TakenAway b from block old new → TakenAway b from next old new
taken_to b from block next old new le clean t = record {
  size = t.size;
  gone = λ q above below. dite (dec_le block q) (λ behind. clean q behind below) (λ n. t.gone q above (omega arith));
  others = λ q c low apart. t.others q c low (weaker q c apart);
}
  where
    weaker : (q c : ℕ) → (q < from) ⊎ (next ≤ q) ⊎ (c ≢ b) → (q < from) ⊎ (block ≤ q) ⊎ (c ≢ b)
    weaker q c (inl e) = inl e
    weaker q c (inr (inl e)) = inr (inl (omega arith))
    weaker q c (inr (inr e)) = inr (inr e)

-- the mark of the next block is taken away
pub taken_more : (b from next : ℕ) (old new : List Bool) → b < 8 → from ≤ next → 8 * next + b < length new → TakenAway b from next old new → TakenAway b from (next + 1) old (set new (8 * next + b) false)
taken_more b from next old new fits le inside t = record {
  size = length-set new (8 * next + b) false ∙ t.size;
  gone = λ block above below. dite (ℕ_discrete block next)
      (λ e. ap (λ (q : ℕ). mark_of (set new (8 * next + b) false) q b) e ∙ get_or-set_same new (8 * next + b) false false inside)
      (λ ne. get_or-set_other new (8 * next + b) (8 * block + b) false false (λ same. ne (omega arith)) ∙ t.gone block above (omega arith));
  others = λ block c low apart. get_or-set_other new (8 * next + b) (8 * block + c) false false (other block c low apart) ∙ t.others block c low (weaker block c apart);
}
  where
    weaker : (block c : ℕ) → (block < from) ⊎ (next + 1 ≤ block) ⊎ (c ≢ b) → (block < from) ⊎ (next ≤ block) ⊎ (c ≢ b)
    weaker block c (inl e) = inl e
    weaker block c (inr (inl e)) = inr (inl (omega arith))
    weaker block c (inr (inr e)) = inr (inr e)

    other : (block c : ℕ) → c < 8 → (block < from) ⊎ (next + 1 ≤ block) ⊎ (c ≢ b) → 8 * block + c ≢ 8 * next + b
    other block c low (inl e) = λ same. omega arith
    other block c low (inr (inl e)) = λ same. omega arith
    other block c low (inr (inr e)) = λ same. e (omega arith)

-- a row of marks is taken away behind those before
pub taken_then : (b block next : ℕ) (old middle new : List Bool) → b < 8 → block ≤ next → TakenAway b 0 block old middle → TakenAway b block next middle new → TakenAway b 0 next old new
taken_then b block next old middle new fits le s t = record {
  size = t.size ∙ s.size;
  gone = λ q above below. dite (dec_le block q) (λ behind. t.gone q behind below) (λ n. (let l : q < block = omega arith in t.others q b fits (inl l) ∙ s.gone q above l));
  others = λ q c low apart. t.others q c low (later q c apart) ∙ s.others q c low (weaker q c apart);
}
  where
    weaker : (q c : ℕ) → (q < 0) ⊎ (next ≤ q) ⊎ (c ≢ b) → (q < 0) ⊎ (block ≤ q) ⊎ (c ≢ b)
    weaker q c (inl e) = inl e
    weaker q c (inr (inl e)) = inr (inl (omega arith))
    weaker q c (inr (inr e)) = inr (inr e)

    later : (q c : ℕ) → (q < 0) ⊎ (next ≤ q) ⊎ (c ≢ b) → (q < block) ⊎ (next ≤ q) ⊎ (c ≢ b)
    later q c (inl e) = absurd (omega arith)
    later q c (inr e) = inr e

-- blocks that aren't marked stand in the buffer as the image has them
pub stands_clean : (W b block next number : ℕ) (old new : List Bool) (all : List (List ℕ)) (image : List ℕ) → b < 8 → IsMarked W old all image → TakenAway b 0 block old new
    → ((q : ℕ) → block ≤ q → q < next → mark_of new q b ≡ false) → (j : ℕ) → min (64 * block) (length image / 8) ≤ j → j < min (64 * next) (length image / 8) → get_or (get_or all b []) j 0 ≡ get_or (words_for image number) j 0
stands_clean W b block next number old new all image fits m t clean j from below =
    let long = m.long in
    let was : mark_of old (j / 64) b ≡ false = sym (t.others (j / 64) b fits (inr (inl (omega arith)))) ∙ clean (j / 64) (omega arith) (omega arith) in
    m.agrees b j fits (omega arith) was ∙ sym (for_word image number j (omega arith))

-- where the buffer has all words of the image, and the others are as before, the marks are right for it
pub marked_then : (W b number : ℕ) (old new : List Bool) (before all : List (List ℕ)) (image : List ℕ) (next : ℕ) → IsMarked W old before image → TakenAway b 0 next old new → Sized W all
    → HasWords b 0 (W - 1) (words_for image number) all → ((c : ℕ) → c ≢ b → get_or all c [] ≡ get_or before c []) → IsMarked W new all image
marked_then W b number old new before all image next m t sized there others = record {
  size = t.size ∙ m.size;
  sized = sized;
  long = m.long;
  agrees = λ c k low inside clean. dite (ℕ_discrete c b)
      (λ e. (let long = m.long in
      ap (λ (d : ℕ). get_or (get_or all d []) k 0) e ∙ (there k (omega arith) inside ∙ for_word image number k (omega arith))))
      (λ ne. ap (λ (l : List ℕ). get_or l k 0) (others c ne) ∙ m.agrees c k low inside (sym (t.others (k / 64) c low (inr (inr ne))) ∙ clean));
}
