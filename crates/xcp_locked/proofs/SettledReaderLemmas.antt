-- Which member a reader holds.
use Rattle.std.proofs.Common.{◌≡◌, ◌≢◌, ℕ, zero, suc, ◌+◌, ◌<◌, ◌≤◌, ◌%◌, List, [], ◌∷◌, ◌++◌, length, slice_index_or, refl, ap, sym, ◌-◌, ◌∙◌, arith, length-append, Option, Some, None}
use Rattle.std.proofs.lemmas.List.{length-map, get_or-append_right}
use Rattle.std.specs.List.{slice_get}
use Rattle.xcp_bank.specs.BankEnds.{ReaderEnd, image_at, image_held}
use mathlib.Core.List.{IsPrefix}
use Rattle.xcp_bank.specs.SeatKnowledge.{AllBegin}
use Rattle.xcp_locked.specs.Publications.{Publication, publication, images_of}
use Rattle.xcp_locked.specs.private.PublicationPlaces.{places_of}
use Rattle.xcp_locked.proofs.TallyLemmas.{some_same}

-- an option of two numbers that isn't None has them
pub some_of : (o : Option (ℕ × ℕ)) → o ≢ None → (b : ℕ) × (p : ℕ) × (o ≡ Some (b, p))
some_of None ne = absurd (ne refl)
some_of (Some h) ne = (h.0, h.1, refl)

-- the member of a number, by its place and its image
pub member_at : (list : List Publication) (n d : ℕ) → n < length list → slice_get list n ≡ Some (publication (slice_index_or (places_of list) n d) (slice_index_or (images_of list) n []))
member_at [] n d low = absurd (omega arith)
member_at (p ∷ list) zero d low = refl
member_at (p ∷ list) (suc n) d low = member_at list n d (omega arith)

-- there are as many images as publications
pub images_length : (list : List Publication) → length (images_of list) ≡ length list
images_length list = length-map list (λ (p : Publication). p.image)

-- there are as many places as publications
pub places_length : (list : List Publication) → length (places_of list) ≡ length list
places_length list = length-map list (λ (p : Publication). p.place)

-- a number modulo 2^64 is the number itself, since there are few publications
pub same_number : (p r first n : ℕ) (seen front : List (List ℕ)) (list : List Publication) → p < length seen → seen ≡ front ++ images_of list → length front ≡ first → r ≡ p % 18446744073709551616 → length list ≤ n + 1 → n ≤ 65536 → first ≤ 281474976645120 → (r ≡ p) × (r < first + length list)
same_number p r first n seen front list low is fronts number few limit early =
    let l : length seen ≡ length front + length list = ap length is ∙ (length-append front (images_of list) ∙ ap (λ (k : ℕ). length front + k) (images_length list)) in
    let e : r ≡ p = omega (arith, low, number, few, limit, l, fronts, early) in
    (e, omega (arith, e, low, l, fronts))

-- an image that stands in a list stands at the same index of a longer one
stays_at : (xs rest : List (List ℕ)) (i : ℕ) → 0 < length (slice_index_or xs i []) → slice_index_or (xs ++ rest) i [] ≡ slice_index_or xs i []
stays_at [] rest i some = absurd (omega (arith, some))
stays_at (x ∷ xs) rest zero some = refl
stays_at (x ∷ xs) rest (suc i) some = stays_at xs rest i some

-- what is held of a list is held of one that begins with it
held_stays : (held : Option (ℕ × ℕ)) (old new : List (List ℕ)) → IsPrefix old new → 0 < length (image_at held old) → image_at held new ≡ image_at held old
held_stays None old new b some = refl
held_stays (Some h) old new b some = ap (λ (z : List (List ℕ)). slice_index_or z h.1 []) (sym b.1) ∙ stays_at old b.0 h.1 some

-- a reader that holds what it held, and has seen the same first, holds the same image
pub settled_image : (old new : ReaderEnd) → new.held ≡ old.held → AllBegin (old.seen ∷ old.past) new.seen → 0 < length (image_held old) → image_held new ≡ image_held old
settled_image old new same begins some = ap (λ (z : Option (ℕ × ℕ)). image_at z new.seen) same ∙ held_stays old.held old.seen new.seen begins.0 some

-- what is held of a list is behind the images before the chapter
pub later_image : (front : List (List ℕ)) (list : List Publication) (first r : ℕ) → length front ≡ first → first ≤ r → slice_index_or (front ++ images_of list) r [] ≡ slice_index_or (images_of list) (r - first) []
later_image front list first r h k = get_or-append_right front (images_of list) first r [] h k

-- two held numbers of one option are equal
pub one_number : (o : Option (ℕ × ℕ)) (b p c q : ℕ) → o ≡ Some (b, p) → o ≡ Some (c, q) → p ≡ q
one_number o b p c q h k = let e : (b, p) ≡ (c, q) = some_same (b, p) (c, q) (sym h ∙ k) in ap (λ (x : ℕ × ℕ). x.1) e
