-- The sum of the numbers that bytes are.
use Rattle.std.proofs.Common.{◌≡◌, ◌+◌, ◌*◌, ◌/◌, ◌<◌, ℕ, zero, suc, List, [], ◌∷◌, length, drop, get_or, sum, refl, sym, ap, ◌∙◌, arith, add-one, add_assoc, add_comm, mul-zero, mul-suc}
use Rattle.std.specs.Prelude.{◌%◌}
use Rattle.std.proofs.lemmas.List.{drop-drop}
use Rattle.std.proofs.lemmas.List.Sums.{sum_by-cons}
use Rattle.xcp_packet.specs.declared.Order.{Order}
use Rattle.xcp_packet.specs.declared.Order.TheVariants.{Intel, Motorola}
use Rattle.xcp_packet.specs.ByteOrder.{number_in}
use Rattle.xcp_memory.specs.Checksum.{numbers, unit, modulus, summed, checksum_of}
use Rattle.xcp_memory.specs.Layout.{IsLayout}
use Rattle.xcp_memory.specs.Memory.{Reads, Tool}
use Rattle.xcp_memory.specs.Pages.{PagesValue, IsPages}
use Rattle.xcp_memory.proofs.ReadLaws.{tool_is_read}

-- one number more
pub one_more_number : (order : Order) (n k : ℕ) (bytes : List ℕ) → sum (numbers order n (k + 1) bytes) ≡ sum (numbers order n k bytes) + number_in order n (drop (n * k) bytes)
one_more_number order n zero bytes = rw mul-zero refl
one_more_number order n (suc k) bytes =
    let first = number_in order n bytes in
    let rest = drop n bytes in
    let more : sum (numbers order n (suc k) rest) ≡ sum (numbers order n k rest) + number_in order n (drop (n * k) rest) = rw add-one at (one_more_number order n k rest) in
    let place : drop (n * k) rest ≡ drop (n * suc k) bytes = drop-drop (n * k) n bytes ∙ ap (λ (j : ℕ). drop j bytes) (add_comm n (n * k) ∙ sym (mul-suc n k)) in
    let whole = sum_by-cons (λ (x : ℕ). x) first (numbers order n (suc k) rest) in
    let front = sum_by-cons (λ (x : ℕ). x) first (numbers order n k rest) in
    rw (add-one (suc k)) (whole ∙ ap (λ (m : ℕ). first + m) (more ∙ ap (λ (ys : List ℕ). sum (numbers order n k rest) + number_in order n ys) place) ∙ sym (add_assoc first (sum (numbers order n k rest)) (number_in order n (drop (n * suc k) bytes))) ∙ ap (λ (m : ℕ). m + number_in order n (drop (n * suc k) bytes)) (sym front))

-- a byte is the number of one byte
one_byte : (order : Order) (x : ℕ) (xs : List ℕ) → number_in order 1 (x ∷ xs) ≡ x
one_byte Intel x xs = omega arith
one_byte Motorola x xs = omega arith

each_byte : (order : Order) (bytes : List ℕ) → numbers order 1 (length bytes) bytes ≡ bytes
each_byte order [] = refl
each_byte order (x ∷ xs) = rw (one_byte order x xs) (ap (λ ys. x ∷ ys) (each_byte order xs))

-- bytes are their own numbers
pub byte_numbers : (order : Order) (bytes : List ℕ) → sum (numbers order 1 (length bytes / 1) bytes) ≡ sum bytes
byte_numbers order bytes =
    let n : length bytes / 1 ≡ length bytes = omega arith in
    ap (λ k. sum (numbers order 1 k bytes)) n ∙ ap sum (each_byte order bytes)

-- number i of those that bytes are
pub number-at : (order : Order) (n k i : ℕ) (bytes : List ℕ) → i < k → get_or (numbers order n k bytes) i 0 ≡ number_in order n (drop (n * i) bytes)
number-at order n zero i bytes h = absurd (omega arith)
number-at order n (suc k) zero bytes h = rw mul-zero refl
number-at order n (suc k) (suc i) bytes h =
    let place : drop (n * i) (drop n bytes) ≡ drop (n * suc i) bytes = drop-drop (n * i) n bytes ∙ ap (λ (j : ℕ). drop j bytes) (add_comm n (n * i) ∙ sym (mul-suc n i)) in
    number-at order n k i (drop n bytes) (omega arith) ∙ ap (λ (ys : List ℕ). number_in order n ys) place

-- the list of the first k numbers that bytes are has length k
pub length-numbers : (order : Order) (n k : ℕ) (bytes : List ℕ) → length (numbers order n k bytes) ≡ k
length-numbers order n zero bytes = refl
length-numbers order n (suc k) bytes = ap suc (length-numbers order n k (drop n bytes))

-- a checksum is the sum of what a read gives
pub checksum-sums : (v : PagesValue) (a n : ℕ) (read : List ℕ) → IsLayout v.layout → IsPages v → Reads Tool v a n read → checksum_of v a n ≡ summed v.layout.checksum v.layout.order read
checksum-sums v a n read l g r = ap (summed v.layout.checksum v.layout.order) (sym ((tool_is_read v a n read l g).0 r).1)

-- a checksum that adds bytes is the sum of the bytes that a read gives, modulo its width
pub checksum-bytes : (v : PagesValue) (a n : ℕ) (read : List ℕ) → IsLayout v.layout → IsPages v → Reads Tool v a n read → unit v.layout.checksum ≡ 1 → checksum_of v a n ≡ sum read % modulus v.layout.checksum
checksum-bytes v a n read l g r e =
    checksum-sums v a n read l g r
    ∙ ap (λ (u : ℕ). sum (numbers v.layout.order u (length read / u) read) % modulus v.layout.checksum) e
    ∙ ap (λ (m : ℕ). m % modulus v.layout.checksum) (byte_numbers v.layout.order read)
