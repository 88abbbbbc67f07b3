-- What one number more adds to a checksum.
use Rattle.std.proofs.Common.{◌≡◌, ◌+◌, ◌-◌, ◌*◌, ◌/◌, ◌<◌, ◌≤◌, ◌%◌, ℕ, suc, List, [], ◌∷◌, length, drop, sum, refl, sym, ap, ◌∙◌, arith}
use Rattle.std.proofs.Math.Nat.{add-mod-mod, div-eq-sub-div}
use Rattle.std.proofs.lemmas.List.Sums.{sum_by-cons}
use Rattle.xcp_packet.specs.declared.Order.{Order}
use Rattle.xcp_packet.specs.declared.Order.TheVariants.{Intel, Motorola}
use Rattle.xcp_packet.specs.ByteOrder.{number_in}
use Rattle.xcp_memory.specs.declared.ChecksumKind.{ChecksumKind}
use Rattle.xcp_memory.specs.declared.ChecksumKind.TheVariants.{Add11, Add12, Add14, Add22, Add24, Add44}
use Rattle.xcp_memory.specs.Checksum.{numbers, summed}

-- the sum modulo m of the numbers of n bytes that bytes are: the first one, and then those of the rest
grown : (order : Order) (n m : ℕ) (bytes rest : List ℕ) → 0 < n → length bytes ≡ n + length rest → drop n bytes ≡ rest → sum (numbers order n (length bytes / n) bytes) % m ≡ (number_in order n bytes + sum (numbers order n (length rest / n) rest) % m) % m
grown order n m bytes rest some long cut =
    let inside : n ≤ length bytes = omega arith in
    let left : length bytes - n ≡ length rest = omega arith in
    let count : length bytes / n ≡ suc (length rest / n) = div-eq-sub-div some inside ∙ ap (λ (k : ℕ). k / n + 1) left ∙ omega arith in
    let first = number_in order n bytes in
    ap (λ (k : ℕ). sum (numbers order n k bytes) % m) count
    ∙ ap (λ (k : ℕ). k % m) (sum_by-cons (λ (x : ℕ). x) first (numbers order n (length rest / n) (drop n bytes)))
    ∙ ap (λ (xs : List ℕ). (first + sum (numbers order n (length rest / n) xs)) % m) cut
    ∙ sym (add-mod-mod first (sum (numbers order n (length rest / n) rest)) m)

pub sum_of_none : (kind : ChecksumKind) (order : Order) → summed kind order [] ≡ 0
sum_of_none Add11 order = refl
sum_of_none Add12 order = refl
sum_of_none Add14 order = refl
sum_of_none Add22 order = refl
sum_of_none Add24 order = refl
sum_of_none Add44 order = refl

-- the number that one byte is
byte_is : (order : Order) (x : ℕ) (more : List ℕ) → number_in order 1 (x ∷ more) ≡ x
byte_is Intel x more = omega arith
byte_is Motorola x more = omega arith

one_more_byte : (order : Order) (m x : ℕ) (more : List ℕ) → sum (numbers order 1 (length (x ∷ more) / 1) (x ∷ more)) % m ≡ (x + sum (numbers order 1 (length more / 1) more) % m) % m
one_more_byte order m x more =
    grown order 1 m (x ∷ more) more (omega arith) (omega arith) refl
    ∙ ap (λ (n : ℕ). (n + sum (numbers order 1 (length more / 1) more) % m) % m) (byte_is order x more)

pub more_add_11 : (order : Order) (x : ℕ) (more : List ℕ) → summed Add11 order (x ∷ more) ≡ (x + summed Add11 order more) % 0x100
more_add_11 order x more = one_more_byte order 0x100 x more

pub more_add_12 : (order : Order) (x : ℕ) (more : List ℕ) → summed Add12 order (x ∷ more) ≡ (x + summed Add12 order more) % 0x1_0000
more_add_12 order x more = one_more_byte order 0x1_0000 x more

pub more_add_14 : (order : Order) (x : ℕ) (more : List ℕ) → summed Add14 order (x ∷ more) ≡ (x + summed Add14 order more) % 0x1_0000_0000
more_add_14 order x more = one_more_byte order 0x1_0000_0000 x more

-- the word that two bytes are
abbrev word_of : Order → ℕ → ℕ → ℕ
word_of Intel x y = x + 0x100 * y
word_of Motorola x y = 0x100 * x + y

word_is : (order : Order) (x y : ℕ) (more : List ℕ) → number_in order 2 (x ∷ y ∷ more) ≡ word_of order x y
word_is Intel x y more = omega arith
word_is Motorola x y more = omega arith

one_more_word : (order : Order) (m x y : ℕ) (more : List ℕ) → sum (numbers order 2 (length (x ∷ y ∷ more) / 2) (x ∷ y ∷ more)) % m ≡ (word_of order x y + sum (numbers order 2 (length more / 2) more) % m) % m
one_more_word order m x y more =
    grown order 2 m (x ∷ y ∷ more) more (omega arith) (omega arith) refl
    ∙ ap (λ (n : ℕ). (n + sum (numbers order 2 (length more / 2) more) % m) % m) (word_is order x y more)

pub more_add_22 : (x y : ℕ) (more : List ℕ) → summed Add22 Intel (x ∷ y ∷ more) ≡ (x + 0x100 * y + summed Add22 Intel more) % 0x1_0000
more_add_22 x y more = one_more_word Intel 0x1_0000 x y more

pub more_add_22_motorola : (x y : ℕ) (more : List ℕ) → summed Add22 Motorola (x ∷ y ∷ more) ≡ (0x100 * x + y + summed Add22 Motorola more) % 0x1_0000
more_add_22_motorola x y more = one_more_word Motorola 0x1_0000 x y more

pub more_add_24 : (x y : ℕ) (more : List ℕ) → summed Add24 Intel (x ∷ y ∷ more) ≡ (x + 0x100 * y + summed Add24 Intel more) % 0x1_0000_0000
more_add_24 x y more = one_more_word Intel 0x1_0000_0000 x y more

pub more_add_24_motorola : (x y : ℕ) (more : List ℕ) → summed Add24 Motorola (x ∷ y ∷ more) ≡ (0x100 * x + y + summed Add24 Motorola more) % 0x1_0000_0000
more_add_24_motorola x y more = one_more_word Motorola 0x1_0000_0000 x y more

-- the double word that four bytes are
abbrev double_of : Order → ℕ → ℕ → ℕ → ℕ → ℕ
double_of Intel x y z t = x + 0x100 * y + 0x1_0000 * z + 0x100_0000 * t
double_of Motorola x y z t = 0x100_0000 * x + 0x1_0000 * y + 0x100 * z + t

double_is : (order : Order) (x y z t : ℕ) (more : List ℕ) → number_in order 4 (x ∷ y ∷ z ∷ t ∷ more) ≡ double_of order x y z t
double_is Intel x y z t more = omega arith
double_is Motorola x y z t more = omega arith

one_more_double : (order : Order) (m x y z t : ℕ) (more : List ℕ) → sum (numbers order 4 (length (x ∷ y ∷ z ∷ t ∷ more) / 4) (x ∷ y ∷ z ∷ t ∷ more)) % m ≡ (double_of order x y z t + sum (numbers order 4 (length more / 4) more) % m) % m
one_more_double order m x y z t more =
    grown order 4 m (x ∷ y ∷ z ∷ t ∷ more) more (omega arith) (omega arith) refl
    ∙ ap (λ (n : ℕ). (n + sum (numbers order 4 (length more / 4) more) % m) % m) (double_is order x y z t more)

pub more_add_44 : (x y z t : ℕ) (more : List ℕ) → summed Add44 Intel (x ∷ y ∷ z ∷ t ∷ more) ≡ (x + 0x100 * y + 0x1_0000 * z + 0x100_0000 * t + summed Add44 Intel more) % 0x1_0000_0000
more_add_44 x y z t more = one_more_double Intel 0x1_0000_0000 x y z t more

pub more_add_44_motorola : (x y z t : ℕ) (more : List ℕ) → summed Add44 Motorola (x ∷ y ∷ z ∷ t ∷ more) ≡ (0x100_0000 * x + 0x1_0000 * y + 0x100 * z + t + summed Add44 Motorola more) % 0x1_0000_0000
more_add_44_motorola x y z t more = one_more_double Motorola 0x1_0000_0000 x y z t more
