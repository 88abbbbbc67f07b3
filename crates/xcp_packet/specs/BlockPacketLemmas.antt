-- The packets of a block.
use Rattle.std.proofs.Common.{◌≡◌, ◌≤◌, ◌<◌, ◌+◌, ◌-◌, ◌*◌, ◌/◌, ℕ, zero, suc, List, [], ◌∷◌, ◌++◌, length, take, drop, Option, Some, None, refl, sym, ap, ◌∙◌, arith, add-one, length-drop}
use Rattle.std.specs.Prelude.{slice_get, slice_index, All}
use Rattle.std.specs.List.{flat_map}
use Rattle.std.proofs.Math.Nat.{suc-mul, zero-mul, mul-le-mul_right, mul-le-mul_left, div-eq-sub-div, div-eq_of_lt, lt-div-mul-add}
use Rattle.std.proofs.lemmas.List.{append-nil, take-append-drop, length-take, take_all, drop-drop}
use Rattle.std.proofs.lemmas.Nat.{div-add-mod'}
use Rattle.std.proofs.lemmas.List.Elements.{All-cons, All-nil}
use Rattle.xcp_packet.specs.PacketTrains.{full_packets, block_packets}

-- what one packet holds is one packet
pub block_of_one : (width : ℕ) (bytes : List ℕ) → 0 < width → length bytes ≤ width → block_packets width bytes ≡ (0xFF ∷ bytes) ∷ []
unfolding block_packets
block_of_one width bytes some h =
    let below : length bytes - 1 < width = omega arith in
    ap (λ (n : ℕ). full_packets n width bytes) (div-eq_of_lt below)

-- more is a full packet, and the packets of the rest
pub block_of_more : (width : ℕ) (bytes : List ℕ) → 0 < width → width < length bytes → block_packets width bytes ≡ (0xFF ∷ take width bytes) ∷ block_packets width (drop width bytes)
unfolding block_packets
block_of_more width bytes some h =
    let m : ℕ = length bytes - 1 in
    let inside : width ≤ length bytes - 1 = omega arith in
    let left : (length bytes - 1) - width ≡ length (drop width bytes) - 1 = omega (arith, length-drop width bytes) in
    let count : (length bytes - 1) / width ≡ suc ((length (drop width bytes) - 1) / width) = div-eq-sub-div some inside ∙ ap (λ (k : ℕ). k / width + 1) left ∙ omega arith in
    ap (λ (n : ℕ). full_packets n width bytes) count

add-mul-one : (n width : ℕ) → (n + 1) * width ≡ n * width + width
add-mul-one n width = rw add-one (suc-mul n width)

joined_by : (n width : ℕ) (bytes : List ℕ) → flat_map (λ p. drop 1 p) (full_packets n width bytes) ≡ bytes
joined_by zero width bytes = append-nil bytes
joined_by (suc n) width bytes = ap (λ (xs : List ℕ). take width bytes ++ xs) (joined_by n width (drop width bytes)) ∙ take-append-drop width bytes

-- the data bytes of its packets, one after another, are the block's bytes
pub block_joined : (width : ℕ) (bytes : List ℕ) → flat_map (λ p. drop 1 p) (block_packets width bytes) ≡ bytes
unfolding block_packets
block_joined width bytes = joined_by ((length bytes - 1) / width) width bytes

counted_by : (n width : ℕ) (bytes : List ℕ) → length (full_packets n width bytes) ≡ n + 1
counted_by zero width bytes = omega arith
counted_by (suc n) width bytes = omega (arith, counted_by n width (drop width bytes))

-- how many packets a block has
pub block_count : (width : ℕ) (bytes : List ℕ) → length (block_packets width bytes) ≡ (length bytes - 1) / width + 1
unfolding block_packets
block_count width bytes = counted_by ((length bytes - 1) / width) width bytes

-- a number is at most one less than so many and one widths
filled : (m width : ℕ) → 0 < width → m < (m / width + 1) * width
filled m width some = omega (arith, lt-div-mul-add {a = m} {b = width} some, add-mul-one (m / width) width)

enough : (width : ℕ) (bytes : List ℕ) → 0 < width → length bytes ≤ ((length bytes - 1) / width + 1) * width
enough width bytes some = let h = filled (length bytes - 1) width some in omega arith

-- the packet at an index begins behind those before it, and they lie inside the block's bytes
pub block_inside : (width i : ℕ) (bytes : List ℕ) → 0 < width → i < length (block_packets width bytes) → i * width ≤ length bytes
block_inside width i bytes some h =
    let c = block_count width bytes in
    let r = div-add-mod' (length bytes - 1) width in
    let m : i * width ≤ (length bytes - 1) / width * width = mul-le-mul_right width (omega arith) in
    omega arith

at_first : (width : ℕ) (bytes : List ℕ) → ◌≡◌ {A = Option (List ℕ)} (Some (0xFF ∷ take width bytes)) (Some (0xFF ∷ take width (drop (0 * width) bytes)))
at_first width bytes = ap (λ (k : ℕ). Some (0xFF ∷ take width (drop k bytes))) (sym (zero-mul width))

piece_by : (n width i : ℕ) (bytes : List ℕ) → i < n + 1 → length bytes ≤ (n + 1) * width → slice_get (full_packets n width bytes) i ≡ Some (0xFF ∷ take width (drop (i * width) bytes))
piece_by zero width zero bytes h k =
    let short : length bytes ≤ width = omega (arith, add-mul-one 0 width, zero-mul width) in
    ap (λ (xs : List ℕ). Some (0xFF ∷ xs)) (sym (take_all width bytes short)) ∙ at_first width bytes
piece_by zero width (suc i) bytes h k = absurd (omega arith)
piece_by (suc n) width zero bytes h k = at_first width bytes
piece_by (suc n) width (suc i) bytes h k =
    let less : length (drop width bytes) ≤ (n + 1) * width = omega (arith, length-drop width bytes, add-mul-one (n + 1) width) in
    let at : drop (i * width) (drop width bytes) ≡ drop (suc i * width) bytes = drop-drop (i * width) width bytes ∙ ap (λ (j : ℕ). drop j bytes) (omega (arith, add-mul-one i width)) in
    piece_by n width i (drop width bytes) (omega arith) less ∙ ap (λ (xs : List ℕ). Some (0xFF ∷ take width xs)) at

-- the packet at an index
pub block_piece : (width i : ℕ) (bytes : List ℕ) → 0 < width → i < length (block_packets width bytes) → slice_get (block_packets width bytes) i ≡ Some (0xFF ∷ take width (drop (i * width) bytes))
unfolding block_packets
block_piece width i bytes some h = piece_by ((length bytes - 1) / width) width i bytes (omega (arith, block_count width bytes)) (enough width bytes some)

-- the packet has at least one byte, and at most `width` data bytes
pub record IsSized (width : ℕ) (p : List ℕ) : Type 0 where
  pub some : 0 < length p
  pub most : length p ≤ width + 1

sized_by : (n width : ℕ) (bytes : List ℕ) → length bytes ≤ (n + 1) * width → All (IsSized width) (full_packets n width bytes)
sized_by zero width bytes h =
    let short : length bytes ≤ width = omega (arith, add-mul-one 0 width, zero-mul width) in
    All-cons (IsSized width) (0xFF ∷ bytes) [] (record { some = omega arith; most = omega arith }) (All-nil (IsSized width))
sized_by (suc n) width bytes h =
    let less : length (drop width bytes) ≤ (n + 1) * width = omega (arith, length-drop width bytes, add-mul-one (n + 1) width) in
    let part : length (take width bytes) ≤ width = omega (arith, length-take width bytes) in
    All-cons (IsSized width) (0xFF ∷ take width bytes) (full_packets n width (drop width bytes)) (record { some = omega arith; most = omega arith }) (sized_by n width (drop width bytes) less)

-- no packet of a block is empty, and none has more than `width` data bytes
pub block_sized : (width : ℕ) (bytes : List ℕ) → 0 < width → All (IsSized width) (block_packets width bytes)
unfolding block_packets
block_sized width bytes some = sized_by ((length bytes - 1) / width) width bytes (enough width bytes some)

begins_by : (n width : ℕ) (bytes : List ℕ) → (x : List ℕ) × (more : List (List ℕ)) × (full_packets n width bytes ≡ (0xFF ∷ x) ∷ more)
begins_by zero width bytes = (bytes, [], refl)
begins_by (suc n) width bytes = (take width bytes, full_packets n width (drop width bytes), refl)

-- a block has a first packet, which begins with FF
pub block_begins : (width : ℕ) (bytes : List ℕ) → (x : List ℕ) × (more : List (List ℕ)) × (block_packets width bytes ≡ (0xFF ∷ x) ∷ more)
unfolding block_packets
block_begins width bytes = begins_by ((length bytes - 1) / width) width bytes

positive_by : (n width : ℕ) (bytes : List ℕ) → All (λ p. slice_index p 0 ≡ 0xFF) (full_packets n width bytes)
positive_by zero width bytes = All-cons (λ (p : List ℕ). slice_index p 0 ≡ 0xFF) (0xFF ∷ bytes) [] refl (All-nil (λ (p : List ℕ). slice_index p 0 ≡ 0xFF))
positive_by (suc n) width bytes = All-cons (λ (p : List ℕ). slice_index p 0 ≡ 0xFF) (0xFF ∷ take width bytes) (full_packets n width (drop width bytes)) refl (positive_by n width (drop width bytes))

-- and so does each of its packets
pub block_positive : (width : ℕ) (bytes : List ℕ) → All (λ p. slice_index p 0 ≡ 0xFF) (block_packets width bytes)
unfolding block_packets
block_positive width bytes = positive_by ((length bytes - 1) / width) width bytes

-- at most 255 bytes are at most 37 packets
pub block_most : (width : ℕ) (bytes : List ℕ) → 7 ≤ width → length bytes ≤ 255 → length (block_packets width bytes) ≤ 37
block_most width bytes least most =
    let c = block_count width bytes in
    let r = div-add-mod' (length bytes - 1) width in
    let m : (length bytes - 1) / width * 7 ≤ (length bytes - 1) / width * width = mul-le-mul_left ((length bytes - 1) / width) least in
    omega arith
