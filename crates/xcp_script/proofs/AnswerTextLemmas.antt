-- The text of packets and numbers.
use Rattle.std.proofs.Common.{◌≡◌, ◌<◌, ◌≤◌, ◌+◌, ◌/◌, ◌%◌, ◌^◌, ℕ, List, [], ◌∷◌, ◌++◌, length, drop, slice_index, refl, sym, ap, ◌∙◌, arith, add-one, drop-cons, decimal, append_assoc}
use Rattle.std.proofs.lemmas.Fmt.{decimal_digit, decimal_step}
use Rattle.std.proofs.lemmas.List.{append-nil, drop_all}
use Rattle.hex.specs.Hex.{encode_with, encode_upper, upper_digits}
use Rattle.xcp_packet.specs.PacketTrains.{block_packets}
use Rattle.xcp_packet.specs.BlockPacketLemmas.{block_begins}
use Rattle.xcp_script.specs.AnswerText.{packets_text}

-- the hex text of one byte more
pub encode_more : (packet : List ℕ) (i : ℕ) → i < length packet
    → encode_upper (drop i packet) ≡ slice_index upper_digits (slice_index packet i / 16) ∷ slice_index upper_digits (slice_index packet i % 16) ∷ encode_upper (drop (i + 1) packet)
unfolding encode_with
encode_more packet i h = rw (add-one, drop-cons packet i 0 h) refl

-- a number from 10 to 99 is told by two digits: its tens and its ones
pub two_digits : (n : ℕ) → 10 ≤ n → n < 100 → decimal n ≡ (48 + n / 10 % 10) ∷ (48 + n % 10) ∷ []
two_digits n h k =
    let small : n / 10 < 10 = omega arith in
    let bounded : n < 2 ^ 64 = omega arith in
    let same : n / 10 % 10 ≡ n / 10 = omega arith in
    decimal_step n h bounded ∙ rw (decimal_digit (n / 10) small, same) refl

-- a number from 100 to 255 is told by three digits: its hundreds, its tens and its ones
pub three_digits : (n : ℕ) → 100 ≤ n → n < 256 → decimal n ≡ (48 + n / 100) ∷ (48 + n / 10 % 10) ∷ (48 + n % 10) ∷ []
three_digits n h k =
    let above : 10 ≤ n = omega arith in
    let bounded : n < 2 ^ 64 = omega arith in
    let tens : 10 ≤ n / 10 = omega arith in
    let tens_bounded : n / 10 < 2 ^ 64 = omega arith in
    let small : n / 10 / 10 < 10 = omega arith in
    let same : n / 100 ≡ n / 10 / 10 = omega arith in
    decimal_step n above bounded ∙ rw (decimal_step (n / 10) tens tens_bounded, decimal_digit (n / 10 / 10) small, same) refl

-- a list with elements pushed one by one
pub pushed_two : (xs ys zs : List ℕ) (n : ℕ) → 10 ≤ n → n < 100
    → ys ≡ xs ++ (48 + n / 10 % 10) ∷ [] → zs ≡ ys ++ (48 + n % 10) ∷ [] → zs ≡ xs ++ decimal n
pushed_two xs ys zs n h k p q =
    q ∙ rw p (append_assoc xs ((48 + n / 10 % 10) ∷ []) ((48 + n % 10) ∷ []) ∙ ap (λ (w : List ℕ). xs ++ w) (sym (two_digits n h k)))

-- a list to which the three digits of a number from 100 to 255 are pushed grows by its decimal text
pub pushed_three : (xs vs ys zs : List ℕ) (n : ℕ) → 100 ≤ n → n < 256
    → vs ≡ xs ++ (48 + n / 100) ∷ [] → ys ≡ vs ++ (48 + n / 10 % 10) ∷ [] → zs ≡ ys ++ (48 + n % 10) ∷ [] → zs ≡ xs ++ decimal n
pushed_three xs vs ys zs n h k o p q =
    q ∙ rw (p, o) (ap (λ (w : List ℕ). w ++ (48 + n % 10) ∷ []) (append_assoc xs ((48 + n / 100) ∷ []) ((48 + n / 10 % 10) ∷ []))
    ∙ append_assoc xs ((48 + n / 100) ∷ (48 + n / 10 % 10) ∷ []) ((48 + n % 10) ∷ []) ∙ ap (λ (w : List ℕ). xs ++ w) (sym (three_digits n h k)))

-- two bytes more in the middle
pub pushed_pair : (xs ys zs rest whole : List ℕ) (a b : ℕ)
    → xs ++ a ∷ b ∷ rest ≡ whole → ys ≡ xs ++ a ∷ [] → zs ≡ ys ++ b ∷ [] → zs ++ rest ≡ whole
pushed_pair xs ys zs rest whole a b h p q =
    rw (q, p) (append_assoc (xs ++ a ∷ []) (b ∷ []) rest ∙ append_assoc xs (a ∷ []) (b ∷ rest) ∙ h)

-- all of a packet, and then what ends it
pub encode_ended : (start xs ys packet : List ℕ) (i end : ℕ) → length packet ≤ i
    → xs ++ encode_upper (drop i packet) ≡ start ++ encode_upper packet → ys ≡ xs ++ end ∷ [] → ys ≡ start ++ encode_upper packet ++ end ∷ []
unfolding encode_with
encode_ended start xs ys packet i end h p q =
    let all : xs ≡ start ++ encode_upper packet = sym (append-nil xs) ∙ (rw (drop_all i packet h) at p) in
    q ∙ ap (λ (zs : List ℕ). zs ++ end ∷ []) all

-- the text of a packet, and of those of a block behind it
text_behind : (p : List ℕ) (width : ℕ) (rest : List ℕ) → packets_text (p ∷ block_packets width rest) ≡ encode_upper p ++ 32 ∷ packets_text (block_packets width rest)
text_behind p width rest = let b = block_begins width rest in rw b.2 refl

-- one packet more in the middle
pub text_more : (xs ys whole p : List ℕ) (width : ℕ) (left rest : List ℕ) → block_packets width left ≡ p ∷ block_packets width rest
    → xs ++ packets_text (block_packets width left) ≡ whole → ys ≡ xs ++ encode_upper p ++ 32 ∷ [] → ys ++ packets_text (block_packets width rest) ≡ whole
text_more xs ys whole p width left rest e h q =
    ap (λ (zs : List ℕ). zs ++ packets_text (block_packets width rest)) q
    ∙ append_assoc (xs ++ encode_upper p) (32 ∷ []) (packets_text (block_packets width rest))
    ∙ append_assoc xs (encode_upper p) (32 ∷ packets_text (block_packets width rest))
    ∙ ap (λ (zs : List ℕ). xs ++ zs) (sym (text_behind p width rest) ∙ ap packets_text (sym e)) ∙ h

-- the last packet
pub text_last : (start xs ys p : List ℕ) (width : ℕ) (left all : List ℕ) → block_packets width left ≡ p ∷ []
    → xs ++ packets_text (block_packets width left) ≡ start ++ packets_text (block_packets width all) → ys ≡ xs ++ encode_upper p ++ 10 ∷ []
    → ys ≡ start ++ packets_text (block_packets width all) ++ 10 ∷ []
text_last start xs ys p width left all e h q =
    q ∙ ap (λ (zs : List ℕ). zs ++ 10 ∷ []) (ap (λ (zs : List ℕ). xs ++ zs) (sym (append-nil (encode_upper p)) ∙ ap packets_text (sym e)) ∙ h)
