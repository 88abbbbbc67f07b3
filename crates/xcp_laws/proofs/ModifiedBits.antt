-- The bits of a double word after MODIFY_BITS.
use Rattle.std.proofs.Common.{◌≡◌, ℕ, ◌+◌, ◌-◌, ◌*◌, ◌/◌, ◌%◌, ◌^◌, ◌<◌, ◌≤◌, ◌⊎◌, inl, inr, sym, ap, ◌∙◌, arith}
use Rattle.std.specs.Prelude.{min, bit_and}
use Rattle.std.specs.Int.{bit_at, bit_not, w16, w32}
use Rattle.std.proofs.lemmas.Nat.{div-add-mod', mod_below, pow_pos}
use Rattle.std.proofs.lemmas.Nat.Bits.{bit_at_and, bit_at_xor, bit_at_not, bit_at-lt, bit_at_above, bit_at_cat_low, bit_at_cat_high, bit_at-zero}
use Rattle.xcp_transfer.specs.Downloads.{modified, shifted}

-- a bit that a double word has is not lost when the rest is cut off
cut-bit : (n b : ℕ) → b < 32 → bit_at (n % 2 ^ 32) b ≡ bit_at n b
cut-bit n b h = sym (bit_at_cat_low (n / 2 ^ 32) 32 (n % 2 ^ 32) b h) ∙ ap (λ (k : ℕ). bit_at k b) (div-add-mod' n (2 ^ 32))

whole : (n : ℕ) → n + 0 ≡ n
whole n = omega arith

-- a shifted bit stands s places higher
shifted-bit : (s x b : ℕ) → s ≤ b → b < 32 → bit_at (shifted s x) b ≡ bit_at x (b - s)
shifted-bit s x b h k =
    cut-bit (x * 2 ^ s) b k
    ∙ ap (λ (n : ℕ). bit_at n b) (sym (whole (x * 2 ^ s)))
    ∙ bit_at_cat_high x s 0 b (pow_pos s) h

-- below stand zeros
shifted-low : (s x b : ℕ) → b < s → b < 32 → bit_at (shifted s x) b ≡ 0
shifted-low s x b h k =
    cut-bit (x * 2 ^ s) b k
    ∙ ap (λ (n : ℕ). bit_at n b) (sym (whole (x * 2 ^ s)))
    ∙ bit_at_cat_low x s 0 b h
    ∙ bit_at-zero b

shifted-below : (s x : ℕ) → shifted s x < 2 ^ 32
shifted-below s x = mod_below (x * 2 ^ s) (2 ^ 32) (omega arith)

-- the bits of the result, by those of the two masks where they are shifted
modified-bit : (s ma mx a b : ℕ) → b < 32 → bit_at (modified s ma mx a) b ≡ (min (bit_at a b) (1 - bit_at (shifted s (bit_not w16 ma)) b) + bit_at (shifted s mx) b) % 2
modified-bit s ma mx a b h =
    let mask : ℕ = shifted s (bit_not w16 ma) in
    bit_at_xor (bit_and a (bit_not w32 mask)) (shifted s mx) b
    ∙ ap (λ (n : ℕ). (n + bit_at (shifted s mx) b) % 2) (bit_at_and a (bit_not w32 mask) b ∙ ap (λ (n : ℕ). min (bit_at a b) n) (bit_at_not w32 mask b (shifted-below s (bit_not w16 ma)) h))

twice-less : (n : ℕ) → n < 2 → 1 - (1 - n) ≡ n
twice-less n h = omega arith

pub named-bit : (s ma mx a b : ℕ) → ma < 2 ^ 16 → s ≤ b → b < s + 16 → b < 32 → bit_at (modified s ma mx a) b ≡ (min (bit_at a b) (bit_at ma (b - s)) + bit_at mx (b - s)) % 2
named-bit s ma mx a b small from to k =
    let inside : b - s < 16 = omega arith in
    let mask : bit_at (shifted s (bit_not w16 ma)) b ≡ 1 - bit_at ma (b - s) = shifted-bit s (bit_not w16 ma) b from k ∙ bit_at_not w16 ma (b - s) small inside in
    modified-bit s ma mx a b k
    ∙ ap (λ (n : ℕ). (min (bit_at a b) (1 - n) + bit_at (shifted s mx) b) % 2) mask
    ∙ ap (λ (n : ℕ). (min (bit_at a b) n + bit_at (shifted s mx) b) % 2) (twice-less (bit_at ma (b - s)) (bit_at-lt ma (b - s)))
    ∙ ap (λ (n : ℕ). (min (bit_at a b) (bit_at ma (b - s)) + n) % 2) (shifted-bit s mx b from k)

kept : (n m x : ℕ) → n < 2 → m ≡ 0 → x ≡ 0 → (min n (1 - m) + x) % 2 ≡ n
kept n m x h e f = omega arith

pub other-bit : (s ma mx a b : ℕ) → mx < 2 ^ 16 → (b < s) ⊎ (s + 16 ≤ b) → b < 32 → bit_at (modified s ma mx a) b ≡ bit_at a b
other-bit s ma mx a b small (inl below) k =
    modified-bit s ma mx a b k ∙ kept (bit_at a b) _ _ (bit_at-lt a b) (shifted-low s (bit_not w16 ma) b below k) (shifted-low s mx b below k)
other-bit s ma mx a b small (inr above) k =
    let from : s ≤ b = omega arith in
    let past : 16 ≤ b - s = omega arith in
    let inverse : bit_not w16 ma < 2 ^ 16 = omega arith in
    modified-bit s ma mx a b k
    ∙ kept (bit_at a b) _ _ (bit_at-lt a b)
    (shifted-bit s (bit_not w16 ma) b from k ∙ bit_at_above (bit_not w16 ma) 16 (b - s) inverse past)
    (shifted-bit s mx b from k ∙ bit_at_above mx 16 (b - s) small past)

none : (n m x : ℕ) → n ≡ 0 → x ≡ 0 → (min n m + x) % 2 ≡ 0
none n m x e f = omega arith

pub no-higher-bit : (s ma mx a b : ℕ) → a < 2 ^ 32 → 32 ≤ b → bit_at (modified s ma mx a) b ≡ 0
no-higher-bit s ma mx a b small above =
    let mask : ℕ = bit_not w32 (shifted s (bit_not w16 ma)) in
    bit_at_xor (bit_and a mask) (shifted s mx) b
    ∙ ap (λ (n : ℕ). (n + bit_at (shifted s mx) b) % 2) (bit_at_and a mask b)
    ∙ none (bit_at a b) (bit_at mask b) (bit_at (shifted s mx) b) (bit_at_above a 32 b small above) (bit_at_above (shifted s mx) 32 b (shifted-below s mx) above)
