-- Places of words in the table.
use Rattle.std.proofs.Common.{◌≡◌, ℕ, suc, ◌+◌, ◌*◌, ◌<◌, ◌≤◌, subst, arith, suc-mul, mul-le-mul_right}

-- two places in buffers of W words
pub lower : (W c b j k : ℕ) → c < b → j < W → c * W + j < b * W + k
lower W c b j k lt jl = let m : suc c * W ≤ b * W = mul-le-mul_right W (let e : suc c ≤ b = omega arith in e) in let e = suc-mul c W in let p : ℕ = c * W in let q : ℕ = b * W in let e' : suc c * W ≡ p + W = e in let m' : p + W ≤ q = subst (λ (z : ℕ). z ≤ q) e' m in omega arith

-- word k of the buffer b
pub place_is : (W b k base : ℕ) → base ≡ 9 + b * W → base + k ≡ 9 + (b * W + k)
place_is W b k base e = let p : ℕ = b * W in let e' : base ≡ 9 + p = e in omega arith

-- and it is a word of the table
pub place_below : (W b k base : ℕ) → b < 8 → base ≡ 9 + b * W → k < W → base + k < 9 + 8 * W
place_below W b k base low e inside =
    let l : b * W + k < 8 * W + 0 = lower W b 8 k 0 low inside in
    let p : ℕ = b * W in let l' : p + k < 8 * W + 0 = l in let e' : base ≡ 9 + p = e in omega arith

-- two places of one buffer are one place
pub same_place : (W b j k : ℕ) → 9 + (b * W + k) ≡ 9 + (b * W + j) → j ≡ k
same_place W b j k e = let p : ℕ = b * W in let e' : 9 + (p + k) ≡ 9 + (p + j) = e in omega arith
