-- The range of a block that is whole.
use Rattle.std.proofs.Common.{◌≡◌, ℕ, ◌+◌, ◌≤◌, List, ◌++◌, length, take, None, length-append, ap, ◌∙◌, arith}
use Rattle.std.proofs.lemmas.List.{length-take-le}
use Rattle.xcp_memory.specs.Pages.{PagesValue}
use Rattle.xcp_memory.specs.ComputedAccess.{write_refusal}
use Rattle.xcp_transfer.specs.TransferValue.{BlockValue, IsBlock}

-- the bytes of a whole block may be written
pub whole : (p : PagesValue) (b : BlockValue) (n : ℕ) (bytes : List ℕ) → IsBlock p b → n ≡ b.expected → n ≤ length bytes → write_refusal p b.address (length (b.bytes ++ take n bytes)) ≡ None
whole p b n bytes i e h =
    let l = length-take-le n bytes h in
    let s = length-append b.bytes (take n bytes) in
    let same : length (b.bytes ++ take n bytes) ≡ length b.bytes + b.expected = omega arith in
    ap (λ (k : ℕ). write_refusal p b.address k) same ∙ i.writable
