-- The head of a journal's file, and the file behind it.
use Rattle.std.proofs.Common.{◌≡◌, ◌≤◌, ◌<◌, inl, inr, ℕ, List, ◌++◌, length, take, sym, ap, ◌∙◌, subst, arith, append-nil, length-take-le}
use Rattle.std.specs.Prelude.{IfSome, Option, Some, None}
use Rattle.std.specs.Fmt.{option_append}
use Rattle.std.specs.Io.KnownBytes.{IsAtEnd}
use Rattle.std.proofs.Math.Seq.{take-append_seam}
use Rattle.std.proofs.lemmas.Bool.{cases_lt}
use Rattle.std.proofs.lemmas.List.{take_all}
use Rattle.xcp_audit.specs.Naming.{IsHeadBefore}

-- what was read is a head
pub is_head : (n : ℕ) (bytes : List ℕ) (left : Option (List ℕ)) → length bytes ≡ 38 → n ≤ 38 → (n < 38 → IsAtEnd left) → IsHeadBefore (take n bytes) left
is_head n bytes left size within ended =
    let long = length-take-le n bytes (omega (arith, size, within)) in
    elim (cases_lt n 38) [
      | inl short ↦ inr (omega (arith, long, short), ended short)
      | inr whole ↦ inl (omega (arith, long, within, whole))
    ]

-- the file that it begins
pub begun_by : (head : List ℕ) (left all : Option (List ℕ)) → all ≡ option_append (Some head) left → IsHeadBefore head left → IfSome all (λ bytes. head ≡ take 38 bytes)
begun_by head left all joined is = subst (λ o. IfSome o (λ bytes. head ≡ take 38 bytes)) (sym joined) (from left is)
  where
    from : (o : Option (List ℕ)) → IsHeadBefore head o → IfSome (option_append (Some head) o) (λ bytes. head ≡ take 38 bytes)
    from None h = tt
    from (Some rest) (inl long) = sym (ap (λ (k : ℕ). take k (head ++ rest)) (sym long) ∙ take-append_seam head rest)
    from (Some rest) (inr short) =
        let less = short.0 in
        sym (ap (λ r. take 38 (head ++ r)) short.1 ∙ ap (take 38) (append-nil head) ∙ take_all 38 head (omega (arith, less)))

-- fewer bytes are all
pub all_of : (bytes : List ℕ) → length bytes < 38 → bytes ≡ take 38 bytes
all_of bytes short = sym (take_all 38 bytes (omega (arith, short)))
