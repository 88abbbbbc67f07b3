-- Events that were lost, chapter by chapter.
use Rattle.std.proofs.Common.{◌≡◌, ◌+◌, ◌-◌, ◌^◌, ℕ, List, [], ◌∷◌, ◌++◌, min, refl, arith}
use Rattle.std.proofs.lemmas.List.Sums.{sum_by-append}
use Rattle.xcp_locked.specs.LockedSlave.{ChapterValue}
use Rattle.xcp_service.specs.Losing.{lost_among, lost_in}

lost_both : (cs : List ChapterValue) (c : ChapterValue) → lost_in (cs ++ c ∷ []) ≡ lost_in cs + lost_among c.entries
lost_both cs c =
    let both = sum_by-append (λ (d : ChapterValue). lost_among d.entries) cs (c ∷ []) in
    let one : lost_in (c ∷ []) ≡ 0 + lost_among c.entries = refl in
    omega (arith, both, one)

capped : (a b m : ℕ) → min (min a m + min b m) m ≡ min (a + b) m
capped a b m = omega arith

-- one chapter more
pub lost_more : (cs : List ChapterValue) (c : ChapterValue) (lost more : ℕ) (new : List ChapterValue) → lost ≡ min (lost_in cs) (2 ^ 64 - 1) → more ≡ min (lost_among c.entries) (2 ^ 64 - 1) → new ≡ cs ++ c ∷ []
    → min (lost + more) (2 ^ 64 - 1) ≡ min (lost_in new) (2 ^ 64 - 1)
lost_more cs c lost more new h k is = rw (h, k, is, lost_both cs c) (capped (lost_in cs) (lost_among c.entries) (2 ^ 64 - 1))
