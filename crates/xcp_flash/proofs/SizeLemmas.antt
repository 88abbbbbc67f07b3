-- How many bytes pages take in a file.
use Rattle.std.proofs.Common.{◌≡◌, ◌<◌, ◌≤◌, ℕ, zero, suc, ◌+◌, List, [], ◌∷◌, ◌++◌, length, map, take, get_or, sym, subst, arith}
use Rattle.xcp_flash.specs.FlashFile.{pages_size}

-- the bytes of these pages
abbrev pub sizes : List (List ℕ) → ℕ
sizes pages = pages_size (map (λ page. length page) pages)

sizes_last : (pages : List (List ℕ)) (page : List ℕ) → sizes (pages ++ page ∷ []) ≡ sizes pages + (4 + length page)
sizes_last [] page = omega arith
sizes_last (first ∷ pages) page = let e = sizes_last pages page in omega (arith, e)

-- those of one page more
pub sizes_more : (front pages : List (List ℕ)) (page : List ℕ) (start old new : ℕ) → front ≡ pages ++ page ∷ [] → old ≡ start + sizes pages → new ≡ old + (4 + length page) → new ≡ start + sizes front
sizes_more front pages page start old new is was grown =
    let e = sizes_last pages page in
    subst (λ (all : List (List ℕ)). new ≡ start + sizes all) (sym is) (omega (arith, e, was, grown))

past : (pages : List (List ℕ)) (i : ℕ) (d : List ℕ) → i < length pages → sizes (take i pages) + (4 + length (get_or pages i d)) ≤ sizes pages
past [] i d there = absurd (omega arith)
past (page ∷ pages) zero d there = omega arith
past (page ∷ pages) (suc i) d there = let e = past pages i d (omega arith) in omega (arith, e)

-- where there is no room for a page, there is none for all
pub sizes_full : (pages : List (List ℕ)) (i : ℕ) (page : List ℕ) (start old room now : ℕ) → i < length pages → page ≡ get_or pages i page → old ≡ start + sizes (take i pages) → room ≤ now → now < old + (4 + length page) → room < start + sizes pages
sizes_full pages i page start old room now there is was kept full =
    let e = subst (λ (p : List ℕ). sizes (take i pages) + (4 + length p) ≤ sizes pages) (sym is) (past pages i page there) in
    omega (arith, e, was, kept, full)
