-- Lists cut into parts: what a change of the pool does to the parts.
use Rattle.std.proofs.Common.{◌≡◌, ℕ, zero, suc, ◌+◌, ◌-◌, ◌<◌, ◌≤◌, List, [], ◌∷◌, ◌++◌, length, take, drop, get_or, slice_set, ap, sym, ◌∙◌, refl, subst, arith, append_assoc, length-append, length-drop}
use Rattle.std.proofs.lemmas.List.{length-take-le, take-append-drop, set-append_left, set-append_right, length-set, append-nil, get_or-take, get_or-drop}
use Rattle.std.proofs.Math.Seq.{take-append_seam, take-append-add, drop-append_seam, drop-append-add}
use Rattle.std.specs.Prelude.{replicate}
use Rattle.xcp_daq.specs.Pools.{parts, joined}
use Rattle.xcp_daq.specs.private.SplicedPools.{total, spliced}

module _ {A : Type 0} where
  pub parts-cons : (n : ℕ) (ns : List ℕ) (us bs : List A) → length us ≡ n → parts (n ∷ ns) (us ++ bs) ≡ us ∷ parts ns bs
  parts-cons n ns us bs h = subst (λ m. take m (us ++ bs) ∷ parts ns (drop m (us ++ bs)) ≡ us ∷ parts ns bs) h (rw (take-append_seam us bs, drop-append_seam us bs) refl)

  spliced-past : (us bs : List A) (k : ℕ) (ys : List A) → spliced (us ++ bs) (length us + k) ys ≡ us ++ spliced bs k ys
  spliced-past us bs k ys = rw (take-append-add us bs k, drop-append-add us bs k) (append_assoc us (take k bs) (ys ++ drop k bs))

  cut-spliced : (xs : List A) (n k : ℕ) (ys : List A) → n ≤ length xs → spliced xs (n + k) ys ≡ take n xs ++ spliced (drop n xs) k ys
  cut-spliced xs n k ys h = ap (λ zs. spliced zs (n + k) ys) (sym (take-append-drop n xs)) ∙ ap (λ m. spliced (take n xs ++ drop n xs) (m + k) ys) (sym (length-take-le n xs h)) ∙ spliced-past (take n xs) (drop n xs) k ys

  pub length-parts : (ns : List ℕ) (xs : List A) → length (parts ns xs) ≡ length ns
  length-parts [] xs = refl
  length-parts (n ∷ ns) xs = ap suc (length-parts ns (drop n xs))

  -- part i grows by ys, put in at its end
  pub parts-grown : (ns : List ℕ) (xs ys : List A) (i k c : ℕ) → i < length ns → total ns ≡ length xs → length ys ≡ c → k ≡ total (take i ns) + get_or ns i 0 → parts (slice_set ns i (get_or ns i 0 + c)) (spliced xs k ys) ≡ slice_set (parts ns xs) i (get_or (parts ns xs) i [] ++ ys)
  parts-grown [] xs ys i k c h t l e = absurd (omega arith)
  parts-grown (n ∷ ns) xs ys zero k c h t l e =
      let f : k ≡ n = omega arith in
      let m : length (take n xs ++ ys) ≡ n + c = omega (arith, length-append (take n xs) ys, length-take-le n xs (omega arith)) in
      ap (λ j. parts ((n + c) ∷ ns) (spliced xs j ys)) f ∙ ap (λ zs. parts ((n + c) ∷ ns) zs) (sym (append_assoc (take n xs) ys (drop n xs))) ∙ parts-cons (n + c) ns (take n xs ++ ys) (drop n xs) m
  parts-grown (n ∷ ns) xs ys (suc i) k c h t l e =
      let k' : ℕ = total (take i ns) + get_or ns i 0 in
      let f : k ≡ n + k' = omega arith in
      let ns' : List ℕ = slice_set ns i (get_or ns i 0 + c) in
      let d : total ns ≡ length (drop n xs) = omega (arith, length-drop n xs) in
      ap (λ j. parts (n ∷ ns') (spliced xs j ys)) f ∙ ap (λ zs. parts (n ∷ ns') zs) (cut-spliced xs n k' ys (omega arith)) ∙ parts-cons n ns' (take n xs) (spliced (drop n xs) k' ys) (length-take-le n xs (omega arith)) ∙ ap (λ ps. take n xs ∷ ps) (parts-grown ns (drop n xs) ys i k' c (omega arith) d l refl)

  -- element j of part i is written
  pub parts-set : (ns : List ℕ) (xs : List A) (i j p : ℕ) (y : A) → i < length ns → total ns ≡ length xs → j < get_or ns i 0 → p ≡ total (take i ns) + j → parts ns (slice_set xs p y) ≡ slice_set (parts ns xs) i (slice_set (get_or (parts ns xs) i []) j y)
  parts-set [] xs i j p y h t l e = absurd (omega arith)
  parts-set (n ∷ ns) xs zero j p y h t l e =
      let f : p ≡ j = omega arith in
      let m : length (take n xs) ≡ n = length-take-le n xs (omega arith) in
      ap (λ q. parts (n ∷ ns) (slice_set xs q y)) f ∙ ap (λ zs. parts (n ∷ ns) (slice_set zs j y)) (sym (take-append-drop n xs)) ∙ ap (λ zs. parts (n ∷ ns) zs) (set-append_left (take n xs) (drop n xs) j y (omega arith)) ∙ parts-cons n ns (slice_set (take n xs) j y) (drop n xs) (length-set (take n xs) j y ∙ m)
  parts-set (n ∷ ns) xs (suc i) j p y h t l e =
      let m : length (take n xs) ≡ n = length-take-le n xs (omega arith) in
      let d : total ns ≡ length (drop n xs) = omega (arith, length-drop n xs) in
      ap (λ zs. parts (n ∷ ns) (slice_set zs p y)) (sym (take-append-drop n xs)) ∙ ap (λ zs. parts (n ∷ ns) zs) (set-append_right (take n xs) (drop n xs) n p y m (omega arith)) ∙ parts-cons n ns (take n xs) (slice_set (drop n xs) (p - n) y) m ∙ ap (λ ps. take n xs ∷ ps) (parts-set ns (drop n xs) i j (p - n) y (omega arith) d l (omega arith))

  -- empty parts in front
  parts-empty : (c : ℕ) (ns : List ℕ) (xs : List A) → parts (replicate c 0 ++ ns) xs ≡ replicate c [] ++ parts ns xs
  parts-empty zero ns xs = refl
  parts-empty (suc c) ns xs = ap (λ (ps : List (List A)). [] ∷ ps) (parts-empty c ns xs)

  -- empty parts put in at place k
  pub parts-blank : (ns : List ℕ) (xs : List A) (k c : ℕ) → parts (spliced ns k (replicate c 0)) xs ≡ spliced (parts ns xs) k (replicate c [])
  parts-blank ns xs zero c = parts-empty c ns xs
  parts-blank [] xs (suc k) c = parts-empty c [] xs
  parts-blank (n ∷ ns) xs (suc k) c = ap (λ (ps : List (List A)). take n xs ∷ ps) (parts-blank ns (drop n xs) k c)

  pub joined-parts : (ns : List ℕ) (xs : List A) → total ns ≡ length xs → joined (parts ns xs) ≡ xs
  joined-parts [] [] h = refl
  joined-parts [] (x ∷ xs) h = absurd (omega arith)
  joined-parts (n ∷ ns) xs h = ap (λ ys. take n xs ++ ys) (joined-parts ns (drop n xs) (omega (arith, length-drop n xs))) ∙ take-append-drop n xs

  -- a part has its length
  pub length-part : (ns : List ℕ) (xs : List A) (i : ℕ) → i < length ns → total ns ≡ length xs → length (get_or (parts ns xs) i []) ≡ get_or ns i 0
  length-part [] xs i h t = absurd (omega arith)
  length-part (n ∷ ns) xs zero h t = length-take-le n xs (omega arith)
  length-part (n ∷ ns) xs (suc i) h t = length-part ns (drop n xs) i (omega arith) (omega (arith, length-drop n xs))

  pub length-spliced : (xs ys : List A) (k : ℕ) → length (spliced xs k ys) ≡ length xs + length ys
  length-spliced xs ys k = omega (arith, length-append (take k xs) (ys ++ drop k xs), length-append ys (drop k xs), ap length (take-append-drop k xs), length-append (take k xs) (drop k xs))

  pub spliced-end : (xs ys : List A) (k : ℕ) → k ≡ length xs → spliced xs k ys ≡ xs ++ ys
  spliced-end [] ys k h = ap (λ j. spliced {A = A} [] j ys) h ∙ append-nil ys
  spliced-end (x ∷ xs) ys zero h = absurd (omega arith)
  spliced-end (x ∷ xs) ys (suc k) h = ap (λ (zs : List A). x ∷ zs) (spliced-end xs ys k (omega arith))

-- the sum of two lists joined is that of the first plus that of the second
pub total-append : (ms ns : List ℕ) → total (ms ++ ns) ≡ total ms + total ns
total-append [] ns = omega arith
total-append (m ∷ ms) ns = omega (arith, total-append ms ns)

-- the sum of a list with another put in is that of the one plus that of the other
pub total-spliced : (ms ns : List ℕ) (k : ℕ) → total (spliced ms k ns) ≡ total ms + total ns
total-spliced ms ns k = omega (arith, total-append (take k ms) (ns ++ drop k ms), total-append ns (drop k ms), ap total (take-append-drop k ms), total-append (take k ms) (drop k ms))

-- the sum of zeros is 0
pub total-zeros : (n : ℕ) → total (replicate n 0) ≡ 0
total-zeros zero = refl
total-zeros (suc n) = omega (arith, total-zeros n)

-- where one number of a list grows by c, the sum grows by c
pub total-set : (ns : List ℕ) (i c : ℕ) → i < length ns → total (slice_set ns i (get_or ns i 0 + c)) ≡ total ns + c
total-set [] i c h = absurd (omega arith)
total-set (n ∷ ns) zero c h = omega arith
total-set (n ∷ ns) (suc i) c h = omega (arith, total-set ns i c (omega arith))

-- the sum of the first i + 1 numbers is that of the first i plus number i
pub total-more : (ns : List ℕ) (i : ℕ) → i < length ns → total (take (i + 1) ns) ≡ total (take i ns) + get_or ns i 0
total-more [] i h = absurd (omega arith)
total-more (n ∷ ns) zero h = omega arith
total-more (n ∷ ns) (suc i) h =
    let e : suc i + 1 ≡ suc (i + 1) = omega arith in
    rw e (omega (arith, total-more ns i (omega arith)))

-- the sum of the first numbers of a list is at most that of all
pub total-take : (ns : List ℕ) (i : ℕ) → total (take i ns) ≤ total ns
total-take ns i = omega (arith, ap total (take-append-drop i ns), total-append (take i ns) (drop i ns))

-- a count is at most the total
pub count-le-total : (ns : List ℕ) (i : ℕ) → get_or ns i 0 ≤ total ns
count-le-total [] i = omega arith
count-le-total (n ∷ ns) zero = omega arith
count-le-total (n ∷ ns) (suc i) = omega (arith, count-le-total ns i)

-- a count and those before it are at most the total
pub end-le-total : (ns : List ℕ) (i : ℕ) → total (take i ns) + get_or ns i 0 ≤ total ns
end-le-total [] zero = omega arith
end-le-total [] (suc i) = omega arith
end-le-total (n ∷ ns) zero = omega arith
end-le-total (n ∷ ns) (suc i) = omega (arith, end-le-total ns i)

module _ {A : Type 0} where
  -- element j of part i is read
  pub get-part : (ns : List ℕ) (xs : List A) (i j p : ℕ) (d : A) → i < length ns → total ns ≡ length xs → j < get_or ns i 0 → p ≡ total (take i ns) + j → get_or (get_or (parts ns xs) i []) j d ≡ get_or xs p d
  get-part [] xs i j p d h t l e = absurd (omega arith)
  get-part (n ∷ ns) xs zero j p d h t l e =
      let f : p ≡ j = omega arith in
      get_or-take n xs j d (omega arith) ∙ ap (λ q. get_or xs q d) (sym f)
  get-part (n ∷ ns) xs (suc i) j p d h t l e =
      let f : n + (p - n) ≡ p = omega arith in
      get-part ns (drop n xs) i j (p - n) d (omega arith) (omega (arith, length-drop n xs)) l (omega arith) ∙ get_or-drop n xs (p - n) d ∙ ap (λ q. get_or xs q d) f

pub ruleset sums = (total-more, total-take, end-le-total)
