-- What changes of the pools do to the ODTs that they are.
use Rattle.std.proofs.Common.{◌≡◌, ℕ, zero, suc, ◌+◌, ◌-◌, ◌<◌, ◌≤◌, List, [], ◌∷◌, ◌++◌, length, map, take, drop, get_or, slice_set, Option, None, ap, sym, ◌∙◌, refl, subst, arith, append_assoc, length-append, length-drop, add-one, drop-cons}
use Rattle.std.specs.Prelude.{replicate}
use Rattle.std.proofs.lemmas.Grind.{get_or_default_zero}
use Rattle.std.proofs.lemmas.List.{length-set, length-replicate, length-take-le, take-append-drop, drop-drop, take-replicate, drop-replicate, length-map, take-take}
use Rattle.xcp_daq.specs.declared.element.Element.{Element}
use Rattle.xcp_daq.specs.Pools.{parts, joined}
use Rattle.xcp_daq.specs.private.SplicedPools.{total, spliced, IsFit}
use Rattle.xcp_daq.specs.private.ReservedPools.{OdtsValue}
use Rattle.xcp_daq.proofs.PoolPartLemmas.{length-parts, parts-cons, parts-grown, parts-set, parts-blank, get-part, joined-parts, length-part, count-le-total, length-spliced, spliced-end, total-spliced, total-zeros, total-set, total-append, total-take, end-le-total}
use Rattle.std.specs.Prelude.{Bool, false, ◌||◌, nat_lt}
use Rattle.std.proofs.lemmas.Bool.Decides.{nat_tests}
use Rattle.std.proofs.Math.Seq.{take-append-add}
use Rattle.xcp_daq.specs.DaqLists.{odt_size, any_large}

-- an entry
abbrev E : Type 0
E = Option Element

-- the ODTs that the pools are
abbrev pub tree : List ℕ → List ℕ → List E → List (List (List E))
tree oc ec es = parts oc (parts ec es)

-- equal values have the same ODTs
pub lists_are : {v w : OdtsValue} → v ≡ w → v.lists ≡ w.lists
lists_are e = ap (λ (v : OdtsValue). v.lists) e

fit_odts : (oc ec : List ℕ) (es : List E) → IsFit oc ec es → total oc ≡ length (parts ec es)
fit_odts oc ec es f = f.cut ∙ sym (length-parts ec es)

-- there are as many lists as counts of ODTs
pub list_count : (d : List (List (List E))) (oc ec : List ℕ) (es : List E) → tree oc ec es ≡ d → length d ≡ length oc
list_count d oc ec es is = sym (ap length is) ∙ length-parts oc (parts ec es)

-- each list has a count of its ODTs
pub list_in : (d : List (List (List E))) (oc ec : List ℕ) (es : List E) (i : ℕ) → tree oc ec es ≡ d → i < length d → i < length oc
list_in d oc ec es i is h = omega (arith, list_count d oc ec es is)

-- list i has as many ODTs as its count says, where the pools fit each other
pub odt_count : (d : List (List (List E))) (oc ec : List ℕ) (es : List E) (i : ℕ) → tree oc ec es ≡ d → IsFit oc ec es → i < length oc → length (get_or d i []) ≡ get_or oc i 0
odt_count d oc ec es i is f h = sym (ap (λ (t : List (List (List E))). length (get_or t i [])) is) ∙ length-part oc (parts ec es) i h (fit_odts oc ec es f)

-- the number of an ODT of list i is below the list's count of ODTs, where the pools fit each other
pub odt_in : (d : List (List (List E))) (oc ec : List ℕ) (es : List E) (i j : ℕ) → tree oc ec es ≡ d → IsFit oc ec es → i < length d → j < length (get_or d i []) → j < get_or oc i 0
odt_in d oc ec es i j is f h k = omega (arith, odt_count d oc ec es i is f (list_in d oc ec es i is h))

-- the pools of ODTs and of entries are all ODTs and all entries
pub all_joined : (d : List (List (List E))) (oc ec : List ℕ) (es : List E) → tree oc ec es ≡ d → IsFit oc ec es → joined d ≡ parts ec es
all_joined d oc ec es is f = ap joined (sym is) ∙ joined-parts oc (parts ec es) (fit_odts oc ec es f)

module _ {A : Type 0} where
  pub parts-append : (ms ns : List ℕ) (xs ys : List A) → length xs ≡ total ms → parts (ms ++ ns) (xs ++ ys) ≡ parts ms xs ++ parts ns ys
  parts-append [] ns [] ys h = refl
  parts-append [] ns (x ∷ xs) ys h = absurd (omega arith)
  parts-append (m ∷ ms) ns xs ys h =
      let long : length (drop m xs) ≡ total ms = omega (arith, length-drop m xs) in
      let front : length (take m xs) ≡ m = length-take-le m xs (omega arith) in
      ap (λ zs. parts (m ∷ (ms ++ ns)) (zs ++ ys)) (sym (take-append-drop m xs))
      ∙ ap (λ zs. parts (m ∷ (ms ++ ns)) zs) (append_assoc (take m xs) (drop m xs) ys)
      ∙ parts-cons m (ms ++ ns) (take m xs) (drop m xs ++ ys) front
      ∙ ap (λ ps. take m xs ∷ ps) (parts-append ms ns (drop m xs) ys long)

  cut_front : (n : ℕ) (ns : List ℕ) (front rest : List A) → length (take n front) ≡ n → parts (n ∷ ns) (front ++ rest) ≡ take n front ∷ parts ns (drop n front ++ rest)
  cut_front n ns front rest h =
      ap (λ zs. parts (n ∷ ns) (zs ++ rest)) (sym (take-append-drop n front))
      ∙ ap (λ zs. parts (n ∷ ns) zs) (append_assoc (take n front) (drop n front) rest)
      ∙ parts-cons n ns (take n front) (drop n front ++ rest) h

  map_same : (n : ℕ) (xs : List A) (x : A) → length xs ≡ n → map (λ y. x) xs ≡ replicate n x
  map_same zero [] x h = refl
  map_same zero (y ∷ xs) x h = absurd (omega arith)
  map_same (suc n) [] x h = absurd (omega arith)
  map_same (suc n) (y ∷ xs) x h = ap (λ zs. x ∷ zs) (map_same n xs x (omega arith))

  pub parts-take : (n : ℕ) (ns : List ℕ) (xs : List A) → take n (parts ns xs) ≡ parts (take n ns) xs
  parts-take zero ns xs = refl
  parts-take (suc n) [] xs = refl
  parts-take (suc n) (m ∷ ns) xs = ap (λ ps. take m xs ∷ ps) (parts-take n ns (drop m xs))

  pub parts-drop : (n : ℕ) (ns : List ℕ) (xs : List A) → drop n (parts ns xs) ≡ parts (drop n ns) (drop (total (take n ns)) xs)
  parts-drop zero ns xs = refl
  parts-drop (suc n) [] xs = refl
  parts-drop (suc n) (m ∷ ns) xs = parts-drop n ns (drop m xs) ∙ ap (λ ys. parts (drop n ns) ys) (drop-drop (total (take n ns)) m xs)

  pub part_is : (ns : List ℕ) (xs : List A) (i : ℕ) → i < length ns → get_or (parts ns xs) i [] ≡ take (get_or ns i 0) (drop (total (take i ns)) xs)
  part_is [] xs i h = absurd (omega arith)
  part_is (n ∷ ns) xs zero h = refl
  part_is (n ∷ ns) xs (suc i) h = part_is ns (drop n xs) i (omega arith) ∙ ap (λ ys. take (get_or ns i 0) ys) (drop-drop (total (take i ns)) n xs)

  pub length-joined : (ns : List ℕ) (xs : List A) → total ns ≤ length xs → length (joined (parts ns xs)) ≡ total ns
  length-joined [] xs h = refl
  length-joined (n ∷ ns) xs h = omega (arith, length-append (take n xs) (joined (parts ns (drop n xs))), length-take-le n xs (omega arith), length-joined ns (drop n xs) (omega (arith, length-drop n xs)))

module _ {A : Type 0} where
  -- part i gives way to another list of its length
  pub parts-replaced : (ns : List ℕ) (front part new back : List A) (i : ℕ) → i < length ns → length front ≡ total (take i ns) → length part ≡ get_or ns i 0 → length new ≡ get_or ns i 0 → parts ns (front ++ (new ++ back)) ≡ slice_set (parts ns (front ++ (part ++ back))) i new
  parts-replaced [] front part new back i h a b c = absurd (omega arith)
  parts-replaced (n ∷ ns) [] part new back zero h a b c = parts-cons n ns new back c ∙ ap (λ ps. slice_set ps 0 new) (sym (parts-cons n ns part back b))
  parts-replaced (n ∷ ns) (x ∷ front) part new back zero h a b c = absurd (omega arith)
  parts-replaced (n ∷ ns) front part new back (suc i) h a b c =
      let long : length (drop n front) ≡ total (take i ns) = omega (arith, length-drop n front) in
      let short : length (take n front) ≡ n = length-take-le n front (omega arith) in
      cut_front n ns front (new ++ back) short
      ∙ ap (λ ps. take n front ∷ ps) (parts-replaced ns (drop n front) part new back i (omega arith) long b c)
      ∙ ap (λ ps. slice_set ps (suc i) new) (sym (cut_front n ns front (part ++ back) short))

  -- part i, where it is known
  pub part_of : (ns : List ℕ) (front part back : List A) (i : ℕ) → i < length ns → length front ≡ total (take i ns) → length part ≡ get_or ns i 0 → get_or (parts ns (front ++ (part ++ back))) i [] ≡ part
  part_of [] front part back i h a b = absurd (omega arith)
  part_of (n ∷ ns) [] part back zero h a b = ap (λ ps. get_or ps 0 []) (parts-cons n ns part back b)
  part_of (n ∷ ns) (x ∷ front) part back zero h a b = absurd (omega arith)
  part_of (n ∷ ns) front part back (suc i) h a b =
      let long : length (drop n front) ≡ total (take i ns) = omega (arith, length-drop n front) in
      let short : length (take n front) ≡ n = length-take-le n front (omega arith) in
      ap (λ ps. get_or ps (suc i) []) (cut_front n ns front (part ++ back) short)
      ∙ part_of ns (drop n front) part back i (omega arith) long b

  pub take_two : (m n : ℕ) (xs : List A) → m ≤ length xs → take (m + n) xs ≡ take m xs ++ take n (drop m xs)
  take_two m n xs h =
      ap (λ ys. take (m + n) ys) (sym (take-append-drop m xs))
      ∙ ap (λ k. take (k + n) (take m xs ++ drop m xs)) (sym (length-take-le m xs h))
      ∙ take-append-add (take m xs) (drop m xs) n

  -- element by element the same in each part
  pub parts-blank_all : (ns : List ℕ) (xs : List A) (x : A) → length xs ≡ total ns → parts ns (replicate (total ns) x) ≡ map (map (λ y. x)) (parts ns xs)
  parts-blank_all [] xs x h = refl
  parts-blank_all (n ∷ ns) xs x h =
      let short : length (take n xs) ≡ n = length-take-le n xs (omega arith) in
      let e1 : take n (replicate (n + total ns) x) ≡ replicate n x = take-replicate n (n + total ns) x (omega arith) in
      let e2 : drop n (replicate (n + total ns) x) ≡ replicate (total ns) x = drop-replicate n (n + total ns) x ∙ ap (λ m. replicate m x) (omega arith) in
      ap (λ ys. ys ∷ parts ns (drop n (replicate (n + total ns) x))) (e1 ∙ sym (map_same n (take n xs) x short))
      ∙ ap (λ ys. map (λ y. x) (take n xs) ∷ parts ns ys) e2
      ∙ ap (λ ps. map (λ y. x) (take n xs) ∷ ps) (parts-blank_all ns (drop n xs) x (omega (arith, length-drop n xs)))

-- n counts of 0 behind the counts of ODTs add n lists without ODTs behind the others
pub lists_added : (d : List (List (List E))) (oc oc' ec : List ℕ) (es : List E) (k n : ℕ) → tree oc ec es ≡ d → k ≡ length oc → oc' ≡ spliced oc k (replicate n 0) → tree oc' ec es ≡ d ++ replicate n []
lists_added d oc oc' ec es k n is f b =
    let odts : List (List E) = parts ec es in
    ap (λ (ns : List ℕ). parts ns odts) b ∙ parts-blank oc odts k n ∙ spliced-end (parts oc odts) (replicate n []) k (f ∙ sym (length-parts oc odts)) ∙ ap (λ (t : List (List (List E))). t ++ replicate n []) is

-- pools that fit each other still do with n counts of 0 put in among those of ODTs
pub lists_added-fit : (oc oc' ec : List ℕ) (es : List E) (k n : ℕ) → IsFit oc ec es → oc' ≡ spliced oc k (replicate n 0) → IsFit oc' ec es
lists_added-fit oc oc' ec es k n f b = record {
  cut = omega (arith, f.cut, ap total b, total-spliced oc (replicate n 0) k, total-zeros n);
  filled = f.filled;
}

-- n counts of 0 put in behind those of list i, and its count n greater, add n ODTs without entries to list i
pub odts_added : (d : List (List (List E))) (oc oc' ec ec' : List ℕ) (es : List E) (i k n : ℕ) → tree oc ec es ≡ d → IsFit oc ec es → i < length oc → k ≡ total (take i oc) + get_or oc i 0 → ec' ≡ spliced ec k (replicate n 0) → oc' ≡ slice_set oc i (get_or oc i 0 + n) → tree oc' ec' es ≡ slice_set d i (get_or d i [] ++ replicate n [])
odts_added d oc oc' ec ec' es i k n is t h f a b =
    let odts : List (List E) = parts ec es in
    let e1 : parts ec' es ≡ spliced odts k (replicate n []) = ap (λ (ns : List ℕ). parts ns es) a ∙ parts-blank ec es k n in
    ap (λ (xs : List (List E)). parts oc' xs) e1 ∙ ap (λ (ns : List ℕ). parts ns (spliced odts k (replicate n []))) b ∙ parts-grown oc odts (replicate n []) i k n h (fit_odts oc ec es t) (length-replicate n []) f ∙ ap (λ (u : List (List (List E))). slice_set u i (get_or u i [] ++ replicate n [])) is

-- pools that fit each other still do with n counts of 0 put in and the count of list i n greater
pub odts_added-fit : (oc oc' ec ec' : List ℕ) (es : List E) (i k n : ℕ) → IsFit oc ec es → i < length oc → ec' ≡ spliced ec k (replicate n 0) → oc' ≡ slice_set oc i (get_or oc i 0 + n) → IsFit oc' ec' es
odts_added-fit oc oc' ec ec' es i k n f h b a = record {
  cut = omega (arith, f.cut, ap total a, total-set oc i n h, ap length b, length-spliced ec (replicate n 0) k, length-replicate {A = ℕ} n 0);
  filled = omega (arith, f.filled, ap total b, total-spliced ec (replicate n 0) k, total-zeros n);
}

-- n unwritten entries put in behind those of an ODT, and its count n greater, add n entries to this ODT
pub entries_added : (d : List (List (List E))) (oc ec ec' : List ℕ) (es es' : List E) (i j g k n : ℕ) → tree oc ec es ≡ d → IsFit oc ec es → i < length oc → j < get_or oc i 0 → g ≡ total (take i oc) + j → g < length ec → k ≡ total (take g ec) + get_or ec g 0 → es' ≡ spliced es k (replicate n None) → ec' ≡ slice_set ec g (get_or ec g 0 + n) → tree oc ec' es' ≡ slice_set d i (slice_set (get_or d i []) j (get_or (get_or d i []) j [] ++ replicate n None))
entries_added d oc ec ec' es es' i j g k n is f hi hj hg lg hk a b =
    let odts : List (List E) = parts ec es in
    let t : total oc ≡ length odts = fit_odts oc ec es f in
    let new : List E = replicate n None in
    let e1 : parts ec' es' ≡ slice_set odts g (get_or odts g [] ++ new) = ap (λ (xs : List E). parts ec' xs) a ∙ ap (λ (ns : List ℕ). parts ns (spliced es k new)) b ∙ parts-grown ec es new g k n lg f.filled (length-replicate n None) hk in
    let e2 : get_or odts g [] ≡ get_or (get_or (parts oc odts) i []) j [] = sym (get-part oc odts i j g [] hi t hj hg) in
    ap (λ (xs : List (List E)). parts oc xs) e1
    ∙ parts-set oc odts i j g (get_or odts g [] ++ new) hi t hj hg
    ∙ ap (λ (xs : List E). slice_set (parts oc odts) i (slice_set (get_or (parts oc odts) i []) j (xs ++ new))) e2
    ∙ ap (λ (u : List (List (List E))). slice_set u i (slice_set (get_or u i []) j (get_or (get_or u i []) j [] ++ new))) is

-- pools that fit each other still do with n unwritten entries put in and the count of an ODT n greater
pub entries_added-fit : (oc ec ec' : List ℕ) (es es' : List E) (g k n : ℕ) → IsFit oc ec es → g < length ec → es' ≡ spliced es k (replicate n None) → ec' ≡ slice_set ec g (get_or ec g 0 + n) → IsFit oc ec' es'
entries_added-fit oc ec ec' es es' g k n f h b a = record {
  cut = omega (arith, f.cut, ap length a, length-set ec g (get_or ec g 0 + n));
  filled = omega (arith, f.filled, ap total a, total-set ec g n h, ap length b, length-spliced es (replicate n None) k, length-replicate {A = E} n None);
}

-- a write at an entry's place in the pool writes this entry of its ODT and its list, and no other
pub written : (d : List (List (List E))) (oc ec : List ℕ) (es es' : List E) (i j g k m : ℕ) (x : E) → tree oc ec es ≡ d → IsFit oc ec es → i < length oc → j < get_or oc i 0 → g ≡ total (take i oc) + j → g < length ec → k < get_or ec g 0 → m ≡ total (take g ec) + k → es' ≡ slice_set es m x → tree oc ec es' ≡ slice_set d i (slice_set (get_or d i []) j (slice_set (get_or (get_or d i []) j []) k x))
written d oc ec es es' i j g k m x is f hi hj hg lg hk hm a =
    let odts : List (List E) = parts ec es in
    let t : total oc ≡ length odts = fit_odts oc ec es f in
    let e1 : parts ec (slice_set es m x) ≡ slice_set odts g (slice_set (get_or odts g []) k x) = parts-set ec es g k m x lg f.filled hk hm in
    let e2 : get_or odts g [] ≡ get_or (get_or (parts oc odts) i []) j [] = sym (get-part oc odts i j g [] hi t hj hg) in
    ap (λ (xs : List E). parts oc (parts ec xs)) a
    ∙ ap (λ (xs : List (List E)). parts oc xs) e1
    ∙ parts-set oc odts i j g (slice_set (get_or odts g []) k x) hi t hj hg
    ∙ ap (λ (xs : List E). slice_set (parts oc odts) i (slice_set (get_or (parts oc odts) i []) j (slice_set xs k x))) e2
    ∙ ap (λ (u : List (List (List E))). slice_set u i (slice_set (get_or u i []) j (slice_set (get_or (get_or u i []) j []) k x))) is

module _ {A : Type 0} where
  -- what the parts from j on are
  pub parts_step : (ns : List ℕ) (xs : List A) (j at : ℕ) → j < length ns → parts (drop j ns) (drop at xs) ≡ take (get_or ns j 0) (drop at xs) ∷ parts (drop (j + 1) ns) (drop (at + get_or ns j 0) xs)
  parts_step ns xs j at h = rw (add-one, drop-cons ns j 0) (ap (λ ys. take (get_or ns j 0) (drop at xs) ∷ parts (drop (suc j) ns) ys) (drop-drop (get_or ns j 0) at xs))

-- one more ODT that isn't large
pub small_step : (greatest : ℕ) (ns : List ℕ) (es : List E) (j at : ℕ) → j < length ns → odt_size (take (get_or ns j 0) (drop at es)) ≤ greatest → any_large greatest (parts (drop j ns) (drop at es)) ≡ any_large greatest (parts (drop (j + 1) ns) (drop (at + get_or ns j 0) es))
small_step greatest ns es j at h k =
    let small : nat_lt greatest (odt_size (take (get_or ns j 0) (drop at es))) ≡ false = grind (arith, nat_tests) in
    let rest : Bool = any_large greatest (parts (drop (j + 1) ns) (drop (at + get_or ns j 0) es)) in
    ap (λ (ps : List (List E)). any_large greatest ps) (parts_step ns es j at h) ∙ ap (λ b. b || rest) small

-- counts behind others add up to no more than all
pub cut_short : (ns : List ℕ) (first n : ℕ) → total (take n (drop first ns)) + total (take first ns) ≤ total ns
cut_short ns first n = omega (arith, ap total (take-append-drop first ns), total-append (take first ns) (drop first ns), total-take (drop first ns) n)

-- more counts have no smaller sum
pub totals_order : (ns : List ℕ) (m n : ℕ) → m ≤ n → total (take m ns) ≤ total (take n ns)
totals_order ns m n h = let P : List ℕ → Type 0 = λ xs. total xs ≤ total (take n ns) in subst P (take-take m n ns h) (total-take (take n ns) m)

-- the ODTs of list i lose their entries' elements
pub unwritten : (d : List (List (List E))) (oc ec : List ℕ) (es es' : List E) (i first end from to : ℕ) → tree oc ec es ≡ d → IsFit oc ec es → i < length oc → first ≡ total (take i oc) → end ≡ total (take i oc) + get_or oc i 0 → from ≡ total (take first ec) → to ≡ total (take end ec) → es' ≡ take from es ++ replicate (to - from) None ++ drop to es → tree oc ec es' ≡ slice_set d i (map (map (λ entry. None)) (get_or d i []))
unwritten d oc ec es es' i first end from to is f h hf he hm ht a =
    let n : ℕ = get_or oc i 0 in
    let odts : List (List E) = parts ec es in
    let some : List ℕ = take n (drop first ec) in
    let back : List ℕ = drop end ec in
    let inside : first + n ≤ length ec = omega (arith, f.cut, end-le-total oc i) in
    let counts : ec ≡ take first ec ++ (some ++ back) = sym (take-append-drop first ec) ∙ ap (λ ns. take first ec ++ ns) (sym (take-append-drop n (drop first ec)) ∙ ap (λ ns. some ++ ns) (drop-drop n first ec ∙ ap (λ k. drop k ec) (omega arith))) in
    let upto : take end ec ≡ take first ec ++ some = ap (λ k. take k ec) (omega arith) ∙ take_two first n ec (omega arith) in
    let middle : to ≡ from + total some = ht ∙ ap total upto ∙ total-append (take first ec) some ∙ ap (λ k. k + total some) (sym hm) in
    let whole : from + total some + total back ≡ length es = omega (arith, ap total counts, total-append (take first ec) (some ++ back), total-append some back, f.filled) in
    let front_long : length (take from es) ≡ total (take first ec) = length-take-le from es (omega arith) ∙ hm in
    let xs : List E = take (total some) (drop from es) in
    let some_long : length xs ≡ total some = length-take-le (total some) (drop from es) (omega (arith, length-drop from es)) in
    let P : List (List E) = parts (take first ec) (take from es) in
    let Q : List (List E) = parts some xs in
    let R : List (List E) = parts back (drop to es) in
    let cut_of : (ys : List E) → length ys ≡ total some → parts ec (take from es ++ (ys ++ drop to es)) ≡ P ++ (parts some ys ++ R) = λ ys l. ap (λ ns. parts ns (take from es ++ (ys ++ drop to es))) counts ∙ parts-append (take first ec) (some ++ back) (take from es) (ys ++ drop to es) front_long ∙ ap (λ ps. P ++ ps) (parts-append some back ys (drop to es) l) in
    let old : es ≡ take from es ++ (xs ++ drop to es) = sym (take-append-drop from es) ∙ ap (λ ys. take from es ++ ys) (sym (take-append-drop (total some) (drop from es)) ∙ ap (λ ys. xs ++ ys) (drop-drop (total some) from es ∙ ap (λ k. drop k es) (sym middle))) in
    let odts_old : odts ≡ P ++ (Q ++ R) = ap (λ ys. parts ec ys) old ∙ cut_of xs some_long in
    let blank : List E = replicate (total some) None in
    let new : es' ≡ take from es ++ (blank ++ drop to es) = a ∙ append_assoc (take from es) (replicate (to - from) None) (drop to es) ∙ ap (λ k. take from es ++ (replicate k None ++ drop to es)) (omega arith) in
    let odts_new : parts ec es' ≡ P ++ (map (map (λ entry. None)) Q ++ R) = ap (λ ys. parts ec ys) new ∙ cut_of blank (length-replicate (total some) None) ∙ ap (λ ps. P ++ (ps ++ R)) (parts-blank_all some xs None some_long) in
    let some_count : length some ≡ n = length-take-le n (drop first ec) (omega (arith, length-drop first ec)) in
    let q_long : length Q ≡ n = length-parts some xs ∙ some_count in
    let p_long : length P ≡ total (take i oc) = length-parts (take first ec) (take from es) ∙ length-take-le first ec (omega arith) ∙ hf in
    let g : List (List E) → List (List E) = map (map (λ entry. None)) in
    let part : get_or (parts oc odts) i [] ≡ Q = ap (λ (ps : List (List E)). get_or (parts oc ps) i []) odts_old ∙ part_of oc P Q R i h p_long q_long in
    ap (λ (ps : List (List E)). parts oc ps) odts_new
    ∙ parts-replaced oc P Q (g Q) R i h p_long q_long (length-map Q (map (λ entry. None)) ∙ q_long)
    ∙ ap (λ (ps : List (List E)). slice_set (parts oc ps) i (g Q)) (sym odts_old)
    ∙ ap (λ (ps : List (List E)). slice_set (parts oc odts) i (g ps)) (sym part)
    ∙ ap (λ (t : List (List (List E))). slice_set t i (g (get_or t i []))) is

-- what is read of the pools, of the ODTs that they are
pub ruleset reads = (length-parts, length-part, get-part, joined-parts, parts-take, length-joined, get_or_default_zero, count-le-total, end-le-total)
