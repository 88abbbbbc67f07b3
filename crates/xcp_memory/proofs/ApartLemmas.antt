-- Areas that share no address.
use Rattle.std.proofs.Common.{◌≡◌, ℕ, ◌+◌, ◌<◌, true, false, List, [], length, map, ◌∷◌, ◌++◌, take, drop, Some, None, sym, ◌∙◌, ap, arith, add-one, get_or, if◌then◌else◌, suc, ◌-◌, length-drop}
use Rattle.std.proofs.lemmas.List.{take_all, take_more, length-take-le}
use Rattle.std.proofs.Math.Seq.{drop-cons}
use Rattle.xcp_memory.specs.declared.key.LayoutFault.{LayoutFault}
use Rattle.std.specs.List.{enumerate_from}
use Rattle.xcp_memory.specs.Layout.{SegmentValue}
use Rattle.xcp_memory.specs.LayoutParts.{Placed, placed_segment}
use Rattle.xcp_packet.specs.Rows.{first_holding}
use Rattle.xcp_memory.specs.Limits.{apart_limit, apart_limits}
use Rattle.xcp_packet.proofs.RowTestLemmas.{holding_left, none_left}

-- a list from one of its elements on
pub drop_here : {A : Type 0} (xs : List A) (i : ℕ) (x : A) → i < length xs → x ≡ get_or xs i x → drop i xs ≡ x ∷ drop (i + 1) xs
drop_here xs i x h e = drop-cons xs i x h ∙ ap (λ y. y ∷ drop (suc i) xs) (sym e) ∙ ap (λ n. x ∷ drop n xs) (sym (add-one i))

-- one more pair that is apart
pub pair_kept : (a : Placed) (xs : List Placed) (i : ℕ) (x : Placed) → i < length xs → x ≡ get_or xs i x → (apart_limit a x).0 ≡ false → first_holding (map (apart_limit a) (drop i xs)) ≡ first_holding (map (apart_limit a) (drop (i + 1) xs))
pair_kept a xs i x h e k =
    ap (λ ys. first_holding (map (apart_limit a) ys)) (drop_here xs i x h e)
    ∙ ap (λ b. if b then Some (apart_limit a x).1 else first_holding (map (apart_limit a) (drop (i + 1) xs))) k

-- a pair that isn't
pub pair_broken : (a : Placed) (xs : List Placed) (i : ℕ) (x : Placed) → i < length xs → x ≡ get_or xs i x → (apart_limit a x).0 ≡ true → first_holding (map (apart_limit a) (drop i xs)) ≡ Some (apart_limit a x).1
pair_broken a xs i x h e k =
    ap (λ ys. first_holding (map (apart_limit a) ys)) (drop_here xs i x h e)
    ∙ ap (λ b. if b then Some (apart_limit a x).1 else first_holding (map (apart_limit a) (drop (i + 1) xs))) k

-- one more area that is apart from those behind it
pub area_kept : (xs : List Placed) (i : ℕ) (x : Placed) → i < length xs → x ≡ get_or xs i x → first_holding (map (apart_limit x) (drop (i + 1) xs)) ≡ None → first_holding (apart_limits (drop i xs)) ≡ first_holding (apart_limits (drop (i + 1) xs))
area_kept xs i x h e k =
    ap (λ ys. first_holding (apart_limits ys)) (drop_here xs i x h e)
    ∙ none_left (map (apart_limit x) (drop (i + 1) xs)) (apart_limits (drop (i + 1) xs)) k

-- an area that isn't
pub area_broken : (xs : List Placed) (i : ℕ) (x : Placed) (f : LayoutFault) → i < length xs → x ≡ get_or xs i x → first_holding (map (apart_limit x) (drop (i + 1) xs)) ≡ Some f → first_holding (apart_limits (drop i xs)) ≡ Some f
area_broken xs i x f h e k =
    ap (λ ys. first_holding (apart_limits ys)) (drop_here xs i x h e)
    ∙ holding_left (map (apart_limit x) (drop (i + 1) xs)) (apart_limits (drop (i + 1) xs)) f k

-- a slice from one of its places to its end
pub slice_rest : {A : Type 0} (xs : List A) (n : ℕ) → take (length xs - n) (drop n xs) ≡ drop n xs
slice_rest xs n = let e = length-drop n xs in take_all (length xs - n) (drop n xs) (omega arith)

-- one more segment, by its number
pub placed_more : (ss : List SegmentValue) (i : ℕ) (s : SegmentValue) → i < length ss → s ≡ get_or ss i s → map placed_segment (enumerate_from 0 (take (i + 1) ss)) ≡ map placed_segment (enumerate_from 0 (take i ss)) ++ placed_segment (i, s) ∷ []
placed_more ss i s h e =
    ap (λ (xs : List SegmentValue). map placed_segment (enumerate_from 0 xs)) (take_more ss i s h)
    ∙ from 0 (take i ss) (get_or ss i s)
    ∙ ap (λ (x : SegmentValue). map placed_segment (enumerate_from 0 (take i ss)) ++ placed_segment (0 + length (take i ss), x) ∷ []) (sym e)
    ∙ ap (λ (n : ℕ). map placed_segment (enumerate_from 0 (take i ss)) ++ placed_segment (n, s) ∷ []) (omega (arith, length-take-le i ss (omega (arith, h))))
  where
    from : (n : ℕ) (xs : List SegmentValue) (x : SegmentValue) → map placed_segment (enumerate_from n (xs ++ x ∷ [])) ≡ map placed_segment (enumerate_from n xs) ++ placed_segment (n + length xs, x) ∷ []
    from n [] x = let here : n ≡ n + length {A = SegmentValue} [] = omega arith in ap (λ (k : ℕ). placed_segment (k, x) ∷ []) here
    from n (y ∷ xs) x =
        let later : n + 1 + length xs ≡ n + length (y ∷ xs) = omega arith in
        ap (λ (ps : List Placed). placed_segment (n, y) ∷ ps) (from (n + 1) xs x ∙ ap (λ (k : ℕ). map placed_segment (enumerate_from (n + 1) xs) ++ placed_segment (k, x) ∷ []) later)
