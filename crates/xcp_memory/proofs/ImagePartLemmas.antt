-- A part of the controller's image, page by page.
use Rattle.std.proofs.Common.{◌≡◌, ◌≢◌, ℕ, zero, suc, ◌+◌, ◌-◌, ◌≤◌, Bool, List, [], ◌∷◌, ◌++◌, length, take, drop, get_or, replicate, ap, sym, ◌∙◌, refl, subst, arith, length-append, append-nil}
use Rattle.std.specs.Prelude.{min, MatchBool}
use Rattle.std.proofs.lemmas.List.{take-append-drop, take_min, drop_min, length-take-le, length-drop, take-replicate, drop-replicate, append_cancel_left}
use Rattle.std.proofs.Math.ListN.{drop_of_length-le}
use borrow.Rule.Slice.PartMut.{put_mid}

-- the n bytes from a place on
abbrev pub cut : ℕ → ℕ → List ℕ → List ℕ
cut at n xs = take n (drop at xs)

-- nothing is cut off nothing
cut-none : (at n : ℕ) → cut at n [] ≡ []
cut-none zero zero = refl
cut-none zero (suc n) = refl
cut-none (suc at) zero = refl
cut-none (suc at) (suc n) = refl

-- with one more list behind: what is left of the part is cut off it
pub cut-append : (at n : ℕ) (xs ys : List ℕ) (i k : ℕ) → i ≡ at - length xs → k ≡ n - (length xs - at) → cut at n (xs ++ ys) ≡ cut at n xs ++ cut i k ys
cut-append at n [] ys i k p q =
    let start : i ≡ at = omega (arith, p) in
    let count : k ≡ n = omega (arith, q) in
    sym (ap (λ zs. zs ++ cut i k ys) (cut-none at n) ∙ ap (λ j. cut j k ys) start ∙ ap (λ j. cut at j ys) count)
cut-append zero zero (x ∷ xs) ys i k p q =
    let count : k ≡ zero = omega (arith, q) in
    sym (ap (λ j. cut i j ys) count)
cut-append zero (suc n) (x ∷ xs) ys i k p q = ap (λ zs. x ∷ zs) (cut-append zero n xs ys i k (omega (arith, p)) (omega (arith, q)))
cut-append (suc at) n (x ∷ xs) ys i k p q = cut-append at n xs ys i k (omega (arith, p)) (omega (arith, q))

-- what is known of a part while its pages are laid: how many of its bytes stand there, and how many bytes of the next pages stand before it
pub record IsLaid (at n : ℕ) (front : List ℕ) (before done : ℕ) (old out : List ℕ) : Type 0 where
  pub before_is : before ≡ at - length front
  pub done_is : done ≡ min n (length front - at)
  pub long : length out ≡ n
  pub laid : take done out ≡ cut at n front
  pub rest : drop done out ≡ drop done old
  pub old_long : length old ≡ n

-- before the first page
pub laid-first : (at n : ℕ) (old : List ℕ) → length old ≡ n → IsLaid at n [] at 0 old old
laid-first at n old h = record { before_is = omega arith; done_is = omega arith; long = h; laid = sym (cut-none at n); rest = refl; old_long = h }

-- one more page
pub laid-next : (at n : ℕ) (front page : List ℕ) (before done skipped k : ℕ) (old out sub new : List ℕ) → IsLaid at n front before done old out → skipped ≡ min before (length page) → k ≡ min (length (drop skipped page)) (length (drop done out)) → new ≡ take k (drop skipped page) ++ drop k (drop done out) → sub ≡ take done out ++ new → IsLaid at n (front ++ page) (before - skipped) (done + k) old sub
laid-next at n front page before done skipped k old out sub new h s m p q =
    let few : done ≤ length out = omega (arith, h.done_is, h.long) in
    let front_long : length (take done out) ≡ done = length-take-le done out few in
    let page_rest : length (drop skipped page) ≡ length page - skipped = length-drop skipped page in
    let out_rest : length (drop done out) ≡ length out - done = length-drop done out in
    let k_page : k ≤ length (drop skipped page) = omega (arith, m) in
    let k_out : k ≤ length (drop done out) = omega (arith, m) in
    let piece : List ℕ = take k (drop skipped page) in
    let piece_long : length piece ≡ k = length-take-le k (drop skipped page) k_page in
    let both : length (front ++ page) ≡ length front + length page = length-append front page in
    let whole : sub ≡ (take done out ++ piece) ++ drop k (drop done out) = q ∙ ap (λ zs. take done out ++ zs) p ∙ sym (assoc (take done out) piece (drop k (drop done out))) in
    let ahead : length (take done out ++ piece) ≡ done + k = length-append (take done out) piece ∙ omega (arith, front_long, piece_long) in
    let laid_here : take (done + k) sub ≡ take done out ++ piece = ap (take (done + k)) whole ∙ seam (done + k) (take done out ++ piece) (drop k (drop done out)) ahead in
    let room : n - (length front - at) ≡ length (drop done out) = omega (arith, out_rest, h.done_is, h.long) in
    let cut_here : cut (at - length front) (n - (length front - at)) page ≡ piece =
    ap (λ j. take (n - (length front - at)) (drop j page)) (sym h.before_is)
    ∙ ap (take (n - (length front - at))) (sym (ap (λ j. drop j page) s ∙ drop_min before page))
    ∙ sym (take_min (n - (length front - at)) (drop skipped page))
    ∙ ap (λ j. take j (drop skipped page)) (omega (arith, m, room)) in
    record {
      before_is = omega (arith, both, h.before_is, s);
      done_is = omega (arith, both, h.done_is, h.before_is, s, m, page_rest, out_rest, h.long);
      long = ap length whole ∙ length-append (take done out ++ piece) (drop k (drop done out)) ∙ omega (arith, ahead, length-drop k (drop done out), out_rest, k_out, few, h.long);
      laid = laid_here ∙ ap (λ zs. zs ++ piece) h.laid ∙ ap (λ zs. cut at n front ++ zs) (sym cut_here) ∙ sym (cut-append at n front page (at - length front) (n - (length front - at)) refl refl);
      rest = ap (drop (done + k)) whole ∙ behind (done + k) (take done out ++ piece) (drop k (drop done out)) ahead ∙ ap (drop k) h.rest ∙ twice done k old;
      old_long = h.old_long;
    }
  where
    assoc : (xs ys zs : List ℕ) → (xs ++ ys) ++ zs ≡ xs ++ (ys ++ zs)
    assoc [] ys zs = refl
    assoc (x ∷ xs) ys zs = ap (λ ws. x ∷ ws) (assoc xs ys zs)

    seam : (j : ℕ) (xs ys : List ℕ) → length xs ≡ j → take j (xs ++ ys) ≡ xs
    seam zero [] ys e = refl
    seam (suc j) [] ys e = cc
    seam zero (x ∷ xs) ys e = cc
    seam (suc j) (x ∷ xs) ys e = ap (λ ws. x ∷ ws) (seam j xs ys (omega (arith, e)))

    behind : (j : ℕ) (xs ys : List ℕ) → length xs ≡ j → drop j (xs ++ ys) ≡ ys
    behind zero [] ys e = refl
    behind (suc j) [] ys e = cc
    behind zero (x ∷ xs) ys e = cc
    behind (suc j) (x ∷ xs) ys e = behind j xs ys (omega (arith, e))

    nothing : (j : ℕ) → drop {A = ℕ} j [] ≡ []
    nothing zero = refl
    nothing (suc j) = refl

    twice : (i j : ℕ) (xs : List ℕ) → drop j (drop i xs) ≡ drop (i + j) xs
    twice zero j xs = let same : j ≡ zero + j = omega arith in ap (λ z. drop z xs) same
    twice (suc i) zero [] = sym (nothing (suc i + zero))
    twice (suc i) (suc j) [] = sym (nothing (suc i + suc j))
    twice (suc i) j (x ∷ xs) = let same : suc (i + j) ≡ suc i + j = omega arith in twice i j xs ∙ ap (λ z. drop z (x ∷ xs)) same

-- the zeros behind the last page
pub laid-last : (at n size : ℕ) (front : List ℕ) (before done : ℕ) (old out sub zeros : List ℕ) → IsLaid at n front before done old out → at + n ≤ length front + size → zeros ≡ replicate (length (drop done out)) 0 → sub ≡ take done out ++ zeros → sub ≡ cut at n (front ++ replicate size 0)
laid-last at n size front before done old out sub zeros h room z q =
    let out_rest : length (drop done out) ≡ length out - done = length-drop done out in
    let left : n - (length front - at) ≡ length (drop done out) = omega (arith, out_rest, h.done_is, h.long) in
    let inside : n - (length front - at) ≤ size - (at - length front) = omega (arith, room) in
    let cut_here : cut (at - length front) (n - (length front - at)) (replicate size 0) ≡ zeros =
    ap (take (n - (length front - at))) (drop-replicate (at - length front) size 0)
    ∙ take-replicate (n - (length front - at)) (size - (at - length front)) 0 inside
    ∙ ap (λ j. replicate j 0) left
    ∙ sym z in
    q ∙ ap (λ zs. zs ++ zeros) h.laid ∙ ap (λ zs. cut at n front ++ zs) (sym cut_here) ∙ sym (cut-append at n front (replicate size 0) (at - length front) (n - (length front - at)) refl refl)

-- bytes are the same up to a place
same-front : (xs ys new : List ℕ) (i : ℕ) → take i xs ++ new ≡ ys → i ≤ length xs → take i ys ≡ take i xs
same-front xs ys new zero e h = refl
same-front [] ys new (suc i) e h = absurd (omega arith)
same-front (x ∷ xs) [] new (suc i) e h = cc
same-front (x ∷ xs) (y ∷ ys) new (suc i) e h =
    let head : x ≡ y = ap (λ zs. get_or zs 0 x) e in
    let tail : take i xs ++ new ≡ ys = ap (drop 1) e in
    ap (λ z. z ∷ take i ys) (sym head) ∙ ap (λ zs. x ∷ zs) (same-front xs ys new i tail (omega (arith, h)))

-- whether the whole is another one, once bytes behind a place were replaced: the old bytes there stood there before
pub differs-more : (old out sub new : List ℕ) (i : ℕ) (differs : Bool) → MatchBool differs (out ≢ old) (out ≡ old) → i ≤ length out → drop i out ≡ drop i old → sub ≡ take i out ++ new → (new ≢ drop i out → sub ≢ old) × (new ≡ drop i out → MatchBool differs (sub ≢ old) (sub ≡ old))
differs-more old out sub new i differs d few rest q = (
  λ other same. other (append_cancel_left (take i out) new (drop i out) (sym q ∙ same ∙ sym (take-append-drop i old) ∙ ap (λ zs. zs ++ drop i old) (same-front out old new i (sym q ∙ same) few) ∙ ap (λ zs. take i out ++ zs) (sym rest))),
  λ e. let kept : sub ≡ out = q ∙ ap (λ zs. take i out ++ zs) e ∙ take-append-drop i out in
      subst (λ zs. MatchBool differs (zs ≢ old) (zs ≡ old)) (sym kept) d,
)

-- the rest of a list, and what is put in its place
pub rest_put : (i : ℕ) (xs new : List ℕ) → i ≤ length xs → length new ≡ length xs - i → put_mid i (length xs - i) xs new ≡ take i xs ++ new
rest_put i xs new h e =
    let nothing : drop (length xs - i) (drop i xs) ≡ [] = drop_of_length-le (drop i xs) (omega (arith, length-drop i xs)) in
    ap (λ zs. take i xs ++ (new ++ zs)) nothing ∙ ap (λ zs. take i xs ++ zs) (append-nil new)
