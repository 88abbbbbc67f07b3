-- Changes of one part of a list that was split, and of a page's whole content.
use Rattle.std.proofs.Common.{◌≡◌, ℕ, ◌-◌, ◌<◌, List, [], ◌∷◌, ◌++◌, length, get_or, slice_set, Bool, true, false, None, ap, sym, ◌∙◌, arith, refl}
use Rattle.std.specs.Prelude.{nat_le, not, ◌==◌}
use Rattle.std.proofs.lemmas.List.{set-append_left, set-append_right, get_or_append_left, get_or-append_right, get_or_default, length-set}
use Rattle.std.proofs.lemmas.Bool.Decides.{nat_tests}
use Rattle.xcp_memory.specs.PageCopy.{with_content, content, copy_refusal, pages_copied, lacks_segment}
use Rattle.xcp_packet.specs.Rows.{first_holding}
use Rattle.xcp_memory.specs.PageSwitch.{lacks_page}
use Rattle.xcp_packet.specs.declared.Code.{Code}
use Rattle.xcp_packet.specs.declared.Code.TheVariants.{SegmentNotValid, PageNotValid, WriteProtected, OutOfRange}
use Rattle.xcp_memory.specs.Layout.{SegmentValue}
use Rattle.xcp_memory.specs.Pages.{SegmentPages, PagesValue, IsSegment, IsPages, segment_at, no_segment}
use Rattle.xcp_memory.proofs.PageSwitchLemmas.{is_pages-set}
use Rattle.std.proofs.lemmas.List.Elements.{All-get_or, All-set}

none_left : (n : ℕ) → n - n ≡ 0
none_left n = omega arith

-- a list of which the first element behind a split is changed
pub changed_behind : {X : Type 0} (front back xs : List X) (n : ℕ) (y : X) → xs ≡ front ++ back → length front ≡ n → front ++ slice_set back 0 y ≡ slice_set xs n y
changed_behind {X} front back xs n y e h =
    sym (ap (λ (zs : List X). slice_set zs n y) e ∙ set-append_right front back n n y h (omega arith) ∙ ap (λ (k : ℕ). front ++ slice_set back k y) (none_left n))

-- a list of which an element before a split is changed
pub changed_before : {X : Type 0} (front back xs : List X) (i : ℕ) (y : X) → xs ≡ front ++ back → i < length front → slice_set front i y ++ back ≡ slice_set xs i y
changed_before {X} front back xs i y e h = sym (ap (λ (zs : List X). slice_set zs i y) e ∙ set-append_left front back i y h)

-- the first element behind a split
pub read_behind : {X : Type 0} (front back xs : List X) (n : ℕ) (d : X) → xs ≡ front ++ back → length front ≡ n → get_or back 0 d ≡ get_or xs n d
read_behind {X} front back xs n d e h =
    sym (ap (λ (zs : List X). get_or zs n d) e ∙ get_or-append_right front back n n d h (omega arith) ∙ ap (λ (k : ℕ). get_or back k d) (none_left n))

-- an element before a split
pub read_before : {X : Type 0} (front back xs : List X) (i : ℕ) (d : X) → xs ≡ front ++ back → i < length front → get_or front i d ≡ get_or xs i d
read_before {X} front back xs i d e h = sym (ap (λ (zs : List X). get_or zs i d) e ∙ get_or_append_left front back d i h)

-- the same of what was read, by any default
pub first_behind : {X : Type 0} (front back xs : List X) (n : ℕ) (y d : X) → xs ≡ front ++ back → length front ≡ n → n < length xs → y ≡ get_or back 0 y → y ≡ get_or xs n d
first_behind {X} front back xs n y d e h k is = is ∙ read_behind front back xs n y e h ∙ get_or_default xs n y d k

-- an element read before a split is that of the whole list, by any default
pub one_before : {X : Type 0} (front back xs : List X) (i : ℕ) (y d : X) → xs ≡ front ++ back → i < length front → y ≡ get_or front i y → y ≡ get_or xs i d
one_before {X} front back xs i y d e h is = is ∙ get_or_default front i y d h ∙ read_before front back xs i d e h

-- a segment of which one page has as many other bytes
pub is_segment-filled : (segment : SegmentValue) (s : SegmentPages) (page : ℕ) (bytes : List ℕ) → IsSegment segment s → page < length s.pages → length bytes ≡ length (get_or s.pages page []) → IsSegment segment (with_content s page bytes)
is_segment-filled segment s page bytes h k l =
    let IsSized : List ℕ → Type 0 = λ p. length p ≡ length segment.bytes in
    let old = All-get_or IsSized s.pages page [] k h.sized in
    let same : length (slice_set s.pages page bytes) ≡ length s.pages = length-set s.pages page bytes in
    record {
      count = same ∙ h.count;
      sized = All-set IsSized s.pages page bytes (l ∙ old) h.sized;
      ecu = omega (arith, h.ecu);
      xcp = omega (arith, h.xcp);
    }

-- no test of a list without a refusal holds
pub first_passes : (a : Bool) (x : Code) (rows : List (Bool × Code)) → first_holding ((a, x) ∷ rows) ≡ None → (a ≡ false) × (first_holding rows ≡ None)
first_passes false x rows h = (refl, h)
first_passes true x rows h = cc

below : (n i : ℕ) → nat_le n i ≡ false → i < n
below n i h = grind (arith, nat_tests, h)

equal : (n m : ℕ) → not (n == m) ≡ false → n ≡ m
equal n m h = grind (arith, nat_tests, h)

six_pass : (a b c d e f : Bool) → first_holding ((a, SegmentNotValid) ∷ (b, PageNotValid) ∷ (c, SegmentNotValid) ∷ (d, PageNotValid) ∷ (e, WriteProtected) ∷ (f, OutOfRange) ∷ []) ≡ None → (c ≡ false) × (d ≡ false) × (f ≡ false)
six_pass a b c d e f h =
    let last : List (Bool × Code) = (e, WriteProtected) ∷ (f, OutOfRange) ∷ [] in
    let target : List (Bool × Code) = (c, SegmentNotValid) ∷ (d, PageNotValid) ∷ last in
    let i = first_passes b PageNotValid target (first_passes a SegmentNotValid ((b, PageNotValid) ∷ target) h).1 in
    let j = first_passes c SegmentNotValid ((d, PageNotValid) ∷ last) i.1 in
    let k = first_passes d PageNotValid last j.1 in
    let l = first_passes e WriteProtected ((f, OutOfRange) ∷ []) k.1 in
    (j.0, k.0, (first_passes f OutOfRange [] l.1).0)

-- what is known where a copy isn't refused
copy_tests : (source source_page target target_page : ℕ) (v : PagesValue) → copy_refusal source source_page target target_page v ≡ None → (target < length v.segments) × (target_page < length (segment_at v target).pages) × (length (content v source source_page) ≡ length (content v target target_page))
copy_tests source source_page target target_page v r =
    let t = six_pass (lacks_segment source v) (lacks_page source_page (segment_at v source)) (lacks_segment target v) (lacks_page target_page (segment_at v target)) (target_page == 0) (not (length (content v source source_page) == length (content v target target_page))) r in
    (below _ _ t.0, below _ _ t.1, equal _ _ t.2)

-- the pages after another page was copied into one of a segment's
pub is_pages-copied : (v : PagesValue) (source source_page target target_page : ℕ) → IsPages v → copy_refusal source source_page target target_page v ≡ None → IsPages (pages_copied source source_page target target_page v)
is_pages-copied v source source_page target target_page h r =
    let t = copy_tests source source_page target target_page v r in
    is_pages-set v target (with_content (segment_at v target) target_page (content v source source_page)) h t.0
    (is_segment-filled (get_or v.layout.segments target no_segment) (segment_at v target) target_page (content v source source_page) (h.each target t.0) t.1 t.2)
