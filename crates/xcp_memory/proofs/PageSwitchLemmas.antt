-- Modes, refusals and effects of switches.
use Rattle.std.proofs.Common.{◌≡◌, ℕ, ◌+◌, ◌<◌, ◌⊎◌, inl, inr, Bool, true, false, ◌&&◌, ◌||◌, List, [], ◌∷◌, ◌++◌, length, map, take, drop, get_or, slice_set, eq-eqb, None, ap, sym, ◌∙◌, arith, refl, bit_and, append_assoc, subst}
use Rattle.std.proofs.lemmas.Bool.{ne_eqb, cases_eq}
use Rattle.std.proofs.lemmas.Bool.Decides.{nat_tests}
use Rattle.std.proofs.lemmas.List.{length-take-le, drop_more, map_more, length-map, get_or-map, length-set}
use Rattle.std.proofs.Math.Seq.{set-append_seam, get_or-append_seam}
use Rattle.std.proofs.lemmas.List.{get_or-set_same, get_or-set_other}
use Rattle.std.proofs.lemmas.List.Folds.{list_any_at}
use Rattle.std.specs.List.{list_any}
use Rattle.std.specs.Prelude.{if◌then◌else◌, not}
use Rattle.xcp_memory.specs.Layout.{SegmentValue}
use Rattle.xcp_memory.specs.Pages.{PagesValue, SegmentPages, IsSegment, IsPages, segment_at, no_segment, no_pages}
use Rattle.xcp_packet.specs.declared.Code.{Code}
use Rattle.xcp_packet.specs.declared.Code.TheVariants.{ModeNotValid, SegmentNotValid, PageNotValid}
use Rattle.xcp_packet.specs.Rows.{first_holding}
use Rattle.xcp_memory.specs.PageSwitch.{is_switch_mode, gives_ecu, gives_xcp, is_of_all, names_none, lacks_page, concerned, switch_refusal, segment_switched}

-- a mode with another bit is none
pub unknown_bits : (bits : ℕ) → (bit_and bits 0x83 ≡ bits → ⊥) → is_switch_mode bits ≡ false
unknown_bits bits h = ap (λ b. b && (gives_ecu bits || gives_xcp bits)) (ne_eqb _ _ h)

either_holds : (a b : Bool) → (a ≡ true) ⊎ (b ≡ true) → (a || b) ≡ true
either_holds true b h = refl
either_holds false true h = refl
either_holds false false (inl h) = h
either_holds false false (inr h) = h

-- a mode with none but known bits, which names a side, is one
pub known_mode : (bits mode : ℕ) → bit_and bits 0x83 ≡ bits → mode ≡ bits → (gives_ecu mode ≡ true) ⊎ (gives_xcp mode ≡ true) → is_switch_mode bits ≡ true
known_mode bits mode known same side =
    ap (λ b. b && (gives_ecu bits || gives_xcp bits)) (eq-eqb _ _ known) ∙ ap (λ m. gives_ecu m || gives_xcp m) (sym same) ∙ either_holds (gives_ecu mode) (gives_xcp mode) side

-- a loop that changes each element has come one further
pub mapped_more : {X : Type 0} (f : X → X) (xs ys : List X) (i : ℕ) (d y : X) → i < length xs → ys ≡ map f (take i xs) ++ drop i xs → y ≡ f (get_or ys i d) → slice_set ys i y ≡ map f (take (i + 1) xs) ++ drop (i + 1) xs
mapped_more {X} f xs ys i d y h so_far new =
    let before : length (map f (take i xs)) ≡ i = length-map (take i xs) f ∙ length-take-le i xs (omega arith) in
    let split : ys ≡ map f (take i xs) ++ get_or xs i d ∷ drop (i + 1) xs = so_far ∙ ap (λ (zs : List X). map f (take i xs) ++ zs) (drop_more xs i d h) in
    let old : get_or ys i d ≡ get_or xs i d = ap (λ (zs : List X). get_or zs i d) split ∙ ap (λ (n : ℕ). get_or (map f (take i xs) ++ get_or xs i d ∷ drop (i + 1) xs) n d) (sym before) ∙ get_or-append_seam (map f (take i xs)) (get_or xs i d) (drop (i + 1) xs) d in
    ap (λ (zs : List X). slice_set zs i y) split
    ∙ ap (λ (n : ℕ). slice_set (map f (take i xs) ++ get_or xs i d ∷ drop (i + 1) xs) n y) (sym before)
    ∙ set-append_seam (map f (take i xs)) (get_or xs i d) (drop (i + 1) xs) y
    ∙ ap (λ (z : X). map f (take i xs) ++ z ∷ drop (i + 1) xs) (new ∙ ap f old)
    ∙ sym (append_assoc (map f (take i xs)) (f (get_or xs i d) ∷ []) (drop (i + 1) xs))
    ∙ ap (λ (zs : List X). zs ++ drop (i + 1) xs) (sym (map_more f xs i d h))

-- nothing is refused exactly where no test holds
no_refusal : (a b c : Bool) (x y z : Code) → a ≡ false → b ≡ false → c ≡ false → first_holding ((a, x) ∷ (b, y) ∷ (c, z) ∷ []) ≡ None
no_refusal false false false x y z h k l = refl
no_refusal false false true x y z h k l = cc
no_refusal false true c x y z h k l = cc
no_refusal true b c x y z h k l = cc

none_holds : (a b c : Bool) (x y z : Code) → first_holding ((a, x) ∷ (b, y) ∷ (c, z) ∷ []) ≡ None → (a ≡ false) × (b ≡ false) × (c ≡ false)
none_holds false false false x y z h = (refl, refl, refl)
none_holds false false true x y z h = cc
none_holds false true c x y z h = cc
none_holds true b c x y z h = cc

-- a switch isn't refused if its mode is valid and the segments concerned are there and have the page
pub switch_allowed : (v : PagesValue) (mode segment page : ℕ) → is_switch_mode mode ≡ true → names_none mode segment v ≡ false → list_any (lacks_page page) (concerned mode segment v) ≡ false → switch_refusal mode segment page v ≡ None
switch_allowed v mode segment page h k l =
    no_refusal (not (is_switch_mode mode)) (names_none mode segment v) (list_any (lacks_page page) (concerned mode segment v)) ModeNotValid SegmentNotValid PageNotValid (ap not h) k l

switch_tests : (v : PagesValue) (mode segment page : ℕ) → switch_refusal mode segment page v ≡ None → (not (is_switch_mode mode) ≡ false) × (names_none mode segment v ≡ false) × (list_any (lacks_page page) (concerned mode segment v) ≡ false)
switch_tests v mode segment page h =
    none_holds (not (is_switch_mode mode)) (names_none mode segment v) (list_any (lacks_page page) (concerned mode segment v)) ModeNotValid SegmentNotValid PageNotValid h

-- no element passes a test that none passes
pub none_passes : {X : Type 0} (p : X → Bool) (xs : List X) (i : ℕ) (d : X) → list_any p xs ≡ false → i < length xs → p (get_or xs i d) ≡ false
none_passes {X} p xs i d h k =
    let at = list_any_at p xs i d k in
    let decide : (b : Bool) → (b ≡ true → list_any p xs ≡ true) → b ≡ false = λ b. elim b as (λ b. (b ≡ true → list_any p xs ≡ true) → b ≡ false) [ true ↦ (λ g. sym (g refl) ∙ h) | false ↦ (λ g. refl) ] in
    decide (p (get_or xs i d)) at

either_below : (b : Bool) (x y n : ℕ) → x < n → y < n → (if b then x else y) < n
either_below true x y n h k = h
either_below false x y n h k = k

is_segment-switched : (mode page : ℕ) (segment : SegmentValue) (s : SegmentPages) → IsSegment segment s → page < length s.pages → IsSegment segment (segment_switched mode page s)
is_segment-switched mode page segment s h k = record {
  count = h.count;
  sized = h.sized;
  ecu = either_below (gives_ecu mode) page s.ecu (length s.pages) k h.ecu;
  xcp = either_below (gives_xcp mode) page s.xcp (length s.pages) k h.xcp;
}

-- the pages after a change of one segment
pub is_pages-set : (v : PagesValue) (i : ℕ) (s : SegmentPages) → IsPages v → i < length v.segments → IsSegment (get_or v.layout.segments i no_segment) s → IsPages (record v { segments = slice_set v.segments i s })
is_pages-set v i s h k f =
    let same = length-set v.segments i s in
    record {
      count = same ∙ h.count;
      each = λ j l.
          elim (cases_eq j i) [
            | inl e ↦ subst (λ t. IsSegment (get_or v.layout.segments j no_segment) t) (sym (ap (λ n. get_or (slice_set v.segments i s) n no_pages) e ∙ get_or-set_same v.segments i s no_pages k)) (subst (λ n. IsSegment (get_or v.layout.segments n no_segment) s) (sym e) f)
            | inr e ↦ subst (λ t. IsSegment (get_or v.layout.segments j no_segment) t) (sym (get_or-set_other v.segments i j s no_pages e)) (h.each j (omega arith))
          ];
      signals = h.signals;
    }

-- the pages after a change of each segment
pub is_pages-map : (v : PagesValue) (f : SegmentPages → SegmentPages) → IsPages v → ((i : ℕ) (segment : SegmentValue) → i < length v.segments → IsSegment segment (segment_at v i) → IsSegment segment (f (segment_at v i))) → IsPages (record v { segments = map f v.segments })
is_pages-map v f h g =
    let same = length-map v.segments f in
    record {
      count = same ∙ h.count;
      each = λ j l.
          (let short : j < length v.segments = omega arith in
          subst (λ s. IsSegment (get_or v.layout.segments j no_segment) s) (sym (get_or-map f v.segments j no_pages no_pages short)) (g j _ short (h.each j short)));
      signals = h.signals;
    }

has_page : (page : ℕ) (s : SegmentPages) → lacks_page page s ≡ false → page < length s.pages
has_page page s h = grind (arith, nat_tests, h)

-- the pages after a switch in all segments
pub is_pages-switched_all : (v : PagesValue) (mode segment page : ℕ) → IsPages v → switch_refusal mode segment page v ≡ None → is_of_all mode ≡ true → IsPages (record v { segments = map (segment_switched mode page) v.segments })
is_pages-switched_all v mode segment page h r all =
    let tests = switch_tests v mode segment page r in
    let none : list_any (lacks_page page) v.segments ≡ false = ap (λ b. list_any (lacks_page page) (if b then v.segments else segment_at v segment ∷ [])) (sym all) ∙ tests.2 in
    is_pages-map v (segment_switched mode page) h (λ i segment k f. is_segment-switched mode page segment (segment_at v i) f (has_page page (segment_at v i) (none_passes (lacks_page page) v.segments i no_pages none k)))
