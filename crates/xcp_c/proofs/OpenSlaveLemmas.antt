-- The pages that are kept beside a slave have its segments' sizes, and so their file has its room, and no more bytes than its class has.
use Rattle.std.proofs.Common.{◌≡◌, ◌∙◌, ◌+◌, ◌*◌, ◌≤◌, ℕ, List, [], ◌∷◌, length, map, sum_by, arith, refl, sym, subst}
use Rattle.std.proofs.lemmas.List.Sums.{sum_by-cons}
use Rattle.xcp_flash.specs.FlashFile.{file_size, pages_size}
use Rattle.xcp_flash.specs.References.{AreReferences}
use Rattle.xcp_memory.specs.ClassLimits.{limits_of}
use Rattle.xcp_memory.specs.declared.class.Class.{Class}
use Rattle.xcp_memory.specs.declared.class.Class.TheVariants.{Papers, Large}
use Rattle.xcp_memory.specs.Layout.{IsLayout, LayoutValue, SegmentValue}
use Rattle.xcp_slave.specs.SlaveValue.{SlaveValue, layout_of}
use Rattle.xcp_slave.specs.Step.{Answers}
use Rattle.xcp_slave.specs.Outcomes.{Answer}
use Rattle.xcp_slave.specs.declared.request.Request.{Request}
use Rattle.xcp_slave.proofs.LayoutKeptLemmas.{answers-layout}
use Rattle.xcp_c.specs.StoredPages.{most_stored}

-- no request changes the sizes
pub still_sized : (v : SlaveValue) (q : Request) (a : Answer) (w : SlaveValue) (pages : List (List ℕ)) → Answers v q a w → AreReferences pages (layout_of v) → AreReferences pages (layout_of w)
still_sized v q a w pages h sized = subst (λ (l : LayoutValue). AreReferences pages l) (sym (answers-layout v q a w h)) sized

-- pages of the same sizes have files of one size
pub same_room : (old new : List (List ℕ)) (l : LayoutValue) (room : ℕ) → AreReferences old l → AreReferences new l → file_size (map (λ page. length page) old) ≤ room → file_size (map (λ page. length page) new) ≤ room
same_room old new l room was is fits = subst (λ (sizes : List ℕ). file_size sizes ≤ room) (was ∙ sym is) fits

pages_bytes : (segments : List SegmentValue) → pages_size (map (λ s. length s.bytes) segments) ≡ 4 * length segments + sum_by (λ s. length s.bytes) segments
pages_bytes [] = omega arith
pages_bytes (s ∷ segments) =
    let rest = pages_bytes segments in
    let first = sum_by-cons (λ (x : SegmentValue). length x.bytes) s segments in
    omega (arith, rest, first)

-- a head, a length for each page, and the bytes of all
most_by : (class : Class) → most_stored class ≡ 70 + 4 * (limits_of class).segments + (limits_of class).bytes
most_by Papers = refl
most_by Large = refl

-- at most as many pages as the class has segments, with as many bytes in all
pub most_bytes : (pages : List (List ℕ)) (l : LayoutValue) → IsLayout l → AreReferences pages l → file_size (map (λ page. length page) pages) ≤ most_stored l.class
most_bytes pages l lawful sized =
    let bytes = pages_bytes l.segments in
    let count = lawful.segments_most in
    let total = lawful.total in
    subst (λ (sizes : List ℕ). file_size sizes ≤ most_stored l.class) (sym sized) (omega (arith, bytes, count, total, most_by l.class))
