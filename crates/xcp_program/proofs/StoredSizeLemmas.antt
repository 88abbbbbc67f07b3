-- How many bytes the file of a layout's pages has at most.
use Rattle.std.proofs.Common.{◌≡◌, ◌≤◌, ◌+◌, ◌*◌, ℕ, List, [], ◌∷◌, length, map, ap, ◌∙◌, arith, sum_by}
use Rattle.std.proofs.lemmas.List.Sums.{sum_by-cons}
use Rattle.xcp_memory.specs.declared.class.Class.{Class}
use Rattle.xcp_memory.specs.declared.class.Class.TheVariants.{Papers, Large}
use Rattle.xcp_memory.specs.ClassLimits.{limits_of}
use Rattle.xcp_memory.specs.Layout.{IsLayout, LayoutValue, SegmentValue}
use Rattle.xcp_flash.specs.FlashFile.{file_size, pages_size}
use Rattle.xcp_flash.specs.References.{AreReferences}

-- four bytes for each page, and its own
sizes : (ss : List SegmentValue) → pages_size (map (λ s. length s.bytes) ss) ≡ 4 * length ss + sum_by (λ s. length s.bytes) ss
sizes [] = omega arith
sizes (s ∷ ss) = let e = sizes ss in let f = sum_by-cons (λ (s : SegmentValue). length s.bytes) s ss in omega (arith, e, f)

-- the most that a class has
most : (c : Class) → 4 * (limits_of c).segments + (limits_of c).bytes ≤ 1048640
most Papers = omega arith
most Large = omega arith

-- the file of a lawful layout's pages has at most 1048710 bytes
pub each_file : (pages : List (List ℕ)) (l : LayoutValue) → IsLayout l → AreReferences pages l → file_size (map (λ page. length page) pages) ≤ 1048710
each_file pages l lawful fits =
    let same = ap pages_size fits ∙ sizes l.segments in
    let a = lawful.segments_most in
    let b = lawful.total in
    let c = most l.class in
    omega (arith, same, a, b, c)
