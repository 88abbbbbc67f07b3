-- The image of the controller's pages, which the tasks read.
use Rattle.std.specs.Prelude.{ℕ, ◌+◌, ◌-◌, ◌*◌, ◌/◌, List, ◌++◌, length, replicate, sum_by, take, drop}
use Rattle.std.specs.List.{flat_map}
use Rattle.xcp_memory.specs.declared.class.Class.{Class}
use Rattle.xcp_memory.specs.declared.class.Class.TheVariants.{Papers, Large}
use Rattle.xcp_memory.specs.Layout.{LayoutValue}
use Rattle.xcp_memory.specs.Pages.{PagesValue, ecu_page}

-- where segment i begins in the image: behind the bytes of the segments before it
abbrev pub image_place : LayoutValue → ℕ → ℕ
image_place l i = sum_by (λ s. length s.bytes) (take i l.segments)

-- how many bytes the segments have in all, each counted once
abbrev pub bytes_in_all : LayoutValue → ℕ
bytes_in_all l = sum_by (λ s. length s.bytes) l.segments

-- how many bytes an image of n bytes of pages has: 2,040 in the class of 2,040 bytes, and else these, rounded up to words of eight
abbrev pub size_in : Class → ℕ → ℕ
size_in Papers n = 2040
size_in Large n = 8 * ((n + 7) / 8)

-- how many bytes the image of a layout has
abbrev pub image_size : LayoutValue → ℕ
image_size l = size_in l.class (bytes_in_all l)

-- the ECU pages of the segments in order
abbrev pub ecu_pages : PagesValue → List ℕ
ecu_pages v = flat_map ecu_page v.segments

-- the ECU image: these, and then zeros up to the image's size
abbrev pub ecu_image : PagesValue → List ℕ
ecu_image v = ecu_pages v ++ replicate (image_size v.layout - length (ecu_pages v)) 0

-- the n bytes of it from a place on
abbrev pub image_part : ℕ → ℕ → PagesValue → List ℕ
image_part at n v = take n (drop at (ecu_image v))
