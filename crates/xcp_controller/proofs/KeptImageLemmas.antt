-- Requests that leave the controller's image as it is.
use Rattle.std.proofs.Common.{◌≡◌, ℕ, zero, suc, ◌-◌, ◌<◌, replicate, List, [], ◌∷◌, ◌++◌, length, refl, ap, ◌∙◌, get_or, arith}
use Rattle.std.specs.List.{flat_map}
use Rattle.xcp_memory.specs.EcuImage.{ecu_pages, ecu_image, image_size}
use Rattle.xcp_memory.specs.Pages.{PagesValue, SegmentPages, ecu_page, no_pages, segment_at}
use Rattle.xcp_slave.specs.declared.Exchange.{Exchange}
use Rattle.xcp_slave.specs.declared.Request.{Request}
use Rattle.xcp_slave.specs.MemoryEffects.{IsReading, SameMemory}
use Rattle.xcp_slave.proofs.MemoryLaws.{reads-run}
use Rattle.xcp_controller.specs.KeptImages.{KeepsImage}

-- lists of segments whose controllers' pages are the same, place by place
same_pages : (xs ys : List SegmentPages) → length xs ≡ length ys → ((i : ℕ) → ecu_page (get_or xs i no_pages) ≡ ecu_page (get_or ys i no_pages)) → flat_map ecu_page xs ≡ flat_map ecu_page ys
same_pages [] [] l h = refl
same_pages [] (y ∷ ys) l h = cc
same_pages (x ∷ xs) [] l h = cc
same_pages (x ∷ xs) (y ∷ ys) l h =
    ap (λ z. z ++ flat_map ecu_page xs) (h 0) ∙ ap (λ z. ecu_page y ++ z) (same_pages xs ys (omega (arith, l)) (λ i. h (suc i)))

same_page : (p q : PagesValue) → SameMemory p q → (i : ℕ) → ecu_page (segment_at q i) ≡ ecu_page (segment_at p i)
same_page p q h i = ap (λ z. get_or z (segment_at q i).ecu []) (h.pages i) ∙ ap (λ k. get_or (segment_at p i).pages k []) (h.ecu i)

-- the same memory has the same image of the controller's pages
pub same_image : (p q : PagesValue) → SameMemory p q → ecu_image q ≡ ecu_image p
same_image p q h =
    let same : ecu_pages q ≡ ecu_pages p = same_pages q.segments p.segments h.count (same_page p q h) in
    ap (λ z. z ++ replicate (image_size q.layout - length z) 0) same ∙ ap (λ l. ecu_pages p ++ replicate (image_size l - length (ecu_pages p)) 0) h.layout

all_one : (x : Exchange) → IsReading x.request → (k : ℕ) (d : Exchange) → k < 1 → IsReading (get_or (x ∷ []) k d).request
all_one x h zero d below = h
all_one x h (suc k) d below = absurd (omega (arith, below))

-- a request that neither writes nor switches nor copies nor stores
pub reading_keeps : (q : Request) → IsReading q → KeepsImage q
reading_keeps q reading v a w step =
    let x : Exchange = record { request = q; answer = a } in
    same_image v.transfer.pages w.transfer.pages (reads-run v (x ∷ []) w (all_one x reading) (w, step, refl))
