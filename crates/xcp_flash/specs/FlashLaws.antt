-- Laws of the file of stored pages. Each is the contract of a public function of src/law.rt.
use Rattle.std.specs.Prelude.{◌≡◌, ◌<◌, ℕ, false, List, [], length, replicate, slice_index_or as get_or}
use Rattle.xcp_memory.specs.Layout.{LayoutValue, IsLayout}
use Rattle.xcp_memory.specs.Pages.{IsPages, no_segment, opening_pages, segment_at}
use Rattle.xcp_memory.specs.ReferencePage.{reference_page}
use Rattle.xcp_slave.specs.SlaveValue.{SlaveValue, layout_of, opening}
use Rattle.xcp_flash.specs.FlashFile.{file_of}
use Rattle.xcp_slave.specs.Step.{Answers}
use Rattle.xcp_slave.specs.declared.outcome.Outcome.TheVariants as answers
use Rattle.xcp_slave.specs.declared.request.Request.TheVariants as requests
use Rattle.xcp_flash.specs.References.{AreReferences, kept_pages, references, with_references}

-- the reference pages of a slave are those of its layout's segments by number and size
abbrev pub ReferencesHaveTheirSizes : Type 0
ReferencesHaveTheirSizes = (v : SlaveValue) → IsLayout (layout_of v) → IsPages v.transfer.pages → AreReferences (references v) (layout_of v)

-- and so are those that it will have once what a tool asked for is stored
abbrev pub KeptPagesHaveTheirSizes : Type 0
KeptPagesHaveTheirSizes = (v : SlaveValue) → IsLayout (layout_of v) → IsPages v.transfer.pages → AreReferences (kept_pages v) (layout_of v)

-- where a store is requested these are the reference pages behind the store, when it comes
abbrev pub WhatIsKeptIsWhatAStoreLeaves : Type 0
WhatIsKeptIsWhatAStoreLeaves =
    (v w : SlaveValue) (n : ℕ) → IsLayout (layout_of v) → IsPages v.transfer.pages
    → Answers v requests.FinishStore (answers.Stored n) w → references w ≡ kept_pages v

-- where none is requested they are those that it has; so behind a store they stay the same
abbrev pub NothingElseIsKept : Type 0
NothingElseIsKept = (v : SlaveValue) → v.store ≡ false → kept_pages v ≡ references v

-- in the layout with other reference pages each segment has its page, and is as it was but for it
abbrev pub EachSegmentHasItsPage : Type 0
EachSegmentHasItsPage =
    (pages : List (List ℕ)) (l : LayoutValue) (i : ℕ) → AreReferences pages l → i < length l.segments
    → get_or (with_references pages l).segments i no_segment ≡ record (get_or l.segments i no_segment) { bytes = get_or pages i [] }

-- restored, they are what each page of their segment begins with
abbrev pub StoredPagesAreRestored : Type 0
StoredPagesAreRestored =
    (v : SlaveValue) (i : ℕ) → IsLayout (layout_of v) → IsPages v.transfer.pages → i < length (layout_of v).segments
    → (segment_at (opening_pages (with_references (references v) (layout_of v))) i).pages
    ≡ replicate (get_or (layout_of v).segments i no_segment).pages (reference_page (segment_at v.transfer.pages i))

-- and they are the reference pages of the slave that is opened then
abbrev pub RestoredPagesAreReferences : Type 0
RestoredPagesAreReferences =
    (pages : List (List ℕ)) (l : LayoutValue) → IsLayout l → AreReferences pages l → references (opening (with_references pages l)) ≡ pages

-- a file has one digest of a layout file, and one list of pages
abbrev pub FileHasOneContent : Type 0
FileHasOneContent =
    (l : LayoutValue) (digest other : List ℕ) (pages more : List (List ℕ)) → AreReferences pages l → AreReferences more l
    → file_of digest pages ≡ file_of other more → (digest ≡ other) × (pages ≡ more)
