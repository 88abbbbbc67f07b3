-- Opening by a layout in a struct.
use Rattle.std.specs.Prelude.{◌≡◌, ◌≢◌, ◌⊎◌, ◌≤◌, ◌<◌, ◌+◌, ℕ, List, length, sum_by, Option, Some, None}
use Rattle.sha2.specs.Sha256.{sha256}
use Rattle.xcp_flash.specs.Decided.{pages_decided}
use Rattle.xcp_flash.specs.Restoring.{IsFlashFault, IsRestored}
use Rattle.xcp_flash.specs.declared.fault.FlashError.{FlashError}
use Rattle.xcp_memory.specs.FaultNumbers.{number_of}
use Rattle.xcp_memory.specs.Layout.{LayoutValue}
use Rattle.xcp_memory.specs.LayoutParts.{layout_from}
use Rattle.xcp_memory.specs.Limits.{first_fault}
use Rattle.xcp_memory.specs.declared.key.LayoutFault.{LayoutFault}
use Rattle.xcp_memory.specs.declared.parts.Parts.{Parts}
use Rattle.xcp_c.specs.Held.{IsOpen}
use Rattle.xcp_c.specs.OpenValue.{OpenValue}
use Rattle.xcp_c.specs.Openings.{IsOpeningBy}
use Rattle.xcp_c.specs.PartsInC.{Says, bytes_said, segments_said}
use Rattle.xcp_c.specs.StoredPages.{number_of_stored}
use Rattle.xcp_c.specs.declared.parts.XcpParts.{XcpParts}

-- the struct has room for what it says, and there are as many reference bytes as the segments have in all
pub record IsWholeStruct (c : XcpParts) (reference : List ℕ) : Type 0 where
  pub segments : c.segments ≤ 4
  pub channels : c.channels ≤ 8
  pub bytes : sum_by bytes_said (segments_said c) ≡ length reference

-- the struct and the reference bytes describe this layout
pub record Describes (c : XcpParts) (reference : List ℕ) (l : LayoutValue) : Type 0 where
  pub whole : IsWholeStruct c reference
  pub parts : Parts
  pub says : Says c reference parts
  pub lawful : first_fault parts ≡ None
  pub is : l ≡ layout_from parts

-- they say parts of which this is the first limit that is broken
pub record Breaks (c : XcpParts) (reference : List ℕ) (e : LayoutFault) : Type 0 where
  pub whole : IsWholeStruct c reference
  pub parts : Parts
  pub says : Says c reference parts
  pub first : first_fault parts ≡ Some e

-- The number of their fault: 6 where there are more segments or event channels than the struct has room for; 18 where there are
-- more or fewer reference bytes; and then that of the first limit that is broken, as of a text; or 7 where an allocation failed.
abbrev pub IsFaultOfParts : XcpParts → List ℕ → ℕ → Type 0
IsFaultOfParts c reference n =
    (((4 < c.segments) ⊎ (8 < c.channels)) × (n ≡ 6))
    ⊎ ((c.segments ≤ 4) × (c.channels ≤ 8) × (sum_by bytes_said (segments_said c) ≢ length reference) × (n ≡ 18))
    ⊎ ((e : LayoutFault) × Breaks c reference e × (n ≡ 3 + number_of e))
    ⊎ (IsWholeStruct c reference × (n ≡ 7))

-- they describe a layout, and the slave is that of its opening
abbrev pub IsOpenedByParts : XcpParts → List ℕ → Option OpenValue → Type 0
IsOpenedByParts c reference slave =
    (l : LayoutValue) × Describes c reference l × IsOpeningBy (sha256 (pages_decided l)) l slave

-- Opening by parts: the handle owned a slave, 10, and is as it was; or it owned nothing, the parts describe a layout, and the slave
-- is that of its opening; or this is the number of their fault, and it still owns nothing.
abbrev pub OpensByParts : XcpParts → List ℕ → ℕ → Option OpenValue → Option OpenValue → Type 0
OpensByParts c reference n old new =
    (IsOpen old × (n ≡ 10) × (new ≡ old))
    ⊎ ((old ≡ None) × (((n ≡ 0) × IsOpenedByParts c reference new) ⊎ (IsFaultOfParts c reference n × (new ≡ None))))

-- they describe a layout, of which this file is: the slave is that of its opening with the file's pages as reference pages
abbrev pub IsOpenedByPartsWith : XcpParts → List ℕ → List ℕ → Option OpenValue → Type 0
IsOpenedByPartsWith c reference file slave =
    (l with_pages : LayoutValue) × Describes c reference l × IsRestored l (sha256 (pages_decided l)) file with_pages
    × IsOpeningBy (sha256 (pages_decided l)) with_pages slave

-- they describe a layout, and this is the number of the file's fault beside it
abbrev pub IsFaultOfFileOfParts : XcpParts → List ℕ → List ℕ → ℕ → Type 0
IsFaultOfFileOfParts c reference file n =
    (l : LayoutValue) × Describes c reference l × (e : FlashError) × IsFlashFault l (sha256 (pages_decided l)) file e × (n ≡ number_of_stored e)

-- The same by these parts and this file of stored pages, whose faults come behind the parts'.
abbrev pub OpensPartsStored : XcpParts → List ℕ → List ℕ → ℕ → Option OpenValue → Option OpenValue → Type 0
OpensPartsStored c reference file n old new =
    (IsOpen old × (n ≡ 10) × (new ≡ old))
    ⊎ ((old ≡ None) × (
    ((n ≡ 0) × IsOpenedByPartsWith c reference file new)
    ⊎ ((IsFaultOfParts c reference n ⊎ IsFaultOfFileOfParts c reference file n) × (new ≡ None))))
