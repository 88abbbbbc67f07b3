-- A law of what decides the answers. It is the contract of a public function of src/law.rt.
use Rattle.std.specs.Prelude.{◌≡◌, ◌↔◌}
use Rattle.xcp_memory.specs.Layout.{IsLayout, LayoutValue, described, file_or_none}
use Rattle.xcp_program.specs.Decided.{answers_decided}

-- a layout with the A2L file that tools get of it: they get no bytes where there is no file, as they do of a file without bytes
abbrev pub uploading : LayoutValue → LayoutValue
uploading l = described (file_or_none l.extras.file) l

-- two layouts have the same bytes exactly where they are the same
abbrev pub BytesAreOfOneLayout : Type 0
BytesAreOfOneLayout = (l m : LayoutValue) → IsLayout l → IsLayout m → (answers_decided l ≡ answers_decided m) ↔ (uploading l ≡ uploading m)
