-- What is told of a layout file's check.
use Rattle.std.specs.Prelude.{ℕ, List}
use Rattle.xcp_config.specs.TableLayout.{File}
use Rattle.xcp_describe.specs.declared.findings.Findings.{Findings}
use Rattle.xcp_describe.specs.Findings.{IsFound}
use Rattle.xcp_telling.specs.Locating.{AreLocated}

-- the lines of a check of this file, whose segments may name these files, which finds this, one for one and in order, each located
abbrev pub AreFindingsTold : List File → List ℕ → Findings → List ℕ → Type 0
AreFindingsTold files file found told = (lines : List ℕ) × IsFound files file found lines × AreLocated lines told
