-- What a printer does with a text.
use Rattle.std.specs.Prelude.{◌≡◌, ◌+◌, ℕ, List, Option, Some, None}
use Rattle.std.specs.Io.KnownBytes.{Appends}
use Rattle.xcp_framing.specs.Prefix.{AppendsFront}
use Rattle.xcp_audit.specs.declared.printer.Printer.{Printer}
use Rattle.xcp_audit.specs.declared.printer.Trouble.{Trouble}
use Rattle.xcp_audit.specs.declared.printer.Trouble.TheVariants.{Memory, Write}

-- Where a printer stands: its trouble, if it has had some, the bytes that its stream holds, where they are known, and how many of its
-- writes have failed.
pub record Stand : Type 0 where
  pub trouble : Option Trouble
  pub holds : Option (List ℕ)
  pub failures : ℕ

-- a printer's stand, by what its stream holds
abbrev pub stand_of : {W : Type 0} → (W → Option (List ℕ)) → Printer W → Stand
stand_of holds p = record { trouble = p.trouble; holds = holds p.writer.inner; failures = p.writer.failures }

-- a write failed, or none did
abbrev pub failures_after : Trouble → ℕ → ℕ
failures_after Write n = n + 1
failures_after Memory n = n

-- Printing goes on from this trouble: it prints all of the text; or it comes to trouble, and prints a front of it; or it is in trouble, and
-- prints nothing.
abbrev pub PrintsFrom : Option Trouble → Option Trouble → Stand → Stand → List ℕ → Type 0
PrintsFrom None None old new text = Appends old.holds new.holds text × (new.failures ≡ old.failures)
PrintsFrom None (Some trouble) old new text = AppendsFront old.holds new.holds text × (new.failures ≡ failures_after trouble old.failures)
PrintsFrom (Some trouble) after old new text = (new ≡ old) × (after ≡ Some trouble)

abbrev pub Prints : Stand → Stand → List ℕ → Type 0
Prints old new text = PrintsFrom old.trouble new.trouble old new text
