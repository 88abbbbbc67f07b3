-- What a check finds in a layout file.
use Rattle.std.specs.Prelude.{◌≡◌, ◌⊎◌, ◌↔◌, ⊤, ℕ, List, length, Option, Some, None, IfSome}
use Rattle.std.specs.Str.{IsUtf8}
use Rattle.toml.specs.Data.{Data, Members, table}
use Rattle.toml.specs.Parse.{parse_document}
use Rattle.xcp_config.specs.declared.config_error.ConfigError.{ConfigError}
use Rattle.xcp_config.specs.declared.config_error.ConfigError.TheVariants.{Text}
use Rattle.xcp_config.specs.ConfigText.{IsNoDocument}
use Rattle.xcp_config.specs.TableChecks.{first_table_fault}
use Rattle.xcp_config.specs.TableLayout.{File, layout_in}
use Rattle.xcp_describe.specs.declared.findings.Findings.{Findings}
use Rattle.xcp_describe.specs.declared.refusal.DescribeError.{DescribeError}
use Rattle.xcp_describe.specs.declared.refusal.DescribeError.TheVariants.{Host, Program, Parameter, Measurement}
use Rattle.xcp_describe.specs.EntryFaults.{first_refusal}
use Rattle.xcp_describe.specs.FindingsText.{IsSyntaxLine, clean_text, findings_text, no_utf8_text}
use Rattle.xcp_describe.specs.UnreadKeys.{unread_keys}

-- nothing was found
abbrev pub IsClean : Findings → Type 0
IsClean f = (f.fault ≡ None) × (f.unread ≡ 0) × (f.refused ≡ None)

-- what is found in a file that is no document: that alone
abbrev pub unreadable : Findings
unreadable = record { fault = Some Text; unread = 0; refused = None }

-- and the text that tells it
pub record IsUnreadable (file : List ℕ) (f : Findings) (text : List ℕ) : Type 0 where
  pub found : f ≡ unreadable
  pub cause : ((¬ (IsUtf8 file)) × (text ≡ no_utf8_text)) ⊎ (IsNoDocument file × IsSyntaxLine text)

-- a parameter or a measurement was refused
abbrev pub IsEntryFault : DescribeError → Type 0
IsEntryFault Host = ⊥
IsEntryFault (Program fault) = ⊥
IsEntryFault (Parameter number why) = ⊤
IsEntryFault (Measurement number why) = ⊤

-- the first fault of the entries of a document, where its layout with these files has none
abbrev pub refused_entry : List File → Option ConfigError → Data → Option DescribeError
refused_entry files None t = first_refusal (layout_in files t) t
refused_entry files (Some fault) t = None

-- What is found in a document whose segments may name these files: the first fault of its layout, exactly if that has one; as many unread
-- keys as there are; an entry only where the layout has no fault, and then the first one that has a fault, with its first fault, exactly if
-- there is one. The text has a line for each of them.
pub record IsChecked (files : List File) (file : List ℕ) (f : Findings) (text : List ℕ) : Type 0 where
  pub members : Members
  pub document : parse_document file ≡ Some members
  pub fault : f.fault ≡ first_table_fault files (table members)
  pub unread : f.unread ≡ length (unread_keys (table members))
  pub refused : IfSome f.refused (λ e. IsEntryFault e × (f.fault ≡ None))
  pub first : f.refused ≡ refused_entry files f.fault (table members)
  pub told : text ≡ findings_text f.fault (unread_keys (table members)) f.refused

-- what a check found and wrote: the line that says that nothing was found exactly where nothing was
pub record IsFound (files : List File) (file : List ℕ) (f : Findings) (text : List ℕ) : Type 0 where
  pub found : IsUnreadable file f text ⊎ IsChecked files file f text
  pub clean : IsClean f ↔ (text ≡ clean_text)
