-- What a check writes: a line for each thing that it found, and where there is none, a line that says so.
use Rattle.std.specs.Prelude.{◌≡◌, ℕ, Bool, true, not, List, [], ◌++◌, length, codes, Option, Some, None, ◌==◌, if◌then◌else◌, unwrap_or}
use Rattle.std.specs.List.{list_all, flat_map}
use Rattle.std.specs.Str.{encode_utf8_all}
use Rattle.std.specs.Char.{is_control}
use Rattle.std.specs.Fmt.{decimal}
use Rattle.xcp_config.specs.declared.config_error.ConfigError.{ConfigError}
use Rattle.xcp_config.specs.FaultNumbers.{number_of}
use Rattle.xcp_describe.specs.declared.refusal.DescribeError.{DescribeError}
use Rattle.xcp_describe.specs.FaultWords.{words_of}
use Rattle.xcp_describe.specs.Places.{PlacedKey, place_text, key_text}
use Rattle.xcp_describe.specs.RefusalWords.{shown_refusal}

-- the first fault of the layout: its number, and its words
abbrev pub fault_line : ConfigError → List ℕ
fault_line e = codes "configuration " ++ decimal (number_of e) ++ codes ": " ++ words_of e ++ codes "\n"

-- a key that nothing reads, behind its place
abbrev pub unread_line : PlacedKey → List ℕ
unread_line k = codes "unread: " ++ place_text k.place ++ key_text k.key ++ codes "\n"

-- an entry that is refused
abbrev pub refused_line : DescribeError → List ℕ
refused_line e = unwrap_or (shown_refusal e) [] ++ codes "\n"

-- the line of what is there, and none of what isn't
abbrev pub line_if : {A : Type 0} → (A → List ℕ) → Option A → List ℕ
line_if line None = []
line_if line (Some x) = line x

-- all lines, in their order
abbrev pub finding_lines : Option ConfigError → List PlacedKey → Option DescribeError → List ℕ
finding_lines fault keys refused = line_if fault_line fault ++ flat_map unread_line keys ++ line_if refused_line refused

-- the line that says that nothing was found
abbrev pub clean_text : List ℕ
clean_text = codes "no fault, and every key is read\n"

abbrev pub or_clean : List ℕ → List ℕ
or_clean lines = if length lines == 0 then clean_text else lines

-- what is written of a document
abbrev pub findings_text : Option ConfigError → List PlacedKey → Option DescribeError → List ℕ
findings_text fault keys refused = or_clean (finding_lines fault keys refused)

-- text of characters none of which is a control character
abbrev pub is_plain : List ℕ → Bool
is_plain cs = list_all (λ c. not (is_control c)) cs

pub record IsPlainText (text : List ℕ) : Type 0 where
  pub characters : List ℕ
  pub plain : is_plain characters ≡ true
  pub encoded : text ≡ encode_utf8_all characters

-- what is written of a file that is no document: one line, whose words tell the place and the cause
pub record IsSyntaxLine (text : List ℕ) : Type 0 where
  pub words : List ℕ
  pub plain : IsPlainText words
  pub line : text ≡ codes "configuration 1" ++ words ++ codes "\n"

-- of one that isn't UTF-8 this one
abbrev pub no_utf8_text : List ℕ
no_utf8_text = codes "configuration 1: it is no UTF-8\n"
