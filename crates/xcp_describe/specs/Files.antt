-- An A2L file (ASAM MCD-2 MC, ASAP2 1.6: ASAP2_VERSION, PROJECT, MODULE, MOD_PAR, EPK; its encoding).
use Rattle.std.specs.Prelude.{◌≡◌, ℕ, List, ◌∷◌, ◌++◌, codes, if◌then◌else◌}
use Rattle.std.specs.List.{list_all}
use Rattle.std.specs.Char.{is_ascii}
use Rattle.std.specs.Str.{IsUtf8}
use Rattle.hex.specs.Hex.{encode_lower}
use Rattle.sha2.specs.Sha256.{sha256}

-- the text of a file as it is, if it is of ASCII alone, and else behind the byte order mark of UTF-8, by which tools know its encoding
abbrev pub marked : List ℕ → List ℕ
marked text = if list_all is_ascii text then text else 0xEF ∷ 0xBB ∷ 0xBF ∷ text

-- it begins with its version and the block PROJECT, and ends with the ends of the blocks MODULE and PROJECT; it is UTF-8, with that
-- mark before it or without
pub record HasA2lForm (text : List ℕ) : Type 0 where
  pub utf8 : IsUtf8 text
  pub blocks : List ℕ
  pub framed : text ≡ marked (codes "ASAP2_VERSION 1 60\n/begin PROJECT xcpd " ++ blocks ++ codes "  /end MODULE\n/end PROJECT\n")

-- what identifies the file of a configuration, its EPK: the SHA-256 digest of the configuration's text, in hex digits of lower case
abbrev pub epk_of : List ℕ → List ℕ
epk_of config = encode_lower (sha256 config)

-- the line of an EPK
abbrev pub epk_line : List ℕ → List ℕ
epk_line epk = codes "      EPK \"" ++ epk ++ codes "\"\n"

-- it tells this EPK, in the first line of the block MOD_PAR
pub record TellsEpk (epk text : List ℕ) : Type 0 where
  pub before : List ℕ
  pub behind : List ℕ
  pub told : text ≡ before ++ codes "    /begin MOD_PAR \"\"\n" ++ epk_line epk ++ behind
