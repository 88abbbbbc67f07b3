-- A file whose parts were appended in turn; how many digits an EPK has.
use Rattle.std.proofs.Common.{◌≡◌, ◌*◌, ℕ, Bool, true, false, List, ◌∷◌, ◌++◌, codes, length, ap, ◌∙◌, append_assoc, if◌then◌else◌}
use Rattle.std.specs.List.{list_all}
use Rattle.std.specs.Char.{is_ascii}
use Rattle.std.specs.Str.{IsUtf8}
use Rattle.sha2.specs.Sha256.{sha256}
use Rattle.sha2.proofs.Facts256.{length-sha256}
use Rattle.hex.specs.Hex.{lower_digits}
use Rattle.hex.proofs.HexLemmas.{length-encode_with}
use Rattle.xcp_describe.specs.Files.{HasA2lForm, TellsEpk, epk_line, epk_of, marked}

pub record IsJoined (front epk rest text : List ℕ) : Type 0 where
  pub first : List ℕ
  pub second : List ℕ
  pub third : List ℕ
  pub fourth : List ℕ
  pub fifth : List ℕ
  pub begun : first ≡ codes "ASAP2_VERSION 1 60\n/begin PROJECT xcpd "
  pub fronted : second ≡ first ++ front
  pub headed : third ≡ second ++ codes "    /begin MOD_PAR \"\"\n"
  pub told : fourth ≡ third ++ epk
  pub gone_on : fifth ≡ fourth ++ rest
  pub ended : text ≡ fifth ++ codes "  /end MODULE\n/end PROJECT\n"

-- the blocks of the file
blocks_of : List ℕ → List ℕ → List ℕ → List ℕ
blocks_of front epk rest = front ++ codes "    /begin MOD_PAR \"\"\n" ++ epk ++ rest

joined_is_framed : (front epk rest text : List ℕ) → IsJoined front epk rest text → text ≡ codes "ASAP2_VERSION 1 60\n/begin PROJECT xcpd " ++ blocks_of front epk rest ++ codes "  /end MODULE\n/end PROJECT\n"
unfolding blocks_of
joined_is_framed front epk rest text j = rw (j.ended, j.gone_on, j.told, j.headed, j.fronted, j.begun) (simp append_assoc)

-- a file of joined parts, with a byte order mark or without, has the form of an A2L file, where it is UTF-8
pub joined_is_file : (front epk rest text file : List ℕ) → IsJoined front epk rest text → file ≡ marked text → IsUtf8 file → HasA2lForm file
joined_is_file front epk rest text file j m u = record { blocks = blocks_of front epk rest; framed = m ∙ ap marked (joined_is_framed front epk rest text j); utf8 = u }

-- however they are grouped
regroup : (a f m e r b : List ℕ) → a ++ f ++ m ++ e ++ r ++ b ≡ a ++ f ++ m ++ e ++ (r ++ b)
regroup a f m e r b = simp append_assoc

joined_tells : (front epk rest text digits : List ℕ) → IsJoined front epk rest text → epk ≡ epk_line digits → TellsEpk digits text
joined_tells front epk rest text digits j e = record {
  before = codes "ASAP2_VERSION 1 60\n/begin PROJECT xcpd " ++ front;
  behind = rest ++ codes "  /end MODULE\n/end PROJECT\n";
  told = rw (j.ended, j.gone_on, j.told, e, j.headed, j.fronted, j.begun) (regroup (codes "ASAP2_VERSION 1 60\n/begin PROJECT xcpd ") front (codes "    /begin MOD_PAR \"\"\n") (epk_line digits) rest (codes "  /end MODULE\n/end PROJECT\n"));
}

-- with a byte order mark before it or without
tells_behind : (digits text : List ℕ) (b : Bool) → TellsEpk digits text → TellsEpk digits (if b then text else 0xEF ∷ 0xBB ∷ 0xBF ∷ text)
tells_behind digits text true t = t
tells_behind digits text false t = record { before = 0xEF ∷ 0xBB ∷ 0xBF ∷ t.before; behind = t.behind; told = ap (λ x. 0xEF ∷ 0xBB ∷ 0xBF ∷ x) t.told }

-- a file of joined parts, with a byte order mark or without, tells the EPK whose line stands first in MOD_PAR
pub file_tells : (front epk rest text file digits : List ℕ) → IsJoined front epk rest text → file ≡ marked text → epk ≡ epk_line digits → TellsEpk digits file
file_tells front epk rest text file digits j m e = rw m (tells_behind digits text (list_all is_ascii text) (joined_tells front epk rest text digits j e))

-- an EPK has 64 digits, whatever the layout file
pub epk_has_64_digits : (config : List ℕ) → length (epk_of config) ≡ 64
epk_has_64_digits config = length-encode_with lower_digits (sha256 config) ∙ ap (λ n. 2 * n) (length-sha256 config)
