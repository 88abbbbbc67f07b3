-- Answers that refuse.
use Rattle.std.specs.Prelude.{◌≡◌, ◌≢◌, ℕ, Bool, true, ◌==◌, ◌⊎◌, List, [], ◌∷◌}
use Rattle.std.specs.List.{list_any}
use Rattle.xcp_packet.specs.declared.Order.{Order}
use Rattle.xcp_packet.specs.ByteOrder.{double_bytes}
use Rattle.xcp_slave.specs.Outcomes.{Answer}
use Rattle.xcp_slave.specs.declared.outcome.Outcome.TheVariants as answers

-- An error packet, FE and a code, other than FE 00, which is SYNCH's success.
-- (ASAM MCD-1 XCP, protocol layer: error packet, SYNCH.)
pub record IsErrorPacket (a : Answer) : Type 0 where
  pub code : ℕ
  pub rest : List ℕ
  pub packet : a ≡ answers.Packets ((0xFE ∷ code ∷ rest) ∷ [])
  pub other : code ≢ 0x00

-- an answer that says that nothing was done
abbrev pub IsRefusal : Answer → Type 0
IsRefusal answers.NoChannel = Unit {0}
IsRefusal answers.BadSignals = Unit {0}
IsRefusal answers.Nothing = Unit {0}
IsRefusal answers.NoStore = Unit {0}
IsRefusal answers.Later = Unit {0}
IsRefusal _ = ⊥

-- the codes that commands are refused with
-- (ASAM MCD-1 XCP, protocol layer: table of error codes.)
abbrev pub refusal_codes : List ℕ
refusal_codes = 0x11 ∷ 0x20 ∷ 0x21 ∷ 0x22 ∷ 0x23 ∷ 0x24 ∷ 0x26 ∷ 0x27 ∷ 0x28 ∷ 0x29 ∷ 0x2A ∷ 0x30 ∷ []

abbrev pub is_refusal_code : ℕ → Bool
is_refusal_code code = list_any (λ c. c == code) refusal_codes

-- What an error packet has behind FE and its code: nothing; only out of sequence (29) DOWNLOAD_NEXT tells also how many bytes it expected,
-- and out of range (22) BUILD_CHECKSUM tells behind a reserved word how many bytes it sums up at most.
-- (ASAM MCD-1 XCP, protocol layer, description of commands: DOWNLOAD_NEXT, BUILD_CHECKSUM.)
abbrev pub IsErrorShape : ℕ → List ℕ → Type 0
IsErrorShape code bytes =
    (bytes ≡ 0xFE ∷ code ∷ [])
    ⊎ ((count : ℕ) × (code ≡ 0x29) × (bytes ≡ 0xFE ∷ 0x29 ∷ count ∷ []))
    ⊎ ((order : Order) × (size : ℕ) × (code ≡ 0x22) × (bytes ≡ 0xFE ∷ 0x22 ∷ 0 ∷ 0 ∷ double_bytes order size))

-- an error packet that refuses: FE, such a code, and what stands behind it
pub record IsRefusing (bytes : List ℕ) : Type 0 where
  pub code : ℕ
  pub known : is_refusal_code code ≡ true
  pub shape : IsErrorShape code bytes
