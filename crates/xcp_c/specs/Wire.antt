-- What a framer behind a handle does with a piece of a stream.
use Rattle.std.specs.Prelude.{◌≡◌, ◌⊎◌, ◌<◌, ◌==◌, ℕ, List, [], ◌∷◌, length, take, Option, Some, None, if◌then◌else◌}
use Rattle.xcp_framing.specs.FramerInput.{FramerValue, Feeds}
use Rattle.xcp_framing.specs.Wire.{IsBadLength, len_of}
use Rattle.xcp_c.specs.Held.{IsOpen}
use Rattle.xcp_c.specs.declared.wire.XcpFed.{XcpFed}

-- the packet that was brought, if any
abbrev pub packets_fed : XcpFed → List (List ℕ)
packets_fed c = if c.got == 1 then take c.length c.bytes ∷ [] else []

-- A front of this piece was used: it brought this packet, and the bytes behind the last whole frame are held; or it ends with a
-- LEN above MAX_CTO, and nothing is used behind that; or all of it was used, and nothing came of it.
pub record Fed (piece : List ℕ) (old : Option FramerValue) (fed : XcpFed) (new : Option FramerValue) : Type 0 where
  pub before : FramerValue
  pub after : FramerValue
  pub was : old ≡ Some before
  pub is : new ≡ Some after
  pub kept : after.max_cto ≡ before.max_cto
  pub feeds : Feeds before.max_cto before.held piece fed.used (packets_fed fed) after.held
  pub got : (fed.got ≡ 0) ⊎ (fed.got ≡ 1) ⊎ (fed.got ≡ 2)
  pub more : fed.got ≡ 0 → (fed.used ≡ length piece) × ¬ IsBadLength after.max_cto after.held
  pub moves : fed.got ≡ 1 → 0 < fed.used
  pub bad : fed.got ≡ 2 → (fed.len ≡ len_of after.held) × IsBadLength after.max_cto after.held

-- Opening a framer: it is at the start of a stream; or it is refused, 7 where an allocation failed and 10 where the handle owned
-- one, and the handle is as it was.
abbrev pub OpensFramer : ℕ → ℕ → Option FramerValue → Option FramerValue → Type 0
OpensFramer max_cto n old new =
    ((n ≡ 0) × (old ≡ None) × (new ≡ Some record { max_cto = max_cto; held = [] }))
    ⊎ (((n ≡ 7) ⊎ ((n ≡ 10) × IsOpen old)) × (new ≡ old))
