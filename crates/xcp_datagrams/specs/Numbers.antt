-- CTR of a tool's frames, as they come (ASAM MCD-1 XCP, transport layer, XCP on Ethernet: CTR counts the frames of a sender).
use Rattle.std.specs.Prelude.{◌≡◌, ◌⊎◌, ◌<◌, ◌≤◌, ◌+◌, ◌-◌, ◌%◌, ◌^◌, ℕ, List, [], ◌∷◌, drop, take, min, map, Option, Some, None}
use Rattle.byteorder.specs.Endian.{little_number}
use Rattle.xcp_framing.specs.Wire.{Framed}
use Rattle.xcp_datagrams.specs.declared.numbering.Gaps.{Gaps}

-- what is known of a tool's CTR, and the gaps so far
pub record Heard : Type 0 where
  -- the CTR that comes next, where one came
  pub next : Option ℕ
  pub gaps : Gaps

-- CTR of a frame: its second word
abbrev pub ctr_of : List ℕ → ℕ
ctr_of frame = little_number 2 (drop 2 frame)

-- the CTR behind this one
abbrev pub behind : ℕ → ℕ
behind ctr = (ctr + 1) % 65536

-- how far a CTR is ahead of the expected one; from 32,768 on it is behind it
abbrev pub ahead : ℕ → ℕ → ℕ
ahead expected ctr = ((ctr + 65536) - expected) % 65536

-- a number that counts no further than 64 bits
abbrev pub at_most_64_bits : ℕ → ℕ
at_most_64_bits n = min n (2 ^ 64 - 1)

-- a frame is late: it came before, or it was taken for lost
pub record IsLate (old new : Gaps) : Type 0 where
  pub which : ((new.doubled ≡ at_most_64_bits (old.doubled + 1)) × (new.overtaken ≡ old.overtaken) × (new.lost ≡ old.lost))
      ⊎ ((new.doubled ≡ old.doubled) × (new.overtaken ≡ at_most_64_bits (old.overtaken + 1)) × (new.lost ≤ old.lost) × (old.lost ≤ new.lost + 1))

-- a frame with this CTR came, where this one, if any, was expected
abbrev pub HearsFrom : Option ℕ → Heard → ℕ → Heard → Type 0
HearsFrom None old ctr new = (new.next ≡ Some (behind ctr)) × (new.gaps ≡ old.gaps)
HearsFrom (Some e) old ctr new =
    (ahead e ctr < 32768 → (new.next ≡ Some (behind ctr)) × (new.gaps ≡ record old.gaps { lost = at_most_64_bits (old.gaps.lost + ahead e ctr) }))
    × (32768 ≤ ahead e ctr → (new.next ≡ old.next) × IsLate old.gaps new.gaps)

-- A frame with this CTR came. What it is ahead of the expected one is lost, as far as is known; a late one changes nothing of what is expected.
abbrev pub CountsFrame : Heard → ℕ → Heard → Type 0
CountsFrame old ctr new = HearsFrom old.next old ctr new

-- frames with these CTRs came, one behind another
abbrev pub HearsAll : Heard → List ℕ → Heard → Type 0
HearsAll old [] new = new ≡ old
HearsAll old (ctr ∷ ctrs) new = (mid : Heard) × CountsFrame old ctr mid × HearsAll mid ctrs new

-- The whole frames of these bytes came, in order: up to the end, or to the first that isn't whole or has a LEN above m (MAX_CTO).
pub record HearsFrames (m : ℕ) (bytes : List ℕ) (old new : Heard) : Type 0 where
  pub packets : List (List ℕ)
  pub left : List ℕ
  pub framed : Framed m bytes packets left
  pub heard : HearsAll old (map ctr_of framed.whole) new
