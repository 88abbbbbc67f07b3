-- Modes of segments.
use Rattle.std.proofs.Common.{◌≡◌, ◌↔◌, ℕ, true, false, Option, Some, None, IsSome, IfSome, IfNone, refl, eq-eqb, bit_and}
use Rattle.std.proofs.lemmas.Bool.{ne_eqb, false≢true}
use Rattle.xcp_memory.specs.Freeze.{is_segment_mode}

-- what was found has no other bit
pub found_mode : {A : Type 0} (bits_of : A → ℕ) (bits : ℕ) (found : Option A) → IfSome found (λ f. bits_of f ≡ bits) → (IsSome found ↔ (bit_and bits 0x01 ≡ bits)) → IfSome found (λ f. (is_segment_mode bits ≡ true) × (bits_of f ≡ bits))
found_mode {A} bits_of bits (Some f) is known = (eq-eqb _ _ (known.0 refl), is)
found_mode {A} bits_of bits None is known = tt

-- where nothing was found another bit is set
pub no_mode : {A : Type 0} (bits : ℕ) (found : Option A) → (IsSome found ↔ (bit_and bits 0x01 ≡ bits)) → IfNone found (is_segment_mode bits ≡ false)
no_mode {A} bits (Some f) known = tt
no_mode {A} bits None known = ne_eqb _ _ (λ e. false≢true (known.1 e))
