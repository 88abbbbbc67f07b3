-- The turns of a replay.
use Rattle.std.proofs.Common.{◌≡◌, ℕ, [], ◌∷◌, ◌++◌, arith}
use Rattle.xcp_framing.specs.CountedCalls.{Watched, EachRead}
use Rattle.xcp_framing.proofs.ReadSizeLemmas.{one_read_more}
use Rattle.xcp_script.specs.Replay.{IsTurn}

-- 16,384 bytes are a turn
pub is_turn : (n : ℕ) → n ≡ 16384 → IsTurn n
is_turn n is = record { exact = is; least = omega (arith, is); most = omega (arith, is) }

-- there was one more
pub one_turn_more : {R : Type 0} (old now new : Watched R) (n : ℕ) → EachRead IsTurn old now → new.asked ≡ now.asked ++ n ∷ [] → n ≡ 16384 → EachRead IsTurn old new
one_turn_more old now new n h more is = one_read_more IsTurn old now new n h more (is_turn n is)
