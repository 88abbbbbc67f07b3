-- How a connection ends, by how its three parts ended.
use Rattle.std.proofs.Common.{◌≡◌, ℕ, inl, inr, Result, Ok, Err, refl}
use Rattle.std.specs.Prelude.{◌↔◌, ◌⊎◌, IsOk, IsErr}
use Rattle.xcp_framing.specs.declared.serving.ServeError.{ServeError}
use Rattle.xcp_framing.specs.declared.serving.ServeError.TheVariants as errors
use Rattle.xcp_framing.specs.declared.serving.Served.{Served}
use Rattle.xcp_outlet.specs.declared.fault.SendError.{SendError}
use Rattle.xcp_connection.specs.Connections.{outcome_of}

-- a connection ends well exactly where its reading, its pump and its sender did
pub ends_well : (heard : Result Served ServeError) (pumped : Result ℕ ServeError) (sent : Result ℕ SendError) (s : Served) → (outcome_of heard pumped sent ≡ Ok s) ↔ ((heard ≡ Ok s) × IsOk pumped × IsOk sent)
ends_well (Err e) pumped sent s = (λ h. cc, λ h. cc)
ends_well (Ok r) (Err e) sent s = (λ h. cc, λ h. cc)
ends_well (Ok r) (Ok n) (Err e) s = (λ h. cc, λ h. cc)
ends_well (Ok r) (Ok n) (Ok m) s = (λ h. (h, refl, refl), λ h. h.0)

-- a connection's fault is that of its reading or of its pump, or it is Write and its sender has one
pub fault_is_a_parts : (heard : Result Served ServeError) (pumped : Result ℕ ServeError) (sent : Result ℕ SendError) (e : ServeError) → outcome_of heard pumped sent ≡ Err e → (heard ≡ Err e) ⊎ ((pumped ≡ Err e) ⊎ ((e ≡ errors.Write) × IsErr sent))
fault_is_a_parts (Err c) pumped sent e h = inl h
fault_is_a_parts (Ok r) (Err c) sent e h = inr (inl cc)
fault_is_a_parts (Ok r) (Ok n) (Err c) e h = inr (inr (cc, refl))
fault_is_a_parts (Ok r) (Ok n) (Ok m) e h = inl h

-- where a connection's reading has a fault, it is the connection's
pub reading_first : (heard : Result Served ServeError) (pumped : Result ℕ ServeError) (sent : Result ℕ SendError) (e : ServeError) → heard ≡ Err e → outcome_of heard pumped sent ≡ Err e
reading_first (Err c) pumped sent e h = cc
reading_first (Ok r) pumped sent e h = cc
