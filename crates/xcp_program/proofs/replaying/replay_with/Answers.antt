use Rattle.std.proofs.Common.{◌≡◌, Err, inl, inr, refl, rules}
use Rattle.xcp_framing.proofs.ReadSizeLemmas.{no_read}
use Rattle.xcp_script.specs.Replay.{IsTurn}
use Rattle.xcp_script.specs.declared.ReplayError.TheVariants as errors
use Rattle.xcp_program.proofs.replaying.replay_with.Goals as goal

-- no call was made yet
pub returns-in_err-layout-clause-configuration : goal.returns-in_err-layout-clause-configuration
returns-in_err-layout-clause-configuration g c = λ n e. (refl, refl)

-- memory was short before a call, or at a request of the script
pub returns-in-Err-Memory-clause-memory : goal.returns-in-Err-Memory-clause-memory
returns-in-Err-Memory-clause-memory g c =
    let short : c.answer_script.result ≡ Err errors.Memory = search rules in
    λ e. elim (c.answer_script.ensures.memory short) [
      | inl before ↦ inl before
      | inr runs ↦ inr (record { layout = c.in_ok-layout.layout; begins = c.in_ok-layout.ensures.layout; runs = runs })
    ]

pub returns-in_err-layout-clause-sizes : goal.returns-in_err-layout-clause-sizes
returns-in_err-layout-clause-sizes g c = no_read IsTurn _
