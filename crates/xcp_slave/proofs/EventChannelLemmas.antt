-- Event channels that there are.
use Rattle.std.proofs.Common.{◌≡◌, ℕ, ◌<◌, length, Bool, true, false, None, nat_le, arith, refl}
use Rattle.std.proofs.lemmas.Bool.Decides.{nat_tests}
use Rattle.xcp_memory.specs.Layout.{LayoutValue}
use Rattle.xcp_daq.specs.DaqInfo.{event_info_refusal}

-- a channel that isn't refused is one of the layout's
pub event_there : (l : LayoutValue) (channel : ℕ) → event_info_refusal l channel ≡ None → channel < length l.events
event_there l channel h = by_test (nat_le (length l.events) channel) refl h
  where
    by_test : (b : Bool) → nat_le (length l.events) channel ≡ b → event_info_refusal l channel ≡ None → channel < length l.events
    by_test true e g = let t = rw e at g in cc
    by_test false e g = grind (arith, nat_tests, e)
