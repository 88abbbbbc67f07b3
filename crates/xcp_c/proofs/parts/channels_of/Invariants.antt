use Rattle.std.proofs.Common.{◌≡◌, ◌++◌, drop, map}
use Rattle.xcp_c.specs.PartsInC.{channel_in, channel_of_struct}
use Rattle.xcp_c.proofs.parts.channels_of.Given as goal

-- those so far, and the rest
abbrev pub invariant-loop-channel : goal.invariant-loop-channel
invariant-loop-channel l = map channel_of_struct l.made.items ++ map channel_in (drop l.channel-index l.channels) ≡ map channel_in l.channels
