-- A bound of the packets that one packet is answered by.
use Rattle.std.specs.Prelude.{◌+◌, ◌*◌, ℕ}
use Rattle.xcp_framing.specs.Serve.{most_drains, most_train}

abbrev pub most_packets : ℕ
most_packets = most_train + most_train * most_drains
