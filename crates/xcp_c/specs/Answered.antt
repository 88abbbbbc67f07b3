-- What an answer tells a C program.
use Rattle.std.specs.Prelude.{◌≡◌, ◌⊎◌, ◌<◌, ◌==◌, ℕ, List, [], ◌∷◌, length, take, Option, Some, None, if◌then◌else◌}
use Rattle.xcp_packet.specs.PacketTrains.{packets_in}
use Rattle.xcp_slave.specs.Outcomes.{Answer}
use Rattle.xcp_slave.specs.declared.Outcome.TheVariants as answers
use Rattle.xcp_c.specs.declared.answer.XcpAnswer.{XcpAnswer}

-- how many data bytes each packet of a block has but the last; 0 says that it is no block
abbrev pub width_in : ℕ → Option ℕ
width_in w = if w == 0 then None else Some w

-- the packets that stand in an answer
abbrev pub packets_told : XcpAnswer → List (List ℕ)
packets_told c = if c.told == 1 then packets_in (width_in c.width) (take c.length c.bytes) else []

-- a width that no block has
abbrev pub HasNoWidth : XcpAnswer → Type 0
HasNoWidth c = ((0 < c.width) × (c.width < 7)) ⊎ (c.width ≡ 255)

-- the answer, as numbers and bytes
abbrev pub IsAnswerInC : Answer → XcpAnswer → Type 0
IsAnswerInC answers.Silent c = c.told ≡ 0
IsAnswerInC (answers.Packets packets) c = (c.told ≡ 1) × (packets_told c ≡ packets) × (c.count ≡ length packets)
IsAnswerInC (answers.Sampled n) c = (c.told ≡ 2) × (c.count ≡ n)
IsAnswerInC answers.Overrun c = c.told ≡ 3
IsAnswerInC answers.NoChannel c = c.told ≡ 4
IsAnswerInC answers.BadSignals c = c.told ≡ 5
IsAnswerInC answers.Nothing c = c.told ≡ 6
IsAnswerInC (answers.Stored n) c = (c.told ≡ 7) × (c.count ≡ n)
IsAnswerInC answers.NoStore c = c.told ≡ 8
IsAnswerInC answers.Later c = c.told ≡ 9
