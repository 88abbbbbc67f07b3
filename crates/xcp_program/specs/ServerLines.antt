-- The lines that a server prints.
use Rattle.std.specs.Prelude.{ℕ, List, [], ◌++◌, ◌==◌, if◌then◌else◌, codes, decimal}
use Rattle.xcp_program.specs.declared.server_lines.Counts.{Counts}
use Rattle.xcp_program.specs.declared.server_lines.Listening.{Listening}
use Rattle.xcp_program.specs.declared.server_lines.ListeningUdp.{ListeningUdp}
use Rattle.xcp_program.specs.declared.server_lines.Network.{Network}
use Rattle.xcp_program.specs.declared.server_lines.Recorded.{Recorded}

-- a line of a word and a decimal number
abbrev pub line_of : List ℕ → ℕ → List ℕ
line_of word n = word ++ decimal n ++ codes "\n"

-- the same, where there is something to tell
abbrev pub line_where : List ℕ → ℕ → List ℕ
line_where word n = if n == 0 then [] else line_of word n

-- the port, once a server listens
abbrev pub listening_text : Listening → List ℕ
listening_text l = line_of (codes "listening ") l.port

-- the same over UDP
abbrev pub listening_udp_text : ListeningUdp → List ℕ
listening_udp_text l = codes "listening " ++ decimal l.port ++ codes " udp\n"

-- how many datagrams there were
abbrev pub received_text : ℕ → ℕ → ℕ → List ℕ
received_text came faulty foreign = decimal came ++ codes " came, " ++ decimal faulty ++ codes " faulty, " ++ decimal foreign ++ codes " foreign"

-- how many frames there were that didn't come as they should, by their CTR
abbrev pub missed_text : ℕ → ℕ → ℕ → List ℕ
missed_text lost doubled overtaken = decimal lost ++ codes " lost, " ++ decimal doubled ++ codes " doubled, " ++ decimal overtaken ++ codes " overtaken"

-- what the network did, in one line
abbrev pub network_text : Network → List ℕ
network_text n =
    codes "datagrams: "
    ++ received_text n.came n.faulty n.foreign
    ++ codes ", "
    ++ missed_text n.lost n.doubled n.overtaken
    ++ codes ", "
    ++ decimal n.unsent
    ++ codes " unsent\n"

-- the last lines of a server whose callers are settled
abbrev pub counts_text : Counts → List ℕ
counts_text c =
    line_of (codes "chapters ") c.chapters
    ++ line_of (codes "calls ") c.calls
    ++ line_where (codes "lost ") c.lost
    ++ line_where (codes "late ") c.late
    ++ codes "settled\n"

-- behind them, how many calls stand in the journal's file
abbrev pub recorded_text : Recorded → List ℕ
recorded_text r = line_of (codes "recorded ") r.calls
