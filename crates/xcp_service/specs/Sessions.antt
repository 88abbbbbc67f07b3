-- Whose the session is, where the tools of several seats share one slave: it is the seat's whose CONNECT was accepted last, of those
-- whose tool is still there.
use Rattle.std.specs.Prelude.{ℕ, Bool, true, false, not, ◌&&◌, ◌||◌, ◌==◌, List, [], ◌∷◌, filter, if◌then◌else◌}
use Rattle.xcp_slave.specs.Outcomes.{Answer}
use Rattle.xcp_slave.specs.declared.outcome.Outcome.TheVariants as answers
use Rattle.xcp_slave.specs.declared.request.Request.{Request}
use Rattle.xcp_slave.specs.declared.request.Request.TheVariants as requests

-- the first of these is this one
abbrev pub first_is : ℕ → List ℕ → Bool
first_is number [] = false
first_is number (first ∷ rest) = first == number

-- a command packet that begins with this code
abbrev pub has_code : ℕ → Request → Bool
has_code code (requests.Command packet) = first_is code packet.items
has_code code _ = false

-- (ASAM MCD-1 XCP, protocol layer: positive response packet, RES.)
abbrev pub is_positive : Answer → Bool
is_positive (answers.Packets (packet ∷ more)) = first_is 0xFF packet
is_positive _ = false

-- A CONNECT was accepted.
-- (ASAM MCD-1 XCP, protocol layer: CONNECT.)
abbrev pub connects : Request → Answer → Bool
connects request answer = has_code 0xFF request && is_positive answer

abbrev pub is_hangup : Request → Bool
is_hangup requests.Hangup = true
is_hangup _ = false

-- The slave's session has ended: by a Hangup, or a DISCONNECT was accepted.
-- (ASAM MCD-1 XCP, protocol layer: DISCONNECT.)
abbrev pub ends : Request → Answer → Bool
ends request answer = is_hangup request || (has_code 0xFE request && is_positive answer)

-- these seats but this one
abbrev pub without : ℕ → List ℕ → List ℕ
without seat seats = filter (λ s. not (s == seat)) seats

-- The seats that have connected and whose tools are still there, the one that connected last first, behind a call of a seat. Where the
-- session ended it is nobody's, and none of these has it again but by a CONNECT.
abbrev pub noted : ℕ → Request → Answer → List ℕ → List ℕ
noted seat request answer seats =
    if ends request answer then []
    else (if connects request answer then seat ∷ without seat seats
    else seats)

-- the session is this seat's
abbrev pub has_session : ℕ → List ℕ → Bool
has_session seat seats = first_is seat seats
