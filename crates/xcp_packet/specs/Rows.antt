-- Tests in the order in which they are looked at, and the row of a command: why it is refused, and else its reply and its
-- effect.
use Rattle.std.specs.Prelude.{◌≡◌, ℕ, Bool, true, not, List, [], ◌∷◌, Option, Some, None, Result, Ok, Err, if◌then◌else◌}
use Rattle.xcp_packet.specs.declared.code.Code.{Code}
use Rattle.xcp_packet.specs.declared.reply.Reply.{Reply}
use Rattle.xcp_packet.specs.declared.reply.Reply.TheVariants.{Error}
use Rattle.xcp_packet.specs.declared.order.Order.{Order}
use Rattle.xcp_packet.specs.declared.lent.Sent.{Sent}
use Rattle.xcp_packet.specs.declared.lent.CommandError.{CommandError}
use Rattle.xcp_packet.specs.ReplyInBytes.{fault_reply, sent_packets, reply_packets}

-- what stands beside the first test that holds, where one does
abbrev pub first_holding : {A : Type 0} → List (Bool × A) → Option A
first_holding [] = None
first_holding (t ∷ ts) = if t.0 then Some t.1 else first_holding ts

-- what must hold, as the test that it doesn't
abbrev pub must : {A : Type 0} → Bool → A → Bool × A
must good fault = (not good, fault)

-- Refusals in the order in which they are looked at, each a test and its error packet; the reply to a command that
-- none of them meets, none where nothing is sent; and the value after it.
pub record Row (V : Type 0) : Type 0 where
  pub refusals : List (Bool × Reply)
  pub reply : Option Reply
  pub after : V

-- a refusal that is decided elsewhere
abbrev pub refused : Option Code → List (Bool × Reply)
refused None = []
refused (Some code) = (true, Error code) ∷ []

-- The row is met: no refusal holds, and reply and value are the row's; or the first refusal that holds is answered,
-- and the value is what a refusal leaves.
abbrev pub Meets : {V : Type 0} → Row V → V → Result (Option Reply) Reply → V → Type 0
Meets r left (Ok reply) w = (first_holding r.refusals ≡ None) × (reply ≡ r.reply) × (w ≡ r.after)
Meets r left (Err e) w = (first_holding r.refusals ≡ Some e) × (w ≡ left)

-- The same where the reply stands in a packet that was lent, which then has these bytes, in this byte order and with at most
-- `width` data bytes a packet. A refusal says nothing of them.
abbrev pub Tells : {V : Type 0} → Order → ℕ → Row V → V → Result Sent CommandError → List ℕ → V → Type 0
Tells order width r left (Ok sent) bytes w = (first_holding r.refusals ≡ None) × (sent_packets sent bytes ≡ reply_packets order width r.reply) × (w ≡ r.after)
Tells order width r left (Err fault) bytes w = (first_holding r.refusals ≡ Some (fault_reply fault)) × (w ≡ left)

-- the same row over a greater value, of which what it changes is a part
abbrev pub row_within : {V W : Type 0} → (V → W) → Row V → Row W
row_within whole r = record { refusals = r.refusals; reply = r.reply; after = whole r.after }
