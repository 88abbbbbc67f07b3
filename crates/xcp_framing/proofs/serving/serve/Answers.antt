use Rattle.std.proofs.Common.{rules, refl}
use Rattle.xcp_framing.proofs.ServeAnswerLemmas.{frames_more, frames_before, frames_handed, frames_held, serves_memory, serves_of, refuses_of, write_of, no_room_of}
use Rattle.xcp_framing.proofs.ReadSizeLemmas.{no_read}
use Rattle.xcp_framing.specs.Serve.{IsStreamRead}
use Rattle.xcp_framing.proofs.serving.serve.Goals as goal

pub answer_stream-requires-clause-packets : goal.answer_stream-requires-clause-packets
answer_stream-requires-clause-packets g c = record {
  none = search rules;
  more = frames_more _ _ _ _ _;
  before = frames_before _ _ _ _ _;
}

pub answer_stream-requires-clause-handing_on : goal.answer_stream-requires-clause-handing_on
answer_stream-requires-clause-handing_on g c = record {
  handed = frames_handed _ _ _ _ _;
  held = frames_held _ _ _ _ _;
}

pub returns-in_default-clause-serves : goal.returns-in_default-clause-serves
returns-in_default-clause-serves g c = serves_memory _ _ _ _

pub returns-in_default-new-clause-serves : goal.returns-in_default-new-clause-serves
returns-in_default-new-clause-serves g c = serves_memory _ _ _ _

pub returns-clause-serves : goal.returns-clause-serves
returns-clause-serves g c = serves_of _ _ _ _ _ _ _ _ _ _ _ c.answer_stream.ensures.streams (rw (c.in-Ok-new.ensures) refl) (rw (c.in-Ok-new.ensures) refl) c.answer_stream.ensures.rests c.answer_stream.ensures.sent

pub returns-clause-write_unfailed : goal.returns-clause-write_unfailed
returns-clause-write_unfailed g c = λ other. c.answer_stream.ensures.streams.answered.unfailed (λ is. other (write_of _ is))

pub returns-clause-no_room : goal.returns-clause-no_room
returns-clause-no_room g c = no_room_of _ c.answer_stream.ensures.streams.answered.no_room

pub returns-clause-refused : goal.returns-clause-refused
returns-clause-refused g c = refuses_of _ _ _ _ _ _ _ _ _ _ _ _ c.answer_stream.ensures.streams

pub returns-in_default-clause-sizes : goal.returns-in_default-clause-sizes
returns-in_default-clause-sizes g c = no_read IsStreamRead _

pub returns-in_default-new-clause-sizes : goal.returns-in_default-new-clause-sizes
returns-in_default-new-clause-sizes g c = no_read IsStreamRead _
