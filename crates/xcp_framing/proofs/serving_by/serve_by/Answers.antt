use Rattle.std.proofs.Common.{rules, refl}
use Rattle.xcp_framing.proofs.PutPacketLemmas.{puts_behind, puts_before, puts_handed, puts_held, by_memory, by_of, refused_by}
use Rattle.xcp_framing.proofs.ReadSizeLemmas.{no_read}
use Rattle.xcp_framing.specs.ServeBy.{IsHearingRead}
use Rattle.xcp_framing.proofs.serving_by.serve_by.Goals as goal

pub answer_stream-requires-clause-packets : goal.answer_stream-requires-clause-packets
answer_stream-requires-clause-packets g c = record {
  none = search rules;
  more = puts_behind _ _ _ _ _ _ _ g.met.S.Station.same_trans g.met.E.End.same_trans;
  before = λ e ps qs a b i x. puts_before _ _ _ _ _ _ _ e ps qs a b x;
}

pub answer_stream-requires-clause-handing_on : goal.answer_stream-requires-clause-handing_on
answer_stream-requires-clause-handing_on g c = record {
  handed = puts_handed _ _ _ _ _ _ _ g.met.E.End.same_trans;
  held = puts_held _ _ _ _ _ _ _ g.met.E.End.same_trans;
}

pub returns-in_default-clause-serves : goal.returns-in_default-clause-serves
returns-in_default-clause-serves g c = by_memory _ _ _ _

pub returns-then-is_err-clause-serves : goal.returns-then-is_err-clause-serves
returns-then-is_err-clause-serves g c = by_memory _ _ _ _

pub returns-clause-serves : goal.returns-clause-serves
returns-clause-serves g c = by_of _ _ _ _ _ _ _ _ _ _ _ _ _ c.answer_stream.ensures.streams refl (search rules) c.answer_stream.ensures.rests c.answer_stream.ensures.sent

pub returns-clause-refused : goal.returns-clause-refused
returns-clause-refused g c = refused_by _ _ _ _ _ _ _ _ _ _ _ _ _ _ c.answer_stream.ensures.streams

pub returns-in_default-clause-sizes : goal.returns-in_default-clause-sizes
returns-in_default-clause-sizes g c = no_read IsHearingRead _

pub returns-then-is_err-clause-sizes : goal.returns-then-is_err-clause-sizes
returns-then-is_err-clause-sizes g c = no_read IsHearingRead _
