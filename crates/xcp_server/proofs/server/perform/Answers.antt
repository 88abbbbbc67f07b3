use Rattle.std.proofs.Common.{rules, refl, arith}
use Rattle.xcp_server.proofs.server.perform.Goals as goal

pub returns : goal.returns
returns g c = record {
  duties = c.in_ok-connections.field-0;
  dealt = c.in_ok-connections.ensures.dealt;
  way = c.in_ok-connections.ensures.way;
  parted = c.in_ok-parted.ensures.parted;
  worked = c.in_ok-parted.ensures.worked;
  spare = refl;
  unused = refl;
  relay = c.in_ok-parted.ensures.writing;
  room = search rules;
}
