use Rattle.xcp_slave.proofs.PageLaws.{ecu-given, xcp-given, ecu-kept, xcp-kept, bytes-kept, others-kept}
use Rattle.xcp_slave.proofs.accepting.a_switch_gives_what_it_names.Goals as goal

pub returns-clause-ecu : goal.returns-clause-ecu
returns-clause-ecu c = ecu-given

pub returns-clause-xcp : goal.returns-clause-xcp
returns-clause-xcp c = xcp-given

pub returns-clause-ecu_kept : goal.returns-clause-ecu_kept
returns-clause-ecu_kept c = ecu-kept

pub returns-clause-xcp_kept : goal.returns-clause-xcp_kept
returns-clause-xcp_kept c = xcp-kept

pub returns-clause-bytes : goal.returns-clause-bytes
returns-clause-bytes c = bytes-kept

pub returns-clause-others : goal.returns-clause-others
returns-clause-others c = others-kept
