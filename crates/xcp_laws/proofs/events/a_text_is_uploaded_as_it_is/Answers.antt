use Rattle.xcp_laws.proofs.EventAnswers.{name-uploaded, whole-name, id-uploaded, whole-id, id-told, no-text-told, no-id-told}
use Rattle.xcp_laws.proofs.events.a_text_is_uploaded_as_it_is.Goals as goal

pub returns-clause-name : goal.returns-clause-name
returns-clause-name c = name-uploaded

pub returns-clause-whole_name : goal.returns-clause-whole_name
returns-clause-whole_name c = whole-name

pub returns-clause-id : goal.returns-clause-id
returns-clause-id c = id-uploaded

pub returns-clause-whole_id : goal.returns-clause-whole_id
returns-clause-whole_id c = whole-id

pub returns-clause-id_told : goal.returns-clause-id_told
returns-clause-id_told c = id-told

pub returns-clause-no_id : goal.returns-clause-no_id
returns-clause-no_id c = no-id-told

pub returns-clause-no_text : goal.returns-clause-no_text
returns-clause-no_text c = no-text-told
