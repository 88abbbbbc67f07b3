use Rattle.std.proofs.Common.{◌∙◌, ℕ, Bool, List, ◌∷◌, ◌++◌, length, rules}
use Rattle.std.proofs.lemmas.Result.{err_from_is_err_and}
use Rattle.toml.specs.Data.{Data}
use Rattle.toml.specs.View.{view}
use Rattle.xcp_packet.specs.Rows.{must}
use Rattle.xcp_packet.proofs.RowTestLemmas.{holding_left, none_left}
use Rattle.xcp_memory.specs.Layout.{LayoutValue}
use Rattle.xcp_memory.specs.ComputedAccess.{lies_inside}
use Rattle.xcp_describe.specs.declared.refusal.Why.{Why}
use Rattle.xcp_describe.specs.declared.refusal.Why.TheVariants.{Event, NoMemory, Taken}
use Rattle.xcp_describe.specs.EntryFaults.{entry_faults, meaning_faults}
use Rattle.xcp_describe.specs.EntryValues.{value_bytes, first_of, is_event, name_of, type_of}
use Rattle.xcp_describe.specs.UnreadKeys.{is_key_among}
use Rattle.xcp_describe.specs.private.EntriesRead.{names_of}
use Rattle.xcp_describe.proofs.tables.measurement.Goals as goal

-- the faults behind those of the entry by itself
abbrev behind : LayoutValue → List (List ℕ) → Data → List (Bool × Why)
behind l names d = (is_key_among (name_of d) names, Taken) ∷ must (lies_inside l (first_of d) (value_bytes d)) NoMemory ∷ must (is_event (length l.events) d) Event ∷ meaning_faults (type_of d) d

pub returns-in_err-entry-clause-refused : goal.returns-in_err-entry-clause-refused
returns-in_err-entry-clause-refused c =
    let p = err_from_is_err_and c.from_residual.result c.from_residual.ensures.1 in
    rw (p.1, p.2) (holding_left (entry_faults (view c.args.member.now)) (behind c.args.layout.now (names_of c.args.parameters.now ++ names_of c.args.earlier.now) (view c.args.member.now)) _ c.in_err-entry.ensures.refused)

pub returns-then-is_taken-clause-refused : goal.returns-then-is_taken-clause-refused
returns-then-is_taken-clause-refused c = none_left (entry_faults (view c.args.member.now)) (behind c.args.layout.now (names_of c.args.parameters.now ++ names_of c.args.earlier.now) (view c.args.member.now)) c.in_ok-entry.ensures.passes ∙ search rules

pub returns-then-not-is_in_memory-clause-refused : goal.returns-then-not-is_in_memory-clause-refused
returns-then-not-is_in_memory-clause-refused c = none_left (entry_faults (view c.args.member.now)) (behind c.args.layout.now (names_of c.args.parameters.now ++ names_of c.args.earlier.now) (view c.args.member.now)) c.in_ok-entry.ensures.passes ∙ search rules

pub returns-in_err-event-clause-refused : goal.returns-in_err-event-clause-refused
returns-in_err-event-clause-refused c =
    let p = err_from_is_err_and c.from_residual-in_err-event.result c.from_residual-in_err-event.ensures.1 in
    rw (p.1, p.2) (none_left (entry_faults (view c.args.member.now)) (behind c.args.layout.now (names_of c.args.parameters.now ++ names_of c.args.earlier.now) (view c.args.member.now)) c.in_ok-entry.ensures.passes ∙ search rules)

pub returns-in_err-meaning-clause-refused : goal.returns-in_err-meaning-clause-refused
returns-in_err-meaning-clause-refused c =
    let p = err_from_is_err_and c.from_residual-in_err-meaning.result c.from_residual-in_err-meaning.ensures.1 in
    rw (p.1, p.2) (none_left (entry_faults (view c.args.member.now)) (behind c.args.layout.now (names_of c.args.parameters.now ++ names_of c.args.earlier.now) (view c.args.member.now)) c.in_ok-entry.ensures.passes ∙ search rules)

pub returns-clause-passes : goal.returns-clause-passes
returns-clause-passes c = none_left (entry_faults (view c.args.member.now)) (behind c.args.layout.now (names_of c.args.parameters.now ++ names_of c.args.earlier.now) (view c.args.member.now)) c.in_ok-entry.ensures.passes ∙ search rules
