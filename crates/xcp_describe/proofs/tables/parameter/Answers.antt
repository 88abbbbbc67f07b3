use Rattle.std.proofs.Common.{◌∙◌, ℕ, Bool, List, ◌∷◌, rules, is_some}
use Rattle.std.proofs.lemmas.Result.{err_from_is_err_and}
use Rattle.toml.specs.Data.{Data}
use Rattle.toml.specs.View.{view}
use Rattle.xcp_packet.specs.Rows.{must}
use Rattle.xcp_packet.proofs.RowTestLemmas.{holding_left, none_left}
use Rattle.xcp_memory.specs.Layout.{LayoutValue}
use Rattle.xcp_memory.specs.ComputedAccess.{segment_of}
use Rattle.xcp_describe.specs.declared.refusal.Why.{Why}
use Rattle.xcp_describe.specs.declared.refusal.Why.TheVariants.{NoSegment, Taken}
use Rattle.xcp_describe.specs.EntryFaults.{entry_faults, meaning_faults}
use Rattle.xcp_describe.specs.EntryValues.{value_bytes, first_of, name_of, type_of}
use Rattle.xcp_describe.specs.UnreadKeys.{is_key_among}
use Rattle.xcp_describe.specs.private.EntriesRead.{names_of}
use Rattle.xcp_describe.proofs.tables.parameter.Goals as goal

-- the faults behind those of the entry by itself
abbrev behind : LayoutValue → List (List ℕ) → Data → List (Bool × Why)
behind l names d = (is_key_among (name_of d) names, Taken) ∷ must (is_some (segment_of l (first_of d) (value_bytes d))) NoSegment ∷ meaning_faults (type_of d) d

pub returns-in_err-entry-clause-refused : goal.returns-in_err-entry-clause-refused
returns-in_err-entry-clause-refused c =
    let p = err_from_is_err_and c.from_residual.result c.from_residual.ensures.1 in
    rw (p.1, p.2) (holding_left (entry_faults (view c.args.member.now)) (behind c.args.layout.now (names_of c.args.earlier.now) (view c.args.member.now)) _ c.in_err-entry.ensures.refused)

pub returns-then-has_name-clause-refused : goal.returns-then-has_name-clause-refused
returns-then-has_name-clause-refused c = none_left (entry_faults (view c.args.member.now)) (behind c.args.layout.now (names_of c.args.earlier.now) (view c.args.member.now)) c.in_ok-entry.ensures.passes ∙ search rules

pub returns-then-not-is_in_segments-clause-refused : goal.returns-then-not-is_in_segments-clause-refused
returns-then-not-is_in_segments-clause-refused c = none_left (entry_faults (view c.args.member.now)) (behind c.args.layout.now (names_of c.args.earlier.now) (view c.args.member.now)) c.in_ok-entry.ensures.passes ∙ search rules

pub returns-in_err-meaning-clause-refused : goal.returns-in_err-meaning-clause-refused
returns-in_err-meaning-clause-refused c =
    let p = err_from_is_err_and c.from_residual-in_err-meaning.result c.from_residual-in_err-meaning.ensures.1 in
    rw (p.1, p.2) (none_left (entry_faults (view c.args.member.now)) (behind c.args.layout.now (names_of c.args.earlier.now) (view c.args.member.now)) c.in_ok-entry.ensures.passes ∙ search rules)

pub returns-clause-passes : goal.returns-clause-passes
returns-clause-passes c = none_left (entry_faults (view c.args.member.now)) (behind c.args.layout.now (names_of c.args.earlier.now) (view c.args.member.now)) c.in_ok-entry.ensures.passes ∙ search rules
