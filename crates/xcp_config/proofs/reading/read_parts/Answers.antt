use Rattle.std.proofs.Common.{List, ◌∙◌, inr}
use Rattle.toml.specs.Data.{Data}
use Rattle.toml.specs.View.{view}
use Rattle.xcp_config.specs.Check.{Check}
use Rattle.xcp_config.specs.TableLayout.{File}
use Rattle.xcp_config.specs.TableChecks.{own_checks, segments_checks, signals_checks, events_checks, limit_checks, checks}
use Rattle.std.proofs.lemmas.Result.{err_from_is_err_and}
use Rattle.xcp_packet.proofs.RowTestLemmas.{behind_3, holding_1_of_5, holding_2_of_5, holding_3_of_5, holding_4_of_5}
use Rattle.xcp_config.proofs.CheckLemmas.{or_so}
use Rattle.xcp_config.proofs.reading.read_parts.Goals as goal

abbrev own : Data → List Check
own t = own_checks t

abbrev segments : List File → Data → List Check
segments files t = segments_checks files t

abbrev signals : Data → List Check
signals t = signals_checks t

abbrev events : Data → List Check
events t = events_checks t

abbrev overlaps : List File → Data → List Check
overlaps files t = limit_checks files t

pub returns-in_err-own-clause-refused : goal.returns-in_err-own-clause-refused
unfolding checks
returns-in_err-own-clause-refused c =
    let t = view c.args.table.now in
    let r = c.from_residual in
    let p = err_from_is_err_and r.result r.ensures.1 in
    rw (p.1, p.2) (or_so c.in_err-own.ensures.refused (λ k. holding_1_of_5 (own t) (segments c.args.files.now t) (signals t) (events t) (overlaps c.args.files.now t) _ k))

pub returns-in_err-segments-clause-refused : goal.returns-in_err-segments-clause-refused
unfolding checks
returns-in_err-segments-clause-refused c =
    let t = view c.args.table.now in
    let r = c.from_residual-in_err-segments in
    let p = err_from_is_err_and r.result r.ensures.1 in
    rw (p.1, p.2) (or_so c.in_err-segments.ensures.refused (λ k. holding_2_of_5 (own t) (segments c.args.files.now t) (signals t) (events t) (overlaps c.args.files.now t) _ c.in_ok-own.ensures.passes k))

pub returns-in_err-signals-clause-refused : goal.returns-in_err-signals-clause-refused
unfolding checks
returns-in_err-signals-clause-refused c =
    let t = view c.args.table.now in
    let r = c.from_residual-in_err-signals in
    let p = err_from_is_err_and r.result r.ensures.1 in
    rw (p.1, p.2) (inr (holding_3_of_5 (own t) (segments c.args.files.now t) (signals t) (events t) (overlaps c.args.files.now t) _ c.in_ok-own.ensures.passes c.in_ok-segments.ensures.passes c.in_err-signals.ensures.refused))

pub returns-in_err-events-clause-refused : goal.returns-in_err-events-clause-refused
unfolding checks
returns-in_err-events-clause-refused c =
    let t = view c.args.table.now in
    let r = c.from_residual-in_err-events in
    let p = err_from_is_err_and r.result r.ensures.1 in
    rw (p.1, p.2) (or_so c.in_err-events.ensures.refused (λ k. holding_4_of_5 (own t) (segments c.args.files.now t) (signals t) (events t) (overlaps c.args.files.now t) _ c.in_ok-own.ensures.passes c.in_ok-segments.ensures.passes c.in_ok-signals.ensures.passes k))

pub returns-clause-passes : goal.returns-clause-passes
returns-clause-passes c =
    let t = view c.args.table.now in
    behind_3 (own t) (segments c.args.files.now t) (signals t) (events t) c.in_ok-own.ensures.passes c.in_ok-segments.ensures.passes c.in_ok-signals.ensures.passes ∙ c.in_ok-events.ensures.passes
