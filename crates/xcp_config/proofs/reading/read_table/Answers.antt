use Rattle.std.proofs.Common.{List, ◌++◌, ◌∙◌, ap, sym, refl, inr, Some, None}
use Rattle.toml.specs.Data.{Data}
use Rattle.toml.specs.View.{view}
use Rattle.xcp_memory.specs.LayoutParts.{areas}
use Rattle.xcp_memory.specs.Limits.{apart_limits}
use Rattle.xcp_config.specs.Check.{Check}
use Rattle.xcp_config.specs.TableLayout.{File, layout_in}
use Rattle.xcp_config.specs.TableChecks.{own_checks, segments_checks, signals_checks, events_checks, limit_checks, checks}
use Rattle.xcp_packet.proofs.RowTestLemmas.{none_left}
use Rattle.xcp_config.proofs.LimitLemmas.{areas_decide, layout_read, overlaps}
use Rattle.xcp_config.proofs.reading.read_table.Goals as goal

abbrev before : List File → Data → List Check
before files t = own_checks t ++ segments_checks files t ++ signals_checks t ++ events_checks t

pub returns-in-Ok-clause-passes : goal.returns-in-Ok-clause-passes
unfolding checks limit_checks
returns-in-Ok-clause-passes c =
    let t = view c.args.table.now in
    let files = c.args.files.now in
    let p = c.in_ok-parts.parts in
    let decide = areas_decide p files t c.in_ok-parts.ensures.reads c.in_ok-parts.ensures.passes in
    none_left (before files t) (limit_checks files t) c.in_ok-parts.ensures.passes ∙ overlaps (apart_limits (areas (layout_in files t))) None (sym decide ∙ c.in-Ok.ensures.ok.0)

pub returns-in-Ok-clause-value : goal.returns-in-Ok-clause-value
returns-in-Ok-clause-value c = c.in-Ok.ensures.ok.1 ∙ layout_read c.in_ok-parts.parts c.args.files.now (view c.args.table.now) c.in_ok-parts.ensures.reads

pub returns-in-Err-clause-refused : goal.returns-in-Err-clause-refused
unfolding checks limit_checks
returns-in-Err-clause-refused c =
    let t = view c.args.table.now in
    let files = c.args.files.now in
    let p = c.in_ok-parts.parts in
    let decide = areas_decide p files t c.in_ok-parts.ensures.reads c.in_ok-parts.ensures.passes in
    let f = c.in-Err.fault in
    inr (none_left (before files t) (limit_checks files t) c.in_ok-parts.ensures.passes ∙ overlaps (apart_limits (areas (layout_in files t))) (Some f) (sym decide ∙ (c.in-Err.ensures.refused f).0 refl) ∙ ap Some (sym c.of_limit.ensures))
