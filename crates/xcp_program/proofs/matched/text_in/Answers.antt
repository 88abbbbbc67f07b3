use Rattle.std.proofs.Common.{refl, ◌∙◌}
use Rattle.clap.specs.Words.{subcommand_rows_of, found_of, rows_of}
use Rattle.clap.specs.declared.parser.matches.ArgMatches.TheViews.{out-ArgMatches}
use Rattle.clap.proofs.WalkLemmas.{first_value-rows}
use Rattle.xcp_program.proofs.CommandLineLemmas.{name_beside_rows, text_found, no_text_found}
use Rattle.xcp_program.proofs.matched.text_in.Goals as goal

pub returns-in-Some-clause-some : goal.returns-in-Some-clause-some
returns-in-Some-clause-some c =
    let m = c.args.matches.now in
    let rows = rows_of (found_of c.in-Some.found.now) in
    let name = name_beside_rows (out-ArgMatches m).subcommand ∙ c.in-Some.ensures.found.0 refl in
    let value = c.get_str.ensures ∙ first_value-rows (found_of c.in-Some.found.now) c.args.option.now in
    text_found c.args.command.now c.args.option.now (subcommand_rows_of m) rows c.get_str.result name c.in-Some.ensures.rows value

pub returns-in-Some-clause-none : goal.returns-in-Some-clause-none
returns-in-Some-clause-none c =
    let m = c.args.matches.now in
    let rows = rows_of (found_of c.in-Some.found.now) in
    let value = c.get_str.ensures ∙ first_value-rows (found_of c.in-Some.found.now) c.args.option.now in
    no_text_found c.args.command.now c.args.option.now (subcommand_rows_of m) rows c.get_str.result c.in-Some.ensures.rows value
