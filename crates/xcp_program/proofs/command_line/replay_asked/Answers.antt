use Rattle.std.proofs.Common.{rules, codes, string_bytes}
use Rattle.xcp_program.specs.CommandLine.{HasText}
use Rattle.clap.specs.Words.{subcommand_rows_of}
use Rattle.xcp_program.proofs.command_line.replay_asked.Goals as goal

pub returns-clause-asked : goal.returns-clause-asked
returns-clause-asked c =
    let found = subcommand_rows_of c.args.matches.now in
    let config : HasText found (codes "replay") (codes "config") (string_bytes c.in_ok-config.config) = search rules in
    record {
      config = record { text = config; given = c.requires.config.given };
      flash = c.in_ok-flash.ensures;
    }
