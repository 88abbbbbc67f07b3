use Rattle.std.proofs.Common.{rules, codes, string_bytes}
use Rattle.xcp_program.specs.CommandLine.{HasText}
use Rattle.clap.specs.Words.{subcommand_rows_of}
use Rattle.xcp_program.proofs.command_line.audit_asked.Goals as goal

pub returns-clause-asked : goal.returns-clause-asked
returns-clause-asked c =
    let found = subcommand_rows_of c.args.matches.now in
    let config : HasText found (codes "audit") (codes "config") (string_bytes c.in_ok-config.config) = search rules in
    let file : HasText found (codes "audit") (codes "file") (string_bytes c.in_ok-file.file) = search rules in
    record {
      config = record { text = config; given = c.requires.config.given };
      journal = record { text = file; given = c.requires.place.given };
      flash = c.in_ok-flash.ensures;
      flag = search rules;
    }
