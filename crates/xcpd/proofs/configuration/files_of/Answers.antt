use Rattle.std.proofs.Common.{List, map, option_map, string_bytes, sym, subst, ◌++◌, ◌∷◌, []}
use Rattle.xcp_config.specs.TableLayout.{File}
use Rattle.xcpd.specs.NamedFiles.{AreOf}
use Rattle.xcpd.proofs.NamedFileLemmas.{one_named}
use Rattle.xcpd.proofs.configuration.files_of.Goals as goal

pub loop-name-preserved : goal.loop-name-preserved
loop-name-preserved c =
    subst (λ (files : List File). AreOf (map (option_map string_bytes) (c.loop-name.yielded ++ c.in-Some.name ∷ [])) files)
    (sym c.in-Ok-push.ensures.items)
    (one_named c.loop-name.yielded c.loop-name.files.items c.in-Some.name c.in_ok-file.file c.loop-name.invariant c.in_ok-file.ensures)
