use Rattle.std.proofs.Common.{◌≡◌, ap, subst, ◌∙◌}
use Rattle.std.specs.Io.KnownBytes.{Appends}
use Rattle.xcp_describe.specs.FindingsText.{clean_text}
use Rattle.xcp_telling.proofs.UnmarkedLemmas.{is_unmarked, text_stays}
use Rattle.xcp_telling.proofs.checking.check_located.Goals as goal

-- the line that says that nothing was found has no colon
pub returns-in-Ok-write_all-clause-clean : goal.returns-in-Ok-write_all-clause-clean
returns-in-Ok-write_all-clause-clean g c = λ clean.
    let told = c.in-Ok.ensures.found in
    let is : told.0 ≡ clean_text = told.1.clean.0 clean in
    let stays = text_stays told.0 c.in-Ok.told.items (ap is_unmarked is) told.2 in
    subst (Appends (g.W.Write.contents c.args.writer.now.inner) (g.W.Write.contents c.write_all.new.self.inner)) (c.as_slice.ensures.value ∙ (stays ∙ is)) c.in-Ok-write_all.ensures.ok
