use Rattle.std.proofs.Common.{◌≡◌, ◌⊎◌, inl, inr, refl, sym, ap, subst}
use Rattle.std.specs.Prelude.{◌≢◌, not, Bool, MatchBool}
use Rattle.xcp_memory.specs.Layout.{LayoutValue}
use Rattle.xcp_slave.specs.SlaveValue.{layout_of}
use Rattle.xcp_flash.specs.FlashFile.{file_of}
use Rattle.xcp_flash.specs.References.{AreReferences, kept_pages}
use Rattle.xcp_scribe.specs.Given.{Given}
use Rattle.xcp_scribe.specs.ShelfCalls.{Asked}
use Rattle.xcp_scribe.specs.declared.standing.Standing.TheVariants.{Behind}
use Rattle.xcp_scribe.proofs.FlashingLemmas.{kept_asked, kept_same, kept_unfit}
use Rattle.xcp_scribe.proofs.ShelfLemmas.{behind_after, room_kept, told_failed, told_put}
use Rattle.xcp_scribe.proofs.flashing.FlashingScribe.write.Goals as goal

pub returns-then-not-fit : goal.returns-then-not-fit
returns-then-not-fit g c = λ given was.
    let more : Given = record { calls = c.args._calls; last = c.args.last.now } in
    let unfit : AreReferences c.args.self.now.pages (layout_of c.args.last.now) → ⊥ = λ fits. c.if-not-fit.ensures {u = tt} (subst (λ (l : LayoutValue). AreReferences c.args.self.now.pages l) (sym c.layout.ensures) fits) in
    kept_unfit g.F.Shelf.holds c.args.self.now given more was unfit

pub returns-then-not-is_due : goal.returns-then-not-is_due
returns-then-not-is_due g c = λ given was.
    let more : Given = record { calls = c.args._calls; last = c.args.last.now } in
    let none = c.if-not-is_due.ensures {u = tt} in
    let same = subst (λ (b : Bool). MatchBool b (c.args.self.now.pages ≢ kept_pages c.args.last.now) (c.args.self.now.pages ≡ kept_pages c.args.last.now)) none.0 c.update-changed.ensures.changed in
    kept_same g.F.Shelf.holds c.args.self.now c.update-changed.new.self _ _ _ given more was c.update-changed.ensures.new c.update-changed.ensures.kept same none.1

pub invariant_of-self-then-put : goal.invariant_of-self-then-put
invariant_of-self-then-put g c =
    let fits = subst (λ (l : LayoutValue). AreReferences c.args.self.now.pages l) c.layout.ensures (c.if-not-fit.ensures {u = tt}) in
    let call : Asked = record { file = file_of c.args.self.now.layout c.update-changed.new.self; put = c.put.result } in
    let old = c.args.self.now.shelf.asked in
    record {
      room = room_kept c.args.self.now.pages c.update-changed.new.self (layout_of c.args.last.now) _ _ fits c.update-changed.ensures.kept c.args.self.now.room c.put.ensures.room;
      told = told_put old _ call c.args.self.now.failed c.put.ensures.asked c.if-put.true c.args.self.now.told;
      behind = behind_after old _ call _ c.put.ensures.asked (ap not c.if-put.true);
    }

pub invariant_of-self-else-put : goal.invariant_of-self-else-put
invariant_of-self-else-put g c =
    let fits = subst (λ (l : LayoutValue). AreReferences c.args.self.now.pages l) c.layout.ensures (c.if-not-fit.ensures {u = tt}) in
    let call : Asked = record { file = file_of c.args.self.now.layout c.update-changed.new.self; put = c.put.result } in
    let old = c.args.self.now.shelf.asked in
    record {
      room = room_kept c.args.self.now.pages c.update-changed.new.self (layout_of c.args.last.now) _ _ fits c.update-changed.ensures.kept c.args.self.now.room c.put.ensures.room;
      told = told_failed old _ call c.put.ensures.asked c.if-put.false;
      behind = behind_after old _ call _ c.put.ensures.asked (ap not c.if-put.false);
    }

pub returns-then-put : goal.returns-then-put
returns-then-put g c = λ given was.
    let more : Given = record { calls = c.args._calls; last = c.args.last.now } in
    let call : Asked = record { file = file_of c.args.self.now.layout c.update-changed.new.self; put = c.put.result } in
    let due : (kept_pages c.args.last.now ≢ c.args.self.now.pages) ⊎ (c.args.self.now.standing ≡ Behind) = elim (c.if-not-is_due.ensures {u = tt}) [
      | inl changed ↦
          let others = subst (λ (b : Bool). MatchBool b (c.args.self.now.pages ≢ kept_pages c.args.last.now) (c.args.self.now.pages ≡ kept_pages c.args.last.now)) changed c.update-changed.ensures.changed in
          inl (λ e. others (sym e))
      | inr behind ↦ inr behind
    ] in
    kept_asked g.F.Shelf.holds c.args.self.now _ given more call was refl refl c.update-changed.ensures.new c.update-changed.ensures.kept c.put.ensures.asked refl due (c.put.ensures.put c.if-put.true)

pub returns-else-put : goal.returns-else-put
returns-else-put g c = λ given was.
    let more : Given = record { calls = c.args._calls; last = c.args.last.now } in
    let call : Asked = record { file = file_of c.args.self.now.layout c.update-changed.new.self; put = c.put.result } in
    let due : (kept_pages c.args.last.now ≢ c.args.self.now.pages) ⊎ (c.args.self.now.standing ≡ Behind) = elim (c.if-not-is_due.ensures {u = tt}) [
      | inl changed ↦
          let others = subst (λ (b : Bool). MatchBool b (c.args.self.now.pages ≢ kept_pages c.args.last.now) (c.args.self.now.pages ≡ kept_pages c.args.last.now)) changed c.update-changed.ensures.changed in
          inl (λ e. others (sym e))
      | inr behind ↦ inr behind
    ] in
    kept_asked g.F.Shelf.holds c.args.self.now _ given more call was refl refl c.update-changed.ensures.new c.update-changed.ensures.kept c.put.ensures.asked refl due refl
