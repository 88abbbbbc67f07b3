use Rattle.std.proofs.Common.{◌≡◌, List, [], ◌∷◌, ◌++◌, refl, sym, ap, subst}
use Rattle.xcp_trace.specs.declared.Entry.{Entry}
use Rattle.xcp_scribe.specs.Given.{Given, calls_given}
use Rattle.xcp_scribe.specs.Scribing.{HasWritten}
use Rattle.xcp_scribe.proofs.recording.RecordingScribe.write.Goals as goal

given_more : (given : List Given) (g : Given) → calls_given (given ++ g ∷ []) ≡ calls_given given ++ g.calls ∷ []
given_more [] g = refl
given_more (x ∷ given) g = ap (λ (l : List (List Entry)). x.calls ∷ l) (given_more given g)

pub returns : goal.returns
returns g c = λ given was.
    subst (λ (l : List (List Entry)). HasWritten g.W.Write.contents c.put.new.self l) (sym (given_more given (record { calls = c.args.calls; last = c.args._last.now }))) (c.put.ensures (calls_given given) was)
