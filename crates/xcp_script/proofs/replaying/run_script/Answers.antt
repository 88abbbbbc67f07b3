use Rattle.std.proofs.Common.{rules, Ok, Err, ℕ, sym, ◌∙◌, ◌≡◌, refl}
use Rattle.std.proofs.lemmas.Result.{err_from_is_err_and}
use Rattle.xcp_slave.specs.Run.{requests_of}
use Rattle.xcp_framing.proofs.KnownBytesLemmas.{appends_none}
use Rattle.xcp_framing.proofs.ReadSizeLemmas.{no_read}
use Rattle.xcp_script.specs.Replay.{IsTurn}
use Rattle.xcp_script.proofs.TurnLemmas.{one_turn_more}
use Rattle.xcp_script.proofs.FrontLemmas.{front_all, none_more}
use Rattle.xcp_script.proofs.ScriptProgressLemmas.{at_end, at_limit, fed_error, last_error, midway_front, midway_init, midway_step}
use Rattle.xcp_script.specs.declared.fault.ReplayError.TheVariants as errors
use Rattle.xcp_script.proofs.MemoryShortageLemmas.{fed_short, last_short, memory_as, memory_tells}
use Rattle.xcp_script.proofs.replaying.run_script.Goals as goal

pub loop-init : goal.loop-init
loop-init g c = record {
  midway = rw (c.requires.1, c.requires.2, c.requires.0) (midway_init _ _);
  written = rw c.requires.0 (appends_none _);
  none_left = search rules;
  layout = search rules;
  limit = search rules;
  write_unfailed = search rules;
  calls = search rules;
  read_unfailed = search rules;
  counted = search rules;
  reads = no_read IsTurn _;
}

pub returns-in_err-write_out-clause-replayed : goal.returns-in_err-write_out-clause-replayed
returns-in_err-write_out-clause-replayed g c =
    let p = err_from_is_err_and c.from_residual.result c.from_residual.ensures.1 in
    rw (p.1, p.2) (at_limit _ _ _ (Err c.in_err-write_out.field-0.0) (requests_of c.finish-last.new.desk.exchanges) c.max_cto-max_cto.ensures (last_error _ _ _ _ _ _ _ _ _ c.loop.invariant.midway (at_end _ _ _ _ c.if-length-eq0.true c.in-Ok.ensures.bytes.0 (c.in-Ok.ensures.bytes.1 c.if-length-eq0.true (search rules))) c.finish-last.ensures.asked c.finish-last.ensures.faulty c.finish-last.ensures.memory c.in_err-write_out.ensures.line))

pub returns-in_err-write_out-clause-told : goal.returns-in_err-write_out-clause-told
returns-in_err-write_out-clause-told g c =
    let p = err_from_is_err_and c.from_residual.result c.from_residual.ensures.1 in
    rw (p.1, p.2) (c.in_err-write_out.ensures.told _ _ _ c.loop.invariant.written
    (λ known. c.finish-last.ensures.told known _ (none_more _ _ c.loop.invariant.none_left))
    (c.finish-last.ensures.kept _ (front_all _)))

pub returns-in_err-write_out-2-clause-replayed : goal.returns-in_err-write_out-2-clause-replayed
returns-in_err-write_out-2-clause-replayed g c =
    let p = err_from_is_err_and c.from_residual-in_err-write_out-2.result c.from_residual-in_err-write_out-2.ensures.1 in
    rw (p.1, p.2) (at_limit _ _ _ (Err c.in_err-write_out-2.field-0.0) (requests_of c.feed-fed.new.desk.exchanges) c.max_cto-max_cto.ensures (fed_error _ _ _ _ _ _ _ _ _ _ _ _ _ c.loop.invariant.midway c.in-Ok.ensures.bytes.0 c.feed-fed.ensures.asked c.feed-fed.ensures.faulty c.feed-fed.ensures.memory c.in_err-write_out-2.ensures.line))

pub returns-in_err-write_out-2-clause-told : goal.returns-in_err-write_out-2-clause-told
returns-in_err-write_out-2-clause-told g c =
    let p = err_from_is_err_and c.from_residual-in_err-write_out-2.result c.from_residual-in_err-write_out-2.ensures.1 in
    rw (p.1, p.2) (c.in_err-write_out-2.ensures.told _ _ _ c.loop.invariant.written
    (λ known. c.feed-fed.ensures.told known _ (none_more _ _ c.loop.invariant.none_left))
    (c.feed-fed.ensures.kept _ (front_all _)))

pub returns-in_err-write_out-clause-memory : goal.returns-in_err-write_out-clause-memory
returns-in_err-write_out-clause-memory g c = λ h.
    let p = err_from_is_err_and c.from_residual.result c.from_residual.ensures.1 in
    let same : c.from_residual.result ≡ Err c.in_err-write_out.field-0.0 = rw (p.1, p.2) refl in
    let short = c.in_err-write_out.ensures.memory (memory_as ℕ (Unit {0}) _ (sym same ∙ h)) in
    last_short _ _ _ _ _ _ _ _ _ _ c.max_cto-max_cto.ensures c.loop.invariant.midway (at_end _ _ _ _ c.if-length-eq0.true c.in-Ok.ensures.bytes.0 (c.in-Ok.ensures.bytes.1 c.if-length-eq0.true (search rules)))
    (c.finish-last.ensures.short short)
    (λ text front. memory_tells (Unit {0}) ℕ c.in_err-write_out.field-0.0 _ _ text (sym same ∙ h) (c.in_err-write_out.ensures.told _ _ text c.loop.invariant.written (λ known. absurd (known short)) front))

pub returns-in_err-write_out-2-clause-memory : goal.returns-in_err-write_out-2-clause-memory
returns-in_err-write_out-2-clause-memory g c = λ h.
    let p = err_from_is_err_and c.from_residual-in_err-write_out-2.result c.from_residual-in_err-write_out-2.ensures.1 in
    let same : c.from_residual-in_err-write_out-2.result ≡ Err c.in_err-write_out-2.field-0.0 = rw (p.1, p.2) refl in
    let short = c.in_err-write_out-2.ensures.memory (memory_as ℕ (Unit {0}) _ (sym same ∙ h)) in
    fed_short _ _ _ _ _ _ _ _ _ _ _ _ c.max_cto-max_cto.ensures c.loop.invariant.midway c.in-Ok.ensures.bytes.0
    (c.feed-fed.ensures.short short)
    (λ text front. memory_tells (Unit {0}) ℕ c.in_err-write_out-2.field-0.0 _ _ text (sym same ∙ h) (c.in_err-write_out-2.ensures.told _ _ text c.loop.invariant.written (λ known. absurd (known short)) front))

pub loop-preserved : goal.loop-preserved
loop-preserved g c =
    let fine : c.feed-fed.result ≡ Ok tt = c.in_ok-write_out-2.ensures.ok in
    let asked = rw fine at c.feed-fed.ensures.asked in
    let faults = rw fine at c.feed-fed.ensures.fine in
    record {
      midway = midway_step _ _ _ _ _ _ _ _ _ _ _ c.loop.invariant.midway c.in-Ok.ensures.bytes.0 asked faults;
      written = c.in_ok-write_out-2.ensures.told _ _ _ c.loop.invariant.written
          (λ known. c.feed-fed.ensures.told known _ (none_more _ _ c.loop.invariant.none_left))
          (c.feed-fed.ensures.kept _ (front_all _));
      none_left = c.in_ok-write_out-2.ensures.empty;
      layout = c.feed-fed.ensures.layout ∙ c.loop.invariant.layout;
      limit = c.loop.invariant.limit;
      write_unfailed = search rules;
      calls = search rules;
      read_unfailed = c.in-Ok.ensures.counted.failures ∙ c.loop.invariant.read_unfailed;
      counted = search rules;
      reads = one_turn_more _ _ _ _ c.loop.invariant.reads c.in-Ok.ensures.asked (search rules);
    }

pub returns-in_default-clause-replayed : goal.returns-in_default-clause-replayed
returns-in_default-clause-replayed g c = at_limit _ _ _ (Err errors.Read) _ c.max_cto-max_cto.ensures (midway_front _ _ _ _ _ _ c.loop.invariant.midway)

pub returns-clause-replayed : goal.returns-clause-replayed
returns-clause-replayed g c = at_limit _ _ _ (Err errors.Read) _ c.max_cto-max_cto.ensures (midway_front _ _ _ _ _ _ c.loop.invariant.midway)

pub returns-in_default-clause-sizes : goal.returns-in_default-clause-sizes
returns-in_default-clause-sizes g c = one_turn_more _ _ _ _ c.loop.invariant.reads c.in_default.ensures.asked (search rules)

pub returns-in_err-write_out-clause-sizes : goal.returns-in_err-write_out-clause-sizes
returns-in_err-write_out-clause-sizes g c = one_turn_more _ _ _ _ c.loop.invariant.reads c.in-Ok.ensures.asked (search rules)

pub returns-then-length-eq0-clause-sizes : goal.returns-then-length-eq0-clause-sizes
returns-then-length-eq0-clause-sizes g c = one_turn_more _ _ _ _ c.loop.invariant.reads c.in-Ok.ensures.asked (search rules)

pub returns-in_err-write_out-2-clause-sizes : goal.returns-in_err-write_out-2-clause-sizes
returns-in_err-write_out-2-clause-sizes g c = one_turn_more _ _ _ _ c.loop.invariant.reads c.in-Ok.ensures.asked (search rules)
