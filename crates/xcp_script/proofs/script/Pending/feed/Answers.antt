use Rattle.std.proofs.Common.{◌≡◌, ◌+◌, ◌-◌, ◌++◌, [], ℕ, List, Err, length, length-drop, take, drop, arith, refl, sym, ap, subst, ◌∙◌}
use Rattle.std.proofs.lemmas.List.{take_all}
use Rattle.std.proofs.lemmas.Result.{err_from_is_err_and}
use Rattle.xcp_slave.specs.declared.Request.{Request}
use Rattle.xcp_slave.specs.Run.{requests_of}
use mathlib.Core.List.{IsPrefix}
use Rattle.xcp_script.specs.private.LineReading.{asked_before, faulty_from, lines_from}
use Rattle.xcp_script.proofs.LineFeedLemmas.{asked_more, fault_more, line_cut, none_ends}
use Rattle.xcp_script.proofs.LongLineLemmas.{faulty_stops, stopped, too_long_stops}
use Rattle.xcp_script.proofs.MemoryShortageLemmas.{short_since}
use Rattle.xcp_script.proofs.script.Pending.feed.Goals as goal

pub returns-in_err-answer_line-in-Line-clause-faulty : goal.returns-in_err-answer_line-in-Line-clause-faulty
returns-in_err-answer_line-in-Line-clause-faulty c = λ h rest.
    let p = err_from_is_err_and c.from_residual.result c.from_residual.ensures.1 in
    let same : c.from_residual.result ≡ Err c.in_err-answer_line-in-Line.field-0.0 = rw (p.1, p.2) refl in
    let cut = rw (c.in-Line.is) at c.feed.ensures in
    let is = line_cut c.in-Line.end _ c.loop-end.left.now _ (drop (c.in-Line.end + 1) c.loop-end.left.now) _ rest cut c.line-line.ensures refl in
    let fault = c.in_err-answer_line-in-Line.ensures.faulty (sym same ∙ h) in
    let s = stopped _ _ _ _ (requests_of c.loop-end.desk.exchanges) (faulty_stops c.args.max_cto c.loop-end.self.count c.line-line.result.now (lines_from [] (drop (c.in-Line.end + 1) c.loop-end.left.now ++ rest)) fault.0) refl in (
      ap requests_of fault.1 ∙ s.0 ∙ ap (λ (ls : List (List ℕ)). requests_of c.loop-end.desk.exchanges ++ asked_before c.args.max_cto ls) (sym is) ∙ c.loop-end.invariant.asked rest,
      sym (c.loop-end.invariant.fine rest) ∙ ap (λ (ls : List (List ℕ)). faulty_from c.args.max_cto c.loop-end.self.count ls) is ∙ s.1,
    )

pub returns-in_err-answer_line-in-Line-clause-memory : goal.returns-in_err-answer_line-in-Line-clause-memory
returns-in_err-answer_line-in-Line-clause-memory c = λ h rest.
    let p = err_from_is_err_and c.from_residual.result c.from_residual.ensures.1 in
    let same : c.from_residual.result ≡ Err c.in_err-answer_line-in-Line.field-0.0 = rw (p.1, p.2) refl in
    let cut = rw (c.in-Line.is) at c.feed.ensures in
    let is = line_cut c.in-Line.end _ c.loop-end.left.now _ (drop (c.in-Line.end + 1) c.loop-end.left.now) _ rest cut c.line-line.ensures refl in
    let asks = ap (λ (ls : List (List ℕ)). requests_of c.loop-end.desk.exchanges ++ asked_before c.args.max_cto ls) (sym is) ∙ c.loop-end.invariant.asked rest in
    subst (λ (all : List Request). IsPrefix (requests_of c.answer_line.new.desk.exchanges) all) asks (c.in_err-answer_line-in-Line.ensures.memory (sym same ∙ h) (lines_from [] (drop (c.in-Line.end + 1) c.loop-end.left.now ++ rest)))

pub returns-in_err-answer_line-in-Line-clause-short : goal.returns-in_err-answer_line-in-Line-clause-short
returns-in_err-answer_line-in-Line-clause-short c = λ h rest.
    let p = err_from_is_err_and c.from_residual.result c.from_residual.ensures.1 in
    let same : c.from_residual.result ≡ Err c.in_err-answer_line-in-Line.field-0.0 = rw (p.1, p.2) refl in
    let cut = rw (c.in-Line.is) at c.feed.ensures in
    let is = line_cut c.in-Line.end _ c.loop-end.left.now _ (drop (c.in-Line.end + 1) c.loop-end.left.now) _ rest cut c.line-line.ensures refl in
    let asks = ap (λ (ls : List (List ℕ)). requests_of c.loop-end.desk.exchanges ++ asked_before c.args.max_cto ls) (sym is) ∙ c.loop-end.invariant.asked rest in
    short_since _ _ _ _ _ asks c.loop-end.invariant.kept (c.in_err-answer_line-in-Line.ensures.short (sym same ∙ h) (lines_from [] (drop (c.in-Line.end + 1) c.loop-end.left.now ++ rest)))

pub loop-end-preserved : goal.loop-end-preserved
loop-end-preserved c =
    let s = c.loop-end.left.now in
    let i = c.in-Line.end + 1 in
    let cut = rw (c.in-Line.is) at c.feed.ensures in
    let short : length (drop i s) ≡ length s - i = length-drop i s in
    let left : take (length s - i) (drop i s) ≡ drop i s = take_all (length s - i) (drop i s) (omega (arith, short)) in
    let is = λ (rest : List ℕ). line_cut c.in-Line.end _ s _ (take (length s - i) (drop i s)) _ rest cut c.line-line.ensures left in
    let now = c.in_ok-answer_line-in-Line.ensures in
    record {
      asked = λ rest. rw (c.begin.ensures) (asked_more c.args.max_cto c.line-line.result.now (lines_from [] (take (length s - i) (drop i s) ++ rest)) _ _ now.fine now.asked
          ∙ ap (λ (ls : List (List ℕ)). requests_of c.loop-end.desk.exchanges ++ asked_before c.args.max_cto ls) (sym (is rest)) ∙ c.loop-end.invariant.asked rest);
      fine = λ rest. rw (c.begin.ensures) (fault_more c.args.max_cto c.loop-end.self.count c.line-line.result.now (lines_from [] (take (length s - i) (drop i s) ++ rest)) now.fine
          ∙ ap (λ (ls : List (List ℕ)). faulty_from c.args.max_cto c.loop-end.self.count ls) (sym (is rest)) ∙ c.loop-end.invariant.fine rest);
      text = λ before h. now.told (λ e. absurd (cc)) before (c.loop-end.invariant.text before h);
      kept = λ text h. now.kept text (c.loop-end.invariant.kept text h);
      layout = now.layout ∙ c.loop-end.invariant.layout;
      counted = omega (arith, c.loop-end.invariant.counted, cut.2, short, ap (λ (xs : List ℕ). length xs) left);
    }

pub returns-in-More-clause-asked : goal.returns-in-More-clause-asked
returns-in-More-clause-asked c = λ rest.
    let cut = rw (c.in-More.is) at c.feed.ensures in
    let is = none_ends c.loop-end.self.liner.held.items c.loop-end.left.now rest cut.0 in
    rw (cut.1) (ap (λ (ls : List (List ℕ)). requests_of c.loop-end.desk.exchanges ++ asked_before c.args.max_cto ls) (sym is) ∙ c.loop-end.invariant.asked rest)

pub returns-in-More-clause-fine : goal.returns-in-More-clause-fine
returns-in-More-clause-fine c = λ rest.
    let cut = rw (c.in-More.is) at c.feed.ensures in
    let is = none_ends c.loop-end.self.liner.held.items c.loop-end.left.now rest cut.0 in
    rw (cut.1) (ap (λ (ls : List (List ℕ)). faulty_from c.args.max_cto c.loop-end.self.count ls) (sym is) ∙ c.loop-end.invariant.fine rest)

pub returns-in-TooLong-clause-faulty : goal.returns-in-TooLong-clause-faulty
returns-in-TooLong-clause-faulty c = λ h rest.
    let cut = rw (c.in-TooLong.is) at c.feed.ensures in
    let s = stopped _ _ _ _ (requests_of c.loop-end.desk.exchanges) (too_long_stops c.args.max_cto c.loop-end.self.count c.loop-end.self.liner.held.items c.loop-end.left.now rest cut) refl in
    (s.0 ∙ c.loop-end.invariant.asked rest, sym (c.loop-end.invariant.fine rest) ∙ s.1)
